use Rattle.std.proofs.Common.{List, ap, refl, ◌∙◌, ◌-◌, length, ◌<◌}
use Rattle.std.specs.Prelude.{min, slice_index_or, vec_capacity, vec_len}
use Rattle.std.proofs.lemmas.List.{get_or_default}
use Rattle.sim_procs.specs.RecordOf.{ProcsOf, RecordOf, change_at}
use Rattle.sim_procs.proofs.Places.{changed_stored, changed_there}
use Rattle.sim_procs.proofs.procs.Procs.body_at.Goals as goal

pub invariant_of-self-lent : goal.invariant_of-self-lent
invariant_of-self-lent g c w = changed_stored c.self.inside.records.items c.args.at c.index_mut-record.result.now (record c.index_mut-record.result.now { body = w }) c.index_mut-record.ensures.value c.self.inside.index.places c.self.inside.room.value c.self.invariant (rw (← c.self.view_is) at c.requires) refl refl

pub returns : goal.returns
returns g c =
    let below : c.args.at < length c.self.inside.records.items = rw (← c.self.view_is) at c.requires in (
      (
        refl,
        λ w.
            ap (λ (live : List (RecordOf _)). record { live = live; spare = min (vec_capacity c.self.inside.records - vec_len c.self.inside.records) c.self.inside.index.spare; room = c.self.inside.room.value }) (changed_there c.self.inside.records.items c.args.at c.index_mut-record.result.now c.index_mut-record.result.now c.index_mut-record.ensures.value (λ r. record r { body = w }) below)
            ∙ ap (λ (procs : ProcsOf _). record procs { live = change_at c.args.at (λ r. record r { body = w }) procs.live }) c.self.view_is,
      ),
      record {
        lends = tt;
        value = λ d.
            c.body_mut.ensures.value
            ∙ ap (λ (r : RecordOf _). r.body) (c.index_mut-record.ensures.value ∙ get_or_default c.self.inside.records.items c.args.at c.index_mut-record.result.now d below)
            ∙ ap (λ (procs : ProcsOf _). (slice_index_or procs.live c.args.at d).body) c.self.view_is;
      },
    )
