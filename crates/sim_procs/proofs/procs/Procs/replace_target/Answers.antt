use Rattle.std.proofs.Common.{ap, refl}
use Rattle.sim_procs.specs.RecordOf.{RecordOf}
use Rattle.sim_procs.proofs.Places.{changed_stored, changed_live}
use Rattle.sim_procs.proofs.procs.Procs.replace_target.Goals as goal

pub invariant_of-self : goal.invariant_of-self
invariant_of-self g c = changed_stored c.self.inside.records.items c.in-Some.at c.index_mut.result.now c.replace_target.new.self c.index_mut.ensures.value c.self.inside.index.places c.self.inside.room.value c.self.invariant (rw (← c.self.view_is) at c.in-Some.ensures).below (ap (λ (r : RecordOf _). r.id.0) c.replace_target.ensures.after) (ap (λ (r : RecordOf _). r.room) c.replace_target.ensures.after)

pub returns-clause-after : goal.returns-clause-after
returns-clause-after g c = rw (← c.self.view_is) (rw (changed_live c.self.inside.records.items c.in-Some.at c.index_mut.result.now c.replace_target.new.self c.index_mut.ensures.value c.args.id (λ r. record r { target = c.args.target }) (rw (← c.self.view_is) at c.in-Some.ensures) c.replace_target.ensures.after) refl)
