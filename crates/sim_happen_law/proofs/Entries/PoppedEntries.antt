-- What an entry leaves that is popped.
use Rattle.std.proofs.Common.{◌≡◌, refl, sym, ◌∙◌, Some}
use Rattle.std.specs.Prelude.{slice_set}
use Rattle.sim_types.specs.declared.event.Entry.{Entry}
use Rattle.sim_types.specs.declared.line.Line.{Line}
use Rattle.sim_types.specs.declared.line.Line.TheVariants as line
use Rattle.sim_machine.specs.State.{EventOf}
use Rattle.sim_machine.specs.Events.{event_at}
use Rattle.sim_machine.specs.Agenda.{popped}
use Rattle.sim_machine.specs.Steps.{outcome_or_zero}
use Rattle.sim_happen_model.specs.Agendas.{TakesFirst}
use Rattle.sim_happen_model.specs.TableOf.{Kept, IsKept, kept_at}
use Rattle.sim_happen_model.specs.Changes.{with_processed, with_holder}
use Rattle.sim_happen_model.specs.HappenOf.{HappenOf}
use Rattle.sim_happen_model.specs.Shows.{PopsEntry}
use Rattle.sim_happen_law.proofs.Shown.Shown.{shows_set, popped_shown, same_but_popped}
use Rattle.sim_happen_law.proofs.Changes.Held.{held_more}
use Rattle.sim_happen_law.proofs.Entries.Due.{AreApart, due_shown, others_shown}

pub pops_entry : (h n : HappenOf) (x : Entry) (told : Line) → TakesFirst h.agenda x n.agenda → AreApart h.agenda → IsKept h.events x.event
    → n.time ≡ x.key.time → n.scheduled ≡ h.scheduled → n.events ≡ slice_set h.events x.event.0 (Some (with_processed (with_holder (kept_at h.events x.event))))
    → n.left ≡ (kept_at h.events x.event).callbacks
    → ((y : EventOf) → y ≡ (kept_at h.events x.event).event → told ≡ line.Event x.key.time x.key.number x.event (outcome_or_zero y.outcome) x.key.priority y.kind)
    → PopsEntry x told h n
pops_entry h n x told takes apart kept time scheduled is left says =
    let k : Kept = kept_at h.events x.event in
    record {
      due = λ c s. due_shown c.agenda h.agenda n.agenda x s.agenda takes apart;
      each = λ c s. shows_set h n c (popped x c) x.event (Some (with_processed (with_holder k))) kept is
          (λ some. popped_shown h c x (with_processed (with_holder k)) kept s refl refl) (same_but_popped x c)
          (record { time = time; scheduled = scheduled ∙ s.scheduled; agenda = others_shown c.agenda h.agenda n.agenda x s.agenda takes apart }) s;
      calls = λ c s. left ∙ (s.kept x.event kept).callbacks;
      line = λ c s. says (event_at c x.event) (sym (s.kept x.event kept).event);
      held = held_more h n x.event (with_processed (with_holder k)) kept is refl;
    }
