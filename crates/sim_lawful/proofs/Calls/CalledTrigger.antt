-- The call that passes an outcome on keeps the state lawful.
use Rattle.std.proofs.Common.{◌≡◌, true, List, ◌∷◌, refl, subst}
use Rattle.std.proofs.lemmas.List.Elements.{All-head}
use Rattle.sim_types.specs.declared.event.EventId.{EventId}
use Rattle.sim_types.specs.declared.event.Callback.{Callback}
use Rattle.sim_types.specs.declared.event.Callback.TheVariants as callback
use Rattle.sim_machine.specs.State.{Calendar, Control, Calling, State, Plan}
use Rattle.sim_machine.specs.Events.{event_at}
use Rattle.sim_machine.specs.Effect.{calendar, pass_on}
use Rattle.sim_machine.specs.Steps.{call}
use Rattle.sim_machine.specs.Tellings.{Telling}
use Rattle.sim_machine.specs.Standing.{was_made, kind_at}
use Rattle.sim_machine.specs.LawfulChains.{LawfulChains, is_trigger_kind, is_triggered_kind, chains_well}
use Rattle.sim_machine_law.proofs.Events.EventLaws.{is_same-self}
use Rattle.sim_machine_law.proofs.KeptParts.KeptRegistrationsCalendar.{made_below}
use Rattle.sim_machine_law.proofs.KeptParts.KeptConditions.{IsNoConditions}
use Rattle.sim_machine_law.proofs.KeptParts.KeptBodies.{three_parts}
use Rattle.sim_machine_law.proofs.Events.ChangedCalendars.{lawful_called}
use Rattle.sim_lawful.proofs.Calendars.ReplacedCalendars.{replace_passed_on}
use Rattle.sim_machine_law.proofs.KeptParts.LawfulBasis.{LawfulBasis}

pub trigger_is_no_conditions : (y : EventId) → IsNoConditions (callback.Trigger y)
trigger_is_no_conditions y = record { no_check = λ cond. refl; no_build = λ cond. refl }

-- what is to be called first passes on well
pub first_chains : (c : Calendar) (k : Control) (e : EventId) (x : Callback) (left : List Callback)
    → k ≡ Calling e (x ∷ left) → LawfulChains c k → chains_well c e x ≡ true
first_chains c k e x left calling h =
    let at : LawfulChains c (Calling e (x ∷ left)) = subst (λ l. LawfulChains c l) calling h in
    All-head (λ z. chains_well c e z ≡ true) x left (at.calling e (is_same-self e))

pub lawful-called_trigger : {B : Type 0} (g : Plan B) (tell : Telling B) (sound : B → Type 0) (s : State B) (e : EventId)
    (y : EventId) (left : List Callback) → s.control ≡ Calling e (callback.Trigger y ∷ left) → LawfulBasis g tell sound s
    → LawfulBasis g tell sound (call g e (callback.Trigger y) left s)
lawful-called_trigger g tell sound s e y left calling h =
    let c : Calendar = calendar s in
    let parts = three_parts (is_trigger_kind (kind_at c e)) (was_made c y) (is_triggered_kind (kind_at c y)) (first_chains c s.control e (callback.Trigger y) left calling h.chains) in
    lawful_called g tell sound s e (callback.Trigger y) left (pass_on (event_at c e).outcome y) calling (λ p. refl) (trigger_is_no_conditions y) h
    (replace_passed_on g tell sound s (event_at c e).outcome y (made_below c y parts.1) parts.2 h)
