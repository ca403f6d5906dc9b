-- What is a condition is one by its kind, so no check triggers the event of a live process, or a request that waits.
use Rattle.std.proofs.Common.{◌≡◌, true, refl, sym, subst, ◌∙◌, ⊎_elim}
use Rattle.std.specs.Prelude.{length}
use Rattle.std.proofs.lemmas.Bool.{cases_lt}
use Rattle.sim_types.specs.declared.event.EventId.{EventId}
use Rattle.sim_types.specs.declared.event.EventKind.TheVariants as kind
use Rattle.sim_machine.specs.State.{Calendar}
use Rattle.sim_machine.specs.Events.{event_at, pending_event}
use Rattle.sim_machine.specs.Conditions.{is_condition}
use Rattle.sim_machine.specs.Standing.{kind_at}
use Rattle.sim_machine.specs.LawfulConditions.{IsConditionByKind, is_condition_kind}
use Rattle.sim_machine_law.proofs.KeptParts.KeptConditions.{unmade_event}
use Rattle.sim_machine_law.proofs.KeptParts.LawfulBasis.{AreConditionsByKind}

pub by_kind_at : (c : Calendar) (e : EventId) → AreConditionsByKind c → IsConditionByKind (event_at c e)
by_kind_at c e h =
    ⊎_elim (λ made. h e.0 (pending_event kind.Plain) made) (λ unmade. subst IsConditionByKind (sym (unmade_event c e unmade)) refl) (cases_lt e.0 (length c.events))

pub condition_kind : (c : Calendar) (e : EventId) → AreConditionsByKind c → is_condition c e ≡ true → is_condition_kind (kind_at c e) ≡ true
condition_kind c e h is = sym (by_kind_at c e h) ∙ is
