-- What the resources of a kernel need is known of each lawful state.
use Rattle.std.proofs.Common.{◌≡◌, ◌+◌, ◌<◌, ◌^◌, true, not, length, get_or, refl, ap, subst, ◌∙◌, Option, Some, None}
use Rattle.std.specs.Prelude.{All, is_none}
use Rattle.std.proofs.lemmas.Bool.{false≢true, not-true}
use Rattle.sim_types.specs.declared.event.EventId.{EventId}
use Rattle.sim_types.specs.declared.event.Outcome.{Outcome}
use Rattle.sim_machine.specs.State.{EventOf, Calendar, Waiter, Facilities}
use Rattle.sim_machine.specs.Events.{event_at, is_pending, is_same}
use Rattle.sim_machine.specs.Bodies.{BodyOf}
use Rattle.sim_machine.specs.Standing.{was_made, kind_at}
use Rattle.sim_machine.specs.LawfulWaiting.{waits_well, may_wait_kind}
use Rattle.sim_machine_law.proofs.Events.EventLaws.{is_same-yes}
use Rattle.sim_machine_law.proofs.KeptParts.KeptBodies.{four_parts}
use Rattle.sim_lawful.proofs.Waiting.PolledCancel.{any_gives}
use Rattle.sim_happen_model.specs.TableOf.{AreNeeded, IsKept, kept_at}
use Rattle.sim_happen_model.specs.HappenOf.{HappenOf, IsOpen}
use Rattle.sim_happen_model.specs.Shows.{Shows}
use Rattle.sim_happen_law.proofs.Changes.Following.{read_is}
use Rattle.sim_shared_model.specs.Resources.{waiting_at}
use Rattle.sim_shared_model.specs.Waiting.{AreAllOpen}
use Rattle.sim_shared_law.proofs.Waiters.CancelledEvents.{waits_there}
use Rattle.sim_shared_law.proofs.Waiters.JoinedEvents.{all_from_each}
use Rattle.sim_steps_model.specs.PartsOf.{PartsOf, HasUnitRoom}
use Rattle.sim_steps_model.specs.StandsFor.{StandsForSome}
use Rattle.sim_steps_model.specs.Resources.{AreResourcesReady}
use Rattle.sim_steps_law.proofs.Kernels.KeptNames.{all_waiters_kept}

-- ---- what waits is open

none_of : (o : Option Outcome) → is_none o ≡ true → o ≡ None
none_of None h = refl
none_of (Some x) h = absurd (false≢true h)

-- what waits in the calendar that is shown is open, where it is kept
waiter_open : (h : HappenOf) (c : Calendar) (w : Waiter) → IsKept h.events w.event → Shows h c → waits_well c w ≡ true → IsOpen h w.event
waiter_open h c w kept shows well =
    let parts = four_parts (was_made c w.event) (is_pending c w.event)
    (not (event_at c w.event).cancelled) (may_wait_kind (kind_at c w.event)) well in
    let same : (kept_at h.events w.event).event ≡ event_at c w.event = read_is h c w.event kept shows in
    record {
      kept = kept;
      pending = ap (λ (x : EventOf). x.outcome) same ∙ none_of (event_at c w.event).outcome parts.1;
      not_cancelled = ap (λ (x : EventOf). x.cancelled) same ∙ not-true (event_at c w.event).cancelled parts.2;
    }

module _ {B Code : Type 0} (body : BodyOf B Code) (parts : PartsOf B Code)
    (h : StandsForSome body parts) (needed : AreNeeded parts.shared.happen.events) where
  abbrev f : Facilities
  f = h.state.facilities

  -- each that waits, in the state that the kernel stands for
  pub waiters_open : All (λ w. IsOpen parts.shared.happen w.event) h.state.facilities.waiters
  waiters_open k w below =
      let v : Waiter = get_or f.waiters k w in
      waiter_open parts.shared.happen f.calendar v
      (all_waiters_kept body parts h needed k w below) h.stands.facilities.calendar (h.lawful.waiting.waiters k w below)

  pub all_open : AreAllOpen parts.shared
  all_open =
      let opened : EventId → Type 0 = λ e. IsOpen parts.shared.happen e in
      record {
        each = λ res x there. all_from_each opened (waiting_at x) (λ e among.
            any_gives (λ (w : Waiter). opened w.event) (opened e) (λ w. is_same w.event e) f.waiters
            (λ w is same. subst opened (is_same-yes w.event e same) is) waiters_open
            (waits_there parts.shared f res x e h.stands.facilities there among));
      }

  pub resources_ready : HasUnitRoom parts → length parts.shared.happen.events + 1 < 2 ^ 62 → AreResourcesReady parts
  resources_ready room number =
      record { waiting = all_open; shown = record { facilities = h.state.facilities; shown = h.stands.facilities }; room = room; number = number }
