-- Which events something can still come back to. All others may be forgotten, and their memory given again (this
-- project's own: in Python it is collected).
use Rattle.std.specs.Prelude.{Bool, ◌||◌, ◌&&◌, not, ℕ, List, false, [], ◌∷◌, length, if◌then◌else◌, zero, suc, nat_le}
use Rattle.std.specs.List.{list_any}
use Rattle.sim_types.specs.declared.event.EventId.{EventId}
use Rattle.sim_types.specs.declared.event.Callback.{Callback}
use Rattle.sim_types.specs.declared.event.Callback.TheVariants as callback
use Rattle.sim_types.specs.declared.setup.Class.TheVariants as class
use Rattle.sim_machine.specs.State.{Calendar, ProcessOf, Control, Calling, Active, State}
use Rattle.sim_machine.specs.Events.{is_same, event_at, is_processed}
use Rattle.sim_machine.specs.Conditions.{members_of}
use Rattle.sim_machine.specs.Processes.{tell}
use Rattle.sim_machine.specs.Tellings.{Telling, is_class}
use Rattle.sim_machine.specs.Standing.{left_of}

-- nothing happens any more at a closed event: it is processed, or was cancelled
abbrev pub is_closed : Calendar → EventId → Bool
is_closed c e = is_processed c e || (event_at c e).cancelled

-- whether e is being processed: from its pop until it is settled, or until it stops the run
abbrev pub is_in_process : Control → EventId → Bool
is_in_process (Calling f left) e = is_same f e
is_in_process (Active f left p x) e = is_same f e
is_in_process _ e = false

-- whether a live process has e for its target or holds it in a place
abbrev pub is_in_body : {B : Type 0} → Telling B → EventId → ProcessOf B → Bool
is_in_body tell e x = is_same x.target e || list_any (λ y. not (is_class y.class class.Number) && is_same y.event e) (tell.places x.body)

-- whether the callback passes an outcome on to e
abbrev pub triggers : EventId → Callback → Bool
triggers e (callback.Trigger y) = is_same y e
triggers e _ = false

-- some event is still to pass its outcome on to e
abbrev pub is_to_be_triggered : {B : Type 0} → EventId → State B → Bool
is_to_be_triggered e s = list_any (λ r. triggers e r.callback) s.facilities.calendar.registered || list_any (triggers e) (left_of s.control)

-- whether e is kept for a reason other than a condition: it is not closed, is event 0 or named, or may still be named
abbrev pub is_kept_alone : {B : Type 0} → ℕ → Telling B → State B → EventId → Bool
is_kept_alone named tell s e =
    not (is_closed s.facilities.calendar e)
    || nat_le e.0 named
    || is_in_process s.control e
    || list_any (is_in_body tell e) s.processes
    || list_any (λ x. is_same x.request e) s.scopes
    || is_to_be_triggered e s

-- whether e is a member of one of these conditions
abbrev pub is_member_of_any : Calendar → EventId → List EventId → Bool
is_member_of_any c e conds = list_any (λ cond. list_any (is_same e) (members_of c cond)) conds

-- the kept events below n, given those from n on: members have smaller numbers than their conditions
abbrev pub kept_below : {B : Type 0} → ℕ → Telling B → State B → ℕ → List EventId → List EventId
kept_below named tell s zero found = found
kept_below named tell s (suc n) found =
    let e : EventId = record { 0 = n } in
    kept_below named tell s n (if is_kept_alone named tell s e || is_member_of_any s.facilities.calendar e found then e ∷ found else found)

-- the kept events, by number
abbrev pub kept_events : {B : Type 0} → ℕ → Telling B → State B → List EventId
kept_events named tell s = kept_below named tell s (length s.facilities.calendar.events) []

-- whether e is one of them
abbrev pub is_kept : {B : Type 0} → ℕ → Telling B → State B → EventId → Bool
is_kept named tell s e = list_any (is_same e) (kept_events named tell s)
