-- Which events were made, and where callbacks stand.
use Rattle.std.specs.Prelude.{Bool, nat_lt, ℕ, List, true, false, [], ◌++◌, length, if◌then◌else◌, ◌+◌, count_by}
use Rattle.sim_types.specs.declared.event.EventId.{EventId}
use Rattle.sim_types.specs.declared.event.EventKind.{EventKind}
use Rattle.sim_types.specs.declared.event.Callback.{Callback}
use Rattle.sim_machine.specs.State.{Calendar, Control, Idle, Calling, Active, Over}
use Rattle.sim_machine.specs.Events.{is_same, event_at, callbacks_of}

-- 1 where the test holds, else 0
abbrev pub one_if : Bool → ℕ
one_if true = 1
one_if false = 0

-- whether the event of this number was made
abbrev pub was_made : Calendar → EventId → Bool
was_made c e = nat_lt e.0 (length c.events)

-- the kind of the event of this number
abbrev pub kind_at : Calendar → EventId → EventKind
kind_at c e = (event_at c e).kind

-- the callbacks still to call, and those that a run which is over left uncalled
abbrev pub left_of : Control → List Callback
left_of Idle = []
left_of (Calling e left) = left
left_of (Active e left p x) = left
left_of (Over why e left) = left

-- whether the control speaks of this event: it is the one whose callbacks are called, or were when the run was over
abbrev pub is_event_of : Control → EventId → Bool
is_event_of Idle e = false
is_event_of (Calling f left) e = is_same f e
is_event_of (Active f left p x) e = is_same f e
is_event_of (Over why f left) e = is_same f e

-- the callbacks of e that are registered or still to call
abbrev pub all_callbacks_of : Calendar → Control → EventId → List Callback
all_callbacks_of c control e = callbacks_of e c ++ (if is_event_of control e then left_of control else [])

-- how many callbacks that pass the test are registered anywhere or still to call
abbrev pub callbacks_in_all : (Callback → Bool) → Calendar → Control → ℕ
callbacks_in_all test c control = count_by (λ r. test r.callback) c.registered + count_by test (left_of control)
