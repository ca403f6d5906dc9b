-- Events: pending until they have an outcome, then triggered, then processed (SimPy's "Events").
use Rattle.std.specs.Prelude.{Bool, ◌==◌, ◌&&◌, not, List, Option, true, false, [], ◌∷◌, ◌++◌, map, filter, length, slice_index_or, slice_set, Some, None, is_none, if◌then◌else◌}
use Rattle.sim_types.specs.declared.event.EventId.{EventId}
use Rattle.sim_types.specs.declared.event.ProcId.{ProcId}
use Rattle.sim_types.specs.declared.event.EventKind.{EventKind}
use Rattle.sim_types.specs.declared.event.Outcome.{Outcome}
use Rattle.sim_types.specs.declared.event.Callback.{Callback}
use Rattle.sim_types.specs.declared.event.EventKind.TheVariants as kind
use Rattle.sim_types.specs.declared.event.Outcome.TheVariants as outcome
use Rattle.sim_types.specs.declared.event.Callback.TheVariants as callback
use Rattle.sim_machine.specs.State.{EventOf, Calendar}

-- whether two numbers are of one event
abbrev pub is_same : EventId → EventId → Bool
is_same e f = e.0 == f.0

-- whether two numbers are of one process
abbrev pub is_process : ProcId → ProcId → Bool
is_process p q = p.0 == q.0

-- the list without its first element that passes the test
abbrev pub without_first : {X : Type 0} → (X → Bool) → List X → List X
without_first test [] = []
without_first test (x ∷ xs) = if test x then xs else x ∷ without_first test xs

-- an event as it is made: pending
abbrev pub pending_event : EventKind → EventOf
pending_event k = record { kind = k; outcome = None; defused = false; processed = false; cancelled = false; condition = None }

-- the event of this number; a number of which no event was made reads as a pending one
abbrev pub event_at : Calendar → EventId → EventOf
event_at c e = slice_index_or c.events e.0 (pending_event kind.Plain)

-- an event is pending until it has an outcome
abbrev pub is_pending : Calendar → EventId → Bool
is_pending c e = is_none (event_at c e).outcome

-- an event is processed once its callbacks are to be called
abbrev pub is_processed : Calendar → EventId → Bool
is_processed c e = (event_at c e).processed

-- a triggered event has an outcome and waits in the agenda (SimPy's Event.triggered is true of processed ones too)
abbrev pub is_triggered : Calendar → EventId → Bool
is_triggered c e = not (is_pending c e) && not (is_processed c e)

-- whether there is an outcome, and it is a failure
abbrev pub is_fail : Option Outcome → Bool
is_fail None = false
is_fail (Some (outcome.Ok v)) = false
is_fail (Some (outcome.Fail t)) = true

-- the number that the next event takes: events are numbered from 0 as they are made (this project's own)
abbrev pub next_event : Calendar → EventId
next_event c = record { 0 = length c.events }

-- one event is changed, all others stay
abbrev pub change_event : EventId → (EventOf → EventOf) → Calendar → Calendar
change_event e change c = record c { events = slice_set c.events e.0 (change (event_at c e)) }

-- a failure of e no longer ends the run (SimPy's Event.defused)
abbrev pub defuse : EventId → Calendar → Calendar
defuse e c = change_event e (λ x. record x { defused = true }) c

-- e was taken out of its queue at a resource while it was pending; it stays pending
abbrev pub cancel_event : EventId → Calendar → Calendar
cancel_event e c = change_event e (λ x. record x { cancelled = true }) c

-- the callbacks of e, in the order registered
abbrev pub callbacks_of : EventId → Calendar → List Callback
callbacks_of e c = map (λ r. r.callback) (filter (λ r. is_same r.event e) c.registered)

-- a callback is appended to those of e, which are called in this order
abbrev pub register : EventId → Callback → Calendar → Calendar
register e x c = record c { registered = c.registered ++ record { event = e; callback = x } ∷ [] }

-- the first callback of e that passes the test is taken out
abbrev pub unregister : EventId → (Callback → Bool) → Calendar → Calendar
unregister e test c = record c { registered = without_first (λ r. is_same r.event e && test r.callback) c.registered }

-- whether the callback resumes p
abbrev pub is_resume_of : ProcId → Callback → Bool
is_resume_of p (callback.Resume q) = is_process p q
is_resume_of p _ = false

-- whether the callback is a check of the condition e
abbrev pub is_check_of : EventId → Callback → Bool
is_check_of e (callback.Check f) = is_same e f
is_check_of e _ = false
