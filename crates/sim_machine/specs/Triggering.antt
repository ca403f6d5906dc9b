-- How events are made and get their outcomes.
use Rattle.std.specs.Prelude.{Bool, int_lt, ℕ, ℤ, [], ◌∷◌, ◌++◌, Some, ◌+◌, ◌^◌, pos, ◌+ℤ◌}
use Rattle.sim_types.specs.declared.event.EventId.{EventId}
use Rattle.sim_types.specs.declared.event.ProcId.{ProcId}
use Rattle.sim_types.specs.declared.event.EventKind.{EventKind}
use Rattle.sim_types.specs.declared.event.Outcome.{Outcome}
use Rattle.sim_types.specs.declared.event.EventKind.TheVariants as kind
use Rattle.sim_types.specs.declared.event.Outcome.TheVariants as outcome
use Rattle.sim_types.specs.declared.event.Callback.TheVariants as callback
use Rattle.sim_types.specs.declared.event.Throw.{Throw}
use Rattle.sim_machine.specs.State.{Calendar}
use Rattle.sim_machine.specs.Events.{pending_event, next_event, change_event, defuse, register}

-- the priority of what comes first at a time (SimPy's URGENT)
abbrev pub urgent : ℕ
urgent = 0

-- the priority of all else (SimPy's NORMAL)
abbrev pub normal : ℕ
normal = 1

-- whether the time would pass 2 ^ 62, the last one (this project's own: SimPy's time has no end)
abbrev pub is_too_late : ℤ → Calendar → Bool
is_too_late delay c = int_lt (pos (2 ^ 62)) (c.time +ℤ delay)

-- a pending event more, which takes the next number
abbrev pub make : EventKind → Calendar → Calendar
make k c = record c { events = c.events ++ pending_event k ∷ [] }

-- e gets its outcome, and an entry in the agenda with the next number of scheduling (SimPy's Environment.schedule)
abbrev pub schedule : EventId → Outcome → ℕ → ℤ → Calendar → Calendar
schedule e x priority delay c =
    change_event e (λ y. record y { outcome = Some x }) (record c {
      scheduled = c.scheduled + 1;
      agenda = record { key = record { time = c.time +ℤ delay; priority = priority; number = c.scheduled }; event = e } ∷ c.agenda;
    })

-- e is triggered now, after all that is urgent
abbrev pub trigger : EventId → Outcome → Calendar → Calendar
trigger e x c = schedule e x normal (pos 0) c

-- e succeeds with a value (SimPy's Event.succeed)
abbrev pub succeed : EventId → ℤ → Calendar → Calendar
succeed e value c = trigger e (outcome.Ok value) c

-- e fails with what is thrown (SimPy's Event.fail)
abbrev pub fail : EventId → Throw → Calendar → Calendar
fail e t c = trigger e (outcome.Fail t) c

-- a timeout event: it has its outcome from the start, and is popped after the delay (SimPy's Timeout)
abbrev pub make_timeout : ℤ → ℤ → Calendar → Calendar
make_timeout delay value c = schedule (next_event c) (outcome.Ok value) normal delay (make kind.Timeout c)

-- an interruption of p: an urgent event that throws into p when it is processed, and ends no run by itself (SimPy's
-- Interruption)
abbrev pub make_interruption : ProcId → Throw → Calendar → Calendar
make_interruption p t c =
    let e = next_event c in
    schedule e (outcome.Fail t) urgent (pos 0) (defuse e (register e (callback.Strike p) (make kind.Interrupt c)))
