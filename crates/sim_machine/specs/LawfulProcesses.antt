-- Lawful processes: each that waits is resumed once, by its target, and nothing else resumes anyone.
use Rattle.std.specs.Prelude.{Bool, ◌==◌, ◌||◌, ◌&&◌, not, ℕ, true, false, length, Some, pos, ◌≡◌, ◌≢◌, ◌≤◌, IsTrue, ◌<◌, count_by, AllPairs}
use Rattle.std.specs.List.{AllPass}
use Rattle.sim_types.specs.declared.event.ProcId.{ProcId}
use Rattle.sim_types.specs.declared.event.EventKind.{EventKind}
use Rattle.sim_types.specs.declared.event.EventKind.TheVariants as kind
use Rattle.sim_types.specs.declared.event.Outcome.TheVariants as outcome
use Rattle.sim_machine.specs.State.{EventOf, ProcessOf, Control, Active, State}
use Rattle.sim_machine.specs.Events.{is_process, event_at, is_pending, is_processed, is_resume_of}
use Rattle.sim_machine.specs.Processes.{event_of, is_alive}
use Rattle.sim_machine.specs.Standing.{was_made, kind_at, all_callbacks_of, callbacks_in_all}

-- whether p is the process that runs
abbrev pub is_active : Control → ProcId → Bool
is_active (Active e left q x) p = is_process q p
is_active _ p = false

-- the kind of a process's own event
abbrev pub is_process_kind : EventKind → Bool
is_process_kind kind.Process = true
is_process_kind _ = false

-- the kind of named and fresh events
abbrev pub is_plain_kind : EventKind → Bool
is_plain_kind kind.Plain = true
is_plain_kind _ = false

-- whether a process that is not active is resumed from one place only, by its target
abbrev pub is_waiting_well : {B : Type 0} → State B → ProcessOf B → Bool
is_waiting_well s x =
    let c = s.facilities.calendar in
    is_active s.control x.id
    || (callbacks_in_all (is_resume_of x.id) c s.control == 1)
    && (count_by (is_resume_of x.id) (all_callbacks_of c s.control x.target) == 1)

-- how many callbacks are to resume p
abbrev pub resumptions_of : {B : Type 0} → ProcId → State B → ℕ
resumptions_of p s = callbacks_in_all (is_resume_of p) s.facilities.calendar s.control

-- whether the target of a live process was made, and its own event is of a process and pending
abbrev pub is_living_well : {B : Type 0} → State B → ProcessOf B → Bool
is_living_well s x =
    let c = s.facilities.calendar in
    was_made c x.target && was_made c (event_of x.id) && is_pending c (event_of x.id) && is_process_kind (kind_at c (event_of x.id))

-- whether this is ok with 0, as event 0 is
abbrev pub is_ok_zero : EventOf → Bool
is_ok_zero x = elim x.outcome [ Some (outcome.Ok (pos n)) ↦ n == 0 | _ ↦ false ]

-- the process that runs is alive; each other is resumed by what it waits for alone, and none that has ended or runs is
-- resumed at all; event 0 and the named events are there
pub record LawfulProcesses {B : Type 0} (named : ℕ) (s : State B) : Type 0 where
  pub distinct : AllPairs (λ x y. x.id ≢ y.id) s.processes
  pub active : (p : ProcId) → IsTrue (is_active s.control p) → IsTrue (is_alive p s)
  pub waiting : AllPass (is_waiting_well s) s.processes
  pub not_resumed : (p : ProcId) → IsTrue (is_active s.control p || not (is_alive p s)) → resumptions_of p s ≡ 0
  pub living : AllPass (is_living_well s) s.processes
  pub named_made : named < length s.facilities.calendar.events
  pub named_plain : (n : ℕ) → n ≤ named → IsTrue (is_plain_kind (kind_at s.facilities.calendar (record { 0 = n })))
  pub zero_processed : IsTrue (is_processed s.facilities.calendar (record { 0 = 0 }))
  pub zero_ok : IsTrue (is_ok_zero (event_at s.facilities.calendar (record { 0 = 0 })))
