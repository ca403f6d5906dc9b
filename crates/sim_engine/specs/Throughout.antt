-- What holds in every state of a run (SimPy's "Shared resources" and "Process Interaction").
use Rattle.std.specs.Prelude.{◌≡◌, Bool, true, false, ℕ, pos, ◌<◌, ◌≤◌, ◌≤ℤ◌, ◌+ℤ◌, ◌-ℤ◌, List, length}
use Rattle.std.specs.List.{list_all}
use Rattle.sim_types.specs.Scenarios.{ScenarioOf}
use Rattle.sim_types.specs.declared.event.ProcId.{ProcId}
use Rattle.sim_types.specs.declared.setup.Arrival.{Arrival}
use Rattle.sim_machine.specs.State.{Want, Slot, State}
use Rattle.sim_machine.specs.Events.{is_resume_of}
use Rattle.sim_machine.specs.Users.{resource_at, users, items}
use Rattle.sim_machine.specs.Trying.{level}
use Rattle.sim_machine.specs.Processes.{is_alive}
use Rattle.sim_machine.specs.Standing.{callbacks_in_all}
use Rattle.sim_machine.specs.Runs.{total}
use Rattle.sim_machine_law.specs.Courses.{course_after}
use Rattle.sim_machine_law.specs.Stocks.{amounts_put, amounts_got}
use Rattle.sim_script_model.specs.Scripts.{Script}
use Rattle.sim_script_law.specs.ScenarioRuns.{run_of}

-- whether a waiter, if it waits for a slot, is of a process that has not ended; each such request stands in a scope
abbrev pub is_of_living : State Script → Want → Bool
is_of_living t (Slot p key) = is_alive p t
is_of_living t _ = true

-- what holds of one state
pub record IsInOrder (s : ScenarioOf) (t : State Script) : Type 0 where
  -- no resource has more users than its capacity
  pub few_users : (res : ℕ) → res < length s.setup.resources → pos (length (users res t.facilities.ledger)) ≤ℤ (resource_at s.setup.resources res).capacity
  -- the level of a container is its opening, and what was put into it, without what was got from it
  pub level_is : (res : ℕ) → level s.setup.resources res t.facilities
      ≡ ((resource_at s.setup.resources res).opening +ℤ total (amounts_put res t.facilities.ledger)) -ℤ total (amounts_got res t.facilities.ledger)
  -- it lies from 0 to the capacity
  pub level_from_0 : (res : ℕ) → res < length s.setup.resources → pos 0 ≤ℤ level s.setup.resources res t.facilities
  pub level_to_capacity : (res : ℕ) → res < length s.setup.resources → level s.setup.resources res t.facilities ≤ℤ (resource_at s.setup.resources res).capacity
  -- no store has more items than its capacity
  pub few_items : (res : ℕ) → res < length s.setup.resources → pos (length (items res t.facilities.ledger)) ≤ℤ (resource_at s.setup.resources res).capacity
  -- no callback that is registered or still to call resumes a process that has ended or was dropped
  pub not_resumed : (p : ProcId) → is_alive p t ≡ false → callbacks_in_all (is_resume_of p) t.facilities.calendar t.control ≡ 0
  -- and none of these waits through a scoped request
  pub not_waiting : list_all (λ w. is_of_living t w.want) t.facilities.waiters ≡ true

-- it holds of every state of the scenario's run with the random words of a seed, at which this arrives, of so many units at most
abbrev pub IsInOrderThroughout : ScenarioOf → ℕ → List Arrival → ℕ → Type 0
IsInOrderThroughout s seed journal limit = (n : ℕ) → n ≤ limit → IsInOrder s (course_after (run_of s seed journal) n).state
