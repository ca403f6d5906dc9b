-- A run of a scenario that is made step by step on the scenario's journal.
use Rattle.std.specs.Prelude.{◌≡◌, ◌<◌, ◌≤◌, ◌+◌, ◌-◌, ◌⊎◌, ℕ, List, drop, length}
use Rattle.sim_types.specs.Scenarios.{ScenarioOf}
use Rattle.sim_types.specs.declared.line.Summary.{Summary}
use Rattle.sim_types.specs.declared.setup.Arrival.{Arrival}
use Rattle.sim_machine.specs.Runs.{HasEnded}
use Rattle.sim_machine.specs.Units.{Course}
use Rattle.sim_machine_law.specs.Courses.{Run, course_after}
use Rattle.sim_script_model.specs.Scripts.{Script}
use Rattle.sim_script_model.specs.Scenarios.{summary}
use Rattle.sim_script_law.specs.ScenarioRuns.{run_of}
use Rattle.sim_engine.specs.Rounds.{StandsInRun, next_of}
use Rattle.sim_engine.specs.Sessions.{SessionOf, IsSettled, IsBusyBetween, GoesOn, turn_of}
use Rattle.sim_engine.specs.declared.runs.Next.{Next}
use Rattle.sim_engine.specs.declared.runs.Next.TheVariants as next

-- a run under way, and how many entries of the journal have arrived
pub record HostedOf : Type 0 where
  pub session : SessionOf
  pub arrived : ℕ

-- its run, with the random words of its own seed
abbrev pub run_in : ScenarioOf → HostedOf → Run Script
run_in s x = run_of s x.session.parts.seed s.journal

-- where that run stands after as many units
abbrev pub course_in : ScenarioOf → HostedOf → Course Script
course_in s x = course_after (run_in s x) x.session.units

-- what of the journal is left
abbrev pub left_in : ScenarioOf → HostedOf → List Arrival
left_in s x = drop x.arrived s.journal

-- the session stands in the scenario's run, where as much of the journal arrived as is counted
pub record IsHosted (s : ScenarioOf) (x : HostedOf) : Type 0 where
  pub stands : StandsInRun s x.session.parts.seed s.journal (left_in s x) x.session
  pub settled : IsSettled x.session
  pub within : x.session.units ≤ x.session.limit
  pub arrived : x.arrived ≤ length s.journal

-- what comes next in it
abbrev pub next_in : ScenarioOf → HostedOf → Next
next_in s x = next_of (turn_of x.session) x.session.parts.processed (left_in s x)

-- no more units are made: the run has ended, or all of them are made
abbrev pub IsOver : ScenarioOf → HostedOf → Type 0
IsOver s x = HasEnded (run_in s x).plan (course_in s x) ⊎ (x.session.units ≡ x.session.limit)

-- what the whole run comes to
abbrev pub summary_in : ScenarioOf → HostedOf → Summary
summary_in s x = summary s x.session.parts.seed s.journal x.session.limit

-- a turn: its units are of one event, and nothing arrives
pub record IsTurn (s : ScenarioOf) (old new : HostedOf) : Type 0 where
  pub arrived : new.arrived ≡ old.arrived
  pub more : old.session.units < new.session.units
  pub busy : IsBusyBetween old.session.parts (new.session.units - old.session.units) (course_in s old).state

-- an arrival: it is one unit
pub record IsArrival (old new : HostedOf) : Type 0 where
  pub arrived : new.arrived ≡ old.arrived + 1
  pub unit : new.session.units ≡ old.session.units + 1

-- a step of a run: it is of the same run afterwards, and was left as it was where it was over
pub record IsStep (s : ScenarioOf) (old new : HostedOf) : Type 0 where
  pub hosted : IsHosted s new
  pub goes_on : GoesOn old.session new.session
  pub still : IsOver s old → new ≡ old
  pub more : IsOver s old ⊎ (old.session.units < new.session.units)
  pub turn : next_in s old ≡ next.Turn → IsTurn s old new
  pub arrival : (a : Arrival) → next_in s old ≡ next.Arrival a → old.session.units < old.session.limit → IsArrival old new
