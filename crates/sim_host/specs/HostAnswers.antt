-- What answers words that ask for hosted runs of a text.
use Rattle.std.specs.Prelude.{◌≡◌, ℕ, List, Result, Ok, Err}
use Rattle.sim_types.specs.Scenarios.{ScenarioOf}
use Rattle.sim_types.specs.declared.fault.Fault.{Fault}
use Rattle.sim_language.specs.Reads.{reads}
use Rattle.sim_command.specs.declared.commands.HostedRuns.{HostedRuns}
use Rattle.sim_command.specs.declared.status.Status.{Status}
use Rattle.sim_command.specs.declared.status.Status.TheVariants as status
use Rattle.sim_script_model.specs.Scenarios.{replications}
use Rattle.sim_trace.specs.SummaryTexts.{batch_answer}
use Rattle.sim_trace.specs.Texts.{fault_text}
use Rattle.sim_engine.specs.Throughout.{IsInOrderThroughout}

-- what is written for a text that says so: what the runs 0, 1, .. below their count come to, and their sums
abbrev pub answer_to : HostedRuns → Result ScenarioOf Fault → List ℕ
answer_to runs (Ok s) = batch_answer (replications s runs.limit 0 runs.count)
answer_to runs (Err fault) = fault_text fault

-- how the call ends
abbrev pub status_to : Result ScenarioOf Fault → Status
status_to (Ok s) = status.Ended
status_to (Err fault) = status.Refused

-- every state of each run is in order, whatever its seed
abbrev pub IsInOrderFor : HostedRuns → Result ScenarioOf Fault → Type 0
IsInOrderFor runs (Ok s) = (seed : ℕ) → IsInOrderThroughout s seed s.journal runs.limit
IsInOrderFor runs (Err fault) = Unit {0}

-- these bytes answer them on a text, and the status is that of it
pub record IsAnswer (runs : HostedRuns) (text bytes : List ℕ) (status : Status) : Type 0 where
  pub written : bytes ≡ answer_to runs (reads text)
  pub ended : status ≡ status_to (reads text)
  pub throughout : IsInOrderFor runs (reads text)

-- of these bytes some may be written, however the call ends
abbrev pub MayWrite : HostedRuns → List ℕ → List ℕ → Type 0
MayWrite runs text bytes = bytes ≡ answer_to runs (reads text)
