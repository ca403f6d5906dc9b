-- What answers a command on a text.
use Rattle.std.specs.Prelude.{◌≡◌, ℕ, List, Result, Ok, Err}
use Rattle.sim_types.specs.Scenarios.{ScenarioOf}
use Rattle.sim_types.specs.declared.fault.Fault.{Fault}
use Rattle.sim_command.specs.declared.commands.Command.{Command}
use Rattle.sim_command.specs.declared.commands.Command.TheVariants.{Check, Run, Batch, Watch, Verify, Load, Native}
use Rattle.sim_command.specs.Commands.{most_units}
use Rattle.sim_command.specs.declared.status.Status.{Status}
use Rattle.sim_engine.specs.Throughout.{IsInOrderThroughout}
use Rattle.sim_desk.specs.Headline.{text_for, said_to, answer_of, status_of}

-- every state of each run is in order, where the text says a scenario; those of a batch have other seeds
abbrev pub IsInOrderFor : Command → Result ScenarioOf Fault → Type 0
IsInOrderFor command (Err fault) = Unit {0}
IsInOrderFor Check (Ok s) = Unit {0}
IsInOrderFor (Run limit) (Ok s) = IsInOrderThroughout s s.seed s.journal limit
IsInOrderFor (Batch count limit) (Ok s) = (seed : ℕ) → IsInOrderThroughout s seed s.journal limit
IsInOrderFor (Watch limit) (Ok s) = IsInOrderThroughout s s.seed s.journal limit
IsInOrderFor (Verify limit) (Ok s) = IsInOrderThroughout s s.seed s.journal limit
IsInOrderFor (Load size) (Ok s) = IsInOrderThroughout s s.seed s.journal most_units
IsInOrderFor (Native model limit) (Ok s) = IsInOrderThroughout s s.seed s.journal limit

-- these bytes answer the command on a text, and the status is that of it
pub record IsAnswer (command : Command) (text bytes : List ℕ) (status : Status) : Type 0 where
  pub written : bytes ≡ answer_of command text
  pub ended : status ≡ status_of command text
  pub throughout : IsInOrderFor command (said_to command (text_for command text))

-- of these bytes some may be written, however the call ends
abbrev pub MayWrite : Command → List ℕ → List ℕ → Type 0
MayWrite command text bytes = bytes ≡ answer_of command text
