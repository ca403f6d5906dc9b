-- What the program writes for a text, from bytes to bytes.
use Rattle.std.specs.Prelude.{ℕ, List, [], Result, Ok, Err, unwrap_or}
use Rattle.sim_types.specs.Scenarios.{ScenarioOf}
use Rattle.sim_types.specs.declared.fault.Fault.{Fault}
use Rattle.sim_language.specs.Reads.{reads}
use Rattle.sim_command.specs.declared.commands.Command.{Command}
use Rattle.sim_command.specs.declared.commands.Command.TheVariants.{Check, Run, Batch, Watch, Verify, Load, Native}
use Rattle.sim_command.specs.Commands.{most_units}
use Rattle.sim_command.specs.declared.status.Status.{Status}
use Rattle.sim_command.specs.declared.status.Status.TheVariants as status
use Rattle.sim_command.specs.Endings.{status_of_end}
use Rattle.sim_script_model.specs.Scenarios.{summary, replications, watch_rows}
use Rattle.sim_models.specs.Models.{text_of}
use Rattle.sim_shop.specs.Shop.{shop_text}
use Rattle.sim_trace.specs.Texts.{fault_text, ok_text}
use Rattle.sim_trace.specs.SummaryTexts.{load_text, batch_answer}
use Rattle.sim_trace.specs.WatchTexts.{watch_answer}
use Rattle.sim_engine.specs.RunOfScenario.{printed_trace, end_of_scenario}
use Rattle.sim_verify.specs.TraceLines.{fed_lines, reads_with_trace, trace_lines}
use Rattle.sim_verify.specs.Verdicts.{verdict}
use Rattle.sim_verify.specs.VerdictTexts.{verdict_text}

-- the text that a command is on: the one that is read, for `load` that of the machine shop, for `native` that of the model
abbrev pub text_for : Command → List ℕ → List ℕ
text_for Check text = text
text_for (Run limit) text = text
text_for (Batch count limit) text = text
text_for (Watch limit) text = text
text_for (Verify limit) text = text
text_for (Load size) text = shop_text size
text_for (Native model limit) text = text_of model

-- what such a text says to a command: a scenario, or why it is refused; for `verify` there is a trace after the scenario
abbrev pub said_to : Command → List ℕ → Result ScenarioOf Fault
said_to Check text = reads text
said_to (Run limit) text = reads text
said_to (Batch count limit) text = reads text
said_to (Watch limit) text = reads text
said_to (Verify limit) text = reads_with_trace text
said_to (Load size) text = reads text
said_to (Native model limit) text = reads text

-- the lines that are given as a trace, for `verify` alone
abbrev pub given_to : Command → List ℕ → List (List ℕ)
given_to Check text = []
given_to (Run limit) text = []
given_to (Batch count limit) text = []
given_to (Watch limit) text = []
given_to (Verify limit) text = unwrap_or (trace_lines (fed_lines text)) []
given_to (Load size) text = []
given_to (Native model limit) text = []

-- ---- what is written

-- for a text that says so, and these lines that are given as a trace; a batch has the runs 0, 1, .. below its count
abbrev pub answer_to : Command → List (List ℕ) → Result ScenarioOf Fault → List ℕ
answer_to command given (Err fault) = fault_text fault
answer_to Check given (Ok s) = ok_text
answer_to (Run limit) given (Ok s) = printed_trace s limit
answer_to (Batch count limit) given (Ok s) = batch_answer (replications s limit 0 count)
answer_to (Watch limit) given (Ok s) = watch_answer (watch_rows s s.seed s.journal limit) (summary s s.seed s.journal limit)
answer_to (Verify limit) given (Ok s) = verdict_text (verdict s s.seed s.journal limit given)
answer_to (Load size) given (Ok s) = load_text size (summary s s.seed s.journal most_units)
answer_to (Native model limit) given (Ok s) = printed_trace s limit

-- on the text that the command is on
abbrev pub answer_on : Command → List ℕ → List ℕ
answer_on command text = answer_to command (given_to command text) (said_to command text)

-- where these bytes are read
abbrev pub answer_of : Command → List ℕ → List ℕ
answer_of command text = answer_on command (text_for command text)

-- ---- how a call ends

-- on a text that says so; how the runs of a batch, one that is watched and that of a machine shop end is told in what is
-- written, and so is what is said of a trace
abbrev pub status_to : Command → Result ScenarioOf Fault → Status
status_to command (Err fault) = status.Refused
status_to Check (Ok s) = status.Ended
status_to (Run limit) (Ok s) = status_of_end (end_of_scenario s limit)
status_to (Batch count limit) (Ok s) = status.Ended
status_to (Watch limit) (Ok s) = status.Ended
status_to (Verify limit) (Ok s) = status.Ended
status_to (Load size) (Ok s) = status.Ended
status_to (Native model limit) (Ok s) = status_of_end (end_of_scenario s limit)

-- where these bytes are read, if nothing fails
abbrev pub status_of : Command → List ℕ → Status
status_of command text = status_to command (said_to command (text_for command text))
