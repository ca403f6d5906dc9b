-- What answers a text that runs while its posters post.
use Rattle.std.specs.Prelude.{◌≡◌, ℕ, List, Result, Ok, Err, OnOk, IfOk}
use Rattle.sim_types.specs.Scenarios.{ScenarioOf}
use Rattle.sim_types.specs.declared.fault.Fault.{Fault}
use Rattle.sim_types.specs.declared.setup.Arrival.{Arrival}
use Rattle.sim_types.specs.declared.line.End.{End}
use Rattle.sim_language.specs.Reads.{reads}
use Rattle.sim_command.specs.declared.status.Status.{Status}
use Rattle.sim_command.specs.declared.status.Status.TheVariants as status
use Rattle.sim_command.specs.Endings.{status_of_end}
use Rattle.sim_outside.specs.Writes.{SinkOf, Writes}
use Rattle.sim_replay.specs.Sections.{CanBeJournal, IsWithinLimits, text_with_journal}
use Rattle.sim_trace.specs.Texts.{fault_text}
use Rattle.sim_writing.specs.declared.fault.RunFault.{RunFault}
use Rattle.sim_writing.specs.RunFaults.{is_write}
use Rattle.sim_engine.specs.Throughout.{IsInOrderThroughout}
use Rattle.sim_live.specs.Journals.{KeepsSections, KeepsFronts}
use Rattle.sim_live.specs.LiveTexts.{SaysAgain, end_on, live_text}

-- ---- one run

-- a call that lets the scenario run wrote the text of a run on some journal, whose entries are posts of the posters; where it
-- went well these are all posts, the journal can be the scenario's own, and the answer is how that run ended
pub record RunsLive (s : ScenarioOf) (limit : ℕ) (old new : SinkOf) (answer : Result End RunFault) : Type 0 where
  pub journal : List Arrival
  pub writes : Writes is_write old new answer (live_text s limit journal)
  pub fronts : KeepsFronts s journal
  pub sections : OnOk answer (KeepsSections s journal)
  pub can_be : OnOk answer (CanBeJournal s journal)
  pub end : IfOk answer (λ end. end ≡ end_on s limit journal)

-- ---- the answer to a text

-- of a text that says a scenario a run was written, and another is refused; where it went well, the status tells how
pub record Refuses (fault : Fault) (old new : SinkOf) (answer : Result Status RunFault) : Type 0 where
  pub writes : Writes is_write old new answer (fault_text fault)
  pub status : IfOk answer (λ told. told ≡ status.Refused)

pub record Runs (s : ScenarioOf) (limit : ℕ) (old new : SinkOf) (answer : Result Status RunFault) : Type 0 where
  pub journal : List Arrival
  pub writes : Writes is_write old new answer (live_text s limit journal)
  pub fronts : KeepsFronts s journal
  pub sections : OnOk answer (KeepsSections s journal)
  pub can_be : OnOk answer (CanBeJournal s journal)
  pub status : IfOk answer (λ told. told ≡ status_of_end (end_on s limit journal))

abbrev pub AnswersRead : Result ScenarioOf Fault → ℕ → SinkOf → SinkOf → Result Status RunFault → Type 0
AnswersRead (Ok s) limit old new answer = Runs s limit old new answer
AnswersRead (Err fault) limit old new answer = Refuses fault old new answer

-- ---- a whole answer

-- these bytes are the trace of a run and then its journal, which keeps what the posters post; the status is that of this run,
-- and every state of it is in order. The lines of the text in front of its posters, with this journal behind them, say it
-- again, within the limits of a text
pub record AnswersRun (text : List ℕ) (s : ScenarioOf) (limit : ℕ) (bytes : List ℕ) (status : Status) : Type 0 where
  pub journal : List Arrival
  pub keeps : KeepsSections s journal
  pub written : bytes ≡ live_text s limit journal
  pub ended : status ≡ status_of_end (end_on s limit journal)
  pub throughout : IsInOrderThroughout s s.seed journal limit
  pub again : IsWithinLimits s.port_names journal text → SaysAgain s limit journal (text_with_journal s.port_names journal text)

-- for a text that says a scenario, or else is refused
abbrev pub AnswersText : List ℕ → Result ScenarioOf Fault → ℕ → List ℕ → Status → Type 0
AnswersText text (Ok s) limit bytes told = AnswersRun text s limit bytes told
AnswersText text (Err fault) limit bytes told = (bytes ≡ fault_text fault) × (told ≡ status.Refused)

-- these bytes answer a text whose run makes so many units at most, and the status is that of it
abbrev pub IsAnswer : ℕ → List ℕ → List ℕ → Status → Type 0
IsAnswer limit text bytes told = AnswersText text (reads text) limit bytes told

-- ---- a prefix of one

-- these bytes are the text of a run, on a journal that has of each poster a front of its posts
pub record BeginsRun (s : ScenarioOf) (limit : ℕ) (bytes : List ℕ) : Type 0 where
  pub journal : List Arrival
  pub fronts : KeepsFronts s journal
  pub written : bytes ≡ live_text s limit journal

abbrev pub BeginsText : Result ScenarioOf Fault → ℕ → List ℕ → Type 0
BeginsText (Ok s) limit bytes = BeginsRun s limit bytes
BeginsText (Err fault) limit bytes = bytes ≡ fault_text fault

-- of these bytes some may be written, however the call ends
abbrev pub MayWrite : ℕ → List ℕ → List ℕ → Type 0
MayWrite limit text bytes = BeginsText (reads text) limit bytes
