-- What words that ask for hosted runs are answered.
use Rattle.std.proofs.Common.{◌≡◌, ◌+◌, ℕ, true, List, refl, sym, ap, ◌∙◌, subst, Option, Some, Result, Ok, Err}
use Rattle.std.specs.Prelude.{IfSome, IsTrue}
use Rattle.std.specs.Io.KnownBytes.{Appends}
use Rattle.sim_types.specs.Limits.{most_bytes}
use Rattle.sim_types.specs.Scenarios.{ScenarioOf}
use Rattle.sim_types.specs.declared.fault.Fault.{Fault}
use Rattle.sim_language.specs.Reads.{reads}
use Rattle.sim_code.proofs.TakenTexts.{long_refused}
use Rattle.sim_command.specs.declared.commands.HostedRuns.{HostedRuns}
use Rattle.sim_command.specs.declared.status.Status.{Status}
use Rattle.sim_command.specs.Endings.{is_whole}
use Rattle.sim_outside.specs.Reads.{TakesFirst}
use Rattle.sim_outside.specs.Writes.{AppendsPrefix, SinkOf}
use Rattle.sim_answer.specs.Answers.{AnswersPrefix, AnswersWhole}
use Rattle.sim_answer.proofs.AnswersToTexts.{AreAnsweredAlike, AreTooLong, none_begun, prefix_of, whole_of}
use Rattle.sim_answer.proofs.ReadRuns.{in_order_of}
use Rattle.sim_host.specs.HostAnswers.{IsAnswer, IsInOrderFor, MayWrite, answer_to, status_to}

-- texts that are too long are answered alike
alike : (runs : HostedRuns) (text other : List ℕ) → (IsTrue true → AreTooLong text other) → AreAnsweredAlike (MayWrite runs) (IsAnswer runs) text other
alike runs text other long =
    let l = long refl in
    let same : reads text ≡ reads other = long_refused text l.first ∙ sym (long_refused other l.second) in
    record {
      allowed = λ bytes is. is ∙ ap (answer_to runs) same;
      answer = λ bytes status h.
          record {
            written = h.written ∙ ap (answer_to runs) same;
            ended = h.ended ∙ ap status_to same;
            throughout = subst (IsInOrderFor runs) same h.throughout;
          };
    }

-- ---- what was written

in_order_for : (runs : HostedRuns) (text : List ℕ) (read : Result ScenarioOf Fault) → reads text ≡ read → IsInOrderFor runs read
in_order_for runs text (Ok s) is = λ seed. in_order_of s seed runs.limit text is
in_order_for runs text (Err fault) is = tt

module _ (runs : HostedRuns) (left rest : Option (List ℕ)) (text bytes : List ℕ) (old new : SinkOf) (takes : TakesFirst (most_bytes + 1) left rest bytes)
    (held : text ≡ bytes) where
  pub whole_answer : (status : Status) → Appends old.taken new.taken (answer_to runs (reads text)) → status ≡ status_to (reads text)
      → AnswersWhole (IsAnswer runs) left old new status
  whole_answer status written is =
      whole_of (MayWrite runs) (IsAnswer runs) true (alike runs) left rest text bytes old new takes held _ status written
      (record { written = refl; ended = is; throughout = in_order_for runs text (reads text) refl })

  pub prefix_answer : AppendsPrefix old.taken new.taken (answer_to runs (reads text)) → AnswersPrefix (MayWrite runs) left old new
  prefix_answer written = prefix_of (MayWrite runs) (IsAnswer runs) true (alike runs) left rest text bytes old new takes held _ written refl

-- nothing written is a prefix of each answer
pub none_answered : (runs : HostedRuns) (left : Option (List ℕ)) (old : SinkOf) → AnswersPrefix (MayWrite runs) left old old
none_answered runs left old = none_begun (MayWrite runs) (λ text. (answer_to runs (reads text), refl)) left old

pub ruleset answers = (whole_answer, prefix_answer, none_answered)

-- ---- the status

-- where nothing fails, the answer is whole
pub status_whole : (read : Result ScenarioOf Fault) → is_whole (status_to read) ≡ true
status_whole (Ok s) = refl
status_whole (Err fault) = refl

-- ---- the words

-- what holds for the runs holds where the words ask for them
pub if_some : (said : Option HostedRuns) (runs : HostedRuns) (P : HostedRuns → Type 0) → Some runs ≡ said → P runs → IfSome said P
if_some said runs P is h = rw (sym is) h
