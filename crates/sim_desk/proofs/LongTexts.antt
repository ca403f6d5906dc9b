-- Texts that are answered alike: those that are too long, and where none is read, all.
use Rattle.std.proofs.Common.{◌≡◌, ◌<◌, ℕ, true, List, length, Err, refl, sym, ap, ◌∙◌, subst, arith}
use Rattle.std.specs.Prelude.{IsTrue}
use Rattle.std.proofs.lemmas.Bool.Decides.{nat_tests}
use Rattle.sim_types.specs.Limits.{most_bytes}
use Rattle.sim_language.specs.Reads.{is_too_long}
use Rattle.sim_code.proofs.TakenTexts.{long_refused, too_long}
use Rattle.sim_command.specs.declared.commands.Command.{Command}
use Rattle.sim_command.specs.declared.commands.Command.TheVariants.{Check, Run, Batch, Watch, Verify, Load, Native}
use Rattle.sim_command.specs.Commands.{is_on_text}
use Rattle.sim_trace.specs.Texts.{fault_text}
use Rattle.sim_verify.specs.TraceLines.{reads_with_trace}
use Rattle.sim_answer.proofs.AnswersToTexts.{AreAnsweredAlike, AreTooLong}
use Rattle.sim_desk.specs.Answers.{IsAnswer, IsInOrderFor, MayWrite}
use Rattle.sim_desk.specs.Headline.{answer_of, answer_to, given_to, said_to, status_to, text_for}

-- two texts say as much to a command, and have the same answer
record SaysAsMuch (command : Command) (text other : List ℕ) : Type 0 where
  said : said_to command (text_for command text) ≡ said_to command (text_for command other)
  answer : answer_of command text ≡ answer_of command other

alike_by : (command : Command) (text other : List ℕ) → SaysAsMuch command text other
    → AreAnsweredAlike (MayWrite command) (IsAnswer command) text other
alike_by command text other same =
    record {
      allowed = λ bytes is. is ∙ same.answer;
      answer = λ bytes status h.
          record {
            written = h.written ∙ same.answer;
            ended = h.ended ∙ ap (status_to command) same.said;
            throughout = subst (IsInOrderFor command) same.said h.throughout;
          };
    }

-- ---- texts that are too long

is_long : (text : List ℕ) → most_bytes < length text → is_too_long text ≡ true
is_long text long = grind (arith, nat_tests)

long_with_trace : (text : List ℕ) → most_bytes < length text → reads_with_trace text ≡ Err too_long
long_with_trace text long = rw (is_long text long) refl

refused_by : (command : Command) (text : List ℕ) → said_to command (text_for command text) ≡ Err too_long → answer_of command text ≡ fault_text too_long
refused_by command text said = ap (answer_to command (given_to command (text_for command text))) said

both_refused : (command : Command) (text other : List ℕ) → said_to command (text_for command text) ≡ Err too_long
    → said_to command (text_for command other) ≡ Err too_long → SaysAsMuch command text other
both_refused command text other first second =
    record { said = first ∙ sym second; answer = refused_by command text first ∙ sym (refused_by command other second) }

-- one that is read says just that it is too long
both_long : (command : Command) (text other : List ℕ) → (said_to command text ≡ Err too_long) × (said_to command other ≡ Err too_long)
    → (text_for command text ≡ text) × (text_for command other ≡ other) → SaysAsMuch command text other
both_long command text other long read =
    both_refused command text other (ap (said_to command) read.0 ∙ long.0) (ap (said_to command) read.1 ∙ long.1)

says_as_much : (command : Command) (text other : List ℕ) → (IsTrue (is_on_text command) → AreTooLong text other) → SaysAsMuch command text other
says_as_much Check text other long =
    let l = long refl in both_long Check text other (long_refused text l.first, long_refused other l.second) (refl, refl)
says_as_much (Run limit) text other long =
    let l = long refl in both_long (Run limit) text other (long_refused text l.first, long_refused other l.second) (refl, refl)
says_as_much (Batch count limit) text other long =
    let l = long refl in both_long (Batch count limit) text other (long_refused text l.first, long_refused other l.second) (refl, refl)
says_as_much (Watch limit) text other long =
    let l = long refl in both_long (Watch limit) text other (long_refused text l.first, long_refused other l.second) (refl, refl)
says_as_much (Verify limit) text other long =
    let l = long refl in both_long (Verify limit) text other (long_with_trace text l.first, long_with_trace other l.second) (refl, refl)
says_as_much (Load size) text other long = record { said = refl; answer = refl }
says_as_much (Native model limit) text other long = record { said = refl; answer = refl }

pub answered_alike : (command : Command) (text other : List ℕ) → (IsTrue (is_on_text command) → AreTooLong text other)
    → AreAnsweredAlike (MayWrite command) (IsAnswer command) text other
answered_alike command text other long = alike_by command text other (says_as_much command text other long)
