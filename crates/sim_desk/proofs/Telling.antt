-- What a command on a text is answered.
--     shop_answer, shop_status          for `load`
--     native_answer, native_status      for `native`
--     answers                           what was written answers the text that was read
use Rattle.std.proofs.Common.{◌≡◌, ◌≢◌, ℕ, ◌+◌, ◌^◌, ◌<◌, true, false, List, refl, sym, ap, ◌∙◌, Option, Some, Result, Ok, Err}
use Rattle.std.specs.Prelude.{IfSome, IsOk, IsTrue}
use Rattle.std.specs.Io.KnownBytes.{Appends}
use Rattle.std.proofs.lemmas.Bool.{false≢true}
use Rattle.sim_types.specs.Scenarios.{ScenarioOf}
use Rattle.sim_language.specs.Reads.{reads}
use Rattle.sim_command.specs.declared.commands.Command.{Command}
use Rattle.sim_command.specs.declared.commands.Command.TheVariants as command
use Rattle.sim_command.specs.Commands.{is_on_text, most_units}
use Rattle.sim_types.specs.declared.fault.Fault.{Fault}
use Rattle.sim_command.specs.declared.status.Status.{Status}
use Rattle.sim_command.specs.declared.status.Status.TheVariants as status
use Rattle.sim_command.specs.Endings.{is_whole, status_of_end}
use Rattle.sim_command.proofs.Endings.{end_whole}
use Rattle.sim_models.specs.declared.texts.Model.{Model}
use Rattle.sim_models.specs.Models.{scenario_of, text_of as text_of_model}
use Rattle.sim_models.proofs.ModelsAreRead.{models_are_read}
use Rattle.sim_types.specs.declared.line.End.{End}
use Rattle.sim_types.specs.declared.line.End.TheVariants as end
use Rattle.sim_shop.specs.Shop.{shop_text}
use Rattle.sim_shop.proofs.ShopIsRead.{shop_is_read}
use Rattle.sim_types.specs.Limits.{most_bytes}
use Rattle.sim_outside.specs.Reads.{TakesFirst}
use Rattle.sim_outside.specs.Writes.{AppendsPrefix, SinkOf}
use Rattle.sim_engine.specs.RunOfScenario.{end_of_scenario, printed_trace}
use Rattle.sim_answer.specs.Answers.{AnswersPrefix, AnswersWhole}
use Rattle.sim_answer.proofs.AnswersToTexts.{none_begun, prefix_of, unread_begun, unread_whole, whole_of}
use Rattle.sim_answer.proofs.ReadRuns.{in_order_of}
use Rattle.sim_desk.specs.Answers.{IsAnswer, IsInOrderFor, MayWrite}
use Rattle.sim_desk.proofs.LongTexts.{answered_alike}
use Rattle.sim_desk.specs.Headline.{text_for, said_to, answer_on, answer_of, status_to, status_of}
use Rattle.sim_desk.proofs.TextsWithTraces.{read_before_trace}

-- `load` is on the text of the machine shop
module _ (asked : Command) (size : ℕ) (shop text : List ℕ) (is : asked ≡ command.Load size) (same : shop ≡ shop_text size) where
  pub shop_answer : answer_on (command.Load size) shop ≡ answer_of asked text
  shop_answer = rw (is, same) refl

  pub shop_status : status_to (command.Load size) (said_to (command.Load size) shop) ≡ status_of asked text
  shop_status = rw (is, same) refl

-- `native` is on the text of the model
module _ (asked : Command) (model : Model) (limit : ℕ) (text : List ℕ) (is : asked ≡ command.Native model limit)
    (says : reads (text_of_model model) ≡ Ok (scenario_of model)) where
  pub native_answer : printed_trace (scenario_of model) limit ≡ answer_of asked text
  native_answer = rw (is, says) refl

  pub native_status : status_of_end (end_of_scenario (scenario_of model) limit) ≡ status_of asked text
  native_status = rw (is, says) refl

-- ---- the answer

in_order_for : (asked : Command) (text : List ℕ) (read : Result ScenarioOf Fault) → said_to asked text ≡ read → IsInOrderFor asked read
in_order_for asked text (Err fault) is = tt
in_order_for command.Check text (Ok s) is = tt
in_order_for (command.Run limit) text (Ok s) is = in_order_of s s.seed limit text is
in_order_for (command.Batch count limit) text (Ok s) is = λ seed. in_order_of s seed limit text is
in_order_for (command.Watch limit) text (Ok s) is = in_order_of s s.seed limit text is
in_order_for (command.Verify limit) text (Ok s) is = let part = read_before_trace text s is in in_order_of s s.seed limit part.text part.says
in_order_for (command.Load size) text (Ok s) is = in_order_of s s.seed most_units text is
in_order_for (command.Native model limit) text (Ok s) is = in_order_of s s.seed limit text is

-- the answer and its status answer the text
is_answer : (asked : Command) (text : List ℕ) (status : Status) → status ≡ status_of asked text → IsAnswer asked text (answer_of asked text) status
is_answer asked text status is =
    record { written = refl; ended = is; throughout = in_order_for asked (text_for asked text) (said_to asked (text_for asked text)) refl }

module _ (asked : Command) (left rest : Option (List ℕ)) (text bytes : List ℕ) (old new : SinkOf) (takes : TakesFirst (most_bytes + 1) left rest bytes)
    (held : text ≡ bytes) where
  pub whole_answer : (status : Status) → Appends old.taken new.taken (answer_of asked text) → status ≡ status_of asked text
      → AnswersWhole (IsAnswer asked) left old new status
  whole_answer status written is =
      whole_of (MayWrite asked) (IsAnswer asked) (is_on_text asked) (answered_alike asked) left rest text bytes old new takes held _ status written
      (is_answer asked text status is)

  pub prefix_answer : AppendsPrefix old.taken new.taken (answer_of asked text) → AnswersPrefix (MayWrite asked) left old new
  prefix_answer written =
      prefix_of (MayWrite asked) (IsAnswer asked) (is_on_text asked) (answered_alike asked) left rest text bytes old new takes held _ written refl

-- where none is read
module _ (asked : Command) (left : Option (List ℕ)) (text : List ℕ) (old new : SinkOf) (unread : is_on_text asked ≡ false) where
  pub unread_answer : (status : Status) → Appends old.taken new.taken (answer_of asked text) → status ≡ status_of asked text
      → AnswersWhole (IsAnswer asked) left old new status
  unread_answer status written is =
      unread_whole (MayWrite asked) (IsAnswer asked) (is_on_text asked) (answered_alike asked) left text old new unread _ status written
      (is_answer asked text status is)

  pub unread_prefix : AppendsPrefix old.taken new.taken (answer_of asked text) → AnswersPrefix (MayWrite asked) left old new
  unread_prefix written =
      unread_begun (MayWrite asked) (IsAnswer asked) (is_on_text asked) (answered_alike asked) left text old new unread _ written refl

-- nothing written is a prefix of each answer
pub none_answered : (asked : Command) (left : Option (List ℕ)) (old : SinkOf) → AnswersPrefix (MayWrite asked) left old old
none_answered asked left old = none_begun (MayWrite asked) (λ text. (answer_of asked text, refl)) left old

-- what is asked of an answer that was told: whole, cut off, or none
pub ruleset answers = (whole_answer, prefix_answer, unread_answer, unread_prefix, none_answered)

-- ---- the status

reading_whole : (asked : Command) (read : Result ScenarioOf Fault) → is_whole (status_to asked read) ≡ true
reading_whole asked (Err fault) = refl
reading_whole command.Check (Ok s) = refl
reading_whole (command.Run limit) (Ok s) = end_whole (end_of_scenario s limit)
reading_whole (command.Batch count limit) (Ok s) = refl
reading_whole (command.Watch limit) (Ok s) = refl
reading_whole (command.Verify limit) (Ok s) = refl
reading_whole (command.Load size) (Ok s) = refl
reading_whole (command.Native model limit) (Ok s) = end_whole (end_of_scenario s limit)

-- where nothing fails, the answer is whole
pub status_whole : (asked : Command) (text : List ℕ) → IsTrue (is_whole (status_of asked text))
status_whole asked text = reading_whole asked (said_to asked (text_for asked text))

-- so what it answers is no status that comes after less
pub told_whole : (asked : Command) (text : List ℕ) (answer other : Status) → answer ≡ status_of asked text → answer ≡ other → IsTrue (is_whole other)
told_whole asked text answer other is same = ap is_whole (sym same ∙ is) ∙ status_whole asked text

-- the text of each machine shop says a scenario
pub load_ended : (asked : Command) (size : ℕ) (text : List ℕ) → asked ≡ command.Load size → size < 2 ^ 32 → status_of asked text ≡ status.Ended
load_ended asked size text is small = rw is (by (reads (shop_text size)) (shop_is_read size small))
  where
    by : (read : Result ScenarioOf Fault) → IsOk read → status_to (command.Load size) read ≡ status.Ended
    by (Ok s) accepted = refl
    by (Err fault) accepted = absurd (false≢true accepted)

-- the text of each model says a scenario
pub native_not_refused : (asked : Command) (model : Model) (limit : ℕ) (text : List ℕ) → asked ≡ command.Native model limit
    → status_of asked text ≢ status.Refused
native_not_refused asked model limit text is refused =
    by (end_of_scenario (scenario_of model) limit) (native_status asked model limit text is (models_are_read model) ∙ refused)
  where
    by : (end : End) → status_of_end end ≡ status.Refused → ⊥
    by end.Empty h = absurd (cc)
    by end.Until h = absurd (cc)
    by end.Crash h = absurd (cc)
    by end.Starved h = absurd (cc)
    by end.Limit h = absurd (cc)

-- ---- the command

-- what holds for the command holds where the words are it
pub if_some : (said : Option Command) (command : Command) (P : Command → Type 0) → Some command ≡ said → P command → IfSome said P
if_some said command P is h = rw (sym is) h
