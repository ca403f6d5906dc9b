-- What the words ask for: a live run, hosted runs, or else a command.
--     live_whole, hosted_whole, command_whole      the whole answer is one to the words
--     command_begun                                what was written is a prefix of one
--     none_live, none_hosted, none_at_all          where they ask for nothing
use Rattle.std.proofs.Common.{◌≡◌, ℕ, List, [], Option, None, Some, refl, sym, ap, ◌∙◌, subst}
use Rattle.std.specs.Prelude.{IfSome, IsTrue, MatchOption, ◌↔◌}
use Rattle.std.proofs.lemmas.Bool.{false≢true}
use Rattle.sim_command.specs.declared.commands.Command.{Command}
use Rattle.sim_command.specs.declared.commands.HostedRuns.{HostedRuns}
use Rattle.sim_command.specs.declared.status.Status.{Status}
use Rattle.sim_command.specs.declared.status.Status.TheVariants as status
use Rattle.sim_command.specs.Commands.{command, hosted_runs, live_limit}
use Rattle.sim_command.specs.Endings.{is_whole}
use Rattle.sim_outside.specs.Writes.{SinkOf}
use Rattle.sim_answer.specs.Answers.{AnswersPrefix, AnswersWhole}
use Rattle.sim_answer.proofs.AnswersToTexts.{none_begun}
use Rattle.sim_desk.specs.Answers as desk
use Rattle.sim_host.specs.HostAnswers as host
use Rattle.sim_live.specs.LiveAnswers as live
use Rattle.sim_program.specs.Answers.{AskForNothing, IsAnswer, MayWrite}

-- what is said where there is something
of_some : {T : Type 0} (said : Option T) (x : T) (P : T → Type 0) → Some x ≡ said → IfSome said P → P x
of_some said x P is h = subst (λ o. IfSome o P) (sym is) h

to_some : {T : Type 0} (said : Option T) (x : T) (P : T → Type 0) → Some x ≡ said → P x → IfSome said P
to_some said x P is h = rw (sym is) h

to_none : {T : Type 0} (said : Option T) (P : T → Type 0) → None ≡ said → IfSome said P
to_none said P is = rw (sym is) tt

-- there is not both something and nothing
never : {T : Type 0} {A : Type 0} (said : Option T) (x : T) → Some x ≡ said → said ≡ None → A
never said x is none = let some : Some x ≡ None = is ∙ none in absurd (cc)

match_some : {T : Type 0} (said : Option T) (x : T) (N : Type 0) (S : T → Type 0) → Some x ≡ said → S x → MatchOption said N S
match_some said x N S is h = rw (sym is) h

match_none : {T : Type 0} (said : Option T) (N : Type 0) (S : T → Type 0) → None ≡ said → N → MatchOption said N S
match_none said N S is h = rw (sym is) h

whole_so : {P Q : List ℕ → List ℕ → Status → Type 0} (left : Option (List ℕ)) (old new : SinkOf) (told : Status)
    → ((text bytes : List ℕ) → P text bytes told → Q text bytes told) → AnswersWhole P left old new told → AnswersWhole Q left old new told
whole_so left old new told so h =
    record { text = h.text; told = h.told; bytes = h.bytes; written = h.written; answer = so h.text h.bytes h.answer }

begun_so : {P Q : List ℕ → List ℕ → Type 0} (left : Option (List ℕ)) (old new : SinkOf) → ((text bytes : List ℕ) → P text bytes → Q text bytes)
    → AnswersPrefix P left old new → AnswersPrefix Q left old new
begun_so left old new so h = record { text = h.text; told = h.told; bytes = h.bytes; written = h.written; allowed = so h.text h.bytes h.allowed }

-- ---- the answers of a text

module _ (words : List (List ℕ)) (text bytes : List ℕ) (told : Status) where
  for_live_run : (limit : ℕ) → Some limit ≡ live_limit words → live.IsAnswer limit text bytes told → IsAnswer words text bytes told
  for_live_run limit is h =
      record {
        live_run = to_some (live_limit words) limit (λ l. live.IsAnswer l text bytes told) is h;
        runs = λ none. never (live_limit words) limit is none;
        command = λ none. never (live_limit words) limit is none;
      }

  for_runs : (runs : HostedRuns) → None ≡ live_limit words → Some runs ≡ hosted_runs words → host.IsAnswer runs text bytes told → IsAnswer words text bytes told
  for_runs runs none is h =
      record {
        live_run = to_none (live_limit words) (λ l. live.IsAnswer l text bytes told) none;
        runs = λ _. to_some (hosted_runs words) runs (λ r. host.IsAnswer r text bytes told) is h;
        command = λ _ no_runs. never (hosted_runs words) runs is no_runs;
      }

  for_a_command : (c : Command) → None ≡ live_limit words → None ≡ hosted_runs words → Some c ≡ command words → desk.IsAnswer c text bytes told
      → IsAnswer words text bytes told
  for_a_command c none no_runs is h =
      record {
        live_run = to_none (live_limit words) (λ l. live.IsAnswer l text bytes told) none;
        runs = λ _. to_none (hosted_runs words) (λ r. host.IsAnswer r text bytes told) no_runs;
        command = λ _ _. to_some (command words) c (λ d. desk.IsAnswer d text bytes told) is h;
      }

module _ (words : List (List ℕ)) (text bytes : List ℕ) where
  by_command : None ≡ live_limit words → None ≡ hosted_runs words → MatchOption (command words) (bytes ≡ []) (λ d. desk.MayWrite d text bytes)
      → MayWrite words text bytes
  by_command none no_runs h =
      record {
        live_run = to_none (live_limit words) (λ l. live.MayWrite l text bytes) none;
        runs = λ _. to_none (hosted_runs words) (λ r. host.MayWrite r text bytes) no_runs;
        command = λ _ _. h;
      }

-- ---- what was written

module _ (words : List (List ℕ)) (left : Option (List ℕ)) (old new : SinkOf) (told : Status) where
  -- ---- a live run

  module _ (limit : ℕ) (is : Some limit ≡ live_limit words) where
    pub live_whole : IfSome (live_limit words) (λ l. IsTrue (is_whole told) → AnswersWhole (live.IsAnswer l) left old new told) → IsTrue (is_whole told)
        → AnswersWhole (IsAnswer words) left old new told
    live_whole h whole =
        whole_so left old new told (λ text bytes k. for_live_run words text bytes told limit is k)
        (of_some (live_limit words) limit (λ l. IsTrue (is_whole told) → AnswersWhole (live.IsAnswer l) left old new told) is h whole)

  -- ---- hosted runs

  module _ (runs : HostedRuns) (no_live : None ≡ live_limit words) (is : Some runs ≡ hosted_runs words) where
    pub hosted_whole : IfSome (hosted_runs words) (λ r. IsTrue (is_whole told) → AnswersWhole (host.IsAnswer r) left old new told)
        → IsTrue (is_whole told) → AnswersWhole (IsAnswer words) left old new told
    hosted_whole h whole =
        whole_so left old new told (λ text bytes k. for_runs words text bytes told runs no_live is k)
        (of_some (hosted_runs words) runs (λ r. IsTrue (is_whole told) → AnswersWhole (host.IsAnswer r) left old new told) is h whole)

  -- ---- a command, or nothing

  module _ (no_live : None ≡ live_limit words) (no_hosted : None ≡ hosted_runs words) (usage : told ≡ status.Usage ↔ command words ≡ None) where
    pub command_whole : IfSome (command words) (λ c. IsTrue (is_whole told) → AnswersWhole (desk.IsAnswer c) left old new told) → IsTrue (is_whole told)
        → AnswersWhole (IsAnswer words) left old new told
    command_whole h whole = by (command words) refl h
      where
        by : (said : Option Command) → command words ≡ said
            → IfSome said (λ c. IsTrue (is_whole told) → AnswersWhole (desk.IsAnswer c) left old new told) → AnswersWhole (IsAnswer words) left old new told
        by None none k = absurd (false≢true (sym (ap is_whole (usage.1 none)) ∙ whole))
        by (Some c) is k = whole_so left old new told (λ text bytes a. for_a_command words text bytes told c no_live no_hosted (sym is) a) (k whole)

    pub command_begun : (told ≡ status.Usage → new ≡ old) → IfSome (command words) (λ c. AnswersPrefix (desk.MayWrite c) left old new)
        → AnswersPrefix (MayWrite words) left old new
    command_begun untold h = by (command words) refl h
      where
        by : (said : Option Command) → command words ≡ said → IfSome said (λ c. AnswersPrefix (desk.MayWrite c) left old new)
            → AnswersPrefix (MayWrite words) left old new
        by None none k =
            subst (λ o. AnswersPrefix (MayWrite words) left old o) (sym (untold (usage.1 none)))
            (none_begun (MayWrite words)
            (λ text. ([], by_command words text [] no_live no_hosted (match_none (command words) ([] ≡ []) (λ d. desk.MayWrite d text []) (sym none) refl)))
            left old)
        by (Some c) is k =
            begun_so left old new
            (λ text bytes a. by_command words text bytes no_live no_hosted
            (match_some (command words) c (bytes ≡ []) (λ d. desk.MayWrite d text bytes) (sym is) a))
            k

-- ---- words that ask for nothing

module _ (words : List (List ℕ)) where
  pub none_live : (limit : ℕ) → Some limit ≡ live_limit words → AskForNothing words ↔ live_limit words ≡ None
  none_live limit is = (λ h. h.no_live_run, never (live_limit words) limit is)

  pub none_hosted : (runs : HostedRuns) → Some runs ≡ hosted_runs words → AskForNothing words ↔ hosted_runs words ≡ None
  none_hosted runs is = (λ h. h.no_hosted_runs, never (hosted_runs words) runs is)

  pub none_at_all : None ≡ live_limit words → None ≡ hosted_runs words → AskForNothing words ↔ command words ≡ None
  none_at_all no_live no_hosted =
      (λ h. h.no_command, λ none. record { no_live_run = sym no_live; no_hosted_runs = sym no_hosted; no_command = none })
