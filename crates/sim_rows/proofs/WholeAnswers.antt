-- A whole answer that was written into an empty sink is one that the definitions give.
use Rattle.std.proofs.Common.{ℕ, ◌≡◌, sym, ◌∙◌, subst, List, [], Some}
use Rattle.std.specs.Io.KnownBytes.{Appends}
use Rattle.sim_command.specs.declared.status.Status.{Status}
use Rattle.sim_outside.specs.Writes.{SinkOf}
use Rattle.sim_answer.specs.Answers.{AnswersWhole}

-- where the sink is empty at first, and the source tells the text
pub whole_meant : (answers : List ℕ → List ℕ → Status → Type 0) (text left bytes : List ℕ) (old new : SinkOf) (status : Status)
    → left ≡ text → old.taken ≡ Some [] → new.taken ≡ Some bytes → AnswersWhole answers (Some left) old new status → answers text bytes status
whole_meant answers text left bytes old new status same empty copied a =
    let says : a.text ≡ text = a.told ∙ same in
    let all : Appends (Some []) (Some bytes) a.bytes = rw (empty, copied) at a.written in
    subst (λ b. answers text b status) (sym all) (subst (λ t. answers t a.bytes status) says a.answer)
