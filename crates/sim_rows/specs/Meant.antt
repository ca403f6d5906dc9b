-- What a row says, and what the definitions make of it.
use Rattle.std.specs.Prelude.{ℕ, ◌≡◌, ◌-◌, List, [], ◌∷◌, ◌++◌, length, drop, Option, Some, Contains, IsTrue}
use Rattle.sim_command.specs.declared.status.Status.{Status}
use Rattle.sim_command.specs.Endings.{is_whole}
use Rattle.sim_program.specs.Answers.{IsAnswer}
use Rattle.sim_rows.specs.declared.row.Tells.{Tells}
use Rattle.sim_rows.specs.declared.row.Tells.TheVariants.{Whole, End}

-- a whole answer to the words on the text is one that the definitions give
abbrev pub IsMeant : List (List ℕ) → List ℕ → Status → List ℕ → Type 0
IsMeant words text status bytes = IsTrue (is_whole status) → IsAnswer words text bytes status

-- the bytes that a row of so many tells of: all, or as many of the last ones
abbrev pub told_part : Tells → ℕ → List ℕ → List ℕ
told_part Whole n bytes = bytes
told_part End n bytes = drop (length bytes - n) bytes

-- a row with this status and this answer wants that exit status, and those bytes or that they end so
abbrev pub Wants : Option ℕ → Tells → List ℕ → ℕ → List ℕ → Type 0
Wants wanted tells answer status bytes = (wanted ≡ Some status) × (answer ≡ told_part tells (length answer) bytes)

-- a line without backslashes was appended as it stands, and a line feed
abbrev pub AppendsPlain : List ℕ → List ℕ → List ℕ → Type 0
AppendsPlain line before after = ¬ Contains line 92 → after ≡ before ++ (line ++ 10 ∷ [])
