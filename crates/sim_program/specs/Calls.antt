-- What the program answers, by what its top call does.
use Rattle.std.specs.Prelude.{◌≡◌, ℕ, List, Option, IfSome, All}
use Rattle.std.specs.Str.{IsUtf8}
use Rattle.std.specs.Borrow.{Bor}
use Rattle.std.specs.Fn.{Once, FnOnceReturnsAt}
use Rattle.sim_command.specs.declared.status.Status.{Status}
use Rattle.sim_command.specs.Exits.{exit_after}

-- an answer that the call may give with some words, each of them UTF-8
pub record IsAnswer {F : Type 0} (g : Once F (Bor (List (List ℕ)) × Unit {0}) Status) (call : F) (answer : Status) : Type 0 where
  pub words : List (List ℕ)
  pub text : All IsUtf8 words
  pub given : FnOnceReturnsAt g call words answer

-- the exit status is that of such an answer, or of none
abbrev pub EndsAs : {F : Type 0} → Once F (Bor (List (List ℕ)) × Unit {0}) Status → F → ℕ → Type 0
EndsAs g call code = (answer : Option Status) × IfSome answer (IsAnswer g call) × (code ≡ exit_after answer)
