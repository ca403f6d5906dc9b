-- How a word that the program is called with is told.
use Rattle.std.specs.Prelude.{◌≡◌, ℕ, List, codes}
use Rattle.std.specs.Str.{IsUtf8}

-- a word is told as it is, and by a question mark where it is no UTF-8
pub record IsShown (bytes word : List ℕ) : Type 0 where
  pub text : IsUtf8 bytes → word ≡ bytes
  pub no_text : ¬ IsUtf8 bytes → word ≡ codes "?"
