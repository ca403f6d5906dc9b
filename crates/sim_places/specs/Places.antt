-- What a search for a place answers.
use Rattle.std.specs.Prelude.{◌≡◌, ◌<◌, ℕ, Bool, true, false, Option, None, IfSome}

-- a place below `len` that passes a test, by what the test answers at each; none only where all fail
pub record IsPlaceFound (len : ℕ) (answers : ℕ → Bool → Type 0) (found : Option ℕ) : Type 0 where
  pub passes : IfSome found (λ place. (place < len) × answers place true)
  pub all_fail : found ≡ None → (place : ℕ) → place < len → answers place false
