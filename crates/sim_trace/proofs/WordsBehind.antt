-- Words that are appended to a line one by one, each behind a space.
use Rattle.std.proofs.Common.{◌≡◌, ◌∙◌, ℕ, List, [], ◌∷◌, ◌++◌, refl, append_assoc}
use Rattle.std.specs.Prelude.{fold}
use Rattle.std.specs.List.{join_with_byte}

word_behind : (line word : List ℕ) (more : List (List ℕ))
    → join_with_byte 32 ((line ++ 32 ∷ word) ∷ more) ≡ line ++ 32 ∷ join_with_byte 32 (word ∷ more)
word_behind line word [] = refl
word_behind line word (next ∷ more) = append_assoc line (32 ∷ word) (32 ∷ join_with_byte 32 (next ∷ more))

pub words_behind : (line : List ℕ) (words : List (List ℕ)) → fold (λ l word. l ++ 32 ∷ word) line words ≡ join_with_byte 32 (line ∷ words)
words_behind line [] = refl
words_behind line (word ∷ more) = words_behind (line ++ 32 ∷ word) more ∙ word_behind line word more
