-- Where the pieces of a text end.
--     piece_ended     a piece with the byte that ends it
--     last_piece      the last piece, where no byte ends it
--     cut_nothing     a line of which nothing is cut
use Rattle.std.proofs.Common.{◌≡◌, refl, ℕ, Bool, true, false, not, ◌==◌, [], ◌∷◌, ◌++◌, ap, ◌∙◌}
use Rattle.std.specs.List.{list_all}
use Rattle.std.proofs.lemmas.Bool.{not-true, and_parts}
use Rattle.sim_language.specs.Lines.{Word, pieces, is_hash, up_to, without_return, cut}

abbrev pub is_one_piece : (ℕ → Bool) → Word → Bool
is_one_piece ends piece = list_all (λ c. not (ends c)) piece

pub piece_ended : (ends : ℕ → Bool) (piece rest : Word) (c : ℕ) → is_one_piece ends piece ≡ true → ends c ≡ true
    → pieces ends (piece ++ c ∷ rest) ≡ piece ∷ pieces ends rest
piece_ended ends [] rest c h at = rw at refl
piece_ended ends (x ∷ piece) rest c h at =
    let parts = and_parts (not (ends x)) (is_one_piece ends piece) h in
    let here : ends x ≡ false = not-true (ends x) parts.0 in
    rw (here, piece_ended ends piece rest c parts.1 at) refl

pub last_piece : (ends : ℕ → Bool) (x : ℕ) (piece : Word) → is_one_piece ends (x ∷ piece) ≡ true
    → pieces ends (x ∷ piece) ≡ (x ∷ piece) ∷ []
last_piece ends x [] h =
    let parts = and_parts (not (ends x)) true h in
    let here : ends x ≡ false = not-true (ends x) parts.0 in
    rw here refl
last_piece ends x (y ∷ piece) h =
    let parts = and_parts (not (ends x)) (is_one_piece ends (y ∷ piece)) h in
    let here : ends x ≡ false = not-true (ends x) parts.0 in
    rw (here, last_piece ends y piece parts.1) refl

-- ---- a line

abbrev pub is_return : ℕ → Bool
is_return c = c == 13

no_return : (l : Word) → is_one_piece is_return l ≡ true → without_return l ≡ l
no_return [] h = refl
no_return (c ∷ []) h =
    let parts = and_parts (not (is_return c)) true h in
    let here : is_return c ≡ false = not-true (is_return c) parts.0 in
    rw here refl
no_return (c ∷ d ∷ l) h = ap (λ rest. c ∷ rest) (no_return (d ∷ l) (and_parts (not (is_return c)) (is_one_piece is_return (d ∷ l)) h).1)

no_hash : (l : Word) → is_one_piece is_hash l ≡ true → up_to is_hash l ≡ l
no_hash [] h = refl
no_hash (c ∷ l) h =
    let parts = and_parts (not (is_hash c)) (is_one_piece is_hash l) h in
    let here : is_hash c ≡ false = not-true (is_hash c) parts.0 in
    rw (here, no_hash l parts.1) refl

pub cut_nothing : (l : Word) → is_one_piece is_return l ≡ true → is_one_piece is_hash l ≡ true → cut l ≡ l
cut_nothing l h k = ap (up_to is_hash) (no_return l h) ∙ no_hash l k
