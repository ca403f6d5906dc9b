-- The pieces of a list, one after the other.
--     pieces-at        what stands in front of the first byte that passes the test is the first piece
--     pieces-none      where no byte passes, all is one piece
use Rattle.std.proofs.Common.{◌≡◌, ℕ, zero, suc, ◌<◌, ◌≤◌, Bool, true, false, List, [], ◌∷◌, length, take, drop, get_or, refl, ap, arith}
use Rattle.std.specs.List.{position_or_len}
use Rattle.sim_language.specs.Lines.{pieces, onto_first}

pub pieces-at : (ends : ℕ → Bool) (text : List ℕ) (at : ℕ) → at < length text → ends (get_or text at 0) ≡ true
    → ((k : ℕ) → k < at → ends (get_or text k 0) ≡ false) → pieces ends text ≡ take at text ∷ pieces ends (drop (suc at) text)
pieces-at ends [] at lt here before = absurd (omega arith)
pieces-at ends (x ∷ xs) zero lt here before = rw here refl
pieces-at ends (x ∷ xs) (suc at) lt here before =
    let rest : pieces ends xs ≡ take at xs ∷ pieces ends (drop (suc at) xs) = pieces-at ends xs at (omega arith) here (λ k p. before (suc k) (omega arith)) in
    rw (before 0 (omega arith)) (ap (onto_first x) rest)

pub pieces-none : (ends : ℕ → Bool) (x : ℕ) (xs : List ℕ) → length (x ∷ xs) ≤ position_or_len ends (x ∷ xs) → pieces ends (x ∷ xs) ≡ (x ∷ xs) ∷ []
pieces-none ends x [] none = by (ends x) refl
  where
    by : (b : Bool) → ends x ≡ b → pieces ends (x ∷ []) ≡ (x ∷ []) ∷ []
    by true e = absurd (omega (arith, rw e at none))
    by false e = rw e refl
pieces-none ends x (y ∷ ys) none = by (ends x) refl (pieces-none ends y ys)
  where
    by : (b : Bool) → ends x ≡ b → (length (y ∷ ys) ≤ position_or_len ends (y ∷ ys) → pieces ends (y ∷ ys) ≡ (y ∷ ys) ∷ [])
        → pieces ends (x ∷ y ∷ ys) ≡ (x ∷ y ∷ ys) ∷ []
    by true e ih = absurd (omega (arith, rw e at none))
    by false e ih = rw e (ap (onto_first x) (ih (omega (arith, rw e at none))))
