-- Answers, one after another.
use Rattle.std.proofs.Common.{◌≡◌, ℕ, zero, suc, ◌+◌, ◌-◌, ◌*◌, ◌/◌, ◌<◌, ◌≤◌, List, [], ◌∷◌, ◌++◌, refl, sym, ap, subst, ◌∙◌, append_assoc, arith}
use Rattle.std.specs.Prelude.{All, map}
use Rattle.std.specs.List.{range_with_len}
use Rattle.std.proofs.Math.Nat.{div-mul-le_self, le-div_iff_mul-le, mul-div_cancel_left}
use Rattle.std.proofs.lemmas.List.{append-nil}
use Rattle.std.proofs.lemmas.List.Elements.{All-append}
use Rattle.std.proofs.lemmas.List.FromFn.{map-range_with_len_more}
use Rattle.sim_types.specs.declared.line.Summary.{Summary}
use Rattle.sim_batch.specs.Batches.{answers_of, answers_between}

-- with the answer to the next index there are the answers to one index more
pub answers_more : (answer : ℕ → Summary) (first index : ℕ) → first ≤ index
    → answers_between answer first (index + 1) ≡ answers_between answer first index ++ answer index ∷ []
answers_more answer first index within =
    let more : index + 1 - first ≡ index - first + 1 = omega arith in
    ap (λ n. map answer (range_with_len first n)) more ∙ map-range_with_len_more answer first (index - first) index (omega arith)

further : (answer : ℕ → Summary) (a n : ℕ) → answers_of answer a ++ map answer (range_with_len a n) ≡ answers_of answer (a + n)
further answer a zero =
    let none : a ≡ a + 0 = omega arith in
    append-nil (answers_of answer a) ∙ ap (answers_of answer) none
further answer a (suc n) =
    let one : suc n ≡ n + 1 = omega arith in
    let all : a + n + 1 ≡ a + suc n = omega arith in
    ap (λ m. answers_of answer a ++ map answer (range_with_len a m)) one
    ∙ ap (λ us. answers_of answer a ++ us) (map-range_with_len_more answer a n (a + n) refl)
    ∙ sym (append_assoc (answers_of answer a) (map answer (range_with_len a n)) (answer (a + n) ∷ []))
    ∙ ap (λ us. us ++ answer (a + n) ∷ []) (further answer a n)
    ∙ sym (map-range_with_len_more answer 0 (a + n) (a + n) (omega arith))
    ∙ ap (answers_of answer) all

-- the answers to the indices of one share more
pub answers_joined : (answer : ℕ → Summary) (first end : ℕ) → first ≤ end
    → answers_of answer first ++ answers_between answer first end ≡ answers_of answer end
answers_joined answer first end within =
    let all : first + (end - first) ≡ end = omega arith in
    further answer first (end - first) ∙ ap (answers_of answer) all

-- a share ends no earlier than it begins
pub starts_rise : (share shares count : ℕ) → 0 < shares → share * count / shares ≤ (share + 1) * count / shares
starts_rise share shares count some =
    (le-div_iff_mul-le some).1 (omega (arith, div-mul-le_self (share * count) shares))

-- the last share ends with the last index
pub starts_end : (shares count : ℕ) → (shares ≡ 0 → count ≡ 0) → shares * count / shares ≡ count
starts_end zero count none = rw (none refl) refl
starts_end (suc n) count none = mul-div_cancel_left count (omega arith)

-- what holds of all answers holds with further ones
pub kept_further : (P : Summary → Type 0) (before further after : List Summary) → All P before → All P further → after ≡ before ++ further → All P after
kept_further P before further after kept more is = subst (All P) (sym is) (All-append P before further kept more)
