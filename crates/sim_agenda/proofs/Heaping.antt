-- What stands where in a heap, and an entry that is written into one.
use Rattle.std.proofs.Common.{◌≡◌, ℕ, zero, suc, ◌<◌, ◌≤◌, List, ◌∷◌, length, get_or, set, ap, ◌∙◌, inl, inr, arith, All}
use Rattle.std.specs.List.Sorted.{IsPermutation}
use Rattle.std.proofs.lemmas.Bool.{cases_eq}
use Rattle.std.proofs.lemmas.Grind.{get_or-set_at}
use Rattle.std.proofs.lemmas.List.{length-set, get_or-set_other, get_or_default}
use Rattle.std.proofs.lemmas.List.Edits.{swap_is}
use Rattle.std.proofs.lemmas.List.Elements.{All-tail}
use Rattle.std.proofs.lemmas.List.Sorted.{All-permutation, IsPermutation-swap}
use Rattle.sim_types.specs.Keys.{IsLess}
use Rattle.sim_types.specs.declared.event.Entry.{Entry}
use Rattle.sim_types.proofs.KeyLemmas.{IsLess-irrefl}
use Rattle.sim_happen_model.specs.Agendas.{TakesFirst}
use Rattle.sim_agenda.specs.Heaps.{parent, IsHeap, IsHeapBut, StandsAbove}
use Rattle.sim_agenda.proofs.Keys.{not_before, same_not_before}

pub heap_but : (xs : List Entry) (i : ℕ) → IsHeap xs → IsHeapBut xs i
heap_but xs i heap = λ k d more inside off. heap k d more inside

-- an entry is written that does not come before the one above it, and that none of those below it comes before
pub heap_written : (xs : List Entry) (i : ℕ) (x : Entry) → IsHeapBut xs i → i < length xs
    → ((d : Entry) → 0 < i → ¬ IsLess x.key (get_or xs (parent i) d).key) → StandsAbove x xs i → IsHeap (set xs i x)
heap_written xs i x heap within above below = λ k d more inside.
    let long : length (set xs i x) ≡ length xs = length-set xs i x in
    elim (cases_eq k i) [
      | inl at ↦ same_not_before _ _ _ _ (get_or-set_at xs i k x d at within)
          (get_or-set_other xs i (parent k) x d (λ e. absurd (omega arith)) ∙ ap (λ m. get_or xs (parent m) d) at)
          (above d (omega arith))
      | inr off ↦ elim (cases_eq (parent k) i) [
        | inl under ↦ same_not_before _ _ _ _ (get_or-set_other xs i k x d off) (get_or-set_at xs i (parent k) x d under within)
            (below k d more (omega arith) under)
        | inr apart ↦ same_not_before _ _ _ _ (get_or-set_other xs i k x d off) (get_or-set_other xs i (parent k) x d apart)
            (heap k d more (omega arith) off)
      ]
    ]

itself : (xs : List Entry) (d : Entry) (k : ℕ) → k ≡ 0 → ¬ IsLess (get_or xs k d).key (get_or xs 0 d).key
itself xs d k at = rw at (IsLess-irrefl (get_or xs 0 d).key)

-- no entry comes before the first
pub first_of_heap : (xs : List Entry) (d : Entry) → IsHeap xs → (most k : ℕ) → k ≤ most → k < length xs → ¬ IsLess (get_or xs k d).key (get_or xs 0 d).key
first_of_heap xs d heap zero k few inside = itself xs d k (omega arith)
first_of_heap xs d heap (suc most) k few inside =
    elim (cases_eq k 0) [
      | inl at ↦ itself xs d k at
      | inr off ↦ not_before (get_or xs 0 d).key (get_or xs (parent k) d).key (get_or xs k d).key
          (first_of_heap xs d heap most (parent k) (omega arith) (omega arith)) (heap k d (omega arith) inside)
    ]

-- two entries change places, of which one is held
pub held_exchanged : (h : Entry) (xs : List Entry) (i : ℕ) (y : Entry) → i < length xs → y ≡ get_or xs i y → IsPermutation (h ∷ xs) (y ∷ set xs i h)
held_exchanged h xs i y within is =
    IsPermutation-swap (h ∷ xs) (y ∷ set xs i h) 0 (suc i) (omega arith) (omega (arith, within))
    (ap (λ u. u ∷ set xs i h) is ∙ swap_is (h ∷ xs) 0 (suc i) y (omega arith) (omega (arith, within)))

-- the first entry of a heap is taken out
pub first_taken : (xs ys : List Entry) (x : Entry) → IsHeap xs → x ≡ get_or xs 0 x → IsPermutation xs (x ∷ ys) → TakesFirst xs x ys
first_taken xs ys x heap is others =
    let first : All (λ y. ¬ IsLess y.key x.key) xs =
    λ k d inside. same_not_before _ _ _ _ (get_or_default xs k d x inside) is (first_of_heap xs x heap k k (omega arith) inside) in
    record {
      others = others;
      first = All-tail (λ y. ¬ IsLess y.key x.key) x ys (All-permutation (λ y. ¬ IsLess y.key x.key) xs (x ∷ ys) others first);
    }
