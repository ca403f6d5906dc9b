-- Entries that are written through a slice of all of them.
use Rattle.std.proofs.Common.{◌≡◌, ℕ, ◌<◌, List, [], ◌∷◌, ◌++◌, length, get_or, set, take, sym, ap, subst, ◌∙◌}
use Rattle.std.specs.List.Sorted.{IsPermutation}
use Rattle.std.proofs.Math.Seq.{take-append_seam}
use Rattle.std.proofs.lemmas.List.{set-get_or, get_or_push, get_or_append_left}
use Rattle.std.proofs.lemmas.List.Sorted.{IsPermutation-to_front, IsPermutation-sym, IsPermutation-trans}
use Rattle.sim_types.specs.declared.event.Entry.{Entry}
use Rattle.sim_happen_model.specs.Agendas.{TakesFirst}
use Rattle.sim_agenda.specs.Heaps.{IsHeap}
use Rattle.sim_agenda.proofs.Heaping.{first_taken}

-- what was written through the slice is all
written : (ys more : List Entry) (n : ℕ) → length ys ≡ n → take n (ys ++ more) ≡ ys
written ys more n long = ap (λ m. take m (ys ++ more)) (sym long) ∙ take-append_seam ys more

-- what stands behind the others is written there again
same_written : (xs ys : List Entry) (place : ℕ) (x : Entry) → ys ≡ xs ++ x ∷ [] → place ≡ length xs → set ys place x ≡ ys
same_written xs ys place x is at =
    let stood : get_or ys place x ≡ x = ap (λ us. get_or us place x) is ∙ get_or_push xs x x place (sym at) in
    ap (λ u. set ys place u) (sym stood) ∙ set-get_or ys place x

-- an entry is put behind the last, and then in among the others
pub pushed : (xs ys zs us more : List Entry) (n place : ℕ) (x : Entry) → ys ≡ xs ++ x ∷ [] → place ≡ length xs
    → IsPermutation (set ys place x) zs → length zs ≡ n → us ≡ take n (zs ++ more) → IsPermutation (x ∷ xs) us
pushed xs ys zs us more n place x is at moved long all =
    let front : IsPermutation (x ∷ xs) (xs ++ x ∷ []) = IsPermutation-sym (xs ++ x ∷ []) (x ∷ xs) (IsPermutation-to_front xs x) in
    let all_moved : IsPermutation (xs ++ x ∷ []) zs = subst (λ us. IsPermutation us zs) (same_written xs ys place x is at ∙ is) moved in
    subst (IsPermutation (x ∷ xs)) (sym (all ∙ written zs more n long))
    (IsPermutation-trans (x ∷ xs) (xs ++ x ∷ []) zs front all_moved)

-- the last entry is taken off, and then put in for the first
pub popped : (xs others zs us more : List Entry) (n : ℕ) (last x : Entry) → IsHeap xs → xs ≡ others ++ last ∷ [] → 0 < length others
    → IsPermutation (last ∷ others) (x ∷ zs) → x ≡ get_or others 0 x → length zs ≡ n → us ≡ take n (zs ++ more) → TakesFirst xs x us
popped xs others zs us more n last x heap is some moved first long all =
    let top : x ≡ get_or xs 0 x = first ∙ sym (get_or_append_left others (last ∷ []) x 0 some) ∙ ap (λ vs. get_or vs 0 x) (sym is) in
    let front : IsPermutation xs (last ∷ others) = subst (λ vs. IsPermutation vs (last ∷ others)) (sym is) (IsPermutation-to_front others last) in
    subst (TakesFirst xs x) (sym (all ∙ written zs more n long))
    (first_taken xs zs x heap top (IsPermutation-trans xs (last ∷ others) (x ∷ zs) front moved))
