-- How entries move up to leave a place at the bottom, and how they move down from there for another one.
use Rattle.std.proofs.Common.{◌≡◌, ◌≢◌, ℕ, ◌+◌, ◌*◌, ◌<◌, ◌≤◌, List, ◌∷◌, length, get_or, set, refl, sym, ap, subst, ◌∙◌, inl, inr, arith}
use Rattle.std.specs.List.Sorted.{IsPermutation}
use Rattle.std.proofs.lemmas.Bool.{cases_eq}
use Rattle.std.proofs.lemmas.Grind.{get_or-set_at}
use Rattle.std.proofs.lemmas.List.{length-set, set-set, get_or-set_other, get_or_default}
use Rattle.std.proofs.lemmas.List.Edits.{swap_is}
use Rattle.std.proofs.lemmas.List.Sorted.{IsPermutation-trans, IsPermutation-cons, IsPermutation-swap}
use Rattle.sim_types.specs.Keys.{IsLess}
use Rattle.sim_types.specs.declared.event.Entry.{Entry}
use Rattle.sim_types.proofs.KeyLemmas.{IsLess-irrefl}
use Rattle.sim_agenda.specs.Heaps.{parent, IsHeap, IsHeapBut, IsFirstBelow, StandsAbove, IsMovedUp}
use Rattle.sim_agenda.proofs.Keys.{not_before, one_way, same_not_before}
use Rattle.sim_agenda.proofs.Heaping.{heap_but, heap_written, held_exchanged}

-- the entry at one place is copied to another, and x stands there in place of here
pub place_changed : (ys : List Entry) (i j : ℕ) (v x : Entry) → i < length ys → j < length ys → i ≢ j → v ≡ get_or ys j x
    → IsPermutation (set ys i x) (set (set ys i v) j x)
place_changed ys i j v x within inside apart is =
    let zs : List Entry = set ys i x in
    let long : length zs ≡ length ys = length-set ys i x in
    let there : get_or zs j x ≡ v = get_or-set_other ys i j x x (λ e. apart (sym e)) ∙ sym is in
    let here : get_or zs i x ≡ x = get_or-set_at ys i i x x refl within in
    let swapped : set (set zs i v) j x ≡ set (set zs i (get_or zs j x)) j (get_or zs i x) =
    ap (λ u. set (set zs i u) j x) (sym there) ∙ ap (λ u. set (set zs i (get_or zs j x)) j u) (sym here) in
    IsPermutation-swap zs (set (set ys i v) j x) i j (omega (arith, within, long)) (omega (arith, inside, long))
    (ap (λ us. set us j x) (sym (set-set ys i x v)) ∙ swapped ∙ swap_is zs i j x (omega (arith, within, long)) (omega (arith, inside, long)))

-- ---- up from below

pub moved_begins : (xs : List Entry) → 0 < length xs → IsHeap xs → IsMovedUp xs xs 0
moved_begins xs some heap =
    record {
      within = some;
      len = refl;
      heap = heap;
      moved = λ x. held_exchanged x xs 0 (get_or xs 0 x) some (get_or_default xs 0 x (get_or xs 0 x) some);
    }

pub moved_steps : (xs ys : List Entry) (place child : ℕ) (v : Entry) → parent child ≡ place → place < child → child < length ys
    → v ≡ get_or ys child v → IsFirstBelow ys child → IsMovedUp xs ys place → IsMovedUp xs (set ys place v) child
moved_steps xs ys place child v under lower within is first h =
    let stood : (d : Entry) → v ≡ get_or ys child d = λ d. is ∙ get_or_default ys child v d within in
    let behind : (d : Entry) → 0 < place → ¬ IsLess v.key (get_or ys (parent place) d).key = λ d more. not_before _ _ _ (h.heap place d more h.within)
    (same_not_before _ _ _ _ (stood d) (ap (λ m. get_or ys m d) (sym under)) (h.heap child d (omega arith) within)) in
    let above : StandsAbove v ys place = λ k d more inside at.
    same_not_before (get_or ys k d) v (get_or ys k d) (get_or ys child d) refl (stood d) (first k d more inside (at ∙ sym under)) in
    record {
      within = omega (arith, within, length-set ys place v);
      len = length-set ys place v ∙ h.len;
      heap = heap_written ys place v (heap_but ys place h.heap) h.within behind above;
      moved = λ x. IsPermutation-trans _ _ _ (h.moved x)
          (IsPermutation-cons _ _ _ (place_changed ys place child v x h.within within (λ e. absurd (omega arith)) (stood x)));
    }

-- the last stands below its place alone
pub first_alone : (ys : List Entry) (place : ℕ) → length ys ≤ 2 * place + 2 → IsFirstBelow ys (2 * place + 1)
first_alone ys place few = λ k d more inside at.
    let alone : Entry = get_or ys (2 * place + 1) d in
    let e : k ≡ 2 * place + 1 = omega (arith, at) in
    same_not_before (get_or ys k d) alone alone alone (ap (λ m. get_or ys m d) e) refl (IsLess-irrefl alone.key)

-- ---- down for another

-- from the place at the bottom up to this one, entries have moved down for x, which may stand here
pub record Lowering (xs : List Entry) (bottom : ℕ) (x : Entry) (ys : List Entry) (place : ℕ) : Type 0 where
  pub within : place < length ys
  pub long : length ys ≡ length xs
  pub heap : IsHeapBut ys place
  pub above : StandsAbove x ys place
  pub over : (d : Entry) → 0 < place → StandsAbove (get_or ys (parent place) d) ys place
  pub moved : IsPermutation (set xs bottom x) (set ys place x)

-- one more moves down, which x comes before
module _ (ys : List Entry) (place : ℕ) (v : Entry) (more : 0 < place) (within : place < length ys)
    (is : (d : Entry) → v ≡ get_or ys (parent place) d) where
  at_place : (k : ℕ) (d : Entry) → k ≡ place → get_or (set ys place v) k d ≡ v
  at_place k d at = get_or-set_at ys place k v d at within

  at_other : (k : ℕ) (d : Entry) → k ≢ place → get_or (set ys place v) k d ≡ get_or ys k d
  at_other k d off = get_or-set_other ys place k v d off

  up_apart : parent place ≢ place
  up_apart = λ e. absurd (omega arith)

  at_up : (k : ℕ) (d : Entry) → k ≡ parent place → get_or (set ys place v) k d ≡ v
  at_up k d at = ap (λ m. get_or (set ys place v) m d) at ∙ at_other (parent place) d up_apart ∙ sym (is d)

  lowered_heap : IsHeapBut ys place → ((d : Entry) → StandsAbove (get_or ys (parent place) d) ys place) → IsHeapBut (set ys place v) (parent place)
  lowered_heap heap over = λ k d positive inside off.
      let few : k < length ys = omega (arith, inside, length-set ys place v) in
      elim (cases_eq k place) [
        | inl at ↦ same_not_before _ _ _ _ (at_place k d at) (at_up (parent k) d (ap parent at)) (IsLess-irrefl v.key)
        | inr apart ↦ elim (cases_eq (parent k) place) [
          | inl under ↦ same_not_before _ _ _ _ (at_other k d apart) (at_place (parent k) d under ∙ is d) (over d k d positive few under)
          | inr aside ↦ same_not_before _ _ _ _ (at_other k d apart) (at_other (parent k) d aside) (heap k d positive few apart)
        ]
      ]

  -- right below the place above, v stands at one place, and what stands at the other does not come before v
  lowered_above : (x : Entry) → ¬ IsLess v.key x.key → IsHeapBut ys place → StandsAbove x (set ys place v) (parent place)
  lowered_above x behind heap = λ k d positive inside under.
      let few : k < length ys = omega (arith, inside, length-set ys place v) in
      let here : Entry = get_or ys k d in
      let same : (u : Entry) → get_or (set ys place v) k d ≡ u → ¬ IsLess u.key x.key → ¬ IsLess (get_or (set ys place v) k d).key x.key =
      λ u e h. same_not_before (get_or (set ys place v) k d) x u x e refl h in
      elim (cases_eq k place) [
        | inl at ↦ same v (at_place k d at) behind
        | inr apart ↦
            let there : v ≡ get_or ys (parent k) d = is d ∙ ap (λ m. get_or ys m d) (sym under) in
            let after : ¬ IsLess here.key v.key = same_not_before here v here (get_or ys (parent k) d) refl there (heap k d positive few apart) in
            same here (at_other k d apart) (not_before x.key v.key here.key behind after)
      ]

pub lowering_steps : (xs : List Entry) (bottom : ℕ) (x : Entry) (ys : List Entry) (place : ℕ) (v : Entry) → 0 < place
    → ((d : Entry) → v ≡ get_or ys (parent place) d) → IsLess x.key v.key → Lowering xs bottom x ys place
    → Lowering xs bottom x (set ys place v) (parent place)
lowering_steps xs bottom x ys place v more is less h =
    let long : length (set ys place v) ≡ length ys = length-set ys place v in
    let upper : parent place < length ys = omega (arith, h.within) in
    let apart : place ≢ parent place = λ e. absurd (omega arith) in
    let above : (u : Entry) → ¬ IsLess v.key u.key → StandsAbove u (set ys place v) (parent place) =
    λ u behind. lowered_above ys place v more h.within is u behind h.heap in
    record {
      within = omega (arith, h.within, long);
      long = long ∙ h.long;
      heap = lowered_heap ys place v more h.within is h.heap (λ d. h.over d more);
      above = above x (one_way _ _ less);
      over = λ d positive. let next : Entry = get_or (set ys place v) (parent (parent place)) d in
          let same : next ≡ get_or ys (parent (parent place)) d = at_other ys place v more h.within is (parent (parent place)) d (λ e. absurd (omega arith)) in
          above next (same_not_before _ _ _ _ (is d) same (h.heap (parent place) d positive upper (λ e. apart (sym e))));
      moved = IsPermutation-trans _ _ _ h.moved (place_changed ys place (parent place) v x h.within upper apart (is x));
    }

pub lowering_ends : (xs : List Entry) (bottom : ℕ) (x : Entry) (ys : List Entry) (place : ℕ)
    → ((d : Entry) → 0 < place → ¬ IsLess x.key (get_or ys (parent place) d).key)
    → Lowering xs bottom x ys place → IsHeap (set ys place x)
lowering_ends xs bottom x ys place stays h = heap_written ys place x h.heap h.within stays h.above

-- what moved up left the first out, and another was put in
pub first_exchanged : (xs ys zs : List Entry) (place : ℕ) (x first : Entry) → 0 < length xs → first ≡ get_or xs 0 first → IsMovedUp xs ys place
    → IsPermutation (set ys place x) zs → IsPermutation (x ∷ xs) (first ∷ zs)
first_exchanged xs ys zs place x first some is up down =
    let same : get_or xs 0 x ≡ first = sym (is ∙ get_or_default xs 0 first x some) in
    IsPermutation-trans _ _ _ (up.moved x) (subst (λ (u : Entry). IsPermutation (get_or xs 0 x ∷ set ys place x) (u ∷ zs)) same (IsPermutation-cons _ _ _ down))
