-- Each number has the place where it stands: one more, one that is found, one that is taken out.
use Rattle.std.proofs.Common.{◌≡◌, ◌≢◌, ℕ, zero, suc, ◌+◌, ◌-◌, ◌<◌, ◌≤◌, List, [], ◌∷◌, ◌++◌, length, take, replicate, refl, sym, ap, subst, ◌∙◌, arith, Bool, true, false, cond, Option, Some, None, ◌⊎◌, inl, inr, slice_index_or, slice_set}
use Rattle.std.specs.Prelude.{All, AllPairs, IfSome, MatchOption, IsSome, nat_lt, ◌==◌}
use Rattle.std.specs.List.{swap_remove}
use Rattle.std.proofs.lemmas.Bool.{cases_eq, cases_lt}
use Rattle.std.proofs.lemmas.Bool.Decides.{nat_tests}
use Rattle.std.proofs.lemmas.Option.{none-some, same_Some, slice_get-get_or}
use Rattle.std.proofs.Math.Seq.{get_or-append_seam}
use Rattle.std.proofs.lemmas.List.{get_or-map, get_or-set_same, get_or-set_other, get_or-take, get_or_append_left, get_or-append_right, get_or-replicate, get_or_default, get_or_past, length-append, length-replicate, length-set, length-take-le, map-append, map-set, take-map, length-map}
use Rattle.std.proofs.lemmas.List.Elements.{All-append, All-cons, All-head, All-nil, All-set, All-tail}
use Rattle.std.proofs.lemmas.List.Sorted.{All-permutation}
use Rattle.std.proofs.Math.Seq.{map-set_same}
use Rattle.sim_types.specs.declared.event.ProcId.{ProcId}
use Rattle.sim_types.proofs.Permutations.{AllPairs-tail}
use Rattle.sim_index.specs.IndexOf.{place_of_number, with_number}
use Rattle.sim_procs.specs.RecordOf.{RecordOf, HasOtherId, record_of, change_at, change_record, StandsAt}
use Rattle.sim_procs.specs.Indexed.{AreIndexed, AreStored, HasNumberAt, HavePlaces, IsFoundSomewhere, SetsPlace, found_there, numbers}
use Rattle.sim_procs.proofs.Records.{first_stands, later_stands, none_found, found_number, taken}

-- ---- the place of one number is set

module _ (n place : ℕ) (old : List (Option ℕ)) (past : length old ≤ n) where
  abbrev passed : List (Option ℕ)
  passed = replicate (n - length old) None

  many : length (old ++ passed) ≡ n
  many =
      let both : length (old ++ passed) ≡ length old + length passed = length-append old passed in
      let some : length passed ≡ n - length old = length-replicate (n - length old) None in
      omega (arith, both, some, past)

  passed-none : (k : ℕ) → slice_index_or passed k None ≡ None
  passed-none k = by (cases_lt k (n - length old))
    where
      by : (k < n - length old) ⊎ (n - length old ≤ k) → slice_index_or passed k None ≡ None
      by (inl below) = get_or-replicate (n - length old) k None None below
      by (inr above) = let some : length passed ≡ n - length old = length-replicate (n - length old) None in get_or_past passed k None (omega (arith, some, above))

  still : (k : ℕ) → slice_index_or (old ++ passed) k None ≡ slice_index_or old k None
  still k = by (cases_lt k (length old))
    where
      by : (k < length old) ⊎ (length old ≤ k) → slice_index_or (old ++ passed) k None ≡ slice_index_or old k None
      by (inl below) = get_or_append_left old passed None k below
      by (inr above) = get_or-append_right old passed (length old) k None refl above ∙ passed-none (k - length old) ∙ sym (get_or_past old k None above)

  at-end : slice_index_or (with_number n place old) n None ≡ Some place
  at-end = ap (λ k. slice_index_or (with_number n place old) k None) (sym many) ∙ get_or-append_seam (old ++ passed) (Some place) [] None

  other : (k : ℕ) → k ≢ n → slice_index_or (with_number n place old) k None ≡ slice_index_or old k None
  other k differ = by (cases_lt k n)
    where
      by : (k < n) ⊎ (n ≤ k) → slice_index_or (with_number n place old) k None ≡ slice_index_or old k None
      by (inl below) = get_or_append_left (old ++ passed) (Some place ∷ []) None k (omega (arith, many, below)) ∙ still k
      by (inr above) =
          let longer : length (with_number n place old) ≡ length (old ++ passed) + 1 = length-append (old ++ passed) (Some place ∷ []) in
          get_or_past (with_number n place old) k None (omega (arith, many, above, longer, differ)) ∙ sym (get_or_past old k None (omega (arith, past, above)))

  pub inserted : SetsPlace n (Some place) old (with_number n place old)
  inserted = record { here = at-end; elsewhere = other }

pub set_there : (n : ℕ) (place : Option ℕ) (old : List (Option ℕ)) → n < length old → SetsPlace n place old (slice_set old n place)
set_there n place old below = record {
  here = get_or-set_same old n place None below;
  elsewhere = λ k other. get_or-set_other old n k place None other;
}

pub has_number : (n i : ℕ) (places : List (Option ℕ)) → place_of_number n places ≡ Some i → n < length places
has_number n i places some = by (cases_lt n (length places))
  where
    by : (n < length places) ⊎ (length places ≤ n) → n < length places
    by (inl below) = below
    by (inr past) = absurd (none-some i (sym (get_or_past places n None past) ∙ some))

-- ---- no two processes have one number, and each is found

number_at : {B : Type 0} (live : List (RecordOf B)) (i d : ℕ) (r : RecordOf B) → i < length live
    → slice_index_or (numbers live) i d ≡ (slice_index_or live i r).id.0
number_at live i d r below = get_or-map (λ x. x.id.0) live i r d below

few : {B : Type 0} (live : List (RecordOf B)) → length (numbers live) ≡ length live
few live = length-map live (λ r. r.id.0)

module _ (places : List (Option ℕ)) (ns : List ℕ) (h : HavePlaces places ns) where
  same_place : (i j d : ℕ) → i < length ns → j < length ns → slice_index_or ns i d ≡ slice_index_or ns j d → i ≡ j
  same_place i j d below also same = same_Some i j (sym (h.placed i d below) ∙ ap (λ n. place_of_number n places) same ∙ h.placed j d also)

pub apart : {B : Type 0} (places : List (Option ℕ)) (live : List (RecordOf B)) → AreIndexed places live → AllPairs HasOtherId live
apart places live h i j r before below same =
    let also : i < length live = omega (arith, before, below) in
    let one : i ≡ j = same_place places (numbers live) h i j 0 (omega (arith, also, few live)) (omega (arith, below, few live)) (number_at live i 0 r also ∙ same ∙ sym (number_at live j 0 r below)) in
    absurd (omega (arith, before, one))

stands_by_number : {B : Type 0} (p : ProcId) (live : List (RecordOf B)) (i : ℕ) (r : RecordOf B) → AllPairs HasOtherId live → i < length live
    → (slice_index_or live i r).id.0 ≡ p.0 → StandsAt p live i
stands_by_number p [] i r apart below same = absurd (omega (arith, below))
stands_by_number p (x ∷ xs) zero r apart below same = first_stands p x xs same apart
stands_by_number p (x ∷ xs) (suc i) r apart below same =
    later_stands p x xs i (λ first. apart 0 (suc i) r (omega arith) below (first ∙ sym same))
    (stands_by_number p xs i r (AllPairs-tail HasOtherId x xs apart) (omega (arith, below)) same)

stands_there : {B : Type 0} (p : ProcId) (places : List (Option ℕ)) (live : List (RecordOf B)) (i : ℕ) → AreIndexed places live
    → place_of_number p.0 places ≡ Some i → StandsAt p live i
stands_there p places [] i h is = absurd (omega (arith, h.within p.0 i is))
stands_there p places (x ∷ xs) i h is =
    let below : i < length (x ∷ xs) = omega (arith, h.within p.0 i is, few (x ∷ xs)) in
    stands_by_number p (x ∷ xs) i x (apart places (x ∷ xs) h) below (sym (number_at (x ∷ xs) i 0 x below) ∙ h.stands p.0 i 0 is)

pub found_at : {B : Type 0} (p : ProcId) (places : List (Option ℕ)) (live : List (RecordOf B)) (o : Option ℕ) → AreIndexed places live
    → o ≡ place_of_number p.0 places → MatchOption o (record_of p live ≡ None) (λ i. StandsAt p live i)
found_at p places live None h none =
    none_found p live (λ i r below same. none-some i (none ∙ ap (λ n. place_of_number n places) (sym same ∙ sym (number_at live i 0 r below)) ∙ h.placed i 0 (omega (arith, below, few live))))
found_at p places live (Some i) h is = stands_there p places live i h (sym is)

-- what stands at a place and has the number is the record that the index gives for it
pub guessed_at : {B : Type 0} (p : ProcId) (places : List (Option ℕ)) (live : List (RecordOf B)) (at : ℕ) → AreIndexed places live
    → HasNumberAt p live at → StandsAt p live at
guessed_at p places [] at h has = absurd (omega (arith, has.below))
guessed_at p places (x ∷ xs) at h has = stands_by_number p (x ∷ xs) at x (apart places (x ∷ xs) h) has.below (has.number x)

-- ---- one more

module _ (n : ℕ) (old new : List (Option ℕ)) (ns : List ℕ) (h : HavePlaces old ns) (none : place_of_number n old ≡ None) (sets : SetsPlace n (Some (length ns)) old new) where
  longer : length (ns ++ n ∷ []) ≡ length ns + 1
  longer = length-append ns (n ∷ [])

  before : (i d : ℕ) → i < length ns → slice_index_or (ns ++ n ∷ []) i d ≡ slice_index_or ns i d
  before i d below = get_or_append_left ns (n ∷ []) d i below

  last : (i d : ℕ) → i ≡ length ns → slice_index_or (ns ++ n ∷ []) i d ≡ n
  last i d is = ap (λ k. slice_index_or (ns ++ n ∷ []) k d) is ∙ get_or-append_seam ns n [] d

  place-of : (i d : ℕ) → i < length (ns ++ n ∷ []) → (i < length ns) ⊎ (length ns ≤ i) → place_of_number (slice_index_or (ns ++ n ∷ []) i d) new ≡ Some i
  place-of i d below (inl less) =
      let k = slice_index_or ns i d in
      let differ : k ≢ n = λ same. none-some i (sym none ∙ ap (λ m. place_of_number m old) (sym same) ∙ h.placed i d less) in
      ap (λ m. place_of_number m new) (before i d less) ∙ sets.elsewhere k differ ∙ h.placed i d less
  place-of i d below (inr past) =
      let is : i ≡ length ns = omega (arith, below, past, longer) in
      ap (λ m. place_of_number m new) (last i d is) ∙ sets.here ∙ ap Some (sym is)

  where-is : (k i : ℕ) → place_of_number k new ≡ Some i → (k ≡ n) ⊎ (k ≢ n)
      → (i < length (ns ++ n ∷ [])) × ((d : ℕ) → slice_index_or (ns ++ n ∷ []) i d ≡ k)
  where-is k i at (inl same) =
      let is : length ns ≡ i = same_Some (length ns) i (sym sets.here ∙ ap (λ m. place_of_number m new) (sym same) ∙ at) in
      (omega (arith, is, longer), λ d. last i d (sym is) ∙ sym same)
  where-is k i at (inr differ) =
      let then : place_of_number k old ≡ Some i = sym (sets.elsewhere k differ) ∙ at in
      let below : i < length ns = h.within k i then in
      (omega (arith, below, longer), λ d. before i d below ∙ h.stands k i d then)

  pub one_more_placed : HavePlaces new (ns ++ n ∷ [])
  one_more_placed = record {
    placed = λ i d below. place-of i d below (cases_lt i (length ns));
    within = λ k i at. (where-is k i at (cases_eq k n)).0;
    stands = λ k i d at. (where-is k i at (cases_eq k n)).1 d;
  }

-- ---- one that is taken out: the last takes its place

module _ (n at : ℕ) (old gone new : List (Option ℕ)) (ns : List ℕ) (d : ℕ) (h : HavePlaces old ns) (there : place_of_number n old ≡ Some at) (goes : SetsPlace n None old gone) where
  abbrev most : ℕ
  most = length ns - 1

  abbrev left : List ℕ
  left = swap_remove ns at d

  below-all : at < length ns
  below-all = h.within n at there

  fewer : length left ≡ most
  fewer =
      let same : length (slice_set ns at (slice_index_or ns most d)) ≡ length ns = length-set ns at (slice_index_or ns most d) in
      length-take-le most (slice_set ns at (slice_index_or ns most d)) (omega (arith, same))

  left-at : (i e : ℕ) → i < most → slice_index_or left i e ≡ slice_index_or (slice_set ns at (slice_index_or ns most d)) i e
  left-at i e below = get_or-take most (slice_set ns at (slice_index_or ns most d)) i e below

  moved : (e : ℕ) → at < most → slice_index_or left at e ≡ slice_index_or ns most e
  moved e below = left-at at e below ∙ get_or-set_same ns at (slice_index_or ns most d) e below-all ∙ get_or_default ns most d e (omega (arith, below-all))

  stays : (i e : ℕ) → i < most → i ≢ at → slice_index_or left i e ≡ slice_index_or ns i e
  stays i e below differ = left-at i e below ∙ get_or-set_other ns at i (slice_index_or ns most d) e differ

  -- a number that is neither the one that goes nor the last stands where it stood
  not-gone : (i e : ℕ) → i < length ns → i ≢ at → slice_index_or ns i e ≢ n
  not-gone i e below other same = other (same_Some i at (sym (h.placed i e below) ∙ ap (λ m. place_of_number m old) same ∙ there))

  still-there : (k i : ℕ) → place_of_number k gone ≡ Some i → (k ≡ n) ⊎ (k ≢ n) → (k ≢ n) × (place_of_number k old ≡ Some i)
  still-there k i is (inl same) = absurd (none-some i (sym (ap (λ m. place_of_number m gone) same ∙ goes.here) ∙ is))
  still-there k i is (inr differ) = (differ, sym (goes.elsewhere k differ) ∙ is)

  not-at : (k i : ℕ) → (k ≢ n) × (place_of_number k old ≡ Some i) → i ≢ at
  not-at k i was same = was.0 (sym (h.stands k i 0 was.1) ∙ ap (λ j. slice_index_or ns j 0) same ∙ h.stands n at 0 there)

  -- the last went: nothing moves
  module _ (is-last : at ≡ most) where
    placed-last : (i e : ℕ) → i < length left → place_of_number (slice_index_or left i e) gone ≡ Some i
    placed-last i e below =
        let less : i < most = omega (arith, below, fewer) in
        let within : i < length ns = omega (arith, less) in
        let other : i ≢ at = λ same. omega (arith, same, less, is-last) in
        ap (λ m. place_of_number m gone) (stays i e less other) ∙ goes.elsewhere (slice_index_or ns i e) (not-gone i e within other) ∙ h.placed i e within

    stood-last : (k i : ℕ) → (k ≢ n) × (place_of_number k old ≡ Some i) → (i < length left) × ((e : ℕ) → slice_index_or left i e ≡ k)
    stood-last k i was =
        let within : i < length ns = h.within k i was.1 in
        let other : i ≢ at = not-at k i was in
        let less : i < most = omega (arith, within, other, is-last) in
        (omega (arith, less, fewer), λ e. stays i e less other ∙ h.stands k i e was.1)

    pub last_taken : HavePlaces gone left
    last_taken = record {
      placed = placed-last;
      within = λ k i is. (stood-last k i (still-there k i is (cases_eq k n))).0;
      stands = λ k i e is. (stood-last k i (still-there k i is (cases_eq k n))).1 e;
    }

  -- another went: the last stands in its place
  module _ (is-not : at < most) (sets : SetsPlace (slice_index_or ns most d) (Some at) gone new) where
    last-at : (e : ℕ) → slice_index_or ns most e ≡ slice_index_or ns most d
    last-at e = get_or_default ns most e d (omega (arith, below-all))

    placed-moved : (i e : ℕ) → i < length left → (i ≡ at) ⊎ (i ≢ at) → place_of_number (slice_index_or left i e) new ≡ Some i
    placed-moved i e below (inl same) =
        ap (λ m. place_of_number m new) (ap (λ j. slice_index_or left j e) same ∙ moved e is-not ∙ last-at e) ∙ sets.here ∙ ap Some (sym same)
    placed-moved i e below (inr other) =
        let less : i < most = omega (arith, below, fewer) in
        let within : i < length ns = omega (arith, less) in
        let k = slice_index_or ns i e in
        let not-last : k ≢ slice_index_or ns most d = λ same. omega (arith, less, same_place old ns h i most e within (omega (arith, below-all)) (same ∙ sym (last-at e))) in
        ap (λ m. place_of_number m new) (stays i e less other) ∙ sets.elsewhere k not-last ∙ goes.elsewhere k (not-gone i e within other) ∙ h.placed i e within

    stood-moved : (k i : ℕ) → place_of_number k new ≡ Some i → (k ≡ slice_index_or ns most d) ⊎ (k ≢ slice_index_or ns most d)
        → (i < length left) × ((e : ℕ) → slice_index_or left i e ≡ k)
    stood-moved k i is (inl same) =
        let here : at ≡ i = same_Some at i (sym sets.here ∙ ap (λ m. place_of_number m new) (sym same) ∙ is) in
        (omega (arith, here, is-not, fewer), λ e. ap (λ j. slice_index_or left j e) (sym here) ∙ moved e is-not ∙ last-at e ∙ sym same)
    stood-moved k i is (inr differ) =
        let was = still-there k i (sym (sets.elsewhere k differ) ∙ is) (cases_eq k n) in
        let within : i < length ns = h.within k i was.1 in
        let other : i ≢ at = not-at k i was in
        let not-most : i ≢ most = λ same. differ (sym (h.stands k i d was.1) ∙ ap (λ j. slice_index_or ns j d) same) in
        let less : i < most = omega (arith, within, not-most) in
        (omega (arith, less, fewer), λ e. stays i e less other ∙ h.stands k i e was.1)

    pub one_taken : HavePlaces new left
    one_taken = record {
      placed = λ i e below. placed-moved i e below (cases_eq i at);
      within = λ k i is. (stood-moved k i is (cases_eq k (slice_index_or ns most d))).0;
      stands = λ k i e is. (stood-moved k i is (cases_eq k (slice_index_or ns most d))).1 e;
    }

-- ---- one that is changed

module _ {B : Type 0} (live : List (RecordOf B)) (i : ℕ) (old new : RecordOf B) (is : old ≡ slice_index_or live i old) where
  changed_indexed : (places : List (Option ℕ)) → AreIndexed places live → new.id.0 ≡ old.id.0 → AreIndexed places (slice_set live i new)
  changed_indexed places h same = subst (HavePlaces places) (sym (map-set_same (λ r. r.id.0) live i new old (same ∙ ap (λ (r : RecordOf B). r.id.0) is))) h

  pub changed_stored : (places : List (Option ℕ)) (room : ℕ) → AreStored places room live → i < length live → new.id.0 ≡ old.id.0 →
      new.room ≡ old.room → AreStored places room (slice_set live i new)
  changed_stored places room h below same as_much = record {
    indexed = changed_indexed places h.indexed same;
    rooms = All-set (λ r. r.room ≡ room) live i new (as_much ∙ (ap (λ (r : RecordOf B). r.room) is ∙ h.rooms i old below)) h.rooms;
  }

  pub changed_live : (p : ProcId) (change : RecordOf B → RecordOf B) → StandsAt p live i → new ≡ change old → slice_set live i new ≡ change_record p change live
  changed_live p change h new_is =
      ap (slice_set live i) (new_is ∙ ap change is)
      ∙ sym (h.changed change ∙ ap (λ o. elim o [ None ↦ live | Some x ↦ slice_set live i (change x) ]) (slice_get-get_or live i old h.below))

  pub changed_there : (change : RecordOf B → RecordOf B) → i < length live → slice_set live i (change old) ≡ change_at i change live
  changed_there change below =
      ap (λ r. slice_set live i (change r)) is
      ∙ sym (ap (λ o. elim o [ None ↦ live | Some x ↦ slice_set live i (change x) ]) (slice_get-get_or live i old below))

-- what stands in the list of numbers once a record was taken out
pub numbers_taken : {B : Type 0} (live : List (RecordOf B)) (at d : ℕ) (r : RecordOf B) → 0 < length live
    → numbers (swap_remove live at r) ≡ swap_remove (numbers live) at d
numbers_taken live at d r some =
    let most = length live - 1 in
    let count : length (numbers live) ≡ length live = few live in
    sym (take-map (λ x. x.id.0) most (slice_set live at (slice_index_or live most r)))
    ∙ ap (take most) (map-set (λ x. x.id.0) live at (slice_index_or live most r) ∙ ap (slice_set (numbers live) at) (sym (number_at live most d r (omega (arith, some)))))
    ∙ ap (λ n. take (n - 1) (slice_set (numbers live) at (slice_index_or (numbers live) (n - 1) d))) (sym count)

pub numbers_added : {B : Type 0} (live : List (RecordOf B)) (r : RecordOf B) → numbers (live ++ r ∷ []) ≡ numbers live ++ r.id.0 ∷ []
numbers_added live r = map-append (λ x. x.id.0) live (r ∷ [])

pub found_somewhere : {B : Type 0} (places : List (Option ℕ)) (live : List (RecordOf B)) (at : ℕ) (r : RecordOf B) → IsFoundSomewhere places (numbers live) at
    → at < length live → r ≡ slice_index_or live at r → IsSome (place_of_number r.id.0 places)
found_somewhere places live at r found below is =
    rw (ap (λ (x : RecordOf _). x.id.0) is ∙ sym (number_at live at 0 r below)) (found 0 (omega (arith, below, few live)))

-- ---- one more, and one fewer, in the list of records

module _ {B : Type 0} (live : List (RecordOf B)) (r : RecordOf B) (old new : List (Option ℕ)) (h : AreIndexed old live)
    (none : record_of r.id live ≡ None) where
  pub not_placed : place_of_number r.id.0 old ≡ None
  not_placed = by (place_of_number r.id.0 old) refl
    where
      by : (o : Option ℕ) → place_of_number r.id.0 old ≡ o → place_of_number r.id.0 old ≡ None
      by None e = e
      by (Some i) e = absurd (none-some (slice_index_or live i r) (sym none ∙ (stands_there r.id old live i h e).found r))

  added_indexed : SetsPlace r.id.0 (Some (length live)) old new → AreIndexed new (live ++ r ∷ [])
  added_indexed sets =
      let sets-so : SetsPlace r.id.0 (Some (length (numbers live))) old new = subst (λ n. SetsPlace r.id.0 (Some n) old new) (sym (few live)) sets in
      subst (HavePlaces new) (sym (numbers_added live r)) (one_more_placed r.id.0 old new (numbers live) h not_placed sets-so)

  pub added_stored : (room : ℕ) → All (λ x. x.room ≡ room) live → r.room ≡ room → SetsPlace r.id.0 (Some (length live)) old new →
      AreStored new room (live ++ r ∷ [])
  added_stored room rooms own sets = record {
    indexed = added_indexed sets;
    rooms = All-append (λ x. x.room ≡ room) live (r ∷ []) rooms (All-cons (λ x. x.room ≡ room) r [] own (All-nil (λ x. x.room ≡ room)));
  }

-- how many scopes find room in a record that is found
room_found : {B : Type 0} (p : ProcId) (room : ℕ) (live : List (RecordOf B)) → All (λ r. r.room ≡ room) live →
    IfSome (record_of p live) (λ r. r.room ≡ room)
room_found p room [] h = tt
room_found p room (x ∷ xs) h = by (x.id.0 == p.0) (room_found p room xs (All-tail (λ r. r.room ≡ room) x xs h))
  where
    by : (here : Bool) → IfSome (record_of p xs) (λ r. r.room ≡ room) → IfSome (cond here (Some x) (record_of p xs)) (λ r. r.room ≡ room)
    by true later = All-head (λ r. r.room ≡ room) x xs h
    by false later = later

pub room_stored : {B : Type 0} (p : ProcId) (places : List (Option ℕ)) (room : ℕ) (live : List (RecordOf B)) → AreStored places room live →
    IfSome (record_of p live) (λ r. r.room ≡ room)
room_stored p places room live h = room_found p room live h.rooms

pub its_place : {B : Type 0} (p : ProcId) (live : List (RecordOf B)) (at : ℕ) (old : List (Option ℕ)) → AreIndexed old live → StandsAt p live at
    → place_of_number p.0 old ≡ Some at
its_place p [] at old h stands = absurd (omega (arith, stands.below))
its_place p (x ∷ xs) at old h stands =
    ap (λ n. place_of_number n old) (sym (found_number p (x ∷ xs) (slice_index_or (x ∷ xs) at x) (stands.found x)) ∙ sym (number_at (x ∷ xs) at 0 x stands.below))
    ∙ h.placed at 0 (omega (arith, stands.below, few (x ∷ xs)))

pub has_place : {B : Type 0} (p : ProcId) (live : List (RecordOf B)) (at : ℕ) (old : List (Option ℕ)) → AreIndexed old live → StandsAt p live at
    → IsSome (place_of_number p.0 old)
has_place p live at old h stands = rw (its_place p live at old h stands) refl

module _ {B : Type 0} (p : ProcId) (live : List (RecordOf B)) (at : ℕ) (r : RecordOf B) (old : List (Option ℕ)) (h : AreIndexed old live) (stands : StandsAt p live at) where
  some : 0 < length live
  some = omega (arith, stands.below)

  there : place_of_number p.0 old ≡ Some at
  there = its_place p live at old h stands

  abbrev gone : List (Option ℕ)
  gone = slice_set old p.0 None

  goes : SetsPlace p.0 None old gone
  goes = set_there p.0 None old (has_number p.0 at old there)

  abbrev remaining : List ℕ
  remaining = numbers (swap_remove live at r)

  remaining-is : remaining ≡ swap_remove (numbers live) at 0
  remaining-is = numbers_taken live at 0 r some

  abbrev end : ℕ
  end = length (numbers live) - 1

  many-remain : length remaining ≡ end
  many-remain = ap length remaining-is ∙ fewer p.0 at old gone gone (numbers live) 0 h there goes

  abbrev last-number : ℕ
  last-number = slice_index_or (numbers live) end 0

  module _ (less : at < length remaining) where
    number-is : (d : ℕ) → slice_index_or remaining at d ≡ last-number
    number-is d =
        get_or_default remaining at d 0 less ∙ ap (λ ns. slice_index_or ns at 0) remaining-is
        ∙ moved p.0 at old gone gone (numbers live) 0 h there goes 0 (omega (arith, less, many-remain))

    last-place : place_of_number last-number gone ≡ Some end
    last-place =
        let within : end < length (numbers live) = omega (arith, some, few live) in
        let other : end ≢ at = λ same. omega (arith, same, less, many-remain) in
        goes.elsewhere last-number (not-gone p.0 at old gone gone (numbers live) 0 h there goes end 0 within other) ∙ h.placed end 0 within

  pub last_found : IsFoundSomewhere gone remaining at
  last_found d less = rw (number-is less d, last-place less) refl

  taken_indexed : AreIndexed (found_there gone remaining at) (swap_remove live at r)
  taken_indexed = by (cases_lt at (length remaining))
    where
      by : (at < length remaining) ⊎ (length remaining ≤ at) → AreIndexed (found_there gone remaining at) (swap_remove live at r)
      by (inl less) =
          let new : List (Option ℕ) = slice_set gone last-number (Some at) in
          let sets : SetsPlace last-number (Some at) gone new = set_there last-number (Some at) gone (has_number last-number end gone (last-place less)) in
          let is : nat_lt at (length remaining) ≡ true = grind (arith, nat_tests, less) in
          rw (is, number-is less 0, remaining-is) (one_taken p.0 at old gone new (numbers live) 0 h there goes (omega (arith, less, many-remain)) sets)
      by (inr past) =
          let within : at < length (numbers live) = omega (arith, stands.below, few live) in
          let is : nat_lt at (length remaining) ≡ false = grind (arith, nat_tests, past) in
          rw (is, remaining-is) (last_taken p.0 at old gone gone (numbers live) 0 h there goes (omega (arith, within, past, many-remain)))

  pub taken_stored : (room : ℕ) → All (λ x. x.room ≡ room) live → r ≡ slice_index_or live at r →
      AreStored (found_there gone remaining at) room (swap_remove live at r)
  taken_stored room rooms is = record {
    indexed = taken_indexed;
    rooms =
        All-tail (λ x. x.room ≡ room) r (swap_remove live at r)
        (All-permutation (λ x. x.room ≡ room) live (r ∷ swap_remove live at r) (taken live at r stands.below is) rooms);
  }
