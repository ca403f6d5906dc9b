-- Records that are told apart by their numbers: one more, one that is found, one that is changed, one that is taken out.
use Rattle.std.proofs.Common.{◌≡◌, ◌≢◌, ℕ, suc, ◌<◌, List, [], ◌∷◌, ◌++◌, length, refl, sym, ap, ◌∙◌, arith, Option, Some, None, ◌⊎◌, inl, inr, cond, slice_get, slice_index_or, slice_set}
use Rattle.std.specs.Prelude.{All, AllPairs, ◌==◌}
use Rattle.std.specs.List.{swap_remove}
use Rattle.std.specs.List.Sorted.{IsPermutation}
use Rattle.std.proofs.lemmas.Bool.{cases_eq}
use Rattle.std.proofs.lemmas.Bool.Decides.{nat_tests}
use Rattle.std.proofs.lemmas.Option.{none-some, same_Some, slice_get-get_or}
use Rattle.std.proofs.lemmas.List.Elements.{All-cons, All-head, All-tail, All-nil, All-weaker}
use Rattle.std.proofs.lemmas.List.Sorted.{IsPermutation-sym, IsPermutation-to_front, IsPermutation-swap_remove}
use Rattle.std.proofs.lemmas.List.Folds.{find-append}
use Rattle.std.specs.Option.{option_or}
use Rattle.sim_types.specs.declared.event.ProcId.{ProcId}
use Rattle.sim_types.proofs.Permutations.{AllPairs-head, AllPairs-tail, AllPairs-IsPermutation, find-IsPermutation}
use Rattle.sim_procs.specs.RecordOf.{RecordOf, HasOtherId, record_of, change_record, StandsAt}

-- ---- one more

passes : {X : Type 0} (a b : ℕ) → a ≡ b → (o : Option X) (x : X) → cond (a == b) (Some x) o ≡ Some x
passes a b h o x = grind (arith, nat_tests)

goes_on : {X : Type 0} (a b : ℕ) (o : Option X) (x : X) → cond (a == b) (Some x) o ≡ None → o ≡ None
goes_on a b o x h = grind (arith, nat_tests)

-- what is not found is none of these
none_has : {B : Type 0} (p : ProcId) (xs : List (RecordOf B)) → record_of p xs ≡ None → All (λ r. r.id.0 ≢ p.0) xs
none_has p [] h = All-nil (λ r. r.id.0 ≢ p.0)
none_has p (x ∷ xs) h =
    All-cons (λ r. r.id.0 ≢ p.0) x xs (λ same. none-some x (sym h ∙ passes x.id.0 p.0 same (record_of p xs) x)) (none_has p xs (goes_on x.id.0 p.0 (record_of p xs) x h))

pub added : {B : Type 0} (x : RecordOf B) (xs : List (RecordOf B)) → IsPermutation (x ∷ xs) (xs ++ x ∷ [])
added x xs = IsPermutation-sym _ _ (IsPermutation-to_front xs x)

-- ---- one that is found

kept : {X : Type 0} {xs ys : List X} (a b : ℕ) (y x : X) → a ≢ b → xs ≡ ys → cond (a == b) y x ∷ xs ≡ x ∷ ys
kept a b y x differ h = grind (arith, nat_tests)

-- where no record has the number, nothing is changed
unchanged : {B : Type 0} (p : ProcId) (change : RecordOf B → RecordOf B) (xs : List (RecordOf B)) → All (λ r. r.id.0 ≢ p.0) xs → change_record p change xs ≡ xs
unchanged p change [] h = refl
unchanged p change (x ∷ xs) h =
    kept x.id.0 p.0 (change x) x (All-head (λ r. r.id.0 ≢ p.0) x xs h) (unchanged p change xs (All-tail (λ r. r.id.0 ≢ p.0) x xs h))

kept_first : {X : Type 0} {xs ys : List X} (a b : ℕ) (y x : X) → a ≡ b → xs ≡ ys → cond (a == b) y x ∷ xs ≡ y ∷ ys
kept_first a b y x same h = grind (arith, nat_tests)

skips : {X : Type 0} (a b : ℕ) → a ≢ b → (o : Option X) (x : X) → cond (a == b) (Some x) o ≡ o
skips a b h o x = grind (arith, nat_tests)

pub first_stands : {B : Type 0} (p : ProcId) (x : RecordOf B) (xs : List (RecordOf B)) → x.id.0 ≡ p.0 → AllPairs HasOtherId (x ∷ xs) → StandsAt p (x ∷ xs) 0
first_stands p x xs same apart =
    let others : All (λ r. r.id.0 ≢ p.0) xs = All-weaker (HasOtherId x) (λ r. r.id.0 ≢ p.0) (λ r d. λ e. d (same ∙ sym e)) xs (AllPairs-head HasOtherId x xs apart) in
    record {
      below = omega arith;
      found = λ d. passes x.id.0 p.0 same (record_of p xs) x;
      changed = λ change. kept_first x.id.0 p.0 (change x) x same (unchanged p change xs others);
    }

set_by_get : {B : Type 0} (x : RecordOf B) (xs : List (RecordOf B)) (i : ℕ) (change : RecordOf B → RecordOf B)
    (o : Option (RecordOf B)) (r : RecordOf B) → o ≡ Some r
    → x ∷ elim o [ None ↦ xs | Some y ↦ slice_set xs i (change y) ]
    ≡ elim o [ None ↦ x ∷ xs | Some y ↦ x ∷ slice_set xs i (change y) ]
set_by_get x xs i change o r h = rw h refl

pub later_stands : {B : Type 0} (p : ProcId) (x : RecordOf B) (xs : List (RecordOf B)) (i : ℕ) → x.id.0 ≢ p.0 → StandsAt p xs i → StandsAt p (x ∷ xs) (suc i)
later_stands p x xs i differ h =
    record {
      below = omega (arith, h.below);
      found = λ d. skips x.id.0 p.0 differ (record_of p xs) x ∙ h.found d;
      changed = λ change. kept x.id.0 p.0 (change x) x differ (h.changed change) ∙ set_by_get x xs i change (slice_get xs i) (slice_index_or xs i x) (slice_get-get_or xs i x h.below);
    }

-- a process that is not alive has no record to change
pub unchanged_where_none : {B : Type 0} (p : ProcId) (change : RecordOf B → RecordOf B) (xs : List (RecordOf B))
    → record_of p xs ≡ None → change_record p change xs ≡ xs
unchanged_where_none p change xs h = unchanged p change xs (none_has p xs h)

-- ---- one that is taken out

pub taken : {B : Type 0} (xs : List (RecordOf B)) (i : ℕ) (x : RecordOf B) → i < length xs → x ≡ slice_index_or xs i x
    → IsPermutation xs (x ∷ swap_remove xs i x)
taken xs i x below is = IsPermutation-swap_remove xs i x below is

pub taken_apart : {B : Type 0} (xs : List (RecordOf B)) (i : ℕ) (x : RecordOf B) → AllPairs HasOtherId xs → i < length xs
    → x ≡ slice_index_or xs i x → AllPairs HasOtherId (swap_remove xs i x)
taken_apart xs i x apart below is =
    AllPairs-tail HasOtherId x (swap_remove xs i x) (AllPairs-IsPermutation HasOtherId (λ a b d. λ e. d (sym e)) xs (x ∷ swap_remove xs i x) (taken xs i x below is) apart)

-- ---- what is found once a record was added or taken out

same_number : {B : Type 0} (x y : RecordOf B) → x ≡ y → x.id.0 ≡ y.id.0
same_number {B} x y h =
    let number : RecordOf B → ℕ = λ r. r.id.0 in
    ap number h

found_by_number : {B : Type 0} (p : ProcId) (x y : RecordOf B) (o : Option (RecordOf B))
    → cond (x.id.0 == p.0) (Some x) o ≡ Some y → (o ≡ Some y → y.id.0 ≡ p.0) → (x.id.0 ≡ p.0) ⊎ (x.id.0 ≢ p.0) → y.id.0 ≡ p.0
found_by_number p x y o h later (inl same) = sym (same_number x y (same_Some x y (sym (passes x.id.0 p.0 same o x) ∙ h))) ∙ same
found_by_number p x y o h later (inr differ) = later (sym (skips x.id.0 p.0 differ o x) ∙ h)

pub found_number : {B : Type 0} (p : ProcId) (xs : List (RecordOf B)) (y : RecordOf B) → record_of p xs ≡ Some y → y.id.0 ≡ p.0
found_number p [] y h = absurd (none-some y h)
found_number p (x ∷ xs) y h = found_by_number p x y (record_of p xs) h (λ found. found_number p xs y found) (cases_eq x.id.0 p.0)

pub none_found : {B : Type 0} (p : ProcId) (xs : List (RecordOf B)) → All (λ r. r.id.0 ≢ p.0) xs → record_of p xs ≡ None
none_found p [] h = refl
none_found p (x ∷ xs) h =
    skips x.id.0 p.0 (All-head (λ r. r.id.0 ≢ p.0) x xs h) (record_of p xs) x ∙ none_found p xs (All-tail (λ r. r.id.0 ≢ p.0) x xs h)

taken_number : {B : Type 0} (p : ProcId) (xs : List (RecordOf B)) (i : ℕ) (x : RecordOf B) → StandsAt p xs i → x ≡ slice_index_or xs i x → x.id.0 ≡ p.0
taken_number {B} p xs i x at is = found_number p xs x (at.found x ∙ ap (λ (r : RecordOf B). Some r) (sym is))

pub gone_once_taken : {B : Type 0} (p : ProcId) (xs : List (RecordOf B)) (i : ℕ) (x : RecordOf B) → AllPairs HasOtherId xs
    → StandsAt p xs i → x ≡ slice_index_or xs i x → record_of p (swap_remove xs i x) ≡ None
gone_once_taken p xs i x apart at is =
    let number : x.id.0 ≡ p.0 = taken_number p xs i x at is in
    let whole : AllPairs HasOtherId (x ∷ swap_remove xs i x) = AllPairs-IsPermutation HasOtherId (λ a b d. λ e. d (sym e)) xs (x ∷ swap_remove xs i x) (taken xs i x at.below is) apart in
    none_found p (swap_remove xs i x) (All-weaker (HasOtherId x) (λ r. r.id.0 ≢ p.0) (λ r d. λ e. d (number ∙ sym e)) (swap_remove xs i x) (AllPairs-head HasOtherId x (swap_remove xs i x) whole))

pub others_once_taken : {B : Type 0} (p q : ProcId) (xs : List (RecordOf B)) (i : ℕ) (x : RecordOf B)
    → AllPairs HasOtherId xs → StandsAt p xs i → x ≡ slice_index_or xs i x → q.0 ≢ p.0
    → record_of q (swap_remove xs i x) ≡ record_of q xs
others_once_taken p q xs i x apart at is other =
    let number : x.id.0 ≡ p.0 = taken_number p xs i x at is in
    sym (skips x.id.0 q.0 (λ e. other (sym e ∙ number)) (record_of q (swap_remove xs i x)) x)
    ∙ sym (find-IsPermutation (λ r. r.id.0) q.0 xs (x ∷ swap_remove xs i x) (taken xs i x at.below is) apart)

pub found_once_added : {B : Type 0} (x : RecordOf B) (xs : List (RecordOf B)) → record_of x.id xs ≡ None → record_of x.id (xs ++ x ∷ []) ≡ Some x
found_once_added x xs new =
    find-append (λ r. r.id.0 == x.id.0) xs (x ∷ []) ∙ rw new (passes x.id.0 x.id.0 refl None x)

or_none : {X : Type 0} (o : Option X) → option_or o None ≡ o
or_none None = refl
or_none (Some x) = refl

pub others_once_added : {B : Type 0} (q : ProcId) (x : RecordOf B) (xs : List (RecordOf B)) → q.0 ≢ x.id.0 → record_of q (xs ++ x ∷ []) ≡ record_of q xs
others_once_added q x xs other =
    find-append (λ r. r.id.0 == q.0) xs (x ∷ []) ∙ rw (skips x.id.0 q.0 (λ e. other (sym e)) None x) (or_none (record_of q xs))

-- what is asked of a record that is added, and of one that is taken out
pub ruleset adding = (added, found_once_added, others_once_added)

pub ruleset taking = (taken, taken_apart, gone_once_taken, others_once_taken)
