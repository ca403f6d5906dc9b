-- What is left of a list where the one element that passes a test is taken out at its place.
use Rattle.std.proofs.Common.{◌≡◌, ◌≢◌, ℕ, ◌+◌, suc, ◌<◌, ◌≤◌, Bool, true, false, not, List, [], ◌∷◌, length, Option, Some, None, position, nat_lt, refl, sym, ap, subst, ◌∙◌, filter, arith, AllPairs, if◌then◌else◌, get_or, HoldsAt}
use Rattle.std.specs.List.{position_or_len, list_any, remove}
use Rattle.std.proofs.lemmas.Bool.{false_from_ne_true}
use Rattle.std.proofs.lemmas.Bool.Decides.{nat_tests}
use Rattle.std.proofs.lemmas.Option.{cond_some}
use Rattle.std.proofs.lemmas.List.Sums.{position_or_len_is}
use Rattle.std.proofs.lemmas.List.Elements.{All-weaker}
use Rattle.sim_types.proofs.Permutations.{AllPairs-head, AllPairs-tail}
use Rattle.sim_types.specs.declared.event.EventId.{EventId}
use Rattle.sim_machine.specs.Events.{is_same, without_first}
use Rattle.sim_shared_model.proofs.LeftOut.{same_yes, none_left_out}
use Rattle.sim_places.specs.Places.{IsPlaceFound}

-- ---- a request

-- ---- any test

-- no two elements pass the test
abbrev pub PassAlone : {X : Type 0} → (X → Bool) → List X → Type 0
PassAlone p xs = AllPairs (λ x y. p x ≡ true → p y ≡ true → ⊥) xs

first_taken : {X : Type 0} (p : X → Bool) (xs : List X) → position_or_len p xs < length xs → remove xs (position_or_len p xs) ≡ without_first p xs
first_taken p [] h = refl
first_taken {X} p (x ∷ xs) h = by (p x) refl (first_taken p xs) h
  where
    by : (b : Bool) → p x ≡ b → (position_or_len p xs < length xs → remove xs (position_or_len p xs) ≡ without_first p xs) →
        position_or_len p (x ∷ xs) < length (x ∷ xs) → remove (x ∷ xs) (position_or_len p (x ∷ xs)) ≡ without_first p (x ∷ xs)
    by true is rest h = rw is refl
    by false is rest h =
        let one : 1 + position_or_len p xs ≡ suc (position_or_len p xs) = omega arith in
        let below : position_or_len p xs < length xs = omega (arith, rw is at h) in
        rw (is, one) (ap (λ ys. x ∷ ys) (rest below))

first_alone : {X : Type 0} (p : X → Bool) (xs : List X) → PassAlone p xs → without_first p xs ≡ filter (λ x. not (p x)) xs
first_alone p [] h = refl
first_alone {X} p (x ∷ xs) h = by (p x) refl (first_alone p xs (AllPairs-tail (λ y z. p y ≡ true → p z ≡ true → ⊥) x xs h))
  where
    by : (b : Bool) → p x ≡ b → without_first p xs ≡ filter (λ y. not (p y)) xs → without_first p (x ∷ xs) ≡ filter (λ y. not (p y)) (x ∷ xs)
    by true is rest =
        rw is (sym (none_left_out p xs (All-weaker (λ y. p x ≡ true → p y ≡ true → ⊥) (λ y. p y ≡ false) (λ y alone. false_from_ne_true (p y) (alone is)) xs (AllPairs-head (λ y z. p y ≡ true → p z ≡ true → ⊥) x xs h))))
    by false is rest = rw is (ap (λ ys. x ∷ ys) rest)

passes_before : {X : Type 0} (p : X → Bool) (xs : List X) → position_or_len p xs < length xs → list_any p xs ≡ true
passes_before p [] h = absurd (omega arith)
passes_before {X} p (x ∷ xs) h = by (p x) refl (passes_before p xs) h
  where
    by : (b : Bool) → p x ≡ b → (position_or_len p xs < length xs → list_any p xs ≡ true) → position_or_len p (x ∷ xs) < length (x ∷ xs) →
        list_any p (x ∷ xs) ≡ true
    by true is rest h = rw is refl
    by false is rest h = rw is (rest (omega (arith, rw is at h)))

none_before : {X : Type 0} (p : X → Bool) (xs : List X) → length xs ≤ position_or_len p xs → (list_any p xs ≡ false) × (filter (λ x. not (p x)) xs ≡ xs)
none_before p [] h = (refl, refl)
none_before {X} p (x ∷ xs) h = by (p x) refl (none_before p xs) h
  where
    by : (b : Bool) → p x ≡ b → (length xs ≤ position_or_len p xs → (list_any p xs ≡ false) × (filter (λ y. not (p y)) xs ≡ xs)) →
        length (x ∷ xs) ≤ position_or_len p (x ∷ xs) → (list_any p (x ∷ xs) ≡ false) × (filter (λ y. not (p y)) (x ∷ xs) ≡ x ∷ xs)
    by true is rest h = absurd (omega (arith, rw is at h))
    by false is rest h =
        let later = rest (omega (arith, rw is at h)) in
        (rw is later.0, rw is (ap (λ ys. x ∷ ys) later.1))

found_place : {X : Type 0} (p : X → Bool) (xs : List X) (i : ℕ) → position p xs ≡ Some i → (position_or_len p xs ≡ i) × (position_or_len p xs < length xs)
found_place p xs i h =
    let parts = cond_some (nat_lt (position_or_len p xs) (length xs)) (position_or_len p xs) i h in
    (parts.1, below (position_or_len p xs) (length xs) parts.0)
  where
    below : (m n : ℕ) → nat_lt m n ≡ true → m < n
    below m n h = grind (arith, nat_tests)

-- at the place that was found stands one that passes, and without it there are all others
pub place_within : {X : Type 0} (p : X → Bool) (xs : List X) (i : ℕ) → position p xs ≡ Some i → i < length xs
place_within p xs i h = let f = found_place p xs i h in omega arith

pub one_passes : {X : Type 0} (p : X → Bool) (xs : List X) (i : ℕ) → position p xs ≡ Some i → list_any p xs ≡ true
one_passes p xs i h = passes_before p xs (found_place p xs i h).1

pub taken_out : {X : Type 0} (p : X → Bool) (xs : List X) (i : ℕ) → PassAlone p xs → position p xs ≡ Some i → remove xs i ≡ filter (λ x. not (p x)) xs
taken_out p xs i alone h =
    let f = found_place p xs i h in
    subst (λ n. remove xs n ≡ filter (λ x. not (p x)) xs) f.0 (first_taken p xs f.1 ∙ first_alone p xs alone)

-- no place was found
far : {X : Type 0} (p : X → Bool) (xs : List X) (b : Bool) → nat_lt (position_or_len p xs) (length xs) ≡ b →
    (if b then Some (position_or_len p xs) else None) ≡ None → length xs ≤ position_or_len p xs
far p xs true is h = absurd (no_place (position_or_len p xs) h)
  where
    no_place : (n : ℕ) → Some n ≡ None → ⊥
    no_place n h = cc
far p xs false is h = beyond (position_or_len p xs) (length xs) is
  where
    beyond : (m n : ℕ) → nat_lt m n ≡ false → n ≤ m
    beyond m n h = grind (arith, nat_tests)

pub none_passes : {X : Type 0} (p : X → Bool) (xs : List X) → position p xs ≡ None → list_any p xs ≡ false
none_passes p xs h = (none_before p xs (far p xs (nat_lt (position_or_len p xs) (length xs)) refl h)).0

pub none_taken : {X : Type 0} (p : X → Bool) (xs : List X) → position p xs ≡ None → filter (λ x. not (p x)) xs ≡ xs
none_taken p xs h = (none_before p xs (far p xs (nat_lt (position_or_len p xs) (length xs)) refl h)).1

-- where no two pass, one that passes stands at the first place of all
place_alone : {X : Type 0} (p : X → Bool) (xs : List X) (i : ℕ) (d : X) → PassAlone p xs → i < length xs → p (get_or xs i d) ≡ true
    → position p xs ≡ Some i
place_alone p xs i d alone within passes =
    let before : (k : ℕ) → k < i → p (get_or xs k d) ≡ false = λ k less. false_from_ne_true (p (get_or xs k d)) (λ yes. alone k i d less within yes passes) in
    let at = position_or_len_is p xs i d (omega arith) before (λ _. passes) in
    placed (position_or_len p xs) i (length xs) at within
  where
    placed : (n i len : ℕ) → n ≡ i → i < len → (if nat_lt n len then Some n else None) ≡ Some i
    placed n i len is below = grind (arith, nat_tests)

-- where none passes there is no place
no_place : {X : Type 0} (p : X → Bool) (xs : List X) → ((k : ℕ) (d : X) → k < length xs → p (get_or xs k d) ≡ false) → position p xs ≡ None
no_place p [] fails = refl
no_place p (x ∷ xs) fails =
    let beyond = position_or_len_is p (x ∷ xs) (length (x ∷ xs)) x (omega arith) (λ k before. fails k x before) (λ h. absurd (omega (arith, h))) in
    unplaced (position_or_len p (x ∷ xs)) (length (x ∷ xs)) beyond
  where
    unplaced : (n len : ℕ) → n ≡ len → (if nat_lt n len then Some n else None) ≡ None
    unplaced n len is = grind (arith, nat_tests)

-- where no two pass, a place that was found is the first of all
pub place_found : {X : Type 0} (p : X → Bool) (xs : List X) {n : ℕ} {answers : ℕ → Bool → Type 0} (r : Option ℕ) → PassAlone p xs → n ≡ length xs
    → ((i : ℕ) (b : Bool) → answers i b → HoldsAt (λ x. b ≡ p x) xs i) → IsPlaceFound n answers r → r ≡ position p xs
place_found p xs None alone len test f = sym (no_place p xs (λ k d below. sym (test k false (f.all_fail refl k (omega arith)) d)))
place_found p [] (Some i) alone len test f = let below = f.passes.0 in absurd (omega (arith, below))
place_found p (x ∷ xs) (Some i) alone len test f =
    let below = f.passes.0 in
    sym (place_alone p (x ∷ xs) i x alone (omega (arith, below)) (sym (test i true f.passes.1 x)))

-- elements whose requests differ
pub alone_of : {X : Type 0} (request_of : X → EventId) (request : EventId) (xs : List X) → AllPairs (λ x y. request_of x ≢ request_of y) xs →
    PassAlone (λ x. is_same (request_of x) request) xs
alone_of request_of request xs h =
    λ i j d before below yes also. h i j d before below (same_yes _ request yes ∙ sym (same_yes _ request also))
