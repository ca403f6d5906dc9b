-- Events that are the same, and what is left of a list once some are left out.
use Rattle.std.proofs.Common.{◌≡◌, ◌≢◌, ℕ, Bool, true, false, not, List, [], ◌∷◌, refl, ap, filter, arith, All}
use Rattle.std.specs.List.{list_any}
use Rattle.std.proofs.lemmas.Bool.{false_from_ne_true}
use Rattle.std.proofs.lemmas.Bool.Decides.{nat_tests}
use Rattle.std.proofs.lemmas.List.Elements.{All-head, All-tail}
use Rattle.sim_types.specs.declared.event.EventId.{EventId}
use Rattle.sim_machine.specs.Events.{is_same}

same_event : (e f : EventId) → e.0 ≡ f.0 → e ≡ f
same_event e f h = ap (λ (n : ℕ). record { 0 = n }) h

pub same_yes : (e f : EventId) → is_same e f ≡ true → e ≡ f
same_yes e f h = same_event e f (grind (arith, nat_tests))

pub same_self : (e : EventId) → is_same e e ≡ true
same_self e = grind (arith, nat_tests)

pub same_no : (e f : EventId) → e ≢ f → is_same e f ≡ false
same_no e f h = false_from_ne_true (is_same e f) (λ yes. h (same_yes e f yes))

pub none_left_out : {X : Type 0} (p : X → Bool) (xs : List X) → All (λ x. p x ≡ false) xs → filter (λ x. not (p x)) xs ≡ xs
none_left_out p [] h = refl
none_left_out p (x ∷ xs) h = rw (All-head (λ y. p y ≡ false) x xs h) (ap (λ ys. x ∷ ys) (none_left_out p xs (All-tail (λ y. p y ≡ false) x xs h)))

-- where none passes, none is left out
pub none_any : {X : Type 0} (p : X → Bool) (xs : List X) → list_any p xs ≡ false → filter (λ x. not (p x)) xs ≡ xs
none_any p [] h = refl
none_any {X} p (x ∷ xs) h = by (p x) refl (none_any p xs) h
  where
    by : (b : Bool) → p x ≡ b → (list_any p xs ≡ false → filter (λ y. not (p y)) xs ≡ xs) → list_any p (x ∷ xs) ≡ false →
        filter (λ y. not (p y)) (x ∷ xs) ≡ x ∷ xs
    by true is rest h = absurd (not_both (rw is at h))
      where
        not_both : true ≡ false → ⊥
        not_both h = cc
    by false is rest h = rw is (ap (λ ys. x ∷ ys) (rest (rw is at h)))
