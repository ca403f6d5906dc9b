-- The innermost of the open scopes, and the one that is found among them.
use Rattle.std.proofs.Common.{◌≡◌, ◌≢◌, ℕ, zero, suc, ◌+◌, ◌<◌, ◌≤◌, List, [], ◌∷◌, ◌++◌, ◌∙◌, length, drop, refl, sym, ap, add-one, arith, Option, Some, None, cond, slice_index_or}
use Rattle.std.specs.Prelude.{◌==◌, ◌↔◌, IsSome, option_to_list}
use Rattle.std.proofs.lemmas.Bool.{false≢true}
use Rattle.std.proofs.lemmas.List.{append-nil}
use Rattle.std.proofs.lemmas.Bool.Decides.{nat_tests}
use Rattle.sim_types.specs.declared.event.EventId.{EventId}
use Rattle.sim_types.specs.declared.event.Scope.{Scope}
use Rattle.sim_procs.specs.RecordOf.{innermost, without_innermost, scope_of}

innermost_of : (ys : List Scope) (s : Scope) → innermost (ys ++ s ∷ []) ≡ Some s
innermost_of [] s = refl
innermost_of (y ∷ []) s = refl
innermost_of (y ∷ z ∷ ys) s = innermost_of (z ∷ ys) s

outer_of : (ys : List Scope) (s : Scope) → without_innermost (ys ++ s ∷ []) ≡ ys
outer_of [] s = refl
outer_of (y ∷ []) s = refl
outer_of (y ∷ z ∷ ys) s = ap (λ zs. y ∷ zs) (outer_of (z ∷ ys) s)

-- where the last was taken out, it was the innermost
pub innermost_taken : (xs ys : List Scope) (o : Option Scope) → xs ≡ ys ++ option_to_list o → IsSome o ↔ (0 < length xs) → o ≡ innermost xs
innermost_taken [] ys None is some = refl
innermost_taken (x ∷ xs) ys None is some = absurd (false≢true (some.1 (omega arith)))
innermost_taken xs ys (Some s) is some = sym (ap innermost is ∙ innermost_of ys s)

-- and the others are left
pub outer_taken : (xs ys : List Scope) (o : Option Scope) → xs ≡ ys ++ option_to_list o → IsSome o ↔ (0 < length xs) → ys ≡ without_innermost xs
outer_taken [] ys None is some = sym (is ∙ append-nil ys)
outer_taken (x ∷ xs) ys None is some = absurd (false≢true (some.1 (omega arith)))
outer_taken xs ys (Some s) is some = sym (ap without_innermost is ∙ outer_of ys s)

here : (a b : ℕ) (s : Scope) (o : Option Scope) → a ≡ b → cond (a == b) (Some s) o ≡ Some s
here a b s o h = grind (arith, nat_tests)

elsewhere : (a b : ℕ) (s : Scope) (o : Option Scope) → a ≢ b → cond (a == b) (Some s) o ≡ o
elsewhere a b s o h = grind (arith, nat_tests)

pub found_here : (request : EventId) (xs : List Scope) (i : ℕ) (d : Scope) → i < length xs
    → (slice_index_or xs i d).request.0 ≡ request.0 → Some (slice_index_or xs i d) ≡ scope_of request (drop i xs)
found_here request [] i d below h = absurd (omega (arith, below))
found_here request (x ∷ xs) zero d below h = sym (here x.request.0 request.0 x (scope_of request xs) h)
found_here request (x ∷ xs) (suc i) d below h = found_here request xs i d (omega (arith, below)) h

later : (request : EventId) (xs : List Scope) (i : ℕ) (d : Scope) → i < length xs
    → (slice_index_or xs i d).request.0 ≢ request.0 → scope_of request (drop (suc i) xs) ≡ scope_of request (drop i xs)
later request [] i d below h = absurd (omega (arith, below))
later request (x ∷ xs) zero d below h = sym (elsewhere x.request.0 request.0 x (scope_of request xs) h)
later request (x ∷ xs) (suc i) d below h = later request xs i d (omega (arith, below)) h

pub found_later : (request : EventId) (xs : List Scope) (i : ℕ) (d : Scope) → i < length xs
    → (slice_index_or xs i d).request.0 ≢ request.0 → scope_of request (drop (i + 1) xs) ≡ scope_of request (drop i xs)
found_later request xs i d below h = rw add-one (later request xs i d below h)

pub found_nowhere : (request : EventId) (xs : List Scope) (i : ℕ) → length xs ≤ i → None ≡ scope_of request (drop i xs)
found_nowhere request [] zero h = refl
found_nowhere request [] (suc i) h = refl
found_nowhere request (x ∷ xs) zero h = absurd (omega (arith, h))
found_nowhere request (x ∷ xs) (suc i) h = found_nowhere request xs i (omega (arith, h))

never_none : (x : Scope) (xs : List Scope) → innermost (x ∷ xs) ≡ None → ⊥
never_none x [] h = cc
never_none x (y ∷ xs) h = never_none y xs h

-- where no scope is the innermost, none is open
pub none_left : (xs : List Scope) → innermost xs ≡ None → without_innermost xs ≡ []
none_left [] h = refl
none_left (x ∷ []) h = refl
none_left (x ∷ y ∷ xs) h = absurd (never_none x (y ∷ xs) h)

-- one scope fewer is open once the innermost was left
pub fewer_left : (xs : List Scope) (s : Scope) → innermost xs ≡ Some s → length (without_innermost xs) < length xs
fewer_left [] s h = absurd (cc)
fewer_left (x ∷ []) s h = omega arith
fewer_left (x ∷ y ∷ xs) s h = omega (arith, fewer_left (y ∷ xs) s h)

-- what is asked of a scope that is looked for, and of the innermost that is closed
pub ruleset finding = (found_here, found_later, found_nowhere)

pub ruleset popping = (innermost_taken, outer_taken)
