-- The statements of each process kind, while more come.
--     fits_from final code k      the statements of the kind, up to the end of its process, fit it
--     is_closed code k            its process has ended
use Rattle.std.specs.Prelude.{◌≡◌, refl, ℕ, zero, suc, ◌≤◌, Bool, true, List, [], ◌∷◌, ◌++◌, length, drop}
use Rattle.std.specs.List.{list_all, list_any}
use Rattle.std.proofs.Common.{arith, ap}
use Rattle.std.proofs.lemmas.Bool.{false≢true, and_parts, and_from, or_left, or_right}
use Rattle.std.proofs.lemmas.List.{drop-append-le, drop_all}
use Rattle.std.proofs.lemmas.List.Folds.{list_any-append}
use Rattle.sim_types.specs.Scenarios.{ScenarioOf}
use Rattle.sim_types.specs.declared.script.Kind.{Kind}
use Rattle.sim_types.specs.declared.script.Stmt.{Stmt}
use Rattle.sim_types.specs.declared.script.Stmt.TheVariants as stmt
use Rattle.sim_language.specs.FittingStatements.{statement_fits, up_to_end}
use Rattle.sim_language.specs.FittingBlocks.{is_end_process}

abbrev pub fits_from : ScenarioOf → List Stmt → Kind → Bool
fits_from final code k = list_all (statement_fits final k) (up_to_end (drop k.first code))

abbrev pub is_closed : List Stmt → Kind → Bool
is_closed code k = list_any is_end_process (drop k.first code)

-- what follows from two tests on each
pub list_all_both : {X : Type 0} (p q r : X → Bool) (xs : List X) → ((x : X) → p x ≡ true → q x ≡ true → r x ≡ true)
    → list_all p xs ≡ true → list_all q xs ≡ true → list_all r xs ≡ true
list_all_both p q r [] each h g = refl
list_all_both p q r (x ∷ xs) each h g =
    let first = and_parts (p x) (list_all p xs) h in
    let second = and_parts (q x) (list_all q xs) g in
    and_from _ _ (each x first.0 second.0) (list_all_both p q r xs each first.1 second.1)

-- ---- statements up to the end of a process

up_to_end_closed : (xs ys : List Stmt) → list_any is_end_process xs ≡ true → up_to_end (xs ++ ys) ≡ up_to_end xs
up_to_end_closed [] ys h = absurd (false≢true h)
up_to_end_closed (stmt.EndProcess ∷ xs) ys h = refl
up_to_end_closed (x ∷ xs) ys h = ap (λ rest. x ∷ rest) (up_to_end_closed xs ys h)

one_fits : (test : Stmt → Bool) (s : Stmt) → test s ≡ true → list_all test (up_to_end (s ∷ [])) ≡ true
one_fits test stmt.EndProcess h = rw h refl
one_fits test s h = rw h refl

more_fits : (test : Stmt → Bool) (xs : List Stmt) (s : Stmt) → list_all test (up_to_end xs) ≡ true → test s ≡ true
    → list_all test (up_to_end (xs ++ s ∷ [])) ≡ true
more_fits test [] s h one = one_fits test s one
more_fits test (stmt.EndProcess ∷ xs) s h one = h
more_fits test (x ∷ xs) s h one = let parts = and_parts (test x) (list_all test (up_to_end xs)) h in and_from _ _ parts.0 (more_fits test xs s parts.1 one)

-- ---- one statement more

closed_within : (n : ℕ) (code : List Stmt) → list_any is_end_process (drop n code) ≡ true → n ≤ length code
closed_within zero code h = omega arith
closed_within (suc n) [] h = absurd (false≢true h)
closed_within (suc n) (s ∷ code) h = let rest = closed_within n code h in omega arith

pub closed_push : (code : List Stmt) (s : Stmt) (k : Kind) → is_closed code k ≡ true → is_closed (code ++ s ∷ []) k ≡ true
closed_push code s k h = rw (drop-append-le k.first code (s ∷ []) (closed_within k.first code h), list_any-append is_end_process (drop k.first code) (s ∷ [])) (or_left _ _ h)

pub closed_fits : (final : ScenarioOf) (code : List Stmt) (s : Stmt) (k : Kind) → is_closed code k ≡ true
    → fits_from final code k ≡ true → fits_from final (code ++ s ∷ []) k ≡ true
closed_fits final code s k closed h = rw (drop-append-le k.first code (s ∷ []) (closed_within k.first code closed), up_to_end_closed (drop k.first code) (s ∷ []) closed) h

pub open_fits : (final : ScenarioOf) (code : List Stmt) (s : Stmt) (k : Kind) → k.first ≤ length code
    → fits_from final code k ≡ true → statement_fits final k s ≡ true → fits_from final (code ++ s ∷ []) k ≡ true
open_fits final code s k within h one = rw (drop-append-le k.first code (s ∷ []) within) (more_fits (statement_fits final k) (drop k.first code) s h one)

pub now_closed : (code : List Stmt) (s : Stmt) (k : Kind) → k.first ≤ length code → is_end_process s ≡ true → is_closed (code ++ s ∷ []) k ≡ true
now_closed code s k within h = rw (drop-append-le k.first code (s ∷ []) within, list_any-append is_end_process (drop k.first code) (s ∷ [])) (or_right _ _ (or_left _ _ h))

-- ---- a process that begins

pub begun_fits : (final : ScenarioOf) (code : List Stmt) (k : Kind) → length code ≡ k.first → fits_from final code k ≡ true
begun_fits final code k h = rw (drop_all k.first code (omega arith)) refl
