-- The process kinds of a well-formed scenario: their variables, and how their statements stand.
use Rattle.std.proofs.Common.{◌≡◌, refl, sym, ap, subst, ◌∙◌, ℕ, zero, suc, ◌<◌, Bool, true, false, List, [], ◌∷◌, length, get_or, map, take, drop, Some, unwrap_or, slice_get, arith}
use Rattle.std.specs.Prelude.{◌&&◌, ◌==◌, nat_le, IsTrue, if◌then◌else◌}
use Rattle.std.specs.List.{list_all}
use Rattle.std.specs.Cmp.Lexicographic.{pointwise}
use Rattle.std.proofs.lemmas.Bool.{false≢true, and_parts, eqb-true}
use Rattle.std.proofs.lemmas.Option.{none-some, slice_get_within}
use Rattle.sim_types.specs.Scenarios.{ScenarioOf}
use Rattle.sim_types.specs.declared.setup.Class.{Class}
use Rattle.sim_types.specs.declared.setup.Class.TheVariants as class
use Rattle.sim_types.specs.declared.script.Kind.{Kind}
use Rattle.sim_types.specs.declared.script.Stmt.{Stmt}
use Rattle.sim_types.specs.declared.script.Stmt.TheVariants as stmt
use Rattle.sim_language.specs.FittingBlocks.{Open, OpenIf, open_then, stands_within, is_end_process, stand_well, code_fits, firsts, firsts_after}
use Rattle.sim_language.specs.FittingStatements.{script_fits}
use Rattle.sim_language.specs.WellFormed.{kind_fits, is_well_formed}
use Rattle.sim_language_law.proofs.Scenarios.WellFormedParts.{fits_well}
use Rattle.sim_script_law.specs.Walks.{Walks}
use Rattle.sim_script_law.specs.SoundScripts.{begins_with_number}

-- ---- where the statements of a kind begin

-- what all of a list pass, each of it passes
passes_at : {X : Type 0} (test : X → Bool) (xs : List X) (k : ℕ) (y : X) → slice_get xs k ≡ Some y → list_all test xs ≡ true → test y ≡ true
passes_at test [] k y is h = absurd (none-some y is)
passes_at test (x ∷ xs) zero y is h = ap (λ z. test (unwrap_or z x)) (sym is) ∙ (and_parts (test x) (list_all test xs) h).0
passes_at test (x ∷ xs) (suc k) y is h = passes_at test xs k y is (and_parts (test x) (list_all test xs) h).1

first_among : (kinds : List Kind) (fs : List ℕ) (k : ℕ) (kind : Kind) → slice_get kinds k ≡ Some kind
    → pointwise (λ m n. m == n) (map (λ k. k.first) kinds) (take (length kinds) fs) ≡ true → kind.first ≡ get_or fs k 0
first_among [] fs k kind is h = absurd (none-some kind is)
first_among (m ∷ kinds) [] k kind is h = absurd (false≢true h)
first_among (m ∷ kinds) (f ∷ fs) zero kind is h = ap (λ z. (unwrap_or z m).first) (sym is) ∙ eqb-true m.first f (and_parts (m.first == f) _ h).0
first_among (m ∷ kinds) (f ∷ fs) (suc k) kind is h = first_among kinds fs k kind is (and_parts (m.first == f) _ h).1

-- behind the end of a process no block is open
none_open : (n : ℕ) (opens : List Open) (s : Stmt) → is_end_process s ≡ true → stands_within n opens s ≡ true → open_then n opens s ≡ []
none_open n [] stmt.EndProcess ends h = refl
none_open n (OpenIf other ∷ opens) stmt.EndProcess ends h = absurd (false≢true h)
none_open n (o ∷ opens) stmt.EndProcess ends h = absurd (false≢true h)
none_open n opens s ends h = absurd (false≢true ends)

drop_next : {X : Type 0} (n : ℕ) (xs : List X) (y : X) (ys : List X) → drop n xs ≡ y ∷ ys → drop (suc n) xs ≡ ys
drop_next zero xs y ys e = ap (λ zs. drop 1 zs) e
drop_next (suc n) [] y ys e = absurd (omega (arith, ap (λ zs. length zs) e))
drop_next (suc n) (x ∷ xs) y ys e = drop_next n xs y ys e

-- at this place the statements stand well where no block is open
abbrev BeginsWell : List Stmt → ℕ → Type 0
BeginsWell code n = stand_well n [] (drop n code) ≡ true

-- one statement before those of which it is known
begins_before : (whole code : List Stmt) (n : ℕ) (opens : List Open) (s : Stmt) (b : Bool) → is_end_process s ≡ b
    → stands_within n opens s ≡ true → stand_well (suc n) (open_then n opens s) code ≡ true → drop (suc n) whole ≡ code
    → ((i : ℕ) → suc i < length (firsts_after (suc n) code) → BeginsWell whole (get_or (firsts_after (suc n) code) i 0))
    → (i : ℕ) → suc i < length (if b then suc n ∷ firsts_after (suc n) code else firsts_after (suc n) code)
    → BeginsWell whole (get_or (if b then suc n ∷ firsts_after (suc n) code else firsts_after (suc n) code) i 0)
begins_before whole code n opens s true ends stands behind next later zero lt = rw next (rw (none_open n opens s ends stands) at behind)
begins_before whole code n opens s true ends stands behind next later (suc i) lt = later i (omega arith)
begins_before whole code n opens s false ends stands behind next later i lt = later i lt

-- each process but the one behind the last begins well
begins_well : (whole code : List Stmt) (n : ℕ) (opens : List Open) → drop n whole ≡ code → stand_well n opens code ≡ true
    → (i : ℕ) → suc i < length (firsts_after n code) → BeginsWell whole (get_or (firsts_after n code) i 0)
begins_well whole [] n opens from h i lt = absurd (omega arith)
begins_well whole (s ∷ []) n opens from h i lt = absurd (by (is_end_process s) lt)
  where
    by : (b : Bool) → suc i < length (if b then suc n ∷ [] else []) → ⊥
    by true lt = omega arith
    by false lt = omega arith
begins_well whole (s ∷ t ∷ code) n opens from h i lt =
    let parts = and_parts (stands_within n opens s && nat_le (length (open_then n opens s)) 32) (stand_well (suc n) (open_then n opens s) (t ∷ code)) h in
    let stands = (and_parts (stands_within n opens s) (nat_le (length (open_then n opens s)) 32) parts.0).0 in
    let next = drop_next n whole s (t ∷ code) from in
    begins_before whole (t ∷ code) n opens s (is_end_process s) refl stands parts.1 next (λ j more. begins_well whole (t ∷ code) (suc n) (open_then n opens s) next parts.1 j more) i lt

first_stands : (code : List Stmt) (k : ℕ) → code_fits code ≡ true → suc k < length (firsts code) → BeginsWell code (get_or (firsts code) k 0)
first_stands [] k fits lt = absurd (omega arith)
first_stands (s ∷ code) zero fits lt = fits
first_stands (s ∷ code) (suc k) fits lt = begins_well (s ∷ code) (s ∷ code) 0 [] refl fits k (omega arith)

-- ---- a kind

val_is_number : (params first : ℕ) (classes : List Class)
    → kind_fits (record { params = params; first = first; classes = classes }) ≡ true → begins_with_number classes ≡ true
val_is_number params first (class.Number ∷ classes) h = refl
val_is_number params first [] h = (and_parts (nat_le params 8 && (0 == 64)) false h).1
val_is_number params first (_ ∷ classes) h = (and_parts (nat_le params 8 && (suc (length classes) == 64)) false h).1

-- a process of a kind begins with 64 variables, where no block is open
pub record KindBegins (x : ScenarioOf) (kind : Kind) : Type 0 where
  pub long : length kind.classes ≡ 64
  pub val : begins_with_number kind.classes ≡ true
  pub walks : Walks x kind kind.first []

pub kind_begins : (x : ScenarioOf) (k : ℕ) (kind : Kind) → IsTrue (is_well_formed x) → slice_get x.kinds k ≡ Some kind → KindBegins x kind
kind_begins x k kind well_formed is =
    let fits = fits_well x well_formed in
    let fit = passes_at kind_fits x.kinds k kind is fits.kinds in
    let first = first_among x.kinds (firsts x.code) k kind is fits.begin in
    let stands = first_stands x.code k fits.code (omega (arith, fits.count, slice_get_within x.kinds k kind is)) in
    record {
      long = eqb-true _ _ (and_parts (nat_le kind.params 8) (length kind.classes == 64) (and_parts (nat_le kind.params 8 && (length kind.classes == 64)) _ fit).0).1;
      val = val_is_number kind.params kind.first kind.classes fit;
      walks = record { stands = subst (BeginsWell x.code) (sym first) stands; fits = passes_at (script_fits x) x.kinds k kind is fits.scripts };
    }
