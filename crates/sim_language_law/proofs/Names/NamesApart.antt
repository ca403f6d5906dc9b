-- Lists of things whose names are all different.
--     Apart known ns      the names of ns are none of known, and all different
--     with_all_apart      such a list stays as it is where each name is taken once
--     fresh               what is taken, where names may stand twice
use Rattle.std.specs.Prelude.{◌≡◌, refl, Bool, true, false, if◌then◌else◌, List, [], ◌∷◌, ◌++◌, map}
use Rattle.std.specs.List.{AllByRecursion}
use Rattle.std.proofs.Common.{sym, ap, ◌∙◌, subst}
use Rattle.std.proofs.lemmas.Bool.{or_parts}
use Rattle.std.proofs.lemmas.List.{append_assoc, append-nil}
use Rattle.sim_language.specs.Lines.{Word, same, is_among}
use Rattle.sim_language.specs.Named.{Named, is_named, with_one, with_all}
use Rattle.sim_language.specs.NameFaults.{repeats}
use Rattle.sim_language_law.proofs.Names.NamedLists.{with_one_new}

abbrev pub Apart : {A : Type 0} → List (Named A) → List (Named A) → Type 0
Apart known [] = Unit {0}
Apart known (n ∷ ns) = (is_named n.name known ≡ false) × Apart (known ++ n ∷ []) ns

pub with_all_apart : {A : Type 0} (known ns : List (Named A)) → Apart known ns → with_all known ns ≡ known ++ ns
with_all_apart known [] h = sym (append-nil known)
with_all_apart known (n ∷ ns) h = ap (λ more. with_all more ns) (with_one_new known n h.0) ∙ (with_all_apart (known ++ n ∷ []) ns h.1 ∙ append_assoc known (n ∷ []) ns)

pub with_all_append : {A : Type 0} (known ns ms : List (Named A)) → with_all known (ns ++ ms) ≡ with_all (with_all known ns) ms
with_all_append known [] ms = refl
with_all_append known (n ∷ ns) ms = with_all_append (with_one known n) ns ms

-- one more at the end
pub apart_push : {A : Type 0} (known ns : List (Named A)) (n : Named A) → Apart known ns → is_named n.name (known ++ ns) ≡ false → Apart known (ns ++ n ∷ [])
apart_push known [] n h new = (subst (λ more. is_named n.name more ≡ false) (append-nil known) new, tt)
apart_push known (m ∷ ns) n h new = (h.0, apart_push (known ++ m ∷ []) ns n h.1 (subst (λ more. is_named n.name more ≡ false) (sym (append_assoc known (m ∷ []) ns)) new))

-- ---- what is taken of a list

abbrev pub fresh : {A : Type 0} → List (Named A) → List (Named A) → List (Named A)
fresh known [] = []
fresh known (n ∷ ns) = if is_named n.name known then fresh known ns else n ∷ fresh (known ++ n ∷ []) ns

pub with_all_fresh : {A : Type 0} (known ns : List (Named A)) → with_all known ns ≡ known ++ fresh known ns
with_all_fresh known [] = sym (append-nil known)
with_all_fresh known (n ∷ ns) = by (is_named n.name known) (with_all_fresh known ns) (with_all_fresh (known ++ n ∷ []) ns)
  where
    by : (b : Bool) → with_all known ns ≡ known ++ fresh known ns
        → with_all (known ++ n ∷ []) ns ≡ (known ++ n ∷ []) ++ fresh (known ++ n ∷ []) ns
        → with_all (if b then known else known ++ n ∷ []) ns
        ≡ known ++ (if b then fresh known ns else n ∷ fresh (known ++ n ∷ []) ns)
    by true old new = old
    by false old new = new ∙ append_assoc known (n ∷ []) (fresh (known ++ n ∷ []) ns)

pub fresh_apart : {A : Type 0} (known ns : List (Named A)) → Apart known (fresh known ns)
fresh_apart known [] = tt
fresh_apart known (n ∷ ns) = by (is_named n.name known) refl (fresh_apart known ns) (fresh_apart (known ++ n ∷ []) ns)
  where
    by : (b : Bool) → is_named n.name known ≡ b → Apart known (fresh known ns)
        → Apart (known ++ n ∷ []) (fresh (known ++ n ∷ []) ns)
        → Apart known (if b then fresh known ns else n ∷ fresh (known ++ n ∷ []) ns)
    by true e old new = old
    by false e old new = (e, new)

pub fresh_all : {A : Type 0} (P : Named A → Type 0) (known ns : List (Named A)) → AllByRecursion P ns → AllByRecursion P (fresh known ns)
fresh_all P known [] all = tt
fresh_all P known (n ∷ ns) all = by (is_named n.name known) (fresh_all P known ns all.1) (fresh_all P (known ++ n ∷ []) ns all.1)
  where
    by : (b : Bool) → AllByRecursion P (fresh known ns) → AllByRecursion P (fresh (known ++ n ∷ []) ns)
        → AllByRecursion P (if b then fresh known ns else n ∷ fresh (known ++ n ∷ []) ns)
    by true old new = old
    by false old new = (all.0, new)

-- ---- names that do not repeat

not_among : {A : Type 0} (w : Word) (known : List (Named A)) → AllByRecursion (λ k. same w k.name ≡ false) known → is_named w known ≡ false
not_among w [] all = refl
not_among w (k ∷ known) all = rw (all.0) (not_among w known all.1)

pub all_push : {X : Type 0} (P : X → Type 0) (xs : List X) (x : X) → AllByRecursion P xs → P x → AllByRecursion P (xs ++ x ∷ [])
all_push P [] x all one = (one, tt)
all_push P (y ∷ xs) x all one = (all.0, all_push P xs x all.1 one)

pub all_append : {X : Type 0} (P : X → Type 0) (xs ys : List X) → AllByRecursion P xs → AllByRecursion P ys → AllByRecursion P (xs ++ ys)
all_append P [] ys all more = more
all_append P (x ∷ xs) ys all more = (all.0, all_append P xs ys all.1 more)

pub all_weaker : {X : Type 0} (P Q : X → Type 0) (xs : List X) → ((x : X) → P x → Q x) → AllByRecursion P xs → AllByRecursion Q xs
all_weaker P Q [] each all = tt
all_weaker P Q (x ∷ xs) each all = (each x all.0, all_weaker P Q xs each all.1)

pub repeats_apart : {A : Type 0} (known ns : List (Named A))
    → AllByRecursion (λ k. is_among k.name (map (λ n. n.name) ns) ≡ false) known → repeats (map (λ n. n.name) ns) ≡ false
    → Apart known ns
repeats_apart known [] before h = tt
repeats_apart known (n ∷ ns) before h =
    let parts = or_parts (is_among n.name (map (λ m. m.name) ns)) (repeats (map (λ m. m.name) ns)) h in
    (not_among n.name known (all_weaker _ _ known (λ k e. (or_parts (same n.name k.name) (is_among k.name (map (λ m. m.name) ns)) e).0) before), repeats_apart (known ++ n ∷ []) ns (all_push _ known n (all_weaker _ _ known (λ k e. (or_parts (same n.name k.name) (is_among k.name (map (λ m. m.name) ns)) e).1) before) parts.0) parts.1)
