-- The entries of a map as things with names.
use Rattle.std.proofs.Common.{◌≡◌, refl, ap, ◌∙◌, ℕ, suc, ◌+◌, Bool, true, false, List, [], ◌∷◌, ◌++◌, length, map, Option, Some, None, is_some, option_map, cond, position, nat_lt, if◌then◌else◌, arith}
use Rattle.std.specs.List.{position_or_len}
use Rattle.std.specs.Map.{lookup, keys_of, values_of}
use Rattle.std.proofs.lemmas.List.{map-append}
use Rattle.std.proofs.lemmas.Bool.{true≢false}
use Rattle.std.proofs.lemmas.Bool.Decides.{nat_tests}
use Rattle.sim_language.specs.Lines.{Word, same}
use Rattle.sim_language.specs.Named.{Named, value_of, place_of, with_one}

pub none_of : {V : Type 0} (found : Option V) → is_some found ≡ false → found ≡ None
none_of None h = refl
none_of (Some v) h = absurd (true≢false h)

abbrev pub by_word : {K : Type 0} → (K → Word) → K → K → Bool
by_word word k l = same (word k) (word l)

one_further : (n m : ℕ) → cond (nat_lt (1 + n) (suc m)) (Some (1 + n)) None ≡ option_map suc (cond (nat_lt n m) (Some n) None)
one_further n m = by (nat_lt n m) refl
  where
    one : 1 + n ≡ suc n
    one = omega arith

    by : (b : Bool) → nat_lt n m ≡ b → cond (nat_lt (1 + n) (suc m)) (Some (1 + n)) None ≡ option_map suc (cond (nat_lt n m) (Some n) None)
    by true e = let f : nat_lt (suc n) (suc m) ≡ true = grind (arith, nat_tests) in rw (one, e, f) refl
    by false e = let f : nat_lt (suc n) (suc m) ≡ false = grind (arith, nat_tests) in rw (one, e, f) refl

none_further : (m : ℕ) → cond {A = Option ℕ} (nat_lt 0 (suc m)) (Some 0) None ≡ Some 0
none_further m = let f : nat_lt 0 (suc m) ≡ true = grind (arith, nat_tests) in rw f refl

position-cons : {X : Type 0} (test : X → Bool) (x : X) (xs : List X) → position test (x ∷ xs) ≡ (if test x then Some 0 else option_map suc (position test xs))
position-cons test x xs = by (test x) refl
  where
    by : (b : Bool) → test x ≡ b → position test (x ∷ xs) ≡ (if test x then Some 0 else option_map suc (position test xs))
    by true e = rw e (none_further (length xs))
    by false e = rw e (one_further (position_or_len test xs) (length xs))

module _ {K V : Type 0} (word : K → Word) where
  abbrev pub named_by : K × V → Named V
  named_by e = record { name = word e.0; value = e.1 }

  pub value_of_entries : (k : K) (es : List (K × V)) → lookup (by_word word k) es ≡ value_of (word k) (map named_by es)
  value_of_entries k [] = refl
  value_of_entries k (e ∷ es) = rw (value_of_entries k es) refl

  pub place_of_entries : (k : K) (es : List (K × V)) → position (by_word word k) (keys_of es) ≡ place_of (word k) (map named_by es)
  place_of_entries k [] = refl
  place_of_entries k (e ∷ es) = position-cons (by_word word k) e.0 (keys_of es) ∙ ap (λ o. if same (word k) (word e.0) then Some 0 else option_map suc o) (place_of_entries k es)

  pub value_at_entries : (es : List (K × V)) → map (λ n. n.value) (map named_by es) ≡ values_of es
  value_at_entries [] = refl
  value_at_entries (e ∷ es) = ap (λ vs. e.1 ∷ vs) (value_at_entries es)

  -- a new name stands behind the others
  pub with_one_new : (k : K) (v : V) (es : List (K × V)) → lookup (by_word word k) es ≡ None
      → map named_by (es ++ (k, v) ∷ []) ≡ with_one (map named_by es) (named_by (k, v))
  with_one_new k v es absent = rw (← value_of_entries k es, absent) (map-append named_by es ((k, v) ∷ []))

  -- a name that is there keeps its value
  pub with_one_known : (k : K) (v : V) (es : List (K × V)) → is_some (lookup (by_word word k) es) ≡ true
      → map named_by es ≡ with_one (map named_by es) (named_by (k, v))
  with_one_known k v es known = rw (← value_of_entries k es, known) refl
