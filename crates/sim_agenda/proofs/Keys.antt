-- Keys that do not come before others.
use Rattle.std.proofs.Common.{◌≡◌, ℕ, ◌<◌, List, length, get_or, subst, arith}
use Rattle.std.proofs.lemmas.List.{get_or_default}
use Rattle.std.proofs.lemmas.Int.{ints}
use Rattle.sim_types.specs.Keys.{KeyOf, IsLess}
use Rattle.sim_types.specs.declared.event.Entry.{Entry}

-- b does not come before a, nor c before b, so c does not come before a
pub not_before : (a b c : KeyOf) → ¬ IsLess b a → ¬ IsLess c b → ¬ IsLess c a
not_before a b c p q = λ r. grind (arith, ints)

pub one_way : (a b : KeyOf) → IsLess a b → ¬ IsLess b a
one_way a b p = λ q. grind (arith, ints)

-- the same of entries that are equal to these
pub same_not_before : (a b x y : Entry) → a ≡ x → b ≡ y → ¬ IsLess x.key y.key → ¬ IsLess a.key b.key
same_not_before a b x y p q h = λ less. h (subst (λ (u : Entry). IsLess u.key y.key) p (subst (λ (v : Entry). IsLess a.key v.key) q less))

-- what is said of an entry that was read, whatever it is read with
pub comes_before : (xs : List Entry) (x : Entry) (i : ℕ) (d e : Entry) → i < length xs → IsLess x.key (get_or xs i e).key → IsLess x.key (get_or xs i d).key
comes_before xs x i d e within less = subst (λ (u : Entry). IsLess x.key u.key) (get_or_default xs i e d within) less
