-- The test on keys is an order.
use Rattle.std.proofs.Common.{◌≡◌, ◌∙◌, true, false, sym, arith}
use Rattle.std.proofs.lemmas.Bool.{false≢true, true_from_ne_false}
use Rattle.std.proofs.lemmas.Int.{ints}
use Rattle.sim_types.specs.declared.event.RequestKey.{RequestKey}
use Rattle.sim_machine.specs.Keys.{is_served_first}

pub first_one_way : (a b : RequestKey) → is_served_first a b ≡ true → is_served_first b a ≡ false
first_one_way a b h = grind (arith, ints)

pub first_chain : (a b c : RequestKey) → is_served_first a b ≡ false → is_served_first b c ≡ false → is_served_first a c ≡ false
first_chain a b c h k = grind (arith, ints)

-- a key that comes before another comes before all that are not before that one
pub first_onward : (key a b : RequestKey) → is_served_first b a ≡ false → is_served_first key a ≡ true → is_served_first key b ≡ true
first_onward key a b h k = true_from_ne_false (is_served_first key b) (λ no. false≢true (sym (first_chain key b a no h) ∙ k))
