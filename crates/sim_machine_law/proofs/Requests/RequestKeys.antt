-- The test on the keys of requests is an order: which of two comes first.
use Rattle.std.proofs.Common.{◌≡◌, ◌∙◌, ap, ℤ, Bool, true, false, ◌&&◌, not, inr, refl, sym, arith}
use Rattle.std.proofs.lemmas.Bool.{true_from_ne_false, false_from_ne_true, and_parts, not-true}
use Rattle.std.proofs.lemmas.Int.{ints}
use Rattle.std.proofs.lemmas.Bool.Decides.{nat_tests}
use Rattle.sim_types.specs.declared.event.RequestKey.{RequestKey}
use Rattle.sim_machine.specs.Keys.{is_served_first}
use Rattle.sim_machine_law.specs.Desks.{IsServedBefore}

pub served_yes : (a b : RequestKey) → is_served_first a b ≡ true → IsServedBefore a b
served_yes a b h = grind (arith, ints, nat_tests)

pub served_no : (a b : RequestKey) → is_served_first a b ≡ false → ¬ IsServedBefore a b
served_no a b h = λ l. grind (arith, ints, nat_tests)

pub served_of : (a b : RequestKey) → IsServedBefore a b → is_served_first a b ≡ true
served_of a b h = true_from_ne_false (is_served_first a b) (λ no. served_no a b no h)

pub unserved_of : (a b : RequestKey) → ¬ IsServedBefore a b → is_served_first a b ≡ false
unserved_of a b h = false_from_ne_true (is_served_first a b) (λ yes. h (served_yes a b yes))

-- one is not before itself
pub served_self : (a : RequestKey) → ¬ IsServedBefore a a
served_self a = λ l. grind (arith, ints)

pub served_onward : (a b c : RequestKey) → IsServedBefore a b → IsServedBefore b c → IsServedBefore a c
served_onward a b c p q = grind (arith, ints)

-- where a is before b, each c is behind a or before b
pub served_beyond : (a b c : RequestKey) → IsServedBefore a b → ¬ IsServedBefore c b → IsServedBefore a c
served_beyond a b c p q = grind (arith, ints)

-- where neither a nor b comes before the other's next, a doesn't come before the last
pub behind_onward : (a b c : RequestKey) → ¬ IsServedBefore a b → ¬ IsServedBefore b c → ¬ IsServedBefore a c
behind_onward a b c p q = λ l. grind (arith, ints)

pub behind_beyond : (a b c : RequestKey) → ¬ IsServedBefore a b → IsServedBefore c b → ¬ IsServedBefore a c
behind_beyond a b c p q = λ l. grind (arith, ints)

pub served_not_after : (a b : RequestKey) → IsServedBefore a b → ¬ IsServedBefore b a
served_not_after a b h = λ l. grind (arith, ints)

-- of two that are each equal to a key, neither comes first
pub equal_apart : (key a b : RequestKey) → (not (is_served_first key a) && not (is_served_first a key)) ≡ true →
    (not (is_served_first key b) && not (is_served_first b key)) ≡ true → is_served_first a b ≡ true → ⊥
equal_apart key a b p q first =
    let near = and_parts (not (is_served_first key a)) (not (is_served_first a key)) p in
    let far = and_parts (not (is_served_first key b)) (not (is_served_first b key)) q in
    behind_onward a key b (served_no a key (not-true (is_served_first a key) near.1)) (served_no key b (not-true (is_served_first key b) far.0)) (served_yes a b first)

-- two of which neither comes first are equal
pub same_key : (a b : RequestKey) → ¬ IsServedBefore a b → ¬ IsServedBefore b a → a ≡ b
same_key a b p q =
    let priority : a.priority ≡ b.priority = grind (arith, ints) in
    let time : a.time ≡ b.time = grind (arith, ints) in
    let wait : a.wait ≡ b.wait = same_wait a.wait b.wait (λ x y. p (inr (priority, inr (time, x, y)))) (λ x y. q (inr (sym priority, inr (sym time, y, x)))) in
    let built : ℤ → ℤ → Bool → RequestKey = λ p t w. record { priority = p; time = t; wait = w } in
    ap (λ (n : ℤ). built n a.time a.wait) priority ∙ ap (λ (n : ℤ). built b.priority n a.wait) time ∙ ap (λ (w : Bool). built b.priority b.time w) wait
  where
    same_wait : (x y : Bool) → (x ≡ false → y ≡ true → ⊥) → (x ≡ true → y ≡ false → ⊥) → x ≡ y
    same_wait true true h k = refl
    same_wait false false h k = refl
    same_wait true false h k = absurd (k refl refl)
    same_wait false true h k = absurd (h refl refl)
