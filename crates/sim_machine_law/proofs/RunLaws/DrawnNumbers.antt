-- A drawn number lies in its range, and each number of the range is drawn by some word.
use Rattle.std.proofs.Common.{◌≡◌, ℕ, ◌+◌, ◌≤◌, ℤ, pos, ◌≤ℤ◌, ◌<ℤ◌, ◌+ℤ◌, ◌-ℤ◌, Bool, true, false, refl, ap, ◌∙◌, arith, if◌then◌else◌}
use Rattle.std.specs.Prelude.{◌%◌, nat_abs, int_lt}
use Rattle.std.proofs.Math.Nat.{mod-eq_of_lt}
use Rattle.std.proofs.lemmas.Bool.Decides.{nat_tests}
use Rattle.std.proofs.lemmas.Int.{ints}
use Rattle.sim_machine.specs.State.{State, Plan}
use Rattle.sim_machine.specs.Effect.{drawn_number, draw}

under : (word n : ℕ) → word % (n + 1) ≤ n
under word n = omega arith

pub drawn_least : (word : ℕ) (lo hi : ℤ) → lo ≤ℤ hi → lo ≤ℤ drawn_number word lo hi
drawn_least word lo hi h = at_least lo (word % (nat_abs (hi -ℤ lo) + 1))
  where
    at_least : (lo : ℤ) (n : ℕ) → lo ≤ℤ (lo +ℤ pos n)
    at_least lo n = omega (arith, ints)

length_of : (lo hi : ℤ) → lo ≤ℤ hi → lo +ℤ pos (nat_abs (hi -ℤ lo)) ≡ hi
length_of lo hi h = omega (arith, ints, h)

pub drawn_greatest : (word : ℕ) (lo hi : ℤ) → lo ≤ℤ hi → drawn_number word lo hi ≤ℤ hi
drawn_greatest word lo hi h = at_most lo hi (nat_abs (hi -ℤ lo)) (word % (nat_abs (hi -ℤ lo) + 1)) (under word (nat_abs (hi -ℤ lo))) (length_of lo hi h)
  where
    at_most : (lo hi : ℤ) (all n : ℕ) → n ≤ all → lo +ℤ pos all ≡ hi → (lo +ℤ pos n) ≤ℤ hi
    at_most lo hi all n less is = omega (arith, ints, less, is)

pub drawn_each : (lo hi n : ℤ) → lo ≤ℤ n → n ≤ℤ hi → (word : ℕ) × (word ≤ nat_abs (hi -ℤ lo)) × (drawn_number word lo hi ≡ n)
drawn_each lo hi n low high =
    let word : ℕ = nat_abs (n -ℤ lo) in
    let within : word ≤ nat_abs (hi -ℤ lo) = omega (arith, ints, low, high) in
    (word, within, ap (λ (k : ℕ). lo +ℤ pos k) (small word (nat_abs (hi -ℤ lo)) within) ∙ length_of lo n low)
  where
    small : (word n : ℕ) → word ≤ n → word % (n + 1) ≡ word
    small word n h = mod-eq_of_lt (omega (arith, h))

not_less : (lo hi : ℤ) → lo ≤ℤ hi → int_lt hi lo ≡ false
not_less lo hi h = grind (arith, ints, nat_tests)

is_less : (lo hi : ℤ) → hi <ℤ lo → int_lt hi lo ≡ true
is_less lo hi h = grind (arith, ints, nat_tests)

module _ {B : Type 0} (g : Plan B) (s : State B) (lo hi : ℤ) where
  drawn_by : (b : Bool) → int_lt hi lo ≡ b → (draw g lo hi s).drawn ≡ (if b then s.drawn else s.drawn + 1)
  drawn_by true is = rw is refl
  drawn_by false is = rw is refl

  pub word_drawn : lo ≤ℤ hi → (draw g lo hi s).drawn ≡ s.drawn + 1
  word_drawn h = drawn_by false (not_less lo hi h)

  pub no_word_drawn : hi <ℤ lo → (draw g lo hi s).drawn ≡ s.drawn
  no_word_drawn h = drawn_by true (is_less lo hi h)
