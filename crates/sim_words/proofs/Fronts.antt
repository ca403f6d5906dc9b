-- Parts of a list, by the place of the first element that passes a test.
--     take_rest                     a part of a slice up to its end, as code takes it
--     none_is_far                   where no element passes, the first that passes stands past the end
--     up_to_found, up_to_none       what stands in front of the first that passes
--     length_up_to                  it is no longer than the whole
use Rattle.std.proofs.Common.{◌≡◌, ◌+◌, ◌-◌, ℕ, suc, ◌≤◌, Bool, true, false, List, [], ◌∷◌, take, drop, length, length-drop, position, Some, None, nat_lt, refl, sym, ap, ◌∙◌, arith}
use Rattle.std.specs.List.{position_or_len}
use Rattle.std.proofs.Math.Seq.{take-length}
use Rattle.std.proofs.lemmas.Bool.Decides.{nat_tests}
use Rattle.std.proofs.lemmas.Option.{cond_some}
use Rattle.sim_language.specs.Lines.{up_to}

pub take_rest : (k : ℕ) (l : List ℕ) → take (length l - k) (drop k l) ≡ drop k l
take_rest k l = rw (← length-drop k l) (take-length (drop k l))

pub none_is_far : {X : Type 0} (p : X → Bool) (xs : List X) → position p xs ≡ None → length xs ≤ position_or_len p xs
none_is_far p xs none = grind (arith, nat_tests)

up_to_take : (test : ℕ → Bool) (xs : List ℕ) → up_to test xs ≡ take (position_or_len test xs) xs
up_to_take test [] = refl
up_to_take test (x ∷ xs) = by (test x) refl (up_to_take test xs)
  where
    by : (b : Bool) → test x ≡ b → up_to test xs ≡ take (position_or_len test xs) xs → up_to test (x ∷ xs) ≡ take (position_or_len test (x ∷ xs)) (x ∷ xs)
    by true e rest = rw e refl
    by false e rest = let one : 1 + position_or_len test xs ≡ suc (position_or_len test xs) = omega arith in rw (e, one) (ap (λ l. x ∷ l) rest)

pub up_to_found : (test : ℕ → Bool) (xs : List ℕ) (at : ℕ) → position test xs ≡ Some at → take at xs ≡ up_to test xs
up_to_found test xs at found =
    let h = cond_some (nat_lt (position_or_len test xs) (length xs)) (position_or_len test xs) at found in
    ap (λ n. take n xs) (sym h.1) ∙ sym (up_to_take test xs)

up_to_far : (test : ℕ → Bool) (xs : List ℕ) → length xs ≤ position_or_len test xs → xs ≡ up_to test xs
up_to_far test [] far = refl
up_to_far test (x ∷ xs) far = by (test x) refl (up_to_far test xs)
  where
    by : (b : Bool) → test x ≡ b → (length xs ≤ position_or_len test xs → xs ≡ up_to test xs) → x ∷ xs ≡ up_to test (x ∷ xs)
    by true e rest = absurd (omega (arith, rw e at far))
    by false e rest = rw e (ap (λ l. x ∷ l) (rest (omega (arith, rw e at far))))

pub up_to_none : (test : ℕ → Bool) (xs : List ℕ) → position test xs ≡ None → xs ≡ up_to test xs
up_to_none test xs none = up_to_far test xs (none_is_far test xs none)

pub length_up_to : (test : ℕ → Bool) (xs : List ℕ) → length (up_to test xs) ≤ length xs
length_up_to test [] = omega arith
length_up_to test (x ∷ xs) = by (test x) refl (length_up_to test xs)
  where
    by : (b : Bool) → test x ≡ b → length (up_to test xs) ≤ length xs → length (up_to test (x ∷ xs)) ≤ length (x ∷ xs)
    by true e rest = rw e (omega arith)
    by false e rest = rw e (omega arith)
