-- The digits that lead a number, put into a line, and its last two behind them.
use Rattle.std.proofs.Common.{◌≡◌, ◌∙◌, ap, sym, ℕ, ◌+◌, ◌/◌, ◌%◌, ◌<◌, ◌≤◌, ◌^◌, List, [], ◌∷◌, ◌++◌, take, length, slice_set, decimal, arith}
use Rattle.std.proofs.lemmas.Grind.{take-set_at}
use Rattle.std.proofs.lemmas.List.{append_assoc, length-set, length-take-le, take-take}
use Rattle.std.proofs.Math.Seq.{take-append-add}
use Rattle.itoa.proofs.Decimal.{pair, decimal_pair}
use Rattle.sim_trace.specs.Leadings.{HasDigits}

-- a line up to a place, and two digits from there on
put_pair : (line : List ℕ) (at a b : ℕ) → at + 1 < length line
    → take (at + 2) (slice_set (slice_set line at a) (at + 1) b) ≡ take at line ++ a ∷ b ∷ []
put_pair line at a b room =
    let first : take (at + 1) (slice_set line at a) ≡ take at line ++ a ∷ [] = take-set_at line at (at + 1) a (omega arith) (omega (arith, room)) in
    take-set_at (slice_set line at a) (at + 1) (at + 2) b (omega arith) (omega (arith, room, length-set line at a))
    ∙ ap (λ xs. xs ++ b ∷ []) first ∙ append_assoc (take at line) (a ∷ []) (b ∷ [])

-- the digits that lead a number, and its last two
pub number_put : (line old : List ℕ) (from at n : ℕ) → 100 ≤ n → n < 2 ^ 64 → at + 1 < length line
    → take at line ≡ take from old ++ decimal (n / 100)
    → take (at + 2) (slice_set (slice_set line at (48 + n % 100 / 10)) (at + 1) (48 + n % 100 % 10)) ≡ take from old ++ decimal n
number_put line old from at n lo hi room leads =
    put_pair line at (48 + n % 100 / 10) (48 + n % 100 % 10) room
    ∙ ap (λ xs. xs ++ pair (n % 100)) leads
    ∙ append_assoc (take from old) (decimal (n / 100)) (pair (n % 100))
    ∙ ap (λ ds. take from old ++ ds) (sym (decimal_pair n lo hi))

-- of twenty bytes that were put into a line the first are the digits of a number
pub leading_put : (line old digits : List ℕ) (at number count : ℕ) → at ≤ length old → HasDigits number count digits
    → take (at + 20) line ≡ take at old ++ digits → take (at + count) line ≡ take at old ++ decimal number
leading_put line old digits at number count within has put =
    let long : length (take at old) + count ≡ at + count = omega (arith, length-take-le at old within) in
    sym (take-take (at + count) (at + 20) line (omega (arith, has.few)))
    ∙ ap (take (at + count)) put
    ∙ ap (λ n. take n (take at old ++ digits)) (sym long)
    ∙ take-append-add (take at old) digits count
    ∙ ap (λ ds. take at old ++ ds) has.first

-- how many they are
pub leading_length : (digits : List ℕ) (number count : ℕ) → length digits ≡ 20 → HasDigits number count digits → count ≡ length (decimal number)
leading_length digits number count all has = sym (length-take-le count digits (omega (arith, all, has.few))) ∙ ap length has.first
