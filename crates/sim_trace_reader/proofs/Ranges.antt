-- What is read is in its range.
use Rattle.std.proofs.Common.{◌≡◌, ◌+◌, ◌-◌, ◌*◌, ◌^◌, ℕ, ◌<◌, Bool, true, false, List, [], ◌∷◌, Some, None, refl, arith, ℤ, pos, negsuc, codes, ◌==◌, bytes_eq, cond, nat_lt}
use Rattle.std.specs.Prelude.{Option, IfSome, option_and_then, option_map}
use Rattle.std.specs.Char.{is_ascii_digit}
use Rattle.std.specs.List.{before_last, after_last}
use Rattle.std.proofs.lemmas.Bool.Decides.{nat_tests}
use Rattle.std.proofs.lemmas.Int.{ints}
use Rattle.sim_types.specs.declared.event.EventKind.{EventKind}
use Rattle.sim_types.specs.declared.event.Outcome.{Outcome}
use Rattle.sim_types.specs.declared.event.Outcome.TheVariants as outcome
use Rattle.sim_types.specs.declared.line.End.{End}
use Rattle.sim_trace_reader.specs.LineTexts.{IsUnsigned64, IsSigned64, IsOutcomeInRange, IsInRange}
use Rattle.sim_trace_reader.specs.Readings.{is_space, behind, word_at, below, with_digit, number_after, number, byte, whole, with_64_bits, signed, kind_of, failure_of, outcome_in, event_of, event_in, log_of, log_in, port_of, arrival_of, arrival_in, end_of, finish_of, finish_in, named_in, likely_line}

-- one of two options
if_some_of : {A : Type 0} (P : A → Type 0) (b : Bool) (x y : Option A) → IfSome x P → IfSome y P → IfSome (cond b x y) P
if_some_of P true x y hx hy = hx
if_some_of P false x y hx hy = hy

-- ---- numbers

below_bound : (bound n : ℕ) → IfSome (below bound n) (λ m. m < bound)
below_bound bound n = by (nat_lt n bound) refl
  where
    by : (b : Bool) → nat_lt n bound ≡ b → IfSome (cond b (Some n) None) (λ m. m < bound)
    by true e = grind (arith, nat_tests)
    by false e = tt

digit_fits : (n c : ℕ) → IfSome (with_digit n c) IsUnsigned64
digit_fits n c = if_some_of IsUnsigned64 (is_ascii_digit c) (below (2 ^ 64) (n * 10 + (c - 48))) None (below_bound (2 ^ 64) (n * 10 + (c - 48))) tt

number_after_fits : (n : ℕ) (w : List ℕ) → n < 2 ^ 64 → IfSome (number_after n w) IsUnsigned64
number_after_fits n [] fits = fits
number_after_fits n (c ∷ cs) fits = by (with_digit n c) (digit_fits n c) (λ m. number_after_fits m cs)
  where
    by : (o : Option ℕ) → IfSome o IsUnsigned64 → ((m : ℕ) → m < 2 ^ 64 → IfSome (number_after m cs) IsUnsigned64)
        → IfSome (option_and_then (λ m. number_after m cs) o) IsUnsigned64
    by None h later = tt
    by (Some m) h later = later m h

number_fits : (w : List ℕ) → IfSome (number w) IsUnsigned64
number_fits w = number_after_fits 0 w (omega arith)

byte_fits : (w : List ℕ) → IfSome (byte w) (λ n. n < 2 ^ 8)
byte_fits w = by (number w)
  where
    by : (o : Option ℕ) → IfSome (option_and_then (below (2 ^ 8)) o) (λ n. n < 2 ^ 8)
    by None = tt
    by (Some n) = below_bound (2 ^ 8) n

sign_fits : (z : ℤ) → IfSome (with_64_bits z) IsSigned64
sign_fits (pos n) = by (nat_lt n (2 ^ 63)) refl
  where
    by : (b : Bool) → nat_lt n (2 ^ 63) ≡ b → IfSome (cond b (Some (pos n)) None) IsSigned64
    by true e = let lt : n < 2 ^ 63 = grind (arith, nat_tests) in (omega (arith, ints), omega (arith, ints))
    by false e = tt
sign_fits (negsuc n) = by (nat_lt n (2 ^ 63)) refl
  where
    by : (b : Bool) → nat_lt n (2 ^ 63) ≡ b → IfSome (cond b (Some (negsuc n)) None) IsSigned64
    by true e = let lt : n < 2 ^ 63 = grind (arith, nat_tests) in (omega (arith, ints), omega (arith, ints))
    by false e = tt

signed_fits : (w : List ℕ) → IfSome (signed w) IsSigned64
signed_fits w = by (whole w)
  where
    by : (o : Option ℤ) → IfSome (option_and_then with_64_bits o) IsSigned64
    by None = tt
    by (Some z) = sign_fits z

-- ---- lines

failure_fits : (k : Option ℕ) (v : Option ℤ) → IfSome k (λ n. n < 2 ^ 8) → IfSome v IsSigned64 → IfSome (failure_of k v) IsOutcomeInRange
failure_fits (Some k) (Some v) hk hv = (hk, hv)
failure_fits (Some k) None hk hv = tt
failure_fits None v hk hv = tt

ok_fits : (v : Option ℤ) → IfSome v IsSigned64 → IfSome (option_map (λ x. outcome.Ok x) v) IsOutcomeInRange
ok_fits (Some v) h = h
ok_fits None h = tt

outcome_fits : (w : List ℕ) → IfSome (outcome_in w) IsOutcomeInRange
outcome_fits w =
    if_some_of IsOutcomeInRange (bytes_eq (word_at 0 w) (codes "ok")) _ _ (ok_fits (signed (behind 1 w)) (signed_fits (behind 1 w)))
    (if_some_of IsOutcomeInRange (bytes_eq (word_at 0 w) (codes "fail")) _ None
    (failure_fits (byte (word_at 1 w)) (signed (behind 2 w)) (byte_fits (word_at 1 w)) (signed_fits (behind 2 w))) tt)

event_fits : (t : Option ℤ) (p n : Option ℕ) (k : Option EventKind) (e : Option ℕ) (o : Option Outcome)
    → IfSome t IsSigned64 → IfSome p (λ n. n < 2 ^ 8) → IfSome n IsUnsigned64 → IfSome e IsUnsigned64 → IfSome o IsOutcomeInRange
    → IfSome (event_of t p n k e o) IsInRange
event_fits (Some t) (Some p) (Some n) (Some k) (Some e) (Some o) ht hp hn he ho = (ht, hp, hn, he, ho)
event_fits (Some t) (Some p) (Some n) (Some k) (Some e) None ht hp hn he ho = tt
event_fits (Some t) (Some p) (Some n) (Some k) None o ht hp hn he ho = tt
event_fits (Some t) (Some p) (Some n) None e o ht hp hn he ho = tt
event_fits (Some t) (Some p) None k e o ht hp hn he ho = tt
event_fits (Some t) None n k e o ht hp hn he ho = tt
event_fits None p n k e o ht hp hn he ho = tt

log_fits : (t : Option ℤ) (p : Option ℕ) (v : Option ℤ)
    → IfSome t IsSigned64 → IfSome p IsUnsigned64 → IfSome v IsSigned64 → IfSome (log_of t p v) IsInRange
log_fits (Some t) (Some p) (Some v) ht hp hv = (ht, hp, hv)
log_fits (Some t) (Some p) None ht hp hv = tt
log_fits (Some t) None v ht hp hv = tt
log_fits None p v ht hp hv = tt

arrival_fits : (a p : Option ℕ) (v : Option ℤ)
    → IfSome a IsUnsigned64 → IfSome p (λ n. n < 2 ^ 32) → IfSome v IsSigned64 → IfSome (arrival_of a p v) IsInRange
arrival_fits (Some a) (Some p) (Some v) ha hp hv = (ha, hp, hv)
arrival_fits (Some a) (Some p) None ha hp hv = tt
arrival_fits (Some a) None v ha hp hv = tt
arrival_fits None p v ha hp hv = tt

finish_fits : (e : Option End) (t : Option ℤ) (p : Option ℕ) → IfSome t IsSigned64 → IfSome p IsUnsigned64 → IfSome (finish_of e t p) IsInRange
finish_fits (Some e) (Some t) (Some p) ht hp = (ht, hp)
finish_fits (Some e) (Some t) None ht hp = tt
finish_fits (Some e) None p ht hp = tt
finish_fits None t p ht hp = tt

event_in_fits : (w : List ℕ) → IfSome (event_in w) IsInRange
event_in_fits w =
    event_fits (signed (word_at 0 w)) (byte (word_at 1 w)) (number (word_at 2 w))
    (kind_of (word_at 3 w)) (number (word_at 4 w)) (outcome_in (behind 5 w))
    (signed_fits (word_at 0 w)) (byte_fits (word_at 1 w)) (number_fits (word_at 2 w)) (number_fits (word_at 4 w)) (outcome_fits (behind 5 w))

log_in_fits : (w : List ℕ) → IfSome (log_in w) IsInRange
log_in_fits w =
    log_fits (signed (word_at 0 w)) (number (word_at 1 w)) (signed (behind 2 w))
    (signed_fits (word_at 0 w)) (number_fits (word_at 1 w)) (signed_fits (behind 2 w))

arrival_in_fits : (ports : List (List ℕ)) (w : List ℕ) → IfSome (arrival_in ports w) IsInRange
arrival_in_fits ports w =
    let rest = behind 1 w in
    arrival_fits (number (word_at 0 w)) (port_of ports (before_last is_space rest)) (signed (after_last is_space rest))
    (number_fits (word_at 0 w)) (below_bound (2 ^ 32) _) (signed_fits (after_last is_space rest))

finish_in_fits : (w : List ℕ) → IfSome (finish_in w) IsInRange
finish_in_fits w =
    finish_fits (end_of (word_at 0 w)) (signed (word_at 1 w)) (number (behind 2 w)) (signed_fits (word_at 1 w)) (number_fits (behind 2 w))

named_fits : (ports : List (List ℕ)) (w : List ℕ) → IfSome (named_in ports w) IsInRange
named_fits ports w =
    if_some_of IsInRange (bytes_eq (word_at 0 w) (codes "log")) (log_in (behind 1 w)) _ (log_in_fits (behind 1 w))
    (if_some_of IsInRange (bytes_eq (word_at 0 w) (codes "arrive")) (arrival_in ports (behind 1 w)) _ (arrival_in_fits ports (behind 1 w))
    (if_some_of IsInRange (bytes_eq (word_at 0 w) (codes "end")) (finish_in (behind 1 w)) None (finish_in_fits (behind 1 w)) tt))

pub likely_fits : (ports : List (List ℕ)) (w : List ℕ) → IfSome (likely_line ports w) IsInRange
likely_fits ports [] = tt
likely_fits ports (c ∷ cs) = if_some_of IsInRange (c == 64) (event_in cs) (named_in ports (c ∷ cs)) (event_in_fits cs) (named_fits ports (c ∷ cs))
