-- The bytes that a call has taken say as much as the text that the source has.
--     text_of          the text: what the source told, or else the bytes taken
--     same_reading     it says what the bytes taken say
--     same_or_long     it is the bytes taken, or both are too long
use Rattle.std.proofs.Common.{◌≡◌, ℕ, ◌+◌, ◌<◌, Bool, true, false, List, length, take, refl, sym, ap, ◌∙◌, Option, None, Some, Err, ◌⊎◌, inl, inr, arith}
use Rattle.std.specs.Prelude.{nat_le, if◌then◌else◌, IfSome}
use Rattle.std.proofs.lemmas.Bool.{false≢true}
use Rattle.std.proofs.lemmas.Bool.Decides.{nat_tests}
use Rattle.std.proofs.lemmas.List.{take_all, length-take-le}
use Rattle.sim_types.specs.Limits.{most_bytes}
use Rattle.sim_types.specs.declared.fault.Fault.{Fault}
use Rattle.sim_types.specs.declared.fault.FaultKind.TheVariants as fault
use Rattle.sim_language.specs.Lines.{lines}
use Rattle.sim_language.specs.AnywhereInText.{whole_text}
use Rattle.sim_language.specs.Reads.{is_too_long, reads_text, reads}
use Rattle.sim_outside.specs.Reads.{TakesFirst}

-- ---- a text that is too long

abbrev pub too_long : Fault
too_long = record { line = 0; kind = fault.TooLong }

-- its first fault is its length
pub long_refused : (text : List ℕ) → most_bytes < length text → reads text ≡ Err too_long
long_refused text long = by (is_too_long text) (grind (arith, nat_tests))
  where
    by : (b : Bool) → b ≡ true → (if b then Err too_long else reads_text (whole_text (lines text)) (lines text)) ≡ Err too_long
    by true e = refl
    by false e = absurd (false≢true e)

-- so one byte more than is allowed says as much as the whole text
reads_front : (text : List ℕ) → reads (take (most_bytes + 1) text) ≡ reads text
reads_front text = by (nat_le (length text) (most_bytes + 1)) refl
  where
    by : (b : Bool) → nat_le (length text) (most_bytes + 1) ≡ b → reads (take (most_bytes + 1) text) ≡ reads text
    by true short = ap reads (take_all (most_bytes + 1) text (grind (arith, nat_tests)))
    by false long =
        long_refused (take (most_bytes + 1) text) (grind (arith, nat_tests, length-take-le (most_bytes + 1) text (grind (arith, nat_tests))))
        ∙ sym (long_refused text (grind (arith, nat_tests)))

-- ---- the text that was read

pub text_of : Option (List ℕ) → List ℕ → List ℕ
text_of None bytes = bytes
text_of (Some left) bytes = left

pub text_told : (left : Option (List ℕ)) (bytes : List ℕ) → IfSome left (λ told. text_of left bytes ≡ told)
unfolding text_of
text_told None bytes = tt
text_told (Some left) bytes = refl

pub same_reading : (left rest : Option (List ℕ)) (bytes : List ℕ) → TakesFirst (most_bytes + 1) left rest bytes → reads bytes ≡ reads (text_of left bytes)
unfolding text_of
same_reading None rest bytes takes = refl
same_reading (Some left) rest bytes takes = ap reads takes.0 ∙ reads_front left

-- the bytes taken are the text, or both are too long
pub same_or_long : (left rest : Option (List ℕ)) (bytes : List ℕ) → TakesFirst (most_bytes + 1) left rest bytes
    → (bytes ≡ text_of left bytes) ⊎ ((most_bytes < length bytes) × (most_bytes < length (text_of left bytes)))
unfolding text_of
same_or_long None rest bytes takes = inl refl
same_or_long (Some left) rest bytes takes = by (nat_le (length left) (most_bytes + 1)) refl
  where
    by : (b : Bool) → nat_le (length left) (most_bytes + 1) ≡ b → (bytes ≡ left) ⊎ ((most_bytes < length bytes) × (most_bytes < length left))
    by true short = inl (takes.0 ∙ take_all (most_bytes + 1) left (grind (arith, nat_tests)))
    by false long =
        let more : most_bytes < length left = grind (arith, nat_tests, long) in
        let taken : most_bytes < length (take (most_bytes + 1) left) =
        grind (arith, nat_tests, length-take-le (most_bytes + 1) left (grind (arith, nat_tests))) in
        inr (rw takes.0 taken, more)
