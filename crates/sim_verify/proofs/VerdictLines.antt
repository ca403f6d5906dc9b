-- The line of a verdict, which is written in three parts.
use Rattle.std.proofs.Common.{◌≡◌, ℕ, true, List, [], ◌∷◌, ◌++◌, codes, refl, sym, ap, ◌∙◌, append_assoc, Result, Ok, Err}
use Rattle.std.specs.Prelude.{decimal}
use Rattle.sim_outside.specs.declared.fault.Failed.{Failed}
use Rattle.sim_outside.specs.Writes.{SinkOf, Writes}
use Rattle.sim_outside.proofs.Written.{both_written, cut_behind}
use Rattle.sim_verify.specs.declared.verdict.Verdict.{Verdict}
use Rattle.sim_verify.specs.declared.verdict.Verdict.TheVariants.{No}
use Rattle.sim_verify.specs.declared.verdict.Why.{Why}
use Rattle.sim_verify.specs.VerdictTexts.{verdict_text, why_word}

abbrev pub no_word : List ℕ
no_word = codes "no "

abbrev pub end_of : Why → List ℕ
end_of why = 32 ∷ why_word why ++ 10 ∷ []

pub parted : (said : Verdict) (line : ℕ) (why : Why) → said ≡ No line why → verdict_text said ≡ (no_word ++ decimal line) ++ end_of why
parted said line why is =
    ap verdict_text is ∙ ap (λ l. no_word ++ l) (append_assoc (decimal line) (32 ∷ why_word why) (10 ∷ []))

pub parted_first : (said : Verdict) (line : ℕ) (why : Why) → said ≡ No line why → verdict_text said ≡ no_word ++ (decimal line ++ end_of why)
parted_first said line why is = parted said line why is

-- the last part is written, or cut
pub and_then : (old middle new : SinkOf) (answer : Result (Unit {0}) Failed) (front back whole : List ℕ)
    → Writes {T = Unit {0}} {E = Failed} (λ _. true) old middle (Ok tt) front → Writes {T = Unit {0}} {E = Failed} (λ _. true) middle new answer back
    → whole ≡ front ++ back → Writes {T = Unit {0}} {E = Failed} (λ _. true) old new answer whole
and_then old middle new (Ok y) front back whole h k is = both_written (λ _. true) (λ _. true) old middle new tt y y front back whole h k is
and_then old middle new (Err failed) front back whole h k is =
    cut_behind (λ _. true) (λ _. true) {V = Unit {0}} old middle new tt failed front back whole h k is

pub and_then_fails : (old middle new : SinkOf) (failed : Failed) (front back : List ℕ)
    → Writes {T = Unit {0}} {E = Failed} (λ _. true) old middle (Ok tt) front → Writes {T = Unit {0}} {E = Failed} (λ _. true) middle new (Err failed) back
    → Writes {T = Unit {0}} {E = Failed} (λ _. true) old new (Err failed) (front ++ back)
and_then_fails old middle new failed front back h k =
    cut_behind (λ _. true) (λ _. true) {V = Unit {0}} old middle new tt failed front back (front ++ back) h k refl

-- the three parts, of which the last is written or cut
pub three_parts : (old one two new : SinkOf) (said : Verdict) (line : ℕ) (why : Why) (answer : Result (Unit {0}) Failed) (digits end : List ℕ)
    → said ≡ No line why → digits ≡ decimal line → end ≡ end_of why
    → Writes {T = Unit {0}} {E = Failed} (λ _. true) old one (Ok tt) no_word → Writes {T = Unit {0}} {E = Failed} (λ _. true) one two (Ok tt) digits
    → Writes {T = Unit {0}} {E = Failed} (λ _. true) two new answer end → Writes {T = Unit {0}} {E = Failed} (λ _. true) old new answer (verdict_text said)
three_parts old one two new said line why answer digits end is number last a b c =
    let front = both_written (λ _. true) (λ _. true) {V = Unit {0}} old one two tt tt tt no_word digits (no_word ++ digits) a b refl in
    and_then old two new answer (no_word ++ digits) end (verdict_text said) front c
    (parted said line why is ∙ sym (ap (λ d. (no_word ++ d) ++ end) number ∙ ap (λ e. (no_word ++ decimal line) ++ e) last))
