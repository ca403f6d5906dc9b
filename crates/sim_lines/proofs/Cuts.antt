-- What is left of a line where its end is cut off.
--     with_return, no_return        the line without one carriage return at its end
use Rattle.std.proofs.Common.{◌≡◌, ◌==◌, ◌-◌, eqb, Bool, true, false, [], ◌∷◌, ◌++◌, take, drop, length, None, refl, sym, ap, ◌∙◌}
use Rattle.std.proofs.lemmas.List.{take-append-drop}
use Rattle.std.proofs.lemmas.Bool.Decides.{Decides-eqb}
use Rattle.std.specs.Cmp.Lexicographic.{pointwise}
use Rattle.std.proofs.lemmas.Slice.Eq.{bytes_eq-Decides, strip_suffix_is}
use Rattle.sim_language.specs.Lines.{without_return, Word}

cut_return : (front : Word) → without_return (front ++ 13 ∷ []) ≡ front
cut_return [] = refl
cut_return (c ∷ []) = refl
cut_return (c ∷ d ∷ cs) = ap (λ l. c ∷ l) (cut_return (d ∷ cs))

keep_line : (line : Word) → ((front : Word) → line ≡ front ++ 13 ∷ [] → ⊥) → line ≡ without_return line
keep_line [] none = refl
keep_line (c ∷ []) none = by (c == 13) refl
  where
    by : (b : Bool) → (c == 13) ≡ b → c ∷ [] ≡ without_return (c ∷ [])
    by true e = absurd (none [] (ap (λ d. d ∷ []) ((Decides-eqb c 13).0 e)))
    by false e = rw e refl
keep_line (c ∷ d ∷ cs) none = ap (λ l. c ∷ l) (keep_line (d ∷ cs) (λ front e. none (c ∷ front) (ap (λ l. c ∷ l) e)))

ends_as : (line suffix : Word) → pointwise eqb (drop (length line - length suffix) line) suffix ≡ true
    → line ≡ take (length line - length suffix) line ++ suffix
ends_as line suffix same = sym (take-append-drop (length line - length suffix) line) ∙ ap (λ s. take (length line - length suffix) line ++ s) ((bytes_eq-Decides _ suffix).0 same)

-- what `strip_suffix` says of one carriage return
pub with_return : (line suffix front : Word) → suffix ≡ 13 ∷ []
    → pointwise eqb (drop (length line - length suffix) line) suffix ≡ true → front ≡ take (length line - length suffix) line
    → front ≡ without_return line
with_return line suffix front is same cut =
    let parts : line ≡ take (length line - length suffix) line ++ suffix = ends_as line suffix same in
    cut ∙ sym (ap without_return (parts ∙ ap (λ s. take (length line - length suffix) line ++ s) is) ∙ cut_return (take (length line - length suffix) line))

pub no_return : (line suffix : Word) → suffix ≡ 13 ∷ [] → pointwise eqb (drop (length line - length suffix) line) suffix ≡ false → line ≡ without_return line
no_return line suffix is apart = keep_line line (strip_suffix_is Decides-eqb line (13 ∷ []) None (rw is at apart))
