-- The texts of lines are those that `is_line` says.
--     is_line_says     what it says is a line's text
--     says_is_line     it says so of each line's text
use Rattle.std.proofs.Common.{◌≡◌, ◌-◌, ℕ, Bool, true, false, List, [], ◌∷◌, ◌++◌, take, length, Some, None, refl, sym, ap, ◌∙◌, IsTrue, bytes_eq, is_some, subst, cond}
use Rattle.std.specs.Prelude.{Option, IfSome, option_and_then}
use Rattle.std.proofs.lemmas.Slice.Eq.{bytes_eq-Decides}
use Rattle.sim_types.specs.declared.line.Line.{Line}
use Rattle.sim_trace.specs.Texts.{line_text}
use Rattle.sim_trace_reader.specs.LineTexts.{IsInRange, IsLineText, is_line}
use Rattle.sim_trace_reader.specs.Readings.{if_printed, likely_line, read_line}
use Rattle.sim_trace_reader.proofs.Ranges.{likely_fits}
use Rattle.sim_trace_reader.proofs.ReadBack.{likely_back}
use Rattle.sim_trace_reader.proofs.Words.{front_of}

printed_says : (ports : List (List ℕ)) (bytes : List ℕ) (o : Option Line) → IfSome o IsInRange
    → is_some (option_and_then (if_printed ports bytes) o) ≡ true → IsLineText ports bytes
printed_says ports bytes None fits said = absurd (cc)
printed_says ports bytes (Some l) fits said = by (bytes_eq (line_text ports l) bytes) refl
  where
    by : (b : Bool) → bytes_eq (line_text ports l) bytes ≡ b → IsLineText ports bytes
    by true e = record { line = l; in_range = fits; prints = (bytes_eq-Decides (line_text ports l) bytes).0 e }
    by false e = absurd (let h = rw e at said in cc)

pub is_line_says : (ports : List (List ℕ)) (bytes : List ℕ) → IsTrue (is_line ports bytes) → IsLineText ports bytes
unfolding read_line
is_line_says ports bytes said =
    let text = take (length bytes - 1) bytes in
    printed_says ports bytes (likely_line ports text) (likely_fits ports text) said

-- what is found is read if it is printed so
if_found : (ports : List (List ℕ)) (bytes : List ℕ) (l : Line) → likely_line ports (take (length bytes - 1) bytes) ≡ Some l
    → is_line ports bytes ≡ bytes_eq (line_text ports l) bytes
unfolding read_line
if_found ports bytes l found =
    ap (λ o. is_some (option_and_then (if_printed ports bytes) o)) found ∙ by (bytes_eq (line_text ports l) bytes)
  where
    by : (b : Bool) → is_some (cond b (Some l) None) ≡ b
    by true = refl
    by false = refl

line_is_line : (ports : List (List ℕ)) (l : Line) → IsInRange l → IsTrue (is_line ports (line_text ports l))
line_is_line ports l fits =
    let back = likely_back ports l fits in
    if_found ports (line_text ports l) back.read back.found
    ∙ (bytes_eq-Decides (line_text ports back.read) (line_text ports l)).1 back.prints

pub says_is_line : (ports : List (List ℕ)) (bytes : List ℕ) → IsLineText ports bytes → IsTrue (is_line ports bytes)
says_is_line ports bytes h = subst (λ b. IsTrue (is_line ports b)) h.prints (line_is_line ports h.line h.in_range)

same : (a b : Bool) → (a ≡ true → b ≡ true) → (b ≡ true → a ≡ true) → a ≡ b
same true b to from = sym (to refl)
same false true to from = from refl
same false false to from = refl

-- ---- of bytes with a line feed behind them

pub none_found : (ports : List (List ℕ)) (text : List ℕ) → likely_line ports text ≡ None → false ≡ is_line ports (text ++ 10 ∷ [])
unfolding read_line
none_found ports text none =
    sym (ap (λ o. is_some (option_and_then (if_printed ports (text ++ 10 ∷ [])) o)) (ap (likely_line ports) (front_of text) ∙ none))

pub line_found : (ports : List (List ℕ)) (text : List ℕ) (l : Line) (b : Bool) → likely_line ports text ≡ Some l
    → (b ≡ true → line_text ports l ≡ text ++ 10 ∷ []) → (line_text ports l ≡ text ++ 10 ∷ [] → b ≡ true)
    → b ≡ is_line ports (text ++ 10 ∷ [])
line_found ports text l b found to from =
    let d = bytes_eq-Decides (line_text ports l) (text ++ 10 ∷ []) in
    same b (bytes_eq (line_text ports l) (text ++ 10 ∷ [])) (λ e. d.1 (to e)) (λ e. from (d.0 e))
    ∙ sym (if_found ports (text ++ 10 ∷ []) l (ap (likely_line ports) (front_of text) ∙ found))

pub no_text : (ports : List (List ℕ)) (bytes : List ℕ) → false ≡ is_line ports bytes → ¬ IsLineText ports bytes
no_text ports bytes said h = let yes : is_line ports bytes ≡ true = says_is_line ports bytes h in cc
