-- Whether the first line of bytes is a line of a trace.
--     first_ended, first_whole     the first line ends at the first line feed, or with the bytes
--     is_step, is_shape            so it is a line of a trace, or none
--     unended_no_line              no line of a trace is without a line feed
use Rattle.std.proofs.Common.{◌≡◌, ℕ, ◌+◌, Bool, true, false, ◌||◌, List, [], ◌∷◌, ◌++◌, take, drop, get_or, refl, sym, ap, ◌∙◌, Some, None}
use Rattle.std.specs.Prelude.{codes, decimal}
use Rattle.std.specs.Fmt.{signed_decimal}
use Rattle.std.specs.List.{join_with_byte, list_any, position}
use Rattle.std.proofs.lemmas.Bool.{eqb-true, true≢false}
use Rattle.std.proofs.lemmas.List.{take_more}
use Rattle.std.proofs.lemmas.List.Folds.{list_any-append}
use Rattle.std.proofs.lemmas.List.Quantifiers.{position-Some}
use Rattle.sim_types.specs.declared.line.Line.{Line}
use Rattle.sim_types.specs.declared.line.Line.TheVariants as line
use Rattle.sim_language.specs.Lines.{is_line_feed}
use Rattle.sim_trace.specs.Texts.{end_word, kind_word, line_text, outcome_words, port_word, written}
use Rattle.sim_trace_reader.specs.LineTexts.{is_line}
use Rattle.sim_trace_reader.proofs.LineLaws.{is_line_says}
use Rattle.sim_verify.specs.declared.verdict.Why.TheVariants as why
use Rattle.sim_verify.specs.TraceLines.{fed_lines}
use Rattle.sim_verify.specs.Verdicts.{why_of}
use Rattle.sim_verify.proofs.FedLines.{only_line, unended}
use Rattle.sim_verify.proofs.FirstDifference.{same_first}
use Rattle.sim_verify.proofs.FirstLines.{ends_at_feed}

-- ---- the first line

pub first_ended : (text first : List ℕ) (rest : List (List ℕ)) (at : ℕ) → position is_line_feed text ≡ Some at → fed_lines text ≡ first ∷ rest
    → first ≡ take at text ++ 10 ∷ []
first_ended text first rest at found is =
    let h = position-Some is_line_feed text at 0 found in
    same_first first (take (at + 1) text) rest (fed_lines (drop (at + 1) text)) (sym is ∙ ends_at_feed text at found)
    ∙ (take_more text at 0 h.0 ∙ ap (λ c. take at text ++ c ∷ []) (eqb-true (get_or text at 0) 10 h.1))

-- ---- texts of lines

any_true : (b : Bool) → (b || true) ≡ true
any_true true = refl
any_true false = refl

written_ended : (words : List (List ℕ)) → list_any is_line_feed (written words) ≡ true
written_ended words =
    list_any-append is_line_feed (join_with_byte 32 words) (10 ∷ []) ∙ any_true (list_any is_line_feed (join_with_byte 32 words))

line_ended : (ports : List (List ℕ)) (l : Line) → list_any is_line_feed (line_text ports l) ≡ true
line_ended ports (line.Event time number event outcome priority kind) =
    written_ended ((64 ∷ signed_decimal time) ∷ decimal priority ∷ decimal number ∷ kind_word kind ∷ decimal event.0 ∷ outcome_words outcome)
line_ended ports (line.Log time process value) =
    written_ended (codes "log" ∷ signed_decimal time ∷ decimal process.0 ∷ signed_decimal value ∷ [])
line_ended ports (line.Arrive after value port) =
    written_ended (codes "arrive" ∷ decimal after ∷ port_word ports port ∷ signed_decimal value ∷ [])
line_ended ports (line.Finish time processed how) =
    written_ended (codes "end" ∷ end_word how ∷ signed_decimal time ∷ decimal processed ∷ [])

pub unended_no_line : (ports : List (List ℕ)) (bytes : List ℕ) → list_any is_line_feed bytes ≡ false → is_line ports bytes ≡ false
unended_no_line ports bytes none = by (is_line ports bytes) refl
  where
    by : (b : Bool) → is_line ports bytes ≡ b → is_line ports bytes ≡ false
    by true e =
        let h = is_line_says ports bytes e in
        absurd (true≢false (sym (line_ended ports h.line) ∙ (ap (list_any is_line_feed) h.prints ∙ none)))
    by false e = e

-- ---- how it differs

module _ (ports : List (List ℕ)) (first : List ℕ) where
  pub is_step : (bytes : List ℕ) → first ≡ bytes → is_line ports bytes ≡ true → why.Step ≡ why_of ports first
  is_step bytes same says = let e = ap (is_line ports) same ∙ says in rw e refl

  pub is_shape : (bytes : List ℕ) → first ≡ bytes → is_line ports bytes ≡ false → why.Shape ≡ why_of ports first
  is_shape bytes same says = let e = ap (is_line ports) same ∙ says in rw e refl

  pub unended_shape : (bytes : List ℕ) (rest : List (List ℕ)) → position is_line_feed bytes ≡ None → fed_lines bytes ≡ first ∷ rest
      → why.Shape ≡ why_of ports first
  unended_shape bytes rest none is =
      is_shape bytes (only_line bytes first rest (unended bytes none) is) (unended_no_line ports bytes (unended bytes none))
