-- Where the first line of a text ends, and the parts of a text with a trace.
use Rattle.std.proofs.Common.{◌≡◌, ℕ, suc, ◌<◌, ◌≤◌, ◌+◌, ◌-◌, false, List, [], ◌∷◌, ◌++◌, length, take, drop, sym, ap, subst, ◌∙◌, append-nil, append_assoc, Some, None, arith, length-drop}
use Rattle.std.specs.List.{concat, position}
use Rattle.std.proofs.Math.Seq.{take-add, take-length, drop-length}
use Rattle.std.proofs.lemmas.List.{drop-drop, take_rest}
use Rattle.sim_language.specs.Lines.{is_line_feed}
use Rattle.sim_verify.specs.TraceLines.{fed_lines, is_trace_line, scenario_lines, trace_lines}
use Rattle.sim_verify.proofs.FedLines.{fed_first, fed_last}

pub ends_at_feed : (text : List ℕ) (at : ℕ) → position is_line_feed text ≡ Some at
    → fed_lines text ≡ take (at + 1) text ∷ fed_lines (drop (at + 1) text)
ends_at_feed text at found =
    let one : suc at ≡ at + 1 = omega arith in
    let first = ap fed_lines (sym (append-nil text)) ∙ fed_first text [] at found in
    let whole = first ∙ ap (λ r. take (suc at) text ∷ fed_lines r) (append-nil (drop (suc at) text)) in
    subst (λ n. fed_lines text ≡ take n text ∷ fed_lines (drop n text)) one whole

pub ends_with_text : (text : List ℕ) → position is_line_feed text ≡ None → 0 < length text
    → fed_lines text ≡ take (length text) text ∷ fed_lines (drop (length text) text)
ends_with_text [] none some = absurd (omega arith)
ends_with_text (x ∷ xs) none some = rw (take-length (x ∷ xs), drop-length (x ∷ xs)) (fed_last x xs none)

-- ---- a text in two parts

-- one line more that says no `trace`
module _ (text : List ℕ) (at end : ℕ) (first : fed_lines (drop at text) ≡ take end (drop at text) ∷ fed_lines (drop end (drop at text)))
    (other : is_trace_line (take end (drop at text)) ≡ false) where
  pub trace_on : trace_lines (fed_lines text) ≡ trace_lines (fed_lines (drop at text))
      → trace_lines (fed_lines text) ≡ trace_lines (fed_lines (drop (at + end) text))
  trace_on h = rw (← drop-drop end at text) (rw (first, other) at h)

  pub count_on : (count : ℕ) → length (fed_lines text) ≡ count + length (fed_lines (drop at text))
      → length (fed_lines text) ≡ count + 1 + length (fed_lines (drop (at + end) text))
  count_on count h =
      let one = rw first at h in
      rw (← drop-drop end at text) (omega (arith, one))

  pub scenario_on : concat (scenario_lines (fed_lines text)) ≡ take at text ++ concat (scenario_lines (fed_lines (drop at text)))
      → concat (scenario_lines (fed_lines text)) ≡ take (at + end) text ++ concat (scenario_lines (fed_lines (drop (at + end) text)))
  scenario_on h =
      let rest = concat (scenario_lines (fed_lines (drop end (drop at text)))) in
      let one = rw (first, other) at h in
      rw (← drop-drop end at text) (one ∙ (sym (append_assoc (take at text) (take end (drop at text)) rest)
      ∙ ap (λ l. l ++ rest) (sym (take-add at end text))))

-- what a slice from a place on holds
pub first_is : (text : List ℕ) (at end : ℕ)
    → (let rest = take (length text - at) (drop at text) in fed_lines rest ≡ take end rest ∷ fed_lines (drop end rest))
    → fed_lines (drop at text) ≡ take end (drop at text) ∷ fed_lines (drop end (drop at text))
first_is text at end h = subst (λ d. fed_lines d ≡ take end d ∷ fed_lines (drop end d)) (take_rest text at) h

pub other_is : (text : List ℕ) (at end : ℕ) → end ≤ length (take (length text - at) (drop at text))
    → is_trace_line (take end (take (length text - at) (drop at text))) ≡ false → is_trace_line (take end (drop at text)) ≡ false
other_is text at end inside h = subst (λ d. is_trace_line (take end d) ≡ false) (take_rest text at) h

pub end_inside : (text : List ℕ) (at end : ℕ) → at ≤ length text → end ≤ length (take (length text - at) (drop at text)) → at + end ≤ length text
end_inside text at end here inside = omega (arith, here, subst (λ d. end ≤ length d) (take_rest text at) inside, length-drop at text)
