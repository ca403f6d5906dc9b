-- What is to be said of bytes that are given, where a trace begins with the first of them.
--     wrong_short, wrong_line     the trace has another byte then
--     over_extra, over_line       the trace ends then
use Rattle.std.proofs.Common.{◌≡◌, ◌≢◌, ℕ, suc, ◌-◌, ◌<◌, ◌≤◌, false, List, [], ◌∷◌, ◌++◌, length, take, drop, get_or, refl, sym, ap, subst, ◌∙◌, append-nil, Some, arith, length-drop}
use Rattle.std.specs.List.{list_any, slice_get}
use Rattle.std.proofs.Math.Seq.{drop-cons}
use Rattle.std.proofs.lemmas.List.{drop-append-le, length-take-le, take-append-drop, take_rest}
use Rattle.std.proofs.lemmas.Option.{slice_get-get_or}
use Rattle.sim_language.specs.Lines.{is_line_feed}
use Rattle.sim_verify.specs.declared.verdict.Verdict.TheVariants.{No}
use Rattle.sim_verify.specs.declared.verdict.Why.{Why}
use Rattle.sim_verify.specs.declared.verdict.Why.TheVariants as why
use Rattle.sim_verify.specs.TraceLines.{fed_lines}
use Rattle.sim_verify.specs.Verdicts.{verdict_from, why_of}
use Rattle.sim_verify.proofs.FedLines.{first_line}
use Rattle.sim_verify.proofs.FirstDifference.{bytes_differ, given_ends, line_is_extra, line_is_short, same_byte, trace_ends}

-- ---- lists

none_left : (d : List ℕ) → length d ≡ 0 → d ≡ []
none_left [] h = refl
none_left (x ∷ xs) h = absurd (omega arith)

-- the bytes before a place, from a place on, and then the others
parted : (given : List ℕ) (at start : ℕ) → at ≤ length given → start ≤ length (take at given) → drop start (take at given) ++ drop at given ≡ drop start given
parted given at start inside before =
    sym (drop-append-le start (take at given) (drop at given) before) ∙ ap (drop start) (take-append-drop at given)

-- the byte at a place begins what is from there on
begins_at : (given : List ℕ) (at y : ℕ) (ys : List ℕ) → drop at given ≡ y ∷ ys → slice_get given at ≡ Some y
begins_at given at y ys is =
    let some : at < length given = omega (arith, length-drop at given, ap length is) in
    let byte = same_byte (get_or given at 0) y (drop (suc at) given) ys (sym (drop-cons given at 0 some) ∙ is) in
    slice_get-get_or given at 0 some ∙ ap Some byte

-- there is a first line
pub record FirstOf (d : List ℕ) : Type 0 where
  pub first : List ℕ
  pub rest : List (List ℕ)
  pub is : fed_lines d ≡ first ∷ rest

pub first_of_some : (d : List ℕ) → 0 < length d → FirstOf d
first_of_some [] some = absurd (omega arith)
first_of_some (x ∷ xs) some = let h = first_line x xs in record { first = x ∷ h.more; rest = h.rest; is = h.is }

-- ---- the verdict

module _ (ports : List (List ℕ)) (given : List ℕ) (at line start : ℕ) (inside : at ≤ length given) (before : start ≤ length (take at given))
    (none : list_any is_line_feed (drop start (take at given)) ≡ false)
    (goes_on : (ports : List (List ℕ)) (trace rest : List ℕ) → verdict_from ports 1 (fed_lines (take at given ++ trace)) (fed_lines (take at given ++ rest))
    ≡ verdict_from ports line (fed_lines (drop start (take at given) ++ trace)) (fed_lines (drop start (take at given) ++ rest))) where
  on : (trace : List ℕ) → verdict_from ports 1 (fed_lines (take at given ++ trace)) (fed_lines given)
      ≡ verdict_from ports line (fed_lines (drop start (take at given) ++ trace)) (fed_lines (drop start (take at given) ++ drop at given))
  on trace =
      subst (λ d. verdict_from ports 1 (fed_lines (take at given ++ trace)) (fed_lines d)
      ≡ verdict_from ports line (fed_lines (drop start (take at given) ++ trace)) (fed_lines (drop start (take at given) ++ drop at given)))
      (take-append-drop at given) (goes_on ports trace (drop at given))

  on_over : verdict_from ports 1 (fed_lines (take at given)) (fed_lines given)
      ≡ verdict_from ports line (fed_lines (drop start (take at given))) (fed_lines (drop start (take at given) ++ drop at given))
  on_over = rw (append-nil (take at given), append-nil (drop start (take at given))) at (on [])

  given_line : start < length given → FirstOf (drop start (take at given) ++ drop at given)
  given_line some =
      let h = first_of_some (drop start given) (omega (arith, length-drop start given)) in
      record { first = h.first; rest = h.rest; is = ap fed_lines (parted given at start inside before) ∙ h.is }

  -- the line that is given begins here
  module _ (why : Why) (says : (first : List ℕ) (rest : List (List ℕ)) → fed_lines (take (length given - start) (drop start given)) ≡ first ∷ rest
      → why ≡ why_of ports first) where
    said : (first : List ℕ) (rest : List (List ℕ)) → fed_lines (drop start (take at given) ++ drop at given) ≡ first ∷ rest → why ≡ why_of ports first
    said first rest is =
        says first rest (ap fed_lines (take_rest given start ∙ sym (parted given at start inside before)) ∙ is)

    wrong_from : (wrong : ℕ) (more d : List ℕ) → slice_get given at ≢ Some wrong → drop at given ≡ d
        → (h : FirstOf (drop start (take at given) ++ d)) → why ≡ why_of ports h.first
        → No line why ≡ verdict_from ports line (fed_lines (drop start (take at given) ++ wrong ∷ more)) (fed_lines (drop start (take at given) ++ d))
    wrong_from wrong more [] differs e h is =
        let p = drop start (take at given) in
        ap (No line) is
        ∙ sym (ap (λ l. verdict_from ports line (fed_lines (p ++ wrong ∷ more)) (fed_lines l)) (append-nil p)
        ∙ given_ends ports p none line wrong more h.first h.rest (ap fed_lines (sym (append-nil p)) ∙ h.is))
    wrong_from wrong more (y ∷ ys) differs e h is =
        ap (No line) is
        ∙ sym (bytes_differ ports (drop start (take at given)) none line wrong more y ys h.first h.rest
        (λ same. differs (begins_at given at y ys e ∙ ap Some same)) h.is)

    pub wrong_line : (wrong : ℕ) (more : List ℕ) → slice_get given at ≢ Some wrong → start ≢ length given
        → No line why ≡ verdict_from ports 1 (fed_lines (take at given ++ wrong ∷ more)) (fed_lines given)
    wrong_line wrong more differs some =
        let h = given_line (omega (arith, length-take-le at given inside)) in
        wrong_from wrong more (drop at given) differs refl h (said h.first h.rest h.is) ∙ sym (on (wrong ∷ more))

    over_from : (d : List ℕ) → 0 < length d → start < at → (h : FirstOf (drop start (take at given) ++ d)) → why ≡ why_of ports h.first
        → No line why ≡ verdict_from ports line (fed_lines (drop start (take at given))) (fed_lines (drop start (take at given) ++ d))
    over_from [] more few h is = absurd (omega arith)
    over_from (y ∷ ys) more few h is =
        ap (No line) is
        ∙ sym (trace_ends ports (drop start (take at given)) none line y ys h.first h.rest
        (omega (arith, length-drop start (take at given), length-take-le at given inside)) h.is)

    pub over_line : at < length given → start ≢ at → No line why ≡ verdict_from ports 1 (fed_lines (take at given)) (fed_lines given)
    over_line some apart =
        let h = given_line (omega (arith, length-take-le at given inside)) in
        over_from (drop at given) (omega (arith, length-drop at given)) (omega (arith, length-take-le at given inside)) h (said h.first h.rest h.is)
        ∙ sym on_over

  pub wrong_short : (wrong : ℕ) (more : List ℕ) → start ≡ length given
      → No line why.Short ≡ verdict_from ports 1 (fed_lines (take at given ++ wrong ∷ more)) (fed_lines given)
  wrong_short wrong more all =
      let front = none_left (drop start (take at given)) (omega (arith, length-drop start (take at given), length-take-le at given inside)) in
      let back = none_left (drop at given) (omega (arith, length-drop at given, length-take-le at given inside)) in
      sym (on (wrong ∷ more) ∙ rw (front, back) (line_is_short ports line wrong more))

  pub over_extra : at < length given → start ≡ at → No line why.Extra ≡ verdict_from ports 1 (fed_lines (take at given)) (fed_lines given)
  over_extra some here =
      let front = none_left (drop start (take at given)) (omega (arith, length-drop start (take at given), length-take-le at given inside)) in
      let back = drop-cons given at 0 some in
      sym (on_over ∙ rw (front, back) (line_is_extra ports line (get_or given at 0) (drop (suc at) given)))
