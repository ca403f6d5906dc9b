-- Where a trace differs first from the one of a scenario.
--     all_same, yes_same                it does not
--     one_line_more                     not in the first line, if both begin with that
--     line_is_short, line_is_extra      one of the two has no more lines
--     bytes_differ, given_ends, trace_ends     both have a line there, and those differ
use Rattle.std.proofs.Common.{◌≡◌, ◌≢◌, ℕ, suc, ◌+◌, ◌<◌, ◌≤◌, Bool, true, false, List, [], ◌∷◌, ◌++◌, length, take, drop, refl, sym, ap, if◌then◌else◌, ◌∙◌, append-nil, Some, arith, subst, length-drop}
use Rattle.std.specs.List.{list_any, position}
use Rattle.std.proofs.lemmas.List.{append_cancel_left, drop-drop}
use Rattle.std.proofs.lemmas.List.Quantifiers.{position-Some}
use Rattle.std.proofs.lemmas.Slice.Eq.{bytes_eq-Decides}
use Rattle.sim_language.specs.Lines.{is_line_feed, same}
use Rattle.sim_verify.specs.declared.verdict.Verdict.TheVariants.{Yes, No}
use Rattle.sim_verify.specs.declared.verdict.Why.TheVariants as why
use Rattle.sim_verify.specs.TraceLines.{fed_lines}
use Rattle.sim_verify.specs.Verdicts.{verdict_from, why_of}
use Rattle.sim_verify.proofs.FedLines.{begun_line, fed_first, first_line, last_line, only_line}

is_same : (l : List ℕ) → same l l ≡ true
is_same l = (bytes_eq-Decides l l).1 refl

is_not_same : (t g : List ℕ) → t ≢ g → same t g ≡ false
is_not_same t g differ = by (same t g) refl
  where
    by : (b : Bool) → same t g ≡ b → same t g ≡ false
    by true e = absurd (differ ((bytes_eq-Decides t g).0 e))
    by false e = e

pub same_first : (a b : List ℕ) (rest others : List (List ℕ)) → a ∷ rest ≡ b ∷ others → a ≡ b
same_first a b rest others e = cc

pub same_byte : (x y : ℕ) (a b : List ℕ) → x ∷ a ≡ y ∷ b → x ≡ y
same_byte x y a b e = cc

no_more : (p : List ℕ) (x : ℕ) (more : List ℕ) → p ≢ p ++ x ∷ more
no_more p x more e =
    let none : [] ≡ x ∷ more = append_cancel_left p [] (x ∷ more) (append-nil p ∙ e) in
    cc

pub found_inside : (bytes : List ℕ) (start end : ℕ) → start ≤ length bytes → position is_line_feed (drop start bytes) ≡ Some end
    → start + (end + 1) ≤ length bytes
found_inside bytes start end inside found =
    let h = position-Some is_line_feed (drop start bytes) end 0 found in
    omega (arith, h.0, length-drop start bytes)

module _ (ports : List (List ℕ)) where
  pub all_same : (n : ℕ) (ls : List (List ℕ)) → verdict_from ports n ls ls ≡ Yes
  all_same n [] = refl
  all_same n (l ∷ ls) = rw (is_same l) (all_same (n + 1) ls)

  pub yes_same : (n : ℕ) (trace given : List (List ℕ)) → verdict_from ports n trace given ≡ Yes → trace ≡ given
  yes_same n [] [] h = refl
  yes_same n [] (g ∷ given) h = absurd (cc)
  yes_same n (t ∷ trace) [] h = absurd (cc)
  yes_same n (t ∷ trace) (g ∷ given) h = by (same t g) refl (yes_same (n + 1) trace given) h
    where
      by : (b : Bool) → same t g ≡ b → (verdict_from ports (n + 1) trace given ≡ Yes → trace ≡ given)
          → (if b then verdict_from ports (n + 1) trace given else No n (why_of ports g)) ≡ Yes → t ∷ trace ≡ g ∷ given
      by true e rest said =
          let first = (bytes_eq-Decides t g).0 e in
          let others = rest said in
          cc
      by false e rest said = absurd (cc)

  -- the first of both is this line
  pub one_line_more : (n : ℕ) (d trace given : List ℕ) (end : ℕ) → position is_line_feed d ≡ Some end
      → verdict_from ports n (fed_lines (d ++ trace)) (fed_lines (d ++ given))
      ≡ verdict_from ports (n + 1) (fed_lines (drop (suc end) d ++ trace)) (fed_lines (drop (suc end) d ++ given))
  one_line_more n d trace given end found =
      let first = fed_first d trace end found in
      let second = fed_first d given end found in
      rw (first, second, is_same (take (suc end) d)) refl

  -- the same from a place on
  pub line_passed : (n : ℕ) (bytes : List ℕ) (start : ℕ) (trace given : List ℕ) (end : ℕ) → position is_line_feed (drop start bytes) ≡ Some end
      → verdict_from ports n (fed_lines (drop start bytes ++ trace)) (fed_lines (drop start bytes ++ given))
      ≡ verdict_from ports (n + 1) (fed_lines (drop (start + (end + 1)) bytes ++ trace)) (fed_lines (drop (start + (end + 1)) bytes ++ given))
  line_passed n bytes start trace given end found =
      subst (λ d. verdict_from ports n (fed_lines (drop start bytes ++ trace)) (fed_lines (drop start bytes ++ given))
      ≡ verdict_from ports (n + 1) (fed_lines (d ++ trace)) (fed_lines (d ++ given)))
      (drop-drop (suc end) start bytes ∙ ap (λ k. drop k bytes) (omega arith)) (one_line_more n (drop start bytes) trace given end found)

  pub line_is_short : (n b : ℕ) (more : List ℕ) → verdict_from ports n (fed_lines (b ∷ more)) [] ≡ No n why.Short
  line_is_short n b more = rw (first_line b more).is refl

  pub line_is_extra : (n y : ℕ) (given : List ℕ) → verdict_from ports n [] (fed_lines (y ∷ given)) ≡ No n why.Extra
  line_is_extra n y given = rw (first_line y given).is refl

  two_lines : (n : ℕ) (t : List ℕ) (trace : List (List ℕ)) (g : List ℕ) (given : List (List ℕ)) → t ≢ g
      → verdict_from ports n (t ∷ trace) (g ∷ given) ≡ No n (why_of ports g)
  two_lines n t trace g given differ = rw (is_not_same t g differ) refl

  -- where the first lines are these, and differ
  first_two : (n : ℕ) (a b t g : List ℕ) (ts gs : List (List ℕ)) → fed_lines a ≡ t ∷ ts → fed_lines b ≡ g ∷ gs → t ≢ g
      → verdict_from ports n (fed_lines a) (fed_lines b) ≡ No n (why_of ports g)
  first_two n a b t g ts gs first second differ = rw (first, second) (two_lines n t ts g gs differ)

  module _ (p : List ℕ) (none : list_any is_line_feed p ≡ false) where
    -- both go on after these bytes, with a byte that differs
    pub bytes_differ : (n x : ℕ) (more : List ℕ) (y : ℕ) (given first : List ℕ) (rest : List (List ℕ)) → y ≢ x
        → fed_lines (p ++ y ∷ given) ≡ first ∷ rest
        → verdict_from ports n (fed_lines (p ++ x ∷ more)) (fed_lines (p ++ y ∷ given)) ≡ No n (why_of ports first)
    bytes_differ n x more y given first rest differ is =
        let ours = begun_line p x more none in
        let theirs = begun_line p y given none in
        let same : first ≡ p ++ y ∷ theirs.more = same_first first _ rest _ (sym is ∙ theirs.is) in
        first_two n (p ++ x ∷ more) (p ++ y ∷ given) (p ++ x ∷ ours.more) first ours.rest rest ours.is is
        (λ e. differ (sym (same_byte x y ours.more theirs.more (append_cancel_left p _ _ (e ∙ same)))))

    -- the trace goes on after these bytes, and what is given ends
    pub given_ends : (n x : ℕ) (more first : List ℕ) (rest : List (List ℕ)) → fed_lines p ≡ first ∷ rest
        → verdict_from ports n (fed_lines (p ++ x ∷ more)) (fed_lines p) ≡ No n (why_of ports first)
    given_ends n x more first rest is =
        let ours = begun_line p x more none in
        let same : first ≡ p = only_line p first rest none is in
        first_two n (p ++ x ∷ more) p (p ++ x ∷ ours.more) first ours.rest rest ours.is is
        (λ e. no_more p x ours.more (sym (e ∙ same)))

    -- the trace ends after these bytes, which are some, and what is given goes on
    pub trace_ends : (n y : ℕ) (given first : List ℕ) (rest : List (List ℕ)) → 0 < length p → fed_lines (p ++ y ∷ given) ≡ first ∷ rest
        → verdict_from ports n (fed_lines p) (fed_lines (p ++ y ∷ given)) ≡ No n (why_of ports first)
    trace_ends n y given first rest some is =
        let theirs = begun_line p y given none in
        let same : first ≡ p ++ y ∷ theirs.more = same_first first _ rest _ (sym is ∙ theirs.is) in
        first_two n p (p ++ y ∷ given) p first [] rest (last_line p some none) is (λ e. no_more p y theirs.more (e ∙ same))
