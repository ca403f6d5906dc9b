-- A text is read line by line.
use Rattle.std.proofs.Common.{subst, ◌≡◌, refl, sym, ap, ◌∙◌, ℕ, suc, ◌+◌, ◌≤◌, List, [], ◌∷◌, length, Option, Some, None, Result, Ok, Err, Bool, true, false, ◌<◌, arith}
use Rattle.std.specs.Prelude.{IfOk, IsErrAnd, nat_lt}
use Rattle.std.proofs.lemmas.Bool.Decides.{nat_tests}
use Rattle.std.proofs.lemmas.Option.{none-some, same_Some}
use Rattle.std.proofs.lemmas.Result.{err_from_is_err_and}
use Rattle.sim_types.specs.Limits.{most_bytes}
use Rattle.sim_types.specs.Scenarios.{ScenarioOf}
use Rattle.sim_types.specs.declared.fault.Fault.{Fault}
use Rattle.sim_types.specs.declared.fault.FaultKind.{FaultKind}
use Rattle.sim_types.specs.declared.fault.FaultKind.TheVariants as fault
use Rattle.sim_types.specs.declared.setup.Class.{Class}
use Rattle.sim_language.specs.Lines.{Word, lines}
use Rattle.sim_language.specs.Named.{Named}
use Rattle.sim_language.specs.AnywhereInText.{ProcessLines, WholeText, whole_text}
use Rattle.sim_language.specs.Sayings.{TextLine, sayings}
use Rattle.sim_language.specs.Variables.{variables_at, variables_then}
use Rattle.sim_language.specs.Places.{Above, LineInText, above_of, places}
use Rattle.sim_language.specs.Faults.{at_line, fault_at, fault_past, end_fault}
use Rattle.sim_language.specs.Reads.{add_said, nothing_said, outcome, reads, reads_text, unless_faulty}
use Rattle.sim_faults.specs.AboveOf.{above_behind}
use Rattle.sim_code.specs.declared.reading.ReadError.{ReadError}
use Rattle.sim_code.specs.declared.reading.ReadError.TheVariants as error
use Rattle.sim_code.specs.Readings.{AddsLine, Gives, GivesDraft, GoesOn, IsReading, IsSmall, ReadingOf, TakesLine, end_from, passed_on, place_of, with_links}
use Rattle.sim_code.proofs.AddedParts.{OneMore, line_adds}
use Rattle.sim_code.proofs.AboveBounds.{below_most}

end-start : (ls : List TextLine) → end_from 1 [] ls ≡ end_fault ls
end-start ls = let same : 1 + length ls ≡ length ls + 1 = omega arith in rw same refl

end-later : (n : ℕ) (above : List TextLine) (l : TextLine) (below : List TextLine) → end_from n above (l ∷ below) ≡ end_from (n + 1) (l ∷ above) below
end-later n above l below = let same : n + suc (length below) ≡ n + 1 + length below = omega arith in rw same refl

-- ---- in front of the first line

pub reading_starts : (whole : WholeText) (ls : List Word) (r : ReadingOf)
    → r.above ≡ above_of [] → r.number ≡ 1 → r.variables ≡ [] → r.draft ≡ nothing_said → r.lines ≡ sayings whole ls → length r.lines ≤ most_bytes
    → IsReading whole.heads (reads_text whole ls) r
reading_starts whole ls r above_is number_is variables_are draft_is lines_are few =
    let start = outcome whole.heads nothing_said (places 1 [] (sayings whole ls)) in
    let events : r.draft.setup.events ≡ 0 = ap (λ (s : ScenarioOf). s.setup.events) draft_is in
    let statements : length r.draft.code ≡ 0 = ap (λ (s : ScenarioOf). length s.code) draft_is in
    record {
      before = [];
      above_is = above_is;
      number_is = number_is;
      variables_are = variables_are;
      few = omega (arith, few);
      few_events = omega (arith, events);
      few_statements = omega (arith, statements);
      outcome_is = rw (number_is, draft_is, lines_are) (ap start (end-start (sayings whole ls)));
    }

pub reading_small : (heads : ProcessLines) (answer : Result ScenarioOf Fault) (r : ReadingOf) → IsReading heads answer r → IsSmall r
reading_small heads answer r is = record {
  lines = omega (arith, is.few);
  number = omega (arith, is.few, is.number_is);
  above = rw is.above_is (below_most most_bytes is.before (omega (arith, is.few)));
  events = omega (arith, is.few, is.few_events);
}

-- ---- a line

-- a line at its place
abbrev place_at : ℕ → Above → List (Named Class) → TextLine → LineInText
place_at n above variables l = record { number = n; above = above; variables = variables; line = l }

module _ (heads : ProcessLines) (s : ScenarioOf) (place : LineInText) (ps : List LineInText) (end : Option Fault) where
  faultless-outcome : fault_at heads place ≡ None → outcome heads s (place ∷ ps) end ≡ outcome heads (add_said heads place place.line.saying s) ps end
  faultless-outcome none = rw none refl

  faulty-outcome : (f : Fault) → at_line place.number (fault_at heads place) ≡ Some f → outcome heads s (place ∷ ps) end ≡ Err f
  faulty-outcome f some = by (fault_at heads place) refl
    where
      by : (o : Option FaultKind) → fault_at heads place ≡ o → outcome heads s (place ∷ ps) end ≡ Err f
      by None e = absurd (none-some f (sym (ap (at_line place.number) e) ∙ some))
      by (Some kind) e = rw e (ap Err (same_Some _ f (sym (ap (at_line place.number) e) ∙ some)))

-- t is r with the next line taken
module _ (heads : ProcessLines) (answer : Result ScenarioOf Fault) (r t : ReadingOf) (is : IsReading heads answer r) (taken : TakesLine r true t) where
  -- the line at its place among the lines of the text
  abbrev its-place : LineInText
  its-place = place_at r.number (above_of is.before) (variables_at (t.line ∷ is.before) t.lines) t.line

  abbrev its-rest : List LineInText
  its-rest = places (r.number + 1) (t.line ∷ is.before) t.lines

  its-variables : t.variables ≡ variables_at (t.line ∷ is.before) t.lines
  its-variables =
      ap (λ (u : ReadingOf). u.variables) taken.1
      ∙ ap (variables_then t.line.saying t.lines) (is.variables_are ∙ ap (variables_at is.before) taken.0)

  its-number : t.number ≡ r.number
  its-number = ap (λ (u : ReadingOf). u.number) taken.1

  its-above : t.above ≡ above_of is.before
  its-above = ap (λ (u : ReadingOf). u.above) taken.1 ∙ is.above_is

  its-draft : t.draft ≡ r.draft
  its-draft = ap (λ (u : ReadingOf). u.draft) taken.1

  stands-there : place_of t ≡ its-place
  stands-there = rw (its-number, its-above, its-variables) refl

  says-so : outcome heads t.draft (its-place ∷ its-rest) (end_from r.number is.before (t.line ∷ t.lines)) ≡ answer
  says-so =
      ap (λ d. outcome heads d (its-place ∷ its-rest) (end_from r.number is.before (t.line ∷ t.lines))) its-draft
      ∙ ap (λ ls. outcome heads r.draft (places r.number is.before ls) (end_from r.number is.before ls)) (sym taken.0)
      ∙ is.outcome_is

  pub reading_fault : (f : Fault) → at_line t.number (fault_at heads (place_of t)) ≡ Some f → answer ≡ Err f
  reading_fault f some =
      sym says-so
      ∙ faulty-outcome heads t.draft its-place its-rest (end_from r.number is.before (t.line ∷ t.lines)) f
      (ap (λ (p : LineInText). at_line p.number (fault_at heads p)) (sym stands-there) ∙ some)

  -- u is t with what the line says added
  module _ (u : ReadingOf) (added : AddsLine heads t (Ok tt) u) where
    abbrev more : ScenarioOf
    more = add_said heads (place_of t) t.line.saying t.draft

    goes-on-so : outcome heads more its-rest (end_from (r.number + 1) (t.line ∷ is.before) t.lines) ≡ answer
    goes-on-so =
        ap (λ (p : LineInText). outcome heads (add_said heads p t.line.saying t.draft) its-rest (end_from (r.number + 1) (t.line ∷ is.before) t.lines)) stands-there
        ∙ ap (outcome heads (add_said heads its-place t.line.saying t.draft) its-rest) (sym (end-later r.number is.before t.line t.lines))
        ∙ sym (faultless-outcome heads t.draft its-place its-rest (end_from r.number is.before (t.line ∷ t.lines)) (ap (fault_at heads) (sym stands-there) ∙ added.0))
        ∙ says-so

    pub reading_goes_on : IsReading heads answer (passed_on u) × (length (passed_on u).lines < length r.lines)
    reading_goes_on =
        let one : length (t.line ∷ is.before) ≡ length is.before + 1 = omega arith in
        let two : length r.lines ≡ length t.lines + 1 = ap length taken.0 ∙ omega arith in
        let grown : OneMore t.draft more = line_adds heads (place_of t) t.line.saying t.draft in
        let events : t.draft.setup.events ≡ r.draft.setup.events = ap (λ (s : ScenarioOf). s.setup.events) its-draft in
        let statements : length t.draft.code ≡ length r.draft.code = ap (λ (s : ScenarioOf). length s.code) its-draft in
        let at : IsReading heads answer (passed_on (record t { draft = more })) × (length t.lines < length r.lines) = (
          record {
            before = t.line ∷ is.before;
            above_is = ap (λ a. above_behind a t.line) its-above;
            number_is = omega (arith, its-number, is.number_is, one);
            variables_are = its-variables;
            few = omega (arith, is.few, one, two);
            few_events = omega (arith, is.few_events, grown.events, events, one);
            few_statements = omega (arith, is.few_statements, grown.statements, statements, one);
            outcome_is = rw its-number goes-on-so;
          },
          omega (arith, two),
        ) in
        let P : ReadingOf → Type 0 = λ v. IsReading heads answer (passed_on v) × (length (passed_on v).lines < length r.lines) in
        subst P (sym added.1) at

-- the same from what the code tests
pub line_goes_on : (heads : ProcessLines) (answer : Result ScenarioOf Fault) (r t u s : ReadingOf) (more : Bool) → more ≡ true
    → TakesLine r more t → AddsLine heads t (Ok tt) u → s ≡ passed_on u → IsReading heads answer r
    → IsReading heads answer s × (length s.lines < length r.lines)
line_goes_on heads answer r t u s more is_more takes adds s_is is =
    rw s_is (reading_goes_on heads answer r t is (subst (λ b. TakesLine r b t) is_more takes) u adds)

-- no line is left
pub reading_stays : (heads : ProcessLines) (answer : Result ScenarioOf Fault) (r s : ReadingOf) → IsReading heads answer r → TakesLine r false s
    → IsReading heads answer s × (s.lines ≡ [])
reading_stays heads answer r s is taken =
    let at : IsReading heads answer (record r { line = s.line }) × (r.lines ≡ []) = (
      record {
        before = is.before;
        above_is = is.above_is;
        number_is = is.number_is;
        variables_are = is.variables_are;
        few = is.few;
        few_events = is.few_events;
        few_statements = is.few_statements;
        outcome_is = is.outcome_is;
      },
      taken.0,
    ) in
    let P : ReadingOf → Type 0 = λ v. IsReading heads answer v × (v.lines ≡ []) in
    subst P (sym taken.1) at

-- ---- behind the last line

ends-with : (n : ℕ) (above : Above) (past : Option FaultKind) (draft : ScenarioOf) → fault_past above ≡ past
    → unless_faulty (at_line (n + 0) (fault_past above)) draft ≡ unless_faulty (at_line n past) draft
ends-with n above past draft is = let same : n + 0 ≡ n = omega arith in rw (same, is) refl

module _ (heads : ProcessLines) (answer : Result ScenarioOf Fault) (r : ReadingOf) (is : IsReading heads answer r) (none : r.lines ≡ []) where
  ends-so : (past : Option FaultKind) → fault_past r.above ≡ past → answer ≡ unless_faulty (at_line r.number past) r.draft
  ends-so past says =
      sym is.outcome_is
      ∙ ap (λ ls. outcome heads r.draft (places r.number is.before ls) (end_from r.number is.before ls)) none
      ∙ ends-with r.number (above_of is.before) past r.draft (ap fault_past (sym is.above_is) ∙ says)

  pub reading_ends : fault_past r.above ≡ None → answer ≡ Ok (with_links r.draft)
  reading_ends says = ends-so None says

  pub reading_ends_faulty : (kind : FaultKind) → fault_past r.above ≡ Some kind → answer ≡ Err (record { line = r.number; kind = kind })
  reading_ends_faulty kind says = ends-so (Some kind) says

  few_so : length r.draft.code ≤ most_bytes
  few_so = omega (arith, is.few, is.few_statements)

  pub reading_few : (result : Result ScenarioOf ReadError) → IfOk result (λ draft. draft ≡ r.draft) → IfOk result (λ draft. length draft.code ≤ most_bytes)
  reading_few (Ok draft) same = rw same few_so
  reading_few (Err why) same = same

-- ---- what the loop takes from it

module _ (heads : ProcessLines) (answer : Result ScenarioOf Fault) (r s : ReadingOf) (more : Bool) (goes : GoesOn heads answer r (Ok more) s) where
  one_more : more ≡ true → IsReading heads answer s × (length s.lines < length r.lines)
  one_more is = subst (λ b. GoesOn heads answer r (Ok b) s) is goes

  pub no_more : more ≡ false → IsReading heads answer s × (s.lines ≡ [])
  no_more is = subst (λ b. GoesOn heads answer r (Ok b) s) is goes

  pub still_reading : more ≡ true → IsReading heads answer s
  still_reading is = (one_more is).0

  pub fewer_lines : more ≡ true → length s.lines < length r.lines
  fewer_lines is = (one_more is).1

-- ---- a line that is refused, and want of memory

refused_so : (heads : ProcessLines) (answer : Result ScenarioOf Fault) (r s : ReadingOf) (why : ReadError) → GoesOn heads answer r (Err why) s
    → GivesDraft (Err why) answer
refused_so heads answer r s (error.Fault f) h = h
refused_so heads answer r s error.Memory h = h

pub refused : (heads : ProcessLines) (answer : Result ScenarioOf Fault) (r s : ReadingOf) (why : ReadError) (result : Result ScenarioOf ReadError)
    → GoesOn heads answer r (Err why) s → IsErrAnd result (λ told. told ≡ why) → GivesDraft result answer
refused heads answer r s why result goes err =
    let told = err_from_is_err_and result err in
    rw (told.1, told.2) (refused_so heads answer r s why goes)

-- ---- want of memory

pub memory_says_nothing : (result : Result ScenarioOf ReadError) (read : Result ScenarioOf Fault)
    → IsErrAnd result (λ why. why ≡ error.Memory) → GivesDraft result read
memory_says_nothing result read err = let why = err_from_is_err_and result err in rw (why.1, why.2) tt

pub memory_says_nothing_of_it : (result : Result ScenarioOf ReadError) (read : Result ScenarioOf Fault)
    → IsErrAnd result (λ why. why ≡ error.Memory) → Gives result read
memory_says_nothing_of_it result read err = let why = err_from_is_err_and result err in rw (why.1, why.2) tt

-- ---- a whole text

pub reads_is : (text : List ℕ) (whole : WholeText) → length text ≤ most_bytes → whole ≡ whole_text (lines text)
    → reads text ≡ reads_text whole (lines text)
reads_is text whole few whole_is = let short : nat_lt most_bytes (length text) ≡ false = grind (arith, nat_tests) in rw (short, whole_is) refl

pub reads_long : (text : List ℕ) → most_bytes < length text → reads text ≡ Err (record { line = 0; kind = fault.TooLong })
reads_long text long = let passes : nat_lt most_bytes (length text) ≡ true = grind (arith, nat_tests) in rw passes refl

module _ (text : List ℕ) (whole : WholeText) (draft : ScenarioOf)
    (few : length text ≤ most_bytes)
    (whole_is : whole ≡ whole_text (lines text))
    (says : reads_text whole (lines text) ≡ Ok (with_links draft)) where
  pub draft_says : reads text ≡ Ok (with_links draft)
  draft_says = reads_is text whole few whole_is ∙ says
