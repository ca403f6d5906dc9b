-- Units in a row, in which a process asks for nothing but in the last, are as many steps of the machine, and the last alone may write
-- a line.
use Rattle.std.proofs.Common.{◌≡◌, ◌≤◌, ◌<◌, ◌⊎◌, inl, inr, ℕ, zero, suc, ◌+◌, ◌-◌, ◌+ℤ◌, List, [], ◌∷◌, ◌++◌, length, true}
use Rattle.std.proofs.Common.{refl, sym, ap, ◌∙◌, subst, add-zero, append-nil, arith}
use Rattle.std.proofs.Math.IntN.{+ℤ_idr}
use Rattle.std.proofs.lemmas.Bool.{false≢true, cases_eq}
use Rattle.sim_types.specs.Scenarios.{ScenarioOf}
use Rattle.sim_types.specs.declared.event.Entry.{Entry}
use Rattle.sim_types.specs.declared.line.Line.{Line}
use Rattle.sim_machine.specs.Runs.{logged, total}
use Rattle.sim_machine.specs.State.{Control, Idle, Calling, Active, Over, State}
use Rattle.sim_procs.specs.QuietPolls.{InARow}
use Rattle.sim_steps_model.specs.PartsOf.{PartsOf, IsOpenedAs}
use Rattle.sim_steps_model.specs.Resting.{rest_of, rest_in}
use Rattle.sim_steps_model.specs.StandsFor.{StandsFor, LawfulOf, lines_of}
use Rattle.sim_steps_model.specs.declared.mode.Unit.{Unit}
use Rattle.sim_steps_model.specs.declared.mode.Unit.TheVariants as unit
use Rattle.sim_kernel.specs.Stepping.{MakesQuietStep, MakesSteps}
use Rattle.sim_script_model.specs.Scripts.{Script}
use Rattle.sim_script_law.specs.ScriptMembers.{script_body}
use Rattle.sim_trace.specs.Texts.{line_text, trace_text}
use Rattle.sim_engine.specs.Sessions.{SessionOf, IsAt, is_busy, is_processing, steps_in, IsBusyBetween, text_of_steps}
use Rattle.sim_writing.proofs.WrittenUnits.{trace_one}
use Rattle.sim_engine.proofs.StepTexts.{same_steps, text_is}
use Rattle.sim_engine.proofs.StepUnits.{UnitStands, unit_stands, now_at}

-- ---- what is being done

busy_by : (c : Control) (kept : List Entry) → is_busy (rest_of c kept) ≡ true → is_processing c ≡ true
busy_by Idle [] h = absurd (false≢true h)
busy_by Idle (x ∷ kept) h = absurd (false≢true h)
busy_by (Calling e left) kept h = refl
busy_by (Active e left p told) kept h = refl
busy_by (Over why e left) kept h = absurd (false≢true h)

-- where a kernel is busy, the state that it stands for is
pub busy_stands : (parts : PartsOf Script ScenarioOf) (t : State Script) → StandsFor parts t → is_busy (rest_in parts) ≡ true
    → is_processing t.control ≡ true
busy_stands parts t stands busy =
    subst (λ c. is_processing c ≡ true) stands.control (busy_by parts.control parts.shared.happen.agenda busy)

-- ---- so many quiet steps

-- the new kernel stands for the state after them, which is lawful and has the lines of t, and an event is being processed
-- after each of them
pub record QuietlyStands (old new : PartsOf Script ScenarioOf) (n : ℕ) (t : State Script) : Type 0 where
  pub opened : IsOpenedAs old new
  pub stands : StandsFor new (steps_in old n t)
  pub lawful : LawfulOf script_body new (steps_in old n t)
  pub lines : (steps_in old n t).lines ≡ t.lines
  pub busy : (i : ℕ) → 0 < i → i ≤ n → is_processing (steps_in old i t).control ≡ true

pub quietly_stands : (n : ℕ) (old new : PartsOf Script ScenarioOf) (t : State Script) → StandsFor old t → LawfulOf script_body old t
    → InARow (MakesQuietStep script_body) n old new → QuietlyStands old new n t
quietly_stands zero old new t stands lawful same =
    record {
      opened = rw same (record { code = refl; setup = refl; seed = refl });
      stands = rw same stands;
      lawful = rw same lawful;
      lines = refl;
      busy = λ i above below. absurd (omega (arith, above, below));
    }
quietly_stands (suc n) old new t stands lawful row =
    let mid : PartsOf Script ScenarioOf = row.between in
    let u : State Script = steps_in old n t in
    let before : QuietlyStands old mid n t = quietly_stands n old mid t stands lawful row.before in
    let last : UnitStands mid new unit.Quiet u = unit_stands mid new unit.Quiet [] u before.stands before.lawful row.after.makes in
    let same : steps_in mid 1 u ≡ steps_in old (suc n) t = same_steps old mid before.opened 1 u in
    let stands_then : StandsFor new (steps_in old (suc n) t) = subst (StandsFor new) same last.stands in
    record {
      opened =
          record {
            code = row.after.opened.code ∙ before.opened.code;
            setup = row.after.opened.setup ∙ before.opened.setup;
            seed = row.after.opened.seed ∙ before.opened.seed;
          };
      stands = stands_then;
      lawful = subst (LawfulOf script_body new) same last.lawful;
      lines = ap (λ v. v.lines) (sym same) ∙ (last.lines ∙ (append-nil u.lines ∙ before.lines));
      busy = λ i above below. by i above below stands_then before (cases_eq i (suc n));
    }
  where
    by : (i : ℕ) → 0 < i → i ≤ suc n → StandsFor new (steps_in old (suc n) t) → QuietlyStands old row.between n t
        → (i ≡ suc n) ⊎ ((i ≡ suc n) → ⊥) → is_processing (steps_in old i t).control ≡ true
    by i above below stands_then before (inl is) =
        subst (λ k. is_processing (steps_in old k t).control ≡ true) (sym is)
        (busy_stands new (steps_in old (suc n) t) stands_then (ap is_busy row.after.busy))
    by i above below stands_then before (inr differs) = before.busy i above (omega (arith, below, differs))

-- ---- and the last

-- the new kernel stands for the state after them all, which is lawful and adds the line of the last, and an event is being processed
-- between any two of them
pub record UnitsStand (old new : PartsOf Script ScenarioOf) (n : ℕ) (answer : Unit) (t : State Script) : Type 0 where
  pub stands : StandsFor new (steps_in old n t)
  pub lawful : LawfulOf script_body new (steps_in old n t)
  pub lines : (steps_in old n t).lines ≡ t.lines ++ lines_of answer
  pub busy : (i : ℕ) → 0 < i → i < n → is_processing (steps_in old i t).control ≡ true

units_stand : (n : ℕ) (old new : PartsOf Script ScenarioOf) (answer : Unit) (places : List ℕ) (t : State Script) → StandsFor old t → LawfulOf script_body old t
    → MakesSteps script_body n old answer places new → UnitsStand old new n answer t
units_stand zero old new answer places t stands lawful none = absurd none
units_stand (suc n) old new answer places t stands lawful row =
    let mid : PartsOf Script ScenarioOf = row.between in
    let u : State Script = steps_in old n t in
    let before : QuietlyStands old mid n t = quietly_stands n old mid t stands lawful row.before in
    let last : UnitStands mid new answer u = unit_stands mid new answer places u before.stands before.lawful row.after in
    let same : steps_in mid 1 u ≡ steps_in old (suc n) t = same_steps old mid before.opened 1 u in
    record {
      stands = subst (StandsFor new) same last.stands;
      lawful = subst (LawfulOf script_body new) same last.lawful;
      lines = ap (λ v. v.lines) (sym same) ∙ (last.lines ∙ ap (λ ls. ls ++ lines_of answer) before.lines);
      busy = λ i above below. before.busy i above (omega (arith, below));
    }

-- ---- a session whose kernel makes so many units

module _ (view old : SessionOf) (is : view ≡ old) (n : ℕ) (answer : Unit) (places : List ℕ) (new : PartsOf Script ScenarioOf)
    (makes : MakesSteps script_body n view.parts answer places new) where
  units_at : (t : State Script) → IsAt old t → UnitsStand old.parts new n answer t
  units_at t at =
      units_stand n old.parts new answer places t at.stands at.lawful
      (subst (λ p. MakesSteps script_body n p answer places new) (ap (λ x. x.parts) is) makes)

  -- so many more are counted
  counted : (units : ℕ) → units ≡ view.units + n → units - old.units ≡ n
  counted units are =
      let same : view.units ≡ old.units = ap (λ x. x.units) is in
      omega (arith, are, same)

  -- an event is being processed all the while
  pub busy_until : (units : ℕ) → units ≡ view.units + n → (t : State Script) → IsAt old t → IsBusyBetween old.parts (units - old.units) t
  busy_until units are t at = subst (λ k. IsBusyBetween old.parts k t) (sym (counted units are)) (units_at t at).busy

  -- where it counts them, and what the line that they added tells
  adds_at : (later : SessionOf) → later.parts ≡ new → later.units ≡ view.units + n → (added : List Line) → lines_of answer ≡ added
      → later.logs ≡ old.logs + length (logged added) → later.total ≡ old.total +ℤ total (logged added)
      → (t : State Script) → IsAt old t → IsAt later (steps_in old.parts (later.units - old.units) t)
  adds_at later parts are added told logs sum t at =
      let made : UnitsStand old.parts new n answer t = units_at t at in
      let u : State Script = steps_in old.parts n t in
      let stands : StandsFor later.parts u = subst (λ p. StandsFor p u) (sym parts) made.stands in
      let lawful : LawfulOf script_body later.parts u = subst (λ p. LawfulOf script_body p u) (sym parts) made.lawful in
      let lines : u.lines ≡ t.lines ++ added = made.lines ∙ ap (λ ls. t.lines ++ ls) told in
      subst (λ k. IsAt later (steps_in old.parts k t)) (sym (counted later.units are)) (now_at old later t u added at stands lawful lines logs sum)

  -- the last is quiet too
  pub quiet_at : answer ≡ unit.Quiet → (t : State Script) → IsAt old t
      → IsAt (record view { parts = new; units = view.units + n }) (steps_in old.parts (view.units + n - old.units) t)
  quiet_at none t at =
      adds_at (record view { parts = new; units = view.units + n }) refl refl [] (ap lines_of none)
      (ap (λ x. x.logs) is ∙ sym (add-zero old.logs)) (ap (λ x. x.total) is ∙ sym (+ℤ_idr old.total)) t at

  -- their text is that of the last
  text_at : (ports : List (List ℕ)) (units : ℕ) → units ≡ view.units + n → (added : List Line) → lines_of answer ≡ added
      → (t : State Script) → IsAt old t → text_of_steps ports old.parts (units - old.units) t ≡ trace_text ports added
  text_at ports units are added told t at =
      let made : UnitsStand old.parts new n answer t = units_at t at in
      ap (λ k. text_of_steps ports old.parts k t) (counted units are)
      ∙ (text_is ports t (steps_in old.parts n t) (lines_of answer) made.lines ∙ ap (trace_text ports) told)

  pub quiet_text : answer ≡ unit.Quiet → (ports : List (List ℕ)) (t : State Script) → IsAt old t
      → text_of_steps ports old.parts (view.units + n - old.units) t ≡ []
  quiet_text none ports t at = text_at ports (view.units + n) refl [] (ap lines_of none) t at

  -- it writes a line, which is counted
  module _ (x : Line) (told : answer ≡ unit.Line x) (later : SessionOf)
      (then : later ≡ record view {
        parts = new;
        units = view.units + n;
        logs = view.logs + length (logged (x ∷ []));
        total = view.total +ℤ total (logged (x ∷ []));
      }) where
    pub line_busy : (t : State Script) → IsAt old t → IsBusyBetween old.parts (later.units - old.units) t
    line_busy t at = busy_until later.units (ap (λ y. y.units) then) t at

    pub line_at : (t : State Script) → IsAt old t → IsAt later (steps_in old.parts (later.units - old.units) t)
    line_at t at =
        adds_at later (ap (λ y. y.parts) then) (ap (λ y. y.units) then) (x ∷ []) (ap lines_of told)
        (ap (λ y. y.logs) then ∙ ap (λ y. y.logs + length (logged (x ∷ []))) is)
        (ap (λ y. y.total) then ∙ ap (λ y. y.total +ℤ total (logged (x ∷ []))) is) t at

    pub line_text_at : (ports : List (List ℕ)) (t : State Script) → IsAt old t
        → text_of_steps ports old.parts (later.units - old.units) t ≡ line_text ports x
    line_text_at ports t at = text_at ports later.units (ap (λ y. y.units) then) (x ∷ []) (ap lines_of told) t at ∙ trace_one ports x
