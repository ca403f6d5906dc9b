-- Units of a kernel in a row lead on in a run.
use Rattle.std.proofs.Common.{◌≡◌, ℕ, zero, suc, List, [], append-nil, drop, Some, None, refl, sym, ap, ◌∙◌, subst}
use Rattle.sim_types.specs.declared.line.Line.{Line}
use Rattle.sim_types.specs.declared.setup.Arrival.{Arrival}
use Rattle.sim_machine.specs.State.{State}
use Rattle.sim_machine.specs.Bodies.{BodyOf}
use Rattle.sim_machine.specs.Units.{Course, IsUnit, due_arrival, inject}
use Rattle.sim_procs.specs.QuietPolls.{InARow, QuietButLast}
use Rattle.sim_steps_model.specs.PartsOf.{PartsOf, IsOpenedAs, plan_of}
use Rattle.sim_steps_model.specs.StandsFor.{StandsFor, LawfulOf, StepOf}
use Rattle.sim_steps_model.specs.Touching.{touched_places}
use Rattle.sim_steps_model.specs.declared.mode.Touched.TheVariants as touched
use Rattle.sim_steps_model.specs.declared.mode.Unit.TheVariants as unit
use Rattle.sim_steps_model.specs.declared.mode.Units.{Units}
use Rattle.sim_kernel.specs.Accounting.{HasAccounts}
use Rattle.sim_kernel.specs.Arriving.{MakesArrival}
use Rattle.sim_kernel.specs.Stepping.{AreMeasuredAlike, MakesQuietStep, MakesSteps, StepsFrom}
use Rattle.sim_kernel.specs.Walks.{WalkOf, StandsAt, LeadsQuietly, LeadsAtLast}
use Rattle.sim_kernel.proofs.NextUnits.{GoesOnWith, busy_goes_on}
use Rattle.sim_steps_law.proofs.Kernels.Accounting.{opened_then}

-- a step is a unit where nothing arrives
step_is_unit : {B Code : Type 0} (body : BodyOf B Code) (parts : PartsOf B Code) (m : Course B) (t : State B) → due_arrival m.state m.left ≡ None
    → StepOf body parts m.state t → IsUnit (plan_of body parts) (body.turn parts.code) m (record { state = t; left = m.left })
step_is_unit body parts m t none h = rw none (h, refl)

-- an arrival is one where it is due
arrival_is_unit : {B Code : Type 0} (body : BodyOf B Code) (parts : PartsOf B Code) (m : Course B) (a : Arrival) → due_arrival m.state m.left ≡ Some a
    → IsUnit (plan_of body parts) (body.turn parts.code) m (inject (plan_of body parts) a m)
arrival_is_unit body parts m a due = rw due refl

-- a kernel that was opened as another makes the steps of its machine
opened_step : {B Code : Type 0} (body : BodyOf B Code) (old mid : PartsOf B Code) (s t : State B) → IsOpenedAs old mid → StepOf body mid s t
    → StepOf body old s t
opened_step body old mid s t opened h = rw (opened.code, opened.setup, opened.seed) at h

module _ {B Code : Type 0} (body : BodyOf B Code) (old : WalkOf B Code) (m : Course B) (h : StandsAt body old m)
    (next : GoesOnWith (plan_of body old.kernel.parts) m None) where
  abbrev first : PartsOf B Code
  first = old.kernel.parts

  -- where so many quiet steps lead to these parts, as many units lead quietly to a course that these stand for
  record AfterQuiet (n : ℕ) (parts : PartsOf B Code) : Type 0 where
    later : Course B
    row : InARow (LeadsQuietly body first) n m later
    stands : StandsFor parts later.state
    lawful : LawfulOf body parts later.state
    accounts : HasAccounts body parts later.state
    left : later.left ≡ m.left
    goes_on : GoesOnWith (plan_of body first) later None
    opened : IsOpenedAs first parts

  after_quiet : (n : ℕ) (parts : PartsOf B Code) → InARow (MakesQuietStep body) n first parts → AfterQuiet n parts
  after_quiet zero parts same =
      record {
        later = m;
        row = refl;
        stands = rw same h.stands;
        lawful = rw same h.lawful;
        accounts = rw same h.accounts;
        left = refl;
        goes_on = next;
        opened = rw same (record { code = refl; setup = refl; seed = refl });
      }
  after_quiet (suc n) parts row =
      let from : PartsOf B Code = row.between in
      let before = after_quiet n from row.before in
      let s : State B = before.later.state in
      let step : StepsFrom body from s unit.Quiet [] parts = row.after.makes.each s before.lawful before.stands in
      let then : Course B = record { state = step.state; left = before.later.left } in
      let opened : IsOpenedAs first parts = opened_then first from parts before.opened row.after.opened in
      let w : WalkOf B Code = record { kernel = record { parts = parts; units = 0; listed = [] }; left = then.left; limit = 0 } in
      let stands : StandsAt body w then = record { stands = step.stands; lawful = step.lawful; accounts = step.accounts before.accounts; left = refl } in
      let on = busy_goes_on body w then stands row.after.busy in
      record {
        later = then;
        row = record {
          between = before.later;
          before = before.row;
          after = record {
            leads = record {
              goes_on = before.goes_on.goes_on;
              unit = step_is_unit body first before.later step.state before.goes_on.due (opened_step body first from s step.state before.opened step.stepped);
            };
            lines = step.lines ∙ append-nil s.lines;
            time = sym step.stands.facilities.calendar.time ∙ (row.after.time ∙ before.stands.facilities.calendar.time);
            measures = subst (λ rs. AreMeasuredAlike rs [] s step.state) (ap (λ x. x.resources) before.opened.setup) step.measures;
          };
        };
        stands = step.stands;
        lawful = step.lawful;
        accounts = step.accounts before.accounts;
        left = before.left;
        goes_on = subst (λ g. GoesOnWith g then None) (same_plan first parts opened) on;
        opened = opened;
      }
    where
      same_plan : (a b : PartsOf B Code) → IsOpenedAs a b → plan_of body b ≡ plan_of body a
      same_plan a b is = rw (is.code, is.setup, is.seed) refl

  abbrev touched_by : Units → WalkOf B Code → List ℕ
  touched_by units new = touched_places units.touched new.kernel.listed

  last_leads : (units : Units) (new : WalkOf B Code) → new.left ≡ old.left → (n : ℕ)
      → MakesSteps body n first units.last (touched_by units new) new.kernel.parts
      → QuietButLast (LeadsQuietly body first) (LeadsAtLast body old new units) n m
  last_leads units new same zero none = absurd none
  last_leads units new same (suc n) row =
      let from : PartsOf B Code = row.between in
      let before = after_quiet n from row.before in
      let s : State B = before.later.state in
      let step : StepsFrom body from s units.last (touched_by units new) new.kernel.parts = row.after.each s before.lawful before.stands in
      record {
        between = before.later;
        before = before.row;
        after = record {
          later = record { state = step.state; left = before.later.left };
          leads = record {
            goes_on = before.goes_on.goes_on;
            unit = step_is_unit body first before.later step.state before.goes_on.due (opened_step body first from s step.state before.opened step.stepped);
          };
          lines = step.lines;
          measures = subst (λ rs. AreMeasuredAlike rs (touched_by units new) s step.state) (ap (λ x. x.resources) before.opened.setup) step.measures;
          stands = record { stands = step.stands; lawful = step.lawful; accounts = step.accounts before.accounts; left = before.left ∙ (h.left ∙ sym same) };
        };
      }

  pub steps_lead : (units : Units) (new : WalkOf B Code) → new.left ≡ old.left
      → MakesSteps body units.made first units.last (touched_by units new) new.kernel.parts
      → QuietButLast (LeadsQuietly body first) (LeadsAtLast body old new units) units.made m
  steps_lead units new same row = last_leads units new same units.made row

abbrev arrived_units : Line → Units
arrived_units line = record { made = 1; last = unit.Line line; touched = touched.Nothing }

-- an arrival that is due is a unit that leads on
pub arrival_leads : {B Code : Type 0} (body : BodyOf B Code) (old : WalkOf B Code) (m : Course B) → StandsAt body old m → (a : Arrival)
    → GoesOnWith (plan_of body old.kernel.parts) m (Some a) → (line : Line) (new : WalkOf B Code) → new.left ≡ drop 1 old.left
    → MakesArrival body a.port a.value old.kernel.parts line new.kernel.parts
    → QuietButLast (LeadsQuietly body old.kernel.parts) (LeadsAtLast body old new (arrived_units line)) 1 m
arrival_leads body old m h a next line new left makes =
    let arrived = makes.each m.state h.lawful h.stands in
    record {
      between = m;
      before = refl;
      after = record {
        later = inject (plan_of body old.kernel.parts) a m;
        leads = record { goes_on = next.goes_on; unit = arrival_is_unit body old.kernel.parts m a next.due };
        lines = arrived.lines;
        measures = arrived.measures;
        stands = record { stands = arrived.stands; lawful = arrived.lawful; accounts = arrived.accounts h.accounts; left = ap (drop 1) h.left ∙ sym left };
      };
    }
