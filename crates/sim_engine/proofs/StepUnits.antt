-- A unit of the kernel is a step of the machine, whose line is counted.
use Rattle.std.proofs.Common.{◌≡◌, ℕ, ◌+◌, ◌-◌, ℤ, ◌+ℤ◌, List, [], ◌∷◌, ◌++◌, length, refl, sym, ap, ◌∙◌, subst, arith}
use Rattle.std.proofs.Math.IntN.{+ℤ_assoc, +ℤ_idl}
use Rattle.std.proofs.Common.{length-append}
use Rattle.sim_types.specs.Scenarios.{ScenarioOf}
use Rattle.sim_types.specs.declared.line.Line.{Line}
use Rattle.sim_types.specs.declared.line.Line.TheVariants as line
use Rattle.sim_machine.specs.State.{State}
use Rattle.sim_machine.specs.Runs.{logged, total}
use Rattle.sim_machine.specs.Units.{arrive}
use Rattle.sim_steps_model.specs.PartsOf.{PartsOf, KeepsButRoom, plan_of}
use Rattle.sim_steps_model.specs.StandsFor.{StandsFor, LawfulOf, lines_of}
use Rattle.sim_steps_model.specs.declared.mode.Unit.{Unit}
use Rattle.sim_steps_law.proofs.Kernels.Rooms.{roomier_stands, roomier_lawful}
use Rattle.sim_kernel.specs.Stepping.{MakesStep, StepsFrom}
use Rattle.sim_kernel.specs.Arriving.{MakesArrival, ArrivesFrom}
use Rattle.sim_script_model.specs.Scripts.{Script}
use Rattle.sim_script_law.specs.ScriptMembers.{script_body}
use Rattle.sim_script_law.proofs.Laws.OnlySteps.{only_script_step}
use Rattle.sim_engine.specs.Sessions.{SessionOf, IsAt, steps_in}

-- ---- what is logged by more lines

pub logged_append : (xs ys : List Line) → logged (xs ++ ys) ≡ logged xs ++ logged ys
logged_append [] ys = refl
logged_append (line.Event time number event outcome priority kind ∷ xs) ys = logged_append xs ys
logged_append (line.Log time p value ∷ xs) ys = ap (λ vs. value ∷ vs) (logged_append xs ys)
logged_append (line.Arrive after value port ∷ xs) ys = logged_append xs ys
logged_append (line.Finish time processed how ∷ xs) ys = logged_append xs ys

total_append : (xs ys : List ℤ) → total (xs ++ ys) ≡ total xs +ℤ total ys
total_append [] ys = sym (+ℤ_idl (total ys))
total_append (x ∷ xs) ys = ap (λ n. x +ℤ n) (total_append xs ys) ∙ sym (+ℤ_assoc x (total xs) (total ys))

-- ---- what a session stands for and counts

-- where the lines grew by these, which were counted
pub now_at : (old new : SessionOf) (t u : State Script) (added : List Line) → IsAt old t
    → StandsFor new.parts u → LawfulOf script_body new.parts u → u.lines ≡ t.lines ++ added
    → new.logs ≡ old.logs + length (logged added) → new.total ≡ old.total +ℤ total (logged added) → IsAt new u
now_at old new t u added h stands lawful lines logs sum =
    record {
      stands = stands;
      lawful = lawful;
      logs =
          logs ∙ ap (λ n. n + length (logged added)) h.logs
          ∙ sym (ap (λ ls. length (logged ls)) lines ∙ ap length (logged_append t.lines added) ∙ length-append (logged t.lines) (logged added));
      total =
          sum ∙ ap (λ n. n +ℤ total (logged added)) h.total
          ∙ sym (ap (λ ls. total (logged ls)) lines ∙ ap total (logged_append t.lines added) ∙ total_append (logged t.lines) (logged added));
    }

-- where only the room changed
pub still_at : (old new : SessionOf) (t : State Script) → KeepsButRoom old.parts new.parts → new.logs ≡ old.logs → new.total ≡ old.total → IsAt old t
    → IsAt new t
still_at old new t room logs sum at =
    record {
      stands = roomier_stands old.parts new.parts t room at.stands;
      lawful = roomier_lawful script_body old.parts new.parts t room at.lawful;
      logs = logs ∙ at.logs;
      total = sum ∙ at.total;
    }

-- the same of a session whose units are counted from another value of it
pub still_after : (view old : SessionOf) → view ≡ old → (new : SessionOf) → KeepsButRoom view.parts new.parts → new.units ≡ view.units → new.logs ≡ view.logs
    → new.total ≡ view.total → (t : State Script) → IsAt old t → IsAt new (steps_in old.parts (new.units - old.units) t)
still_after view old is new room units logs sum t at =
    let none : new.units - old.units ≡ 0 = omega (arith, units, ap (λ x. x.units) is) in
    subst (λ n. IsAt new (steps_in old.parts n t)) (sym none) (still_at view new t room logs sum (subst (λ x. IsAt x t) (sym is) at))

-- ---- a unit

pub record UnitStands (old new : PartsOf Script ScenarioOf) (answer : Unit) (t : State Script) : Type 0 where
  pub stands : StandsFor new (steps_in old 1 t)
  pub lawful : LawfulOf script_body new (steps_in old 1 t)
  pub lines : (steps_in old 1 t).lines ≡ t.lines ++ lines_of answer

pub unit_stands : (old new : PartsOf Script ScenarioOf) (answer : Unit) (places : List ℕ) (t : State Script) → StandsFor old t → LawfulOf script_body old t
    → MakesStep script_body old answer places new → UnitStands old new answer t
unit_stands old new answer places t stands lawful makes =
    let next : StepsFrom script_body old t answer places new = makes.each t lawful stands in
    let is : next.state ≡ steps_in old 1 t = only_script_step (plan_of script_body old) old.code t next.state next.stepped in
    record {
      stands = subst (StandsFor new) is next.stands;
      lawful = subst (LawfulOf script_body new) is next.lawful;
      lines = ap (λ u. u.lines) (sym is) ∙ next.lines;
    }

-- something arrives
pub arrives_at : (old new : SessionOf) (before : PartsOf Script ScenarioOf) → before ≡ old.parts → (port : ℕ) (value : ℤ) (x : Line)
    → MakesArrival script_body port value before x new.parts
    → new.logs ≡ old.logs + length (logged (x ∷ [])) → new.total ≡ old.total +ℤ total (logged (x ∷ []))
    → (t : State Script) → IsAt old t → IsAt new (arrive (plan_of script_body old.parts) port value t)
arrives_at old new before same port value x makes logs sum t at =
    let arrived : ArrivesFrom script_body port value old.parts t x new.parts = (subst (λ p. MakesArrival script_body port value p x new.parts) same makes).each t at.lawful at.stands in
    now_at old new t (arrive (plan_of script_body old.parts) port value t) (x ∷ []) at arrived.stands arrived.lawful arrived.lines logs sum
