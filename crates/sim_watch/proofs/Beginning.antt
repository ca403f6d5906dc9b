-- A run of a scenario: it begins at time 0, each state that it comes to is lawful, and its time never falls.
use Rattle.std.proofs.Common.{◌≡◌, ◌<◌, ◌≤◌, ◌≤ℤ◌, ℕ, zero, suc, ◌+◌, ℤ, pos, List, [], ◌∷◌, refl, sym, ◌∙◌, subst, arith}
use Rattle.std.specs.Prelude.{IsTrue, fold}
use Rattle.std.proofs.lemmas.Int.{ints}
use Rattle.sim_types.specs.Scenarios.{ScenarioOf}
use Rattle.sim_types.specs.declared.setup.Arrival.{Arrival}
use Rattle.sim_types.specs.declared.setup.Start.{Start}
use Rattle.sim_types.specs.declared.setup.Until.{Until}
use Rattle.sim_types.specs.declared.setup.Until.TheVariants as until
use Rattle.sim_machine.specs.State.{Calendar, State, Plan}
use Rattle.sim_machine.specs.Effect.{calendar}
use Rattle.sim_machine.specs.Runs.{set_stop, start_process, blank_state}
use Rattle.sim_machine_law.specs.Courses.{Run, course_after, state_after}
use Rattle.sim_language.specs.WellFormed.{is_well_formed}
use Rattle.sim_script_model.specs.Scripts.{Script}
use Rattle.sim_script_law.specs.ScriptMembers.{script_body}
use Rattle.sim_script_law.proofs.Laws.ScriptLaw.{script_lawful}
use Rattle.sim_script_law.proofs.Laws.SetupFits.{fits_code}
use Rattle.sim_lawful.specs.LawfulRuns.{IsRunOf, LawfulAt}
use Rattle.sim_lawful.proofs.Units.PassingTime.{time_never_falls_in_unit}
use Rattle.sim_lawful.proofs.Units.WholeRuns.{run_stays_lawful}
use Rattle.sim_types.specs.Setups.{HavePorts}
use Rattle.sim_script_law.specs.ScenarioRuns.{run_of}
use Rattle.sim_watch.specs.Following.{time_after}

-- ---- it begins at time 0

started_time : {B : Type 0} (g : Plan B) (s : State B) (starts : List Start) → (calendar (fold (start_process g) s starts)).time ≡ (calendar s).time
started_time g s [] = refl
started_time g s (x ∷ starts) = started_time g (start_process g s x) starts

stopped_time : (u : Until) (c : Calendar) → (set_stop u c).time ≡ c.time
stopped_time until.Never c = refl
stopped_time (until.At time) c = refl
stopped_time (until.Event e) c = refl

pub opens_at_0 : (r : Run Script) → time_after r 0 ≡ pos 0
opens_at_0 r =
    stopped_time r.plan.setup.until (calendar (fold (start_process r.plan) (blank_state r.plan) r.plan.setup.starts))
    ∙ started_time r.plan (blank_state r.plan) r.plan.setup.starts

-- ---- it is lawful

pub is_run : (s : ScenarioOf) (seed : ℕ) (journal : List Arrival) → IsTrue (is_well_formed s) → HavePorts s.setup journal
    → IsRunOf script_body s (run_of s seed journal)
is_run s seed journal well_formed ports =
    record {
      plan = record { starts = refl; fits = fits_code s well_formed };
      turns = λ b time told. (refl, refl);
      ports = ports;
    }

pub lawful_after : (s : ScenarioOf) (r : Run Script) → IsRunOf script_body s r → (k : ℕ) → LawfulAt script_body s r.plan (state_after r k)
lawful_after s r run k = run_stays_lawful script_body s (script_lawful s) r run k

-- ---- its time never falls

up_to : (a b c : ℤ) → a ≡ b → b ≤ℤ c → a ≤ℤ c
up_to a b c h k = omega (arith, ints, h, k)

-- where it stays the same before the last of n units more
pub never_falls : (s : ScenarioOf) (r : Run Script) → IsRunOf script_body s r → (k n : ℕ) → 1 ≤ n
    → ((i : ℕ) → i < n → time_after r (k + i) ≡ time_after r k) → time_after r k ≤ℤ time_after r (k + n)
never_falls s r run k zero some same = absurd (omega (arith, some))
never_falls s r run k (suc n) some same =
    let next : suc (k + n) ≡ k + suc n = omega arith in
    up_to (time_after r k) (time_after r (k + n)) (time_after r (k + suc n)) (sym (same n (omega arith)))
    (subst (λ (j : ℕ). time_after r (k + n) ≤ℤ time_after r j) next
    (time_never_falls_in_unit r.plan r.turn (course_after r (k + n)) (lawful_after s r run (k + n)).times))
