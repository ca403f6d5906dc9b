-- How far a run has come, and what comes next in it.
use Rattle.std.specs.Prelude.{◌≡◌, ◌<◌, ℕ, nat_le, if◌then◌else◌, List, [], ◌∷◌, length, None, IsTrue}
use Rattle.sim_types.specs.Scenarios.{ScenarioOf}
use Rattle.sim_types.specs.declared.setup.Arrival.{Arrival}
use Rattle.sim_machine.specs.Runs.{end_of}
use Rattle.sim_machine_law.specs.Courses.{course_after, lines_after}
use Rattle.sim_steps_model.specs.Resting.{can_arrive, rest_in}
use Rattle.sim_script_law.specs.ScenarioRuns.{run_of}
use Rattle.sim_trace.specs.Texts.{trace_text}
use Rattle.sim_engine.specs.Sessions.{SessionOf, IsAt}
use Rattle.sim_engine.specs.declared.runs.Next.{Next}
use Rattle.sim_engine.specs.declared.runs.Next.TheVariants as next
use Rattle.sim_engine.specs.declared.session.Turn.{Turn}
use Rattle.sim_engine.specs.declared.session.Turn.TheVariants as turn

-- what comes next where a run stands so, by how many events were processed and what of the journal is left
abbrev pub next_of : Turn → ℕ → List Arrival → Next
next_of (turn.Over why) processed left = next.End
next_of turn.Empty processed [] = next.End
next_of turn.Empty processed (a ∷ left) = next.Arrival a
next_of turn.Idle processed [] = next.Turn
next_of turn.Idle processed (a ∷ left) = if nat_le a.after processed then next.Arrival a else next.Turn

-- all units are spent, and an arrival is left for which nothing else is waited
pub record IsRefused (x : SessionOf) (left : List Arrival) : Type 0 where
  pub spent : x.units ≡ x.limit
  pub some_left : 0 < length left
  pub waits : IsTrue (can_arrive (rest_in x.parts))

-- the session stands where this run stands after as many units, of which none came after its end, and this of the journal
-- is left
pub record StandsInRun (s : ScenarioOf) (seed : ℕ) (journal left : List Arrival) (x : SessionOf) : Type 0 where
  pub code : x.parts.code ≡ s
  pub setup : x.parts.setup ≡ s.setup
  pub seeded : x.parts.seed ≡ seed
  pub at : IsAt x (course_after (run_of s seed journal) x.units).state
  pub left_is : (course_after (run_of s seed journal) x.units).left ≡ left
  pub under_way : (k : ℕ) → k < x.units → end_of (run_of s seed journal).plan (course_after (run_of s seed journal) k) ≡ None
  pub refused : IsTrue x.refused → IsRefused x left

-- the lines of so many units, as they are printed
abbrev pub text_by : ScenarioOf → ℕ → List Arrival → ℕ → List ℕ
text_by s seed journal units = trace_text s.port_names (lines_after (run_of s seed journal) units)
