-- What is watched at each resource as a walk goes on, over the run that it makes.
use Rattle.std.specs.Prelude.{◌≡◌, ◌<◌, ◌≤◌, ◌≤ℤ◌, ◌+◌, ℕ, ℤ, false, List, length, slice_index_or, None, All}
use Rattle.std.specs.List.{AllPass}
use Rattle.sim_types.specs.Scenarios.{ScenarioOf}
use Rattle.sim_types.specs.Setups.{resource_fits}
use Rattle.sim_types.specs.declared.line.Measure.{Measure}
use Rattle.sim_machine.specs.State.{State}
use Rattle.sim_machine.specs.Effect.{calendar}
use Rattle.sim_machine.specs.Measures.{measure_at}
use Rattle.sim_machine.specs.Runs.{end_of}
use Rattle.sim_machine_law.specs.Courses.{Run, course_after, state_after}
use Rattle.sim_lawful.specs.LawfulRuns.{IsRunOf}
use Rattle.sim_shared_model.specs.Measuring.{is_one_of}
use Rattle.sim_steps_model.specs.PartsOf.{plan_of}
use Rattle.sim_steps_model.specs.StandsFor.{StandsFor, LawfulOf}
use Rattle.sim_kernel.specs.KernelOf.{KernelOf}
use Rattle.sim_kernel.specs.Walks.{WalkOf, StandsAt, BeginsOn}
use Rattle.sim_script_model.specs.Polls.{script_turn}
use Rattle.sim_script_model.specs.Scripts.{Script}
use Rattle.sim_script_law.specs.ScenarioRuns.{run_of}
use Rattle.sim_script_law.specs.ScriptMembers.{script_body}
use Rattle.sim_watch.specs.Watched.{WatchedOf, IsWatched}

-- ---- the run

-- the run that a walk makes, which stands at its beginning
abbrev pub run_from : ScenarioOf → WalkOf Script ScenarioOf → Run Script
run_from s w = run_of s w.kernel.parts.seed w.left

-- its time after so many units, and what is measured then at the resource of this place
abbrev pub time_after : Run Script → ℕ → ℤ
time_after r k = (calendar (state_after r k)).time

abbrev pub measure_after : Run Script → ℕ → ℕ → Measure
measure_after r res k = measure_at r.plan.setup.resources res (state_after r k).facilities

-- ---- a walk in it

-- the walk stands at the beginning of a run of the scenario
pub record IsAtOpening (s : ScenarioOf) (w : WalkOf Script ScenarioOf) : Type 0 where
  pub code : w.kernel.parts.code ≡ s
  pub setup : w.kernel.parts.setup ≡ s.setup
  pub units : w.kernel.units ≡ 0
  pub begins : BeginsOn script_body w.left w
  pub run : IsRunOf script_body s (run_from s w)

-- the walk stands where the run does after as many units, and that had not ended before any of them
pub record IsInRun (r : Run Script) (w : WalkOf Script ScenarioOf) : Type 0 where
  pub plan : r.plan ≡ plan_of script_body w.kernel.parts
  pub turn : r.turn ≡ script_turn w.kernel.parts.code.code
  pub at : StandsAt script_body w (course_after r w.kernel.units)
  pub under_way : (k : ℕ) → k < w.kernel.units → end_of r.plan (course_after r k) ≡ None

-- the walk stands where the run does after so many units at most
pub record IsAtLast (r : Run Script) (limit : ℕ) (w : WalkOf Script ScenarioOf) : Type 0 where
  pub plan : r.plan ≡ plan_of script_body w.kernel.parts
  pub at : StandsAt script_body w (course_after r limit)

-- the kernel stands for a lawful state of a machine whose resources fit
pub record CanBeMeasured (kernel : KernelOf Script ScenarioOf) : Type 0 where
  pub state : State Script
  pub stands : StandsFor kernel.parts state
  pub lawful : LawfulOf script_body kernel.parts state
  pub fits : AllPass resource_fits kernel.parts.setup.resources

-- the kernel stands where the run does n units after the first k: before the last of them neither the time changes nor what is
-- measured, and by the last it changes at these places alone
pub record HasMoved (r : Run Script) (k n : ℕ) (places : List ℕ) (kernel : KernelOf Script ScenarioOf) : Type 0 where
  pub setup : r.plan.setup ≡ kernel.parts.setup
  pub stands : StandsFor kernel.parts (state_after r (k + n))
  pub some : 1 ≤ n
  pub same_time : (i : ℕ) → i < n → time_after r (k + i) ≡ time_after r k
  pub same_measures : (res : ℕ) → res < length r.plan.setup.resources → (i : ℕ) → i < n
      → measure_after r res (k + i) ≡ measure_after r res k
  pub others : (res : ℕ) → res < length r.plan.setup.resources → is_one_of res places ≡ false
      → measure_after r res (k + n) ≡ measure_after r res k

-- ---- what is watched

-- each resource in its place, over so many units
pub record AreWatched (r : Run Script) (k : ℕ) (watched : List WatchedOf) : Type 0 where
  pub all : length watched ≡ length r.plan.setup.resources
  pub each : (res : ℕ) (d : WatchedOf) → res < length watched
      → IsWatched (time_after r) (measure_after r res) k (slice_index_or watched res d)

-- what is watched tells of no later time
abbrev pub AreUpTo : ℤ → List WatchedOf → Type 0
AreUpTo now watched = All (λ w. w.since ≤ℤ now) watched

-- the walk stands in the run, and all resources are watched up to there
pub record Follows (r : Run Script) (w : WalkOf Script ScenarioOf) (rows : List WatchedOf) : Type 0 where
  pub walk : IsInRun r w
  pub watched : AreWatched r w.kernel.units rows
  pub up_to : AreUpTo (time_after r w.kernel.units) rows
