-- What a run of any body writes.
use Rattle.std.specs.Prelude.{◌≡◌, ◌≤◌, ◌⊎◌, ℕ, List, IfOk, IsErr, OnOk}
use Rattle.std.specs.declared.result.Result.{Result}
use Rattle.sim_types.specs.declared.line.End.{End}
use Rattle.sim_types.specs.declared.setup.Arrival.{Arrival}
use Rattle.sim_machine.specs.Bodies.{BodyOf}
use Rattle.sim_machine.specs.State.{Plan}
use Rattle.sim_machine.specs.Steps.{Turn}
use Rattle.sim_machine.specs.Runs.{IsRun, Runs, end_word, opening_course, trace_of}
use Rattle.sim_machine.specs.Units.{Course}
use Rattle.sim_outside.specs.Writes.{SinkOf, Writes}
use Rattle.sim_steps_model.specs.PartsOf.{plan_of}
use Rattle.sim_kernel.specs.Walks.{WalkOf, BeginsOn, StandsAt}
use Rattle.sim_trace.specs.Texts.{trace_text}
use Rattle.sim_writing.specs.declared.fault.RunFault.{RunFault}
use Rattle.sim_writing.specs.RunFaults.{is_write}

-- ---- what a whole run writes

-- a call wrote the trace of a run of so many units, or of fewer that end it, and tells how the run ended
pub record WritesWhole {B : Type 0} (g : Plan B) (turn : Turn B) (journal : List Arrival) (limit : ℕ) (ports : List (List ℕ))
    (old new : SinkOf) (result : Result End RunFault) : Type 0 where
  pub last : Course B
  pub run : IsRun g turn journal limit last
  pub end_is : IfOk result (λ end. end ≡ end_word g last)
  pub written : Writes is_write old new result (trace_text ports (trace_of g last))

-- a call that failed wrote the lines of the first units of a run, or a prefix of them
pub record WritesFront {B : Type 0} (g : Plan B) (turn : Turn B) (journal : List Arrival) (limit : ℕ) (ports : List (List ℕ))
    (old new : SinkOf) (result : Result End RunFault) : Type 0 where
  pub failed : IsErr result
  pub units : ℕ
  pub within : units ≤ limit
  pub last : Course B
  pub ran : Runs g turn units (opening_course g journal) last
  pub written : Writes is_write old new result (trace_text ports last.state.lines)

-- a call wrote the trace of a run, or it failed before the end of the run
abbrev pub WritesRun : {B : Type 0} → Plan B → Turn B → List Arrival → ℕ → List (List ℕ) → SinkOf → SinkOf → Result End RunFault → Type 0
WritesRun g turn journal limit ports old new result =
    WritesWhole g turn journal limit ports old new result ⊎ WritesFront g turn journal limit ports old new result

-- ---- a run under way

-- the walk stands at the beginning of its run
pub record IsAtOpening {B Code : Type 0} (body : BodyOf B Code) (w : WalkOf B Code) : Type 0 where
  pub units : w.kernel.units ≡ 0
  pub begins : BeginsOn body w.left w

-- a call wrote the lines of the units that a walk made since its opening; where it went well, the walk stands where they led
pub record HasWritten {B Code : Type 0} (body : BodyOf B Code) (ports : List (List ℕ)) (old new : SinkOf) (result : Result (Unit {0}) RunFault)
    (opened w : WalkOf B Code) : Type 0 where
  pub within : w.kernel.units ≤ opened.limit
  pub last : Course B
  pub ran : Runs (plan_of body opened.kernel.parts) (body.turn opened.kernel.parts.code) w.kernel.units
      (opening_course (plan_of body opened.kernel.parts) opened.left) last
  pub written : Writes is_write old new result (trace_text ports last.state.lines)
  pub stands : OnOk result (StandsAt body w last)
