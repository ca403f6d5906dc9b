-- A run under way, as contracts see it, and where it stands.
use Rattle.std.specs.Prelude.{◌≡◌, ◌<◌, ℕ, zero, suc, ℤ, nat_le, nat_lt, ◌&&◌, Bool, true, false, if◌then◌else◌, List, length, drop, unwrap_or, Option, Some, None, IsTrue}
use Rattle.sim_types.specs.Scenarios.{ScenarioOf}
use Rattle.sim_types.specs.declared.line.End.{End}
use Rattle.sim_types.specs.declared.line.End.TheVariants as end
use Rattle.sim_types.specs.declared.setup.Until.{Until}
use Rattle.sim_machine.specs.State.{Control, Calling, Active, State, Plan}
use Rattle.sim_machine.specs.Steps.{TurnFunction, step_of}
use Rattle.sim_machine.specs.Runs.{empty_end, logged, total}
use Rattle.sim_steps_model.specs.PartsOf.{PartsOf, IsOpenedAs, plan_of}
use Rattle.sim_steps_model.specs.Resting.{rest_in}
use Rattle.sim_steps_model.specs.StandsFor.{StandsFor, LawfulOf}
use Rattle.sim_steps_model.specs.declared.mode.Rest.{Rest}
use Rattle.sim_steps_model.specs.declared.mode.Rest.TheVariants as rest
use Rattle.sim_script_model.specs.Scripts.{Script}
use Rattle.sim_script_model.specs.Polls.{script_turn}
use Rattle.sim_script_law.specs.ScriptMembers.{script_body}
use Rattle.sim_trace.specs.Texts.{trace_text}
use Rattle.sim_engine.specs.declared.report.Report.{Report}
use Rattle.sim_engine.specs.declared.session.Turn.{Turn}
use Rattle.sim_engine.specs.declared.session.Turn.TheVariants as turn

-- a run under way: its kernel, how many units were made and may be made, whether an arrival came when no unit was left for
-- it, and the number and sum of what was logged
pub record SessionOf : Type 0 where
  pub parts : PartsOf Script ScenarioOf
  pub units : ℕ
  pub limit : ℕ
  pub refused : Bool
  pub logs : ℕ
  pub total : ℤ

-- it stands for this lawful state of the machine that its kernel was opened with, and has counted what was logged by then
pub record IsAt (x : SessionOf) (t : State Script) : Type 0 where
  pub stands : StandsFor x.parts t
  pub lawful : LawfulOf script_body x.parts t
  pub logs : x.logs ≡ length (logged t.lines)
  pub total : x.total ≡ total (logged t.lines)

-- it is of the same run
pub record GoesOn (old new : SessionOf) : Type 0 where
  pub opened : IsOpenedAs old.parts new.parts
  pub limit : new.limit ≡ old.limit

-- ---- where it stands

-- by where its kernel stands, and whether all units are spent
abbrev pub turn_at : Bool → Rest → Turn
turn_at spent rest.Idle = if spent then turn.Over end.Limit else turn.Idle
turn_at spent rest.Busy = turn.Over end.Limit
turn_at spent rest.Empty = turn.Empty
turn_at spent (rest.Over why) = turn.Over why

abbrev pub turn_of : SessionOf → Turn
turn_of x = if x.refused then turn.Over end.Limit else turn_at (nat_le x.limit x.units) (rest_in x.parts)

-- whether something may arrive
abbrev pub takes_arrivals : Turn → Bool
takes_arrivals turn.Idle = true
takes_arrivals turn.Empty = true
takes_arrivals (turn.Over why) = false

-- nothing is being done, or all units are spent
abbrev pub is_busy : Rest → Bool
is_busy rest.Busy = true
is_busy _ = false

abbrev pub IsSettled : SessionOf → Type 0
IsSettled x = IsTrue (is_busy (rest_in x.parts)) → x.units ≡ x.limit

-- an event is being processed, and a unit is left
abbrev pub is_under_way : SessionOf → Bool
is_under_way x = nat_lt x.units x.limit && is_busy (rest_in x.parts)

-- ---- steps

-- so many steps on, in which nothing arrives
abbrev pub steps : Plan Script → TurnFunction Script → ℕ → State Script → State Script
steps g turn zero t = t
steps g turn (suc k) t = step_of g turn (steps g turn k t)

-- the same of the machine that the kernel was opened with
abbrev pub steps_in : PartsOf Script ScenarioOf → ℕ → State Script → State Script
steps_in parts k t = steps (plan_of script_body parts) (script_turn parts.code.code) k t

-- an event is being processed
abbrev pub is_processing : Control → Bool
is_processing (Calling e left) = true
is_processing (Active e left p told) = true
is_processing _ = false

-- one is all the while between the first of these steps and the last
abbrev pub IsBusyBetween : PartsOf Script ScenarioOf → ℕ → State Script → Type 0
IsBusyBetween parts k t = (i : ℕ) → 0 < i → i < k → is_processing (steps_in parts i t).control ≡ true

-- the lines that stand in the second of two states behind those of the first, as they are printed
abbrev pub text_since : List (List ℕ) → State Script → State Script → List ℕ
text_since ports t u = trace_text ports (drop (length t.lines) u.lines)

-- the lines of so many steps
abbrev pub text_of_steps : List (List ℕ) → PartsOf Script ScenarioOf → ℕ → State Script → List ℕ
text_of_steps ports parts k t = text_since ports t (steps_in parts k t)

-- ---- its end

-- how a run has ended, if it has, by where its kernel stands; for want of events it ends by what was to end it
abbrev pub ended_at : Until → Rest → Option End
ended_at until rest.Busy = None
ended_at until rest.Idle = None
ended_at until rest.Empty = Some (empty_end until)
ended_at until (rest.Over why) = Some why

-- how it ends where no more units are made: where it has not ended, or an arrival was left, by its limit
abbrev pub end_in : SessionOf → End
end_in x = if x.refused then end.Limit else unwrap_or (ended_at x.parts.setup.until (rest_in x.parts)) end.Limit

-- what it has come to
abbrev pub report_of : SessionOf → Report
report_of x =
    record {
      summary =
          record {
            end = end_in x;
            time = x.parts.shared.happen.time;
            processed = x.parts.processed;
            logs = x.logs;
            total = x.total;
          };
      units = x.units;
    }
