-- A text that has a trace after its scenario.
use Rattle.std.proofs.Common.{◌≡◌, ℕ, Bool, true, false, List, length, Option, Some, None, Result, Ok, Err}
use Rattle.std.specs.Prelude.{if◌then◌else◌}
use Rattle.std.specs.List.{concat}
use Rattle.sim_types.specs.Scenarios.{ScenarioOf}
use Rattle.sim_types.specs.declared.fault.Fault.{Fault}
use Rattle.sim_language.specs.Reads.{is_too_long, reads}
use Rattle.sim_verify.specs.TraceLines.{fed_lines, reads_parts, reads_with_trace, scenario_lines, trace_lines, unclosed}

-- a text says this scenario
pub record Says (s : ScenarioOf) : Type 0 where
  pub text : List ℕ
  pub says : reads text ≡ Ok s

-- where it says a scenario, the part before the trace does
pub read_before_trace : (text : List ℕ) (s : ScenarioOf) → reads_with_trace text ≡ Ok s → Says s
read_before_trace text s is = by (is_too_long text) (trace_lines (fed_lines text)) (reads text) is
  where
    by : (long : Bool) (trace : Option (List (List ℕ))) (read : Result ScenarioOf Fault)
        → (if long then reads text else reads_parts text trace) ≡ Ok s → Says s
    by true trace read says = record { text = text; says = says }
    by false (Some trace) read says = record { text = concat (scenario_lines (fed_lines text)); says = says }
    by false None read says = never (reads text) says
      where
        never : (read : Result ScenarioOf Fault) → unclosed (length (fed_lines text)) read ≡ Ok s → Says s
        never (Ok t) says = absurd (cc)
        never (Err f) says = absurd (cc)
