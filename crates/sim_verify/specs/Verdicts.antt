-- Whether a trace is that of a scenario, and else the first line that differs.
use Rattle.std.specs.Prelude.{ℕ, ◌+◌, if◌then◌else◌, List, [], ◌∷◌}
use Rattle.sim_types.specs.Scenarios.{ScenarioOf}
use Rattle.sim_types.specs.declared.setup.Arrival.{Arrival}
use Rattle.sim_language.specs.Lines.{same}
use Rattle.sim_trace_reader.specs.LineTexts.{is_line}
use Rattle.sim_engine.specs.RunOfScenario.{printed_run}
use Rattle.sim_verify.specs.declared.verdict.Verdict.{Verdict}
use Rattle.sim_verify.specs.declared.verdict.Verdict.TheVariants.{Yes, No}
use Rattle.sim_verify.specs.declared.verdict.Why.{Why}
use Rattle.sim_verify.specs.declared.verdict.Why.TheVariants as why
use Rattle.sim_verify.specs.TraceLines.{fed_lines}

-- a line that is not the one of the trace: it is the line of some trace, or of none
abbrev pub why_of : List (List ℕ) → List ℕ → Why
why_of ports line = if is_line ports line then why.Step else why.Shape

-- the lines that are given are those of the trace, or this is the first that differs, where the first of them has this number
abbrev pub verdict_from : List (List ℕ) → ℕ → List (List ℕ) → List (List ℕ) → Verdict
verdict_from ports n [] [] = Yes
verdict_from ports n [] (g ∷ given) = No n why.Extra
verdict_from ports n (t ∷ trace) [] = No n why.Short
verdict_from ports n (t ∷ trace) (g ∷ given) =
    if same t g then verdict_from ports (n + 1) trace given else No n (why_of ports g)

-- of lines that are given as the trace of a run of a scenario
abbrev pub verdict : ScenarioOf → ℕ → List Arrival → ℕ → List (List ℕ) → Verdict
verdict s seed journal limit given = verdict_from s.port_names 1 (fed_lines (printed_run s seed journal limit)) given
