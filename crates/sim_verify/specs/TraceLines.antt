-- A text that has a trace after its scenario, and the lines of that trace.
use Rattle.std.specs.Prelude.{ℕ, ◌+◌, Bool, false, if◌then◌else◌, List, [], ◌∷◌, length, codes, Option, Some, None, Result, Ok, Err}
use Rattle.std.specs.List.{concat}
use Rattle.sim_types.specs.Scenarios.{ScenarioOf}
use Rattle.sim_types.specs.declared.fault.Fault.{Fault}
use Rattle.sim_types.specs.declared.fault.FaultKind.TheVariants as fault
use Rattle.sim_language.specs.Lines.{Word, cut, is_line_feed, onto_first, same, up_to, words}
use Rattle.sim_language.specs.Reads.{is_too_long, reads}

-- the lines of a text, each with its line feed; what is after the last line feed is a line too, if it is not empty
abbrev pub fed_lines : List ℕ → List (List ℕ)
fed_lines [] = []
fed_lines (c ∷ cs) = if is_line_feed c then (c ∷ []) ∷ fed_lines cs else onto_first c (fed_lines cs)

-- whether the line has one word, as words of a scenario are cut, and that is `trace`
abbrev pub says_trace : List Word → Bool
says_trace (word ∷ []) = same word (codes "trace")
says_trace words = false

abbrev pub is_trace_line : List ℕ → Bool
is_trace_line line = says_trace (words (cut (up_to is_line_feed line)))

-- the lines before the first that says just `trace`
abbrev pub scenario_lines : List (List ℕ) → List (List ℕ)
scenario_lines lines = up_to is_trace_line lines

-- the lines after it, if there is such a line
abbrev pub trace_lines : List (List ℕ) → Option (List (List ℕ))
trace_lines [] = None
trace_lines (line ∷ rest) = if is_trace_line line then Some rest else trace_lines rest

-- ---- what is read

-- one line past the last such a line is missing
abbrev pub unclosed : ℕ → Result ScenarioOf Fault → Result ScenarioOf Fault
unclosed count (Ok s) = Err (record { line = count + 1; kind = fault.Unclosed })
unclosed count (Err f) = Err f

-- what these lines say, where these come after the line that says `trace`
abbrev pub reads_parts : List ℕ → Option (List (List ℕ)) → Result ScenarioOf Fault
reads_parts text None = unclosed (length (fed_lines text)) (reads text)
reads_parts text (Some trace) = reads (concat (scenario_lines (fed_lines text)))

-- the scenario before the trace, or its fault; a text that is too long is refused as any
abbrev pub reads_with_trace : List ℕ → Result ScenarioOf Fault
reads_with_trace text = if is_too_long text then reads text else reads_parts text (trace_lines (fed_lines text))
