-- What the definitions say that is printed for a text.
use Rattle.std.specs.Prelude.{ℕ, ◌≡◌, List, [], ◌∷◌, ◌++◌, codes, flat_map, Result, Ok, Err}
use Prim.Native.String.{String}
use Rattle.sim_types.specs.Scenarios.{ScenarioOf}
use Rattle.sim_types.specs.declared.fault.Fault.{Fault}
use Rattle.sim_language.specs.Reads.{reads}
use Rattle.sim_trace.specs.Texts.{trace_text, fault_text}
use Rattle.sim_trace.specs.WatchTexts.{watch_answer}
use Rattle.sim_machine.specs.RandomWords.{word_of}
use Rattle.sim_script_model.specs.Scenarios.{trace_with, summary, watch_rows}

-- what a run of the scenario prints, with these random words and of so many units at most
abbrev pub printed_with : (ℕ → ℕ) → ℕ → ScenarioOf → List ℕ
printed_with word limit s = trace_text s.port_names (trace_with s word s.journal limit)

-- the trace of a scenario with the words of its seed, or the line of a fault
abbrev pub printed_for : ℕ → Result ScenarioOf Fault → List ℕ
printed_for limit (Ok s) = printed_with (word_of s.seed) limit s
printed_for limit (Err fault) = fault_text fault

-- what is printed for a text
abbrev pub printed : ℕ → List ℕ → List ℕ
printed limit text = printed_for limit (reads text)

-- what is told of the resources and of the end, over a run with the words of its seed, or the line of a fault
abbrev pub watched_for : ℕ → Result ScenarioOf Fault → List ℕ
watched_for limit (Ok s) = watch_answer (watch_rows s s.seed s.journal limit) (summary s s.seed s.journal limit)
watched_for limit (Err fault) = fault_text fault

-- the bytes of these lines
abbrev pub bytes_of : List String → List ℕ
bytes_of lines = flat_map (λ line. codes line ++ 10 ∷ []) lines

-- the run of a text of these lines, of so many units at most, prints those
abbrev pub Prints : ℕ → List String → List String → Type 0
Prints limit text lines = printed limit (bytes_of text) ≡ bytes_of lines

-- of the run of a text of these lines, of so many units at most, those are told
abbrev pub Watches : ℕ → List String → List String → Type 0
Watches limit text lines = watched_for limit (reads (bytes_of text)) ≡ bytes_of lines

-- the text of these lines is a scenario, whose run with these random words prints those
abbrev pub drawn_for : (ℕ → ℕ) → Result ScenarioOf Fault → List ℕ
drawn_for word (Ok s) = printed_with word 1000 s
drawn_for word (Err fault) = []

abbrev pub PrintsDrawn : (ℕ → ℕ) → List String → List String → Type 0
PrintsDrawn word text lines = drawn_for word (reads (bytes_of text)) ≡ bytes_of lines

-- the text of the header and these lines is refused so
abbrev pub Refuses : List String → String → Type 0
Refuses below fault = Prints 1000 ("scenario 1" ∷ "until empty" ∷ below) (fault ∷ [])
