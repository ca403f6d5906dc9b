-- The texts that are written: lines of words with one space between each two, and a line feed at the end.
--     trace_text ports lines         the lines of a trace, with the names of the ports
--     journal_text ports entries     a journal, as a scenario text ends with it
--     fault_text fault               why a text is refused
use Rattle.std.specs.Prelude.{ℕ, List, [], ◌∷◌, ◌++◌, ◌≤◌, length, All, codes, decimal, slice_get, unwrap_or, flat_map}
use Rattle.std.specs.List.{join_with_byte}
use Rattle.std.specs.Fmt.{signed_decimal}
use Rattle.sim_types.specs.declared.event.EventKind.{EventKind}
use Rattle.sim_types.specs.declared.event.EventKind.TheVariants as kind
use Rattle.sim_types.specs.declared.event.Outcome.{Outcome}
use Rattle.sim_types.specs.declared.event.Outcome.TheVariants as outcome
use Rattle.sim_types.specs.declared.fault.Fault.{Fault}
use Rattle.sim_types.specs.declared.fault.FaultKind.{FaultKind}
use Rattle.sim_types.specs.declared.fault.FaultKind.TheVariants as fault
use Rattle.sim_types.specs.declared.line.End.{End}
use Rattle.sim_types.specs.declared.line.End.TheVariants as end
use Rattle.sim_types.specs.declared.line.Line.{Line}
use Rattle.sim_types.specs.declared.line.Line.TheVariants as line
use Rattle.sim_types.specs.declared.setup.Arrival.{Arrival}

-- a line of these words
abbrev pub written : List (List ℕ) → List ℕ
written words = join_with_byte 32 words ++ 10 ∷ []

-- ---- words

-- a plain event is called `event`
abbrev pub kind_word : EventKind → List ℕ
kind_word kind.Init = codes "init"
kind_word kind.Timeout = codes "timeout"
kind_word kind.Plain = codes "event"
kind_word kind.Process = codes "process"
kind_word kind.Interrupt = codes "interrupt"
kind_word kind.Cond = codes "cond"
kind_word kind.Request = codes "request"
kind_word kind.Release = codes "release"
kind_word kind.Put = codes "put"
kind_word kind.Get = codes "get"
kind_word kind.Stop = codes "stop"

-- how a run ended
abbrev pub end_word : End → List ℕ
end_word end.Empty = codes "empty"
end_word end.Until = codes "until"
end_word end.Crash = codes "crash"
end_word end.Limit = codes "limit"
end_word end.Starved = codes "starved"

abbrev pub fault_word : FaultKind → List ℕ
fault_word fault.TooLong = codes "TooLong"
fault_word fault.NotText = codes "NotText"
fault_word fault.LineTooLong = codes "LineTooLong"
fault_word fault.BadHeader = codes "BadHeader"
fault_word fault.UnknownWord = codes "UnknownWord"
fault_word fault.BadShape = codes "BadShape"
fault_word fault.BadNumber = codes "BadNumber"
fault_word fault.BadName = codes "BadName"
fault_word fault.Duplicate = codes "Duplicate"
fault_word fault.UnknownName = codes "UnknownName"
fault_word fault.WrongKind = codes "WrongKind"
fault_word fault.Misplaced = codes "Misplaced"
fault_word fault.Unclosed = codes "Unclosed"
fault_word fault.TooMany = codes "TooMany"
fault_word fault.ClassClash = codes "ClassClash"
fault_word fault.Unset = codes "Unset"
fault_word fault.BadOrder = codes "BadOrder"

-- a failure is told by the kind and the value of what is thrown
abbrev pub outcome_words : Outcome → List (List ℕ)
outcome_words (outcome.Ok value) = codes "ok" ∷ signed_decimal value ∷ []
outcome_words (outcome.Fail thrown) = codes "fail" ∷ decimal thrown.kind ∷ signed_decimal thrown.value ∷ []

-- the name of a port; a port that there is not has the empty one
abbrev pub port_word : List (List ℕ) → ℕ → List ℕ
port_word ports port = unwrap_or (slice_get ports port) []

-- no name has more than 32 bytes
abbrev pub AreNamesShort : List (List ℕ) → Type 0
AreNamesShort names = All (λ name. length name ≤ 32) names

-- ---- lines

-- an event that is processed, a number that a process logs, a value that comes in by a port, the end of the run
abbrev pub line_text : List (List ℕ) → Line → List ℕ
line_text ports (line.Event time number event outcome priority kind) =
    written ((64 ∷ signed_decimal time) ∷ decimal priority ∷ decimal number ∷ kind_word kind ∷ decimal event.0 ∷ outcome_words outcome)
line_text ports (line.Log time process value) =
    written (codes "log" ∷ signed_decimal time ∷ decimal process.0 ∷ signed_decimal value ∷ [])
line_text ports (line.Arrive after value port) =
    written (codes "arrive" ∷ decimal after ∷ port_word ports port ∷ signed_decimal value ∷ [])
line_text ports (line.Finish time processed how) =
    written (codes "end" ∷ end_word how ∷ signed_decimal time ∷ decimal processed ∷ [])

abbrev pub trace_text : List (List ℕ) → List Line → List ℕ
trace_text ports lines = flat_map (line_text ports) lines

-- an entry of a journal: how many events were processed before it, who posted it, and what it is
abbrev pub arrival_text : List (List ℕ) → Arrival → List ℕ
arrival_text ports a =
    written (codes "after" ∷ decimal a.after ∷ decimal a.poster ∷ decimal a.serial ∷ port_word ports a.port ∷ signed_decimal a.value ∷ [])

abbrev pub journal_text : List (List ℕ) → List Arrival → List ℕ
journal_text ports entries = written (codes "journal" ∷ []) ++ flat_map (arrival_text ports) entries

-- the line of a fault, counted from 1, or 0 for the text as a whole
abbrev pub fault_text : Fault → List ℕ
fault_text f = written (codes "fault" ∷ decimal f.line ∷ fault_word f.kind ∷ [])

-- that a text is accepted
abbrev pub ok_text : List ℕ
ok_text = written (codes "ok" ∷ [])
