-- How far a text is read.
use Rattle.std.specs.Prelude.{◌≡◌, ℕ, ◌+◌, ◌<◌, ◌≤◌, Bool, true, false, List, [], ◌∷◌, length, Option, Some, None, Result, Ok, Err}
use Rattle.sim_types.specs.Limits.{most_bytes}
use Rattle.sim_types.specs.Scenarios.{ScenarioOf}
use Rattle.sim_types.specs.declared.fault.Fault.{Fault}
use Rattle.sim_types.specs.declared.setup.Class.{Class}
use Rattle.sim_language.specs.Named.{Named}
use Rattle.sim_language.specs.AnywhereInText.{ProcessLines}
use Rattle.sim_language.specs.Sayings.{TextLine}
use Rattle.sim_language.specs.Variables.{variables_at, variables_then}
use Rattle.sim_language.specs.Places.{Above, LineInText, above_of, places}
use Rattle.sim_language.specs.Faults.{at_line, fault_at, fault_past}
use Rattle.sim_language.specs.Links.{linked}
use Rattle.sim_language.specs.Reads.{add_said, outcome}
use Rattle.sim_faults.specs.AboveOf.{IsBelow, above_behind}
use Rattle.sim_code.specs.declared.reading.ReadError.{ReadError}
use Rattle.sim_code.specs.declared.reading.ReadError.TheVariants as error

-- what reading gives: the scenario, or exactly the fault; want of memory says nothing
abbrev pub Gives : Result ScenarioOf ReadError → Result ScenarioOf Fault → Type 0
Gives (Ok s) read = read ≡ Ok s
Gives (Err (error.Fault f)) read = read ≡ Err f
Gives (Err error.Memory) read = Unit {0}

-- the same for a draft, whose statements are yet to be linked
abbrev pub with_links : ScenarioOf → ScenarioOf
with_links s = record s { code = linked 0 s.code }

abbrev pub GivesDraft : Result ScenarioOf ReadError → Result ScenarioOf Fault → Type 0
GivesDraft (Ok draft) read = read ≡ Ok (with_links draft)
GivesDraft (Err (error.Fault f)) read = read ≡ Err f
GivesDraft (Err error.Memory) read = Unit {0}

-- the lines above once those below are passed, the last first
abbrev pub passed : List TextLine → List TextLine → List TextLine
passed above [] = above
passed above (l ∷ below) = passed (l ∷ above) below

-- the fault of the end, one line past the last
abbrev pub end_from : ℕ → List TextLine → List TextLine → Option Fault
end_from n above below = at_line (n + length below) (fault_past (above_of (passed above below)))

-- what was read of a text: what the lines above say, the line that was read last, and the lines that are left, the next with its number
pub record ReadingOf : Type 0 where
  pub lines : List TextLine
  pub line : TextLine
  pub number : ℕ
  pub above : Above
  pub variables : List (Named Class)
  pub draft : ScenarioOf

-- the lines that were passed had no fault, and with those that are left the text says `answer`
pub record IsReading (heads : ProcessLines) (answer : Result ScenarioOf Fault) (r : ReadingOf) : Type 0 where
  pub before : List TextLine
  pub above_is : r.above ≡ above_of before
  pub number_is : r.number ≡ length before + 1
  pub variables_are : r.variables ≡ variables_at before r.lines
  pub few : length before + length r.lines ≤ most_bytes
  pub few_events : r.draft.setup.events ≤ length before
  pub few_statements : length r.draft.code ≤ length before
  pub outcome_is : outcome heads r.draft (places r.number before r.lines) (end_from r.number before r.lines) ≡ answer

-- no count of a reading is greater than a text is long
pub record IsSmall (r : ReadingOf) : Type 0 where
  pub lines : length r.lines ≤ most_bytes
  pub number : r.number ≤ most_bytes + 1
  pub above : IsBelow most_bytes r.above
  pub events : r.draft.setup.events ≤ most_bytes

-- the line that was read last, at its place
abbrev pub place_of : ReadingOf → LineInText
place_of r = record { number = r.number; above = r.above; variables = r.variables; line = r.line }

-- the next line is taken, with the variables there, if one is left
abbrev pub TakesLine : ReadingOf → Bool → ReadingOf → Type 0
TakesLine r true s =
    (r.lines ≡ s.line ∷ s.lines)
    × (s ≡ record r { lines = s.lines; line = s.line; variables = variables_then s.line.saying s.lines r.variables })
TakesLine r false s = (r.lines ≡ []) × (s ≡ record r { line = s.line })

-- behind the line that was read last
abbrev pub passed_on : ReadingOf → ReadingOf
passed_on r = record r { number = r.number + 1; above = above_behind r.above r.line }

-- what that line says is added to the draft, or it has this fault
abbrev pub AddsLine : ProcessLines → ReadingOf → Result (Unit {0}) ReadError → ReadingOf → Type 0
AddsLine heads r (Ok done) s = (fault_at heads (place_of r) ≡ None) × (s ≡ record r { draft = add_said heads (place_of r) r.line.saying r.draft })
AddsLine heads r (Err (error.Fault f)) s = at_line r.number (fault_at heads (place_of r)) ≡ Some f
AddsLine heads r (Err error.Memory) s = Unit {0}

-- a reading that says `answer` says so still when one line more was read; where it is refused, that is the answer
abbrev pub GoesOn : ProcessLines → Result ScenarioOf Fault → ReadingOf → Result Bool ReadError → ReadingOf → Type 0
GoesOn heads answer r (Ok true) s = IsReading heads answer s × (length s.lines < length r.lines)
GoesOn heads answer r (Ok false) s = IsReading heads answer s × (s.lines ≡ [])
GoesOn heads answer r (Err (error.Fault f)) s = answer ≡ Err f
GoesOn heads answer r (Err error.Memory) s = Unit {0}
