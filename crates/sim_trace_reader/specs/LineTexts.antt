-- The texts that lines of a trace are printed as.
--     IsLineText ports bytes     some line is printed so, where the ports have these names
--     is_line ports bytes        whether one is
use Rattle.std.specs.Prelude.{◌≡◌, ℕ, ◌^◌, ◌<◌, ℤ, pos, neg_ℤ, ◌≤ℤ◌, ◌<ℤ◌, List, Bool, is_some}
use Rattle.sim_types.specs.declared.event.Outcome.{Outcome}
use Rattle.sim_types.specs.declared.event.Outcome.TheVariants as outcome
use Rattle.sim_types.specs.declared.line.Line.{Line}
use Rattle.sim_types.specs.declared.line.Line.TheVariants as line
use Rattle.sim_trace.specs.Texts.{line_text}
use Rattle.sim_trace_reader.specs.Readings.{read_line}

-- a number of 64 bits, without a sign and with one
abbrev pub IsUnsigned64 : ℕ → Type 0
IsUnsigned64 n = n < 2 ^ 64

abbrev pub IsSigned64 : ℤ → Type 0
IsSigned64 z = (neg_ℤ (pos (2 ^ 63)) ≤ℤ z) × (z <ℤ pos (2 ^ 63))

-- the numbers of an outcome are in the ranges of their types
abbrev pub IsOutcomeInRange : Outcome → Type 0
IsOutcomeInRange (outcome.Ok value) = IsSigned64 value
IsOutcomeInRange (outcome.Fail thrown) = (thrown.kind < 2 ^ 8) × IsSigned64 thrown.value

-- the numbers of a line are
abbrev pub IsInRange : Line → Type 0
IsInRange (line.Event time number event outcome priority kind) =
    IsSigned64 time × (priority < 2 ^ 8) × IsUnsigned64 number × IsUnsigned64 event.0 × IsOutcomeInRange outcome
IsInRange (line.Log time process value) = IsSigned64 time × IsUnsigned64 process.0 × IsSigned64 value
IsInRange (line.Arrive after value port) = IsUnsigned64 after × (port < 2 ^ 32) × IsSigned64 value
IsInRange (line.Finish time processed how) = IsSigned64 time × IsUnsigned64 processed

-- a line is printed so; its port need not be one of the ports, and has the empty word then
pub record IsLineText (ports : List (List ℕ)) (bytes : List ℕ) : Type 0 where
  pub line : Line
  pub in_range : IsInRange line
  pub prints : line_text ports line ≡ bytes

-- whether there is such a line: it is so just where `IsLineText` holds (`is_line_says`, `says_is_line`)
abbrev pub is_line : List (List ℕ) → List ℕ → Bool
is_line ports bytes = is_some (read_line ports bytes)
