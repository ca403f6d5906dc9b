-- How a call ends.
use Rattle.std.specs.Prelude.{◌≡◌, Bool, true, false, IsTrue, ◌⊎◌}
use Rattle.sim_types.specs.declared.line.End.{End}
use Rattle.sim_types.specs.declared.line.End.TheVariants as end
use Rattle.sim_command.specs.declared.status.Status.{Status}
use Rattle.sim_command.specs.declared.status.Status.TheVariants as status

-- whose run ended so
abbrev pub status_of_end : End → Status
status_of_end end.Empty = status.Ended
status_of_end end.Until = status.Ended
status_of_end end.Crash = status.Crash
status_of_end end.Starved = status.Crash
status_of_end end.Limit = status.Limit

-- whether it is a status that comes after the whole answer was written
abbrev pub is_whole : Status → Bool
is_whole status.Ended = true
is_whole status.Usage = false
is_whole status.Refused = true
is_whole status.Crash = true
is_whole status.Limit = true
is_whole status.ReadFault = false
is_whole status.WriteFault = false
is_whole status.Memory = false

-- whole, unless memory was wanting
abbrev pub IsWholeOrWanting : Status → Type 0
IsWholeOrWanting answer = IsTrue (is_whole answer) ⊎ (answer ≡ status.Memory)
