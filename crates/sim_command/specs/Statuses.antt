-- The exit status of each answer.
use Rattle.std.specs.Prelude.{ℕ}
use Rattle.sim_command.specs.declared.status.Status.{Status}
use Rattle.sim_command.specs.declared.status.Status.TheVariants as status

-- 1 is left to the system
abbrev pub status_code : Status → ℕ
status_code status.Ended = 0
status_code status.Usage = 2
status_code status.Refused = 3
status_code status.Crash = 4
status_code status.Limit = 5
status_code status.ReadFault = 6
status_code status.WriteFault = 7
status_code status.Memory = 8
