-- How the program ends, by the answer of its top call. It has none where memory was wanting for its words.
use Rattle.std.specs.Prelude.{ℕ, List, [], codes, Option, Some, None, unwrap_or}
use Rattle.sim_command.specs.declared.status.Status.{Status}
use Rattle.sim_command.specs.declared.status.Status.TheVariants as status
use Rattle.sim_command.specs.Statuses.{status_code}

-- the exit status
abbrev pub exit_after : Option Status → ℕ
exit_after answer = status_code (unwrap_or answer status.Memory)

-- what is told on standard error: the commands, where the words were none, and else nothing
abbrev pub usage_after : Option Status → List ℕ
usage_after None = []
usage_after (Some status.Ended) = []
usage_after (Some status.Usage) = codes "usage: simq check | run LIMIT | batch COUNT LIMIT | load SIZE | live LIMIT | watch LIMIT | native MODEL LIMIT | host COUNT LIMIT | verify LIMIT"
usage_after (Some status.Refused) = []
usage_after (Some status.Crash) = []
usage_after (Some status.Limit) = []
usage_after (Some status.ReadFault) = []
usage_after (Some status.WriteFault) = []
usage_after (Some status.Memory) = []
