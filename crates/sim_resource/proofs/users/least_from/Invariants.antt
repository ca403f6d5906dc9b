use Rattle.std.proofs.Common.{take}
use Rattle.sim_resource.specs.GrantOrder.{IsNextGrant}
use Rattle.sim_resource.proofs.users.least_from.Given as goal

abbrev pub invariant-loop-numbered : goal.invariant-loop-numbered
invariant-loop-numbered l = IsNextGrant l.next (take l.numbered-index l.users) l.least
