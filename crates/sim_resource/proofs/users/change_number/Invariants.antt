use Rattle.std.proofs.Common.{◌≡◌, ◌++◌, map, take, drop}
use Rattle.sim_resource.specs.GrantOrder.{with_number}
use Rattle.sim_resource.proofs.users.change_number.Given as goal

abbrev pub invariant-loop-numbered : goal.invariant-loop-numbered
invariant-loop-numbered l =
    l.users ≡ map (with_number l.from l.to) (take l.numbered-index l.initial.users) ++ drop l.numbered-index l.initial.users
