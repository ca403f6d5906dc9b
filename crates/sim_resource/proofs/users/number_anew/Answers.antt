use Rattle.sim_resource.proofs.NewNumbers.{before_anew, one_anew, fewer_left}
use Rattle.sim_resource.proofs.users.number_anew.Goals as goal

pub loop-least-init : goal.loop-least-init
loop-least-init c = before_anew c.args.users.now

pub loop-least-smaller : goal.loop-least-smaller
loop-least-smaller c =
    rw c.change_number.ensures (fewer_left c.loop-least.next c.in-Some.least c.loop-least.users (c.least_from.ensures.one_left c.in-Some.least c.in-Some.is))

pub loop-least-preserved : goal.loop-least-preserved
loop-least-preserved c =
    rw c.change_number.ensures (one_anew c.loop-least.next c.in-Some.least c.args.users.now c.loop-least.users c.loop-least.invariant (c.least_from.ensures.one_left c.in-Some.least c.in-Some.is))
