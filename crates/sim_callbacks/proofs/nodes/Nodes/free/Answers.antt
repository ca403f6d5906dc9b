use Rattle.std.proofs.Common.{arith}
use Rattle.sim_callbacks.specs.Chains.{first_key}
use Rattle.sim_callbacks.proofs.Links.{length_from}
use Rattle.sim_callbacks.proofs.nodes.Nodes.free.Goals as goal

pub returns-clause-spare : goal.returns-clause-spare
returns-clause-spare c =
    let length = length_from c.self.inside.slab c.args.chain.now.count (first_key c.self.inside.slab c.args.chain.now) in
    rw (← c.self.view_is) (omega (arith, c.self.invariant, c.free.ensures.len, c.free.ensures.capacity, length))
