use Rattle.std.proofs.Common.{w64}
use Rattle.std.proofs.lemmas.Int.{to_z-of_z}
use Rattle.sim_native.proofs.shop.hurry.Goals as goal

pub returns-in-Machine-clause-passes : goal.returns-in-Machine-clause-passes
returns-in-Machine-clause-passes c = λ n me.
    rw c.in-Machine.is (rw (to_z-of_z w64 c.args.now c.ranges.now) at c.hurry.ensures.passes n me)
