use Rattle.std.proofs.Common.{arith}
use Rattle.sim_happen_law.proofs.Changes.Held.{holders_by_held}
use Rattle.sim_happen.proofs.happen.Happen.pass_on_from.Goals as goal

pub returns-clause-held : goal.returns-clause-held
returns-clause-held c =
    omega (arith, c.requires.held, c.pass_on.ensures.members c.args.event, holders_by_held c.args.self.now c.pass_on.new.self c.args.event c.pass_on.ensures.follows.held c.requires.kept)
