use Rattle.std.proofs.Common.{arith}
use Rattle.sim_code.proofs.GivenVariables.{given_few}
use Rattle.sim_code.proofs.draft.Draft.add_process.Goals as goal

pub overflow_cast-count_given : goal.overflow_cast-count_given
overflow_cast-count_given c = omega (arith, c.count_given.ensures, given_few c.args.slots.now 9 c.requires)
