use Rattle.sim_callbacks.proofs.Passing.{may_be_passed_on}
use Rattle.sim_callbacks.proofs.chain.Chain.take.Goals as goal

pub returns-clause-passed_on : goal.returns-clause-passed_on
returns-clause-passed_on c = may_be_passed_on c.args.self.now
