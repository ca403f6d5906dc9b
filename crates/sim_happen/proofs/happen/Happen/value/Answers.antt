use Rattle.sim_happen_law.proofs.Conditions.Gathering.{value_shown}
use Rattle.sim_happen.proofs.happen.Happen.value.Goals as goal

pub returns : goal.returns
returns c =
    record { value = λ d s. value_shown c.args.self.now d c.args.condition c.gather.new.value s c.tell.ensures.held c.requires.kept (rw c.new-value.ensures at c.gather.ensures.gathers) }
