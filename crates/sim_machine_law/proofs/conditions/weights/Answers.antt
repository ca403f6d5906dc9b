use Rattle.sim_machine_law.proofs.ConditionLaws.PlainWeights.{plain_weight, wide_told, wide_where}
use Rattle.sim_machine_law.proofs.conditions.weights.Goals as goal

pub returns-clause-plain : goal.returns-clause-plain
returns-clause-plain c = plain_weight

pub returns-clause-wide : goal.returns-clause-wide
returns-clause-wide c = λ members d. (wide_told members d, wide_where members d)
