use Rattle.sim_lawful.proofs.ConditionLaws.BuiltValues.{value_fixed, value_of_failed, has_told, has_where}
use Rattle.sim_lawful.proofs.conditions.fixed_values.Goals as goal

pub returns-clause-fixed : goal.returns-clause-fixed
returns-clause-fixed c = value_fixed

pub returns-clause-failed : goal.returns-clause-failed
returns-clause-failed c = value_of_failed

pub returns-clause-had : goal.returns-clause-had
returns-clause-had c = λ cond e d. (has_told cond e d, has_where cond e d)
