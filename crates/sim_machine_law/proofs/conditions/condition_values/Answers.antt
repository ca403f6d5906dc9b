use Rattle.sim_machine_law.proofs.ConditionLaws.ConditionValues.{value_is, value_has, value_once, stands_already, stands_last, plain_value}
use Rattle.sim_machine_law.proofs.conditions.condition_values.Goals as goal

pub returns-clause-leaves : goal.returns-clause-leaves
returns-clause-leaves c = λ c cond e. (value_is c cond e, value_has c cond e)

pub returns-clause-once : goal.returns-clause-once
returns-clause-once c = value_once

pub returns-clause-again : goal.returns-clause-again
returns-clause-again c = stands_already

pub returns-clause-new : goal.returns-clause-new
returns-clause-new c = stands_last

pub returns-clause-in_order : goal.returns-clause-in_order
returns-clause-in_order c = plain_value
