use Rattle.sim_accounts.proofs.ConditionsMade.{condition_balanced, condition_gone}
use Rattle.sim_accounts.proofs.happenings.balanced_with_condition.Goals as goal

pub returns-clause-balanced : goal.returns-clause-balanced
returns-clause-balanced c = λ h n k d ms alone todo l members kept is b. condition_balanced h n k d ms l.before l.now l.after members kept is alone todo b

pub returns-clause-gone : goal.returns-clause-gone
returns-clause-gone c = λ h n k d ms l members kept is b. condition_gone h n k d ms l.before l.now l.after members kept is b
