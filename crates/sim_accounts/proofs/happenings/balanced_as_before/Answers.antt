use Rattle.sim_accounts.proofs.Balancing.{kept_balanced, kept_gone}
use Rattle.sim_accounts.proofs.happenings.balanced_as_before.Goals as goal

pub returns-clause-balanced : goal.returns-clause-balanced
returns-clause-balanced c = λ h n k d alone todo l none same b. kept_balanced h n k d l.before l.now l.after none same alone todo b

pub returns-clause-gone : goal.returns-clause-gone
returns-clause-gone c = λ h n k d l none same b. kept_gone h n k d l.before l.now l.after none same b
