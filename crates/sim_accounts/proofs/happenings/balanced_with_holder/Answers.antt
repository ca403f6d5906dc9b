use Rattle.sim_accounts.proofs.Balancing.{held_balanced, held_gone}
use Rattle.sim_accounts.proofs.happenings.balanced_with_holder.Goals as goal

pub returns-clause-balanced : goal.returns-clause-balanced
returns-clause-balanced c = λ h n k d e alone todo l none kept is b. held_balanced h n k d l.before l.now l.after none e kept is alone todo b

pub returns-clause-gone : goal.returns-clause-gone
returns-clause-gone c = λ h n k d e l none kept is b. held_gone h n k d l.before l.now l.after none e kept is b
