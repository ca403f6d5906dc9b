use Rattle.sim_machine_law.proofs.Ledger.UsersOfDeeds.{nothing_done, user_more, user_replaced}
use Rattle.sim_machine_law.proofs.desks.attempts.Goals as goal

pub returns-clause-nothing : goal.returns-clause-nothing
returns-clause-nothing c = λ rs w p key f wants. nothing_done rs w p key f wants

pub returns-clause-more : goal.returns-clause-more
returns-clause-more c = λ rs w p key f wants. user_more rs w p key f wants

pub returns-clause-replaced : goal.returns-clause-replaced
returns-clause-replaced c = λ rs w p key f u wants. user_replaced rs w p key f wants u
