use Rattle.sim_accounts.proofs.KeptExactly.{kept_exactly, kept_counted}
use Rattle.sim_accounts.proofs.accounts.kept_exactly.Goals as goal

pub returns-clause-each : goal.returns-clause-each
returns-clause-each g c = λ named tell h s e shows a. kept_exactly named tell h s shows a e

pub returns-clause-count : goal.returns-clause-count
returns-clause-count g c = λ named tell h s shows a. kept_counted named tell h s shows a
