use Rattle.sim_accounts.proofs.ShownUnheld.{unheld_shown, unheld_gone}
use Rattle.sim_accounts.proofs.holders.unheld_shown.Goals as goal

pub returns-clause-shown : goal.returns-clause-shown
returns-clause-shown c = λ h n k alone e todo s g b is rest. unheld_shown h n k e alone todo s g b is rest

pub returns-clause-gone : goal.returns-clause-gone
returns-clause-gone c = λ h n k alone e todo s g b is. unheld_gone h n k e alone todo s g b is
