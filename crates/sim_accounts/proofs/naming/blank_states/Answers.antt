use Rattle.sim_accounts.proofs.Quiet.{blank_alone}
use Rattle.sim_accounts.proofs.naming.blank_states.Goals as goal

pub returns : goal.returns
returns g c = record { named = blank_alone }
