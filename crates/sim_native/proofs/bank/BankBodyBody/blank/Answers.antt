use Rattle.std.proofs.Common.{sym}
use Rattle.sim_native.proofs.bank.BankBodyBody.blank.Goals as goal

pub returns : goal.returns
returns c = sym c.is_bank.ensures
