use Rattle.std.proofs.Common.{refl}
use Rattle.sim_native.proofs.bank.BankBodyBody.scopes_needed.Goals as goal

pub returns : goal.returns
returns c = rw c.is_bank.ensures refl
