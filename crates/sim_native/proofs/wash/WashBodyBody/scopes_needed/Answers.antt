use Rattle.std.proofs.Common.{refl}
use Rattle.sim_native.proofs.wash.WashBodyBody.scopes_needed.Goals as goal

pub returns : goal.returns
returns c = rw c.is_wash.ensures refl
