use Rattle.std.proofs.Common.{sym}
use Rattle.sim_native.proofs.wash.WashBodyBody.blank.Goals as goal

pub returns : goal.returns
returns c = sym c.is_wash.ensures
