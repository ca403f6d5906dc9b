use Rattle.std.proofs.Common.{sym}
use Rattle.sim_native.proofs.WashPlaces.{begins}
use Rattle.sim_native.proofs.wash.WashBodyBody.fill.Goals as goal

pub returns : goal.returns
returns c =
    let may = rw c.is_wash.ensures at c.requires.can.fits in
    rw (c.begun-self-inside.ensures, c.of.ensures, c.is_wash.ensures) (sym (begins c.args._kind c.args.args.now may))
