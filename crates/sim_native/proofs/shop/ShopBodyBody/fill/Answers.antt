use Rattle.std.proofs.Common.{sym}
use Rattle.sim_native.proofs.ShopPlaces.{begins}
use Rattle.sim_native.proofs.shop.ShopBodyBody.fill.Goals as goal

pub returns : goal.returns
returns c =
    let may = rw c.machines.ensures at c.requires.can.fits in
    rw (c.new.ensures, c.begun.ensures, c.machines.ensures) (sym (begins c.machines.result c.args.kind c.args.args.now may))
