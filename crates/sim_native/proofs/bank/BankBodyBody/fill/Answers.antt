use Rattle.std.proofs.Common.{sym}
use Rattle.sim_native.proofs.BankPlaces.{begins}
use Rattle.sim_native.proofs.bank.BankBodyBody.fill.Goals as goal

pub returns : goal.returns
returns c =
    let may = rw c.is_bank.ensures at c.requires.can.fits in
    rw (c.begun-self-inside.ensures, c.new.ensures, c.is_bank.ensures) (sym (begins c.args._kind c.args.args.now may))
