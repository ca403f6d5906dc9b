use Rattle.std.proofs.Common.{sym, ◌∙◌}
use Rattle.sim_native.proofs.BankPlaces.{told_is}
use Rattle.sim_native.proofs.bank.BankBodyBody.place_told.Goals as goal

pub returns : goal.returns
returns c =
    let x = c.self.inside in
    rw (c.is_bank.ensures, ← c.self.view_is) (c.told_place.ensures ∙ sym (told_is x.me x.spent x.stage))
