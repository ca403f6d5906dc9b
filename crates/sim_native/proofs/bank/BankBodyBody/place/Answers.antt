use Rattle.std.proofs.Common.{sym, ◌∙◌}
use Rattle.sim_native.proofs.BankPlaces.{holds_is}
use Rattle.sim_native.proofs.bank.BankBodyBody.place.Goals as goal

pub returns : goal.returns
returns c =
    let x = c.self.inside in
    rw (← c.self.view_is) (c.event_at.ensures ∙ sym (holds_is x.me x.spent x.stage c.args.at))
