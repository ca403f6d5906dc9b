use Rattle.std.proofs.Common.{sym, ◌∙◌}
use Rattle.sim_native.proofs.ShopPlaces.{holds_is}
use Rattle.sim_native.proofs.shop.ShopBodyBody.place.Goals as goal

pub returns : goal.returns
returns c =
    let x = c.self.inside in
    rw (← c.self.view_is) (c.held.ensures ∙ sym (holds_is x.machines.value x.me x.val.value x.stage c.args.at))
