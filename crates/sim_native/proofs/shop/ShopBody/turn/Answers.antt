use Rattle.std.proofs.Common.{sym, ap, ◌∙◌, w64}
use Rattle.std.proofs.lemmas.Int.{to_z-of_z}
use Rattle.sim_native.specs.ShopTurns.{shop_turn}
use Rattle.sim_native.proofs.ShopScripts.{turned}
use Rattle.sim_native.proofs.shop.ShopBody.turn.Goals as goal

pub returns : goal.returns
returns c =
    let x = c.self.inside in
    let may = rw (← c.self.view_is) at c.requires in
    let time = to_z-of_z w64 c.args.now c.ranges.now in
    let turns = c.go_on-asks.ensures ∙ ap (λ t. shop_turn c.args.machines x.me t x.stage c.args.told) time in
    turned c.args.machines x.machines.value x.me c.args.now x.val.value x.stage c.args.told may _ (sym c.self.view_is) _ turns _ c.keep_value.ensures
