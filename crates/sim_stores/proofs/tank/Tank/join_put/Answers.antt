use Rattle.std.proofs.Common.{rules, w64, FitsSigned}
use Rattle.std.proofs.lemmas.Int.{to_z-of_z}
use Rattle.sim_stores.proofs.Amounts.{sound_put}
use Rattle.sim_stores.proofs.tank.Tank.join_put.Goals as goal

pub invariant_of-self : goal.invariant_of-self
invariant_of-self c =
    let fits : FitsSigned w64 c.args.amount = search rules in
    rw (c.push_back_reserved.ensures.items, to_z-of_z w64 c.args.amount fits)
    (sound_put _ _ _ _ (record { event = c.args.event; amount = c.args.amount }) c.self.invariant c.requires.amount (rw (← c.self.view_is) at c.requires.apart))
