use Rattle.std.proofs.Common.{arith}
use Rattle.sim_stores.proofs.Storing.{sound_join_put}
use Rattle.sim_stores.proofs.shelf.Shelf.join_put.Goals as goal

pub invariant_of-self : goal.invariant_of-self
invariant_of-self c =
    let spare = rw (← c.self.view_is) at c.requires.spare in
    (rw c.push_back_reserved.ensures.items (sound_join_put _ _ _ _ c.self.invariant.0 _ (rw (← c.self.view_is) at c.requires.apart)), omega (arith, spare, c.push_back_reserved.ensures.len), c.self.invariant.2)
