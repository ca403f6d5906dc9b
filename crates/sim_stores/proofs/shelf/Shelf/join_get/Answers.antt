use Rattle.sim_stores.proofs.Storing.{sound_join_get}
use Rattle.sim_stores.proofs.Trying.{tried_join}
use Rattle.sim_stores.proofs.shelf.Shelf.join_get.Goals as goal

pub invariant_of-self : goal.invariant_of-self
invariant_of-self c =
    (rw c.push_back_reserved.ensures.items (sound_join_get _ _ _ _ c.self.invariant.0 _ (rw (← c.self.view_is) at c.requires.apart)), c.self.invariant.1, rw c.push_back_reserved.ensures.items (tried_join _ _ _ _ c.self.invariant.2 _))
