use Rattle.sim_happen_law.proofs.Changes.Held.{same_room_by_held}
use Rattle.sim_happen_law.proofs.Changes.Unholding.{room_then}
use Rattle.sim_happen.proofs.happen.Happen.trigger.Goals as goal

pub returns-clause-room : goal.returns-clause-room
returns-clause-room c =
    room_then _ _ _ (same_room_by_held c.args.self.now c.pass_on_from.new.self c.pass_on_from.ensures.follows.held c.pass_on_from.ensures.spare) c.unhold.ensures.room
