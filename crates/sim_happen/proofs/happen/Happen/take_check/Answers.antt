use Rattle.sim_happen_law.proofs.Changes.Held.{room_by_held}
use Rattle.sim_happen_law.proofs.Conditions.TakingChecks.{check_taken}
use Rattle.sim_happen.proofs.happen.Happen.take_check.Goals as goal

pub returns-clause-follows : goal.returns-clause-follows
returns-clause-follows c = check_taken _ _ c.args.event c.args.condition c.unregister-found.ensures.follows

pub returns-clause-room : goal.returns-clause-room
returns-clause-room c = room_by_held _ _ _ c.unregister-found.ensures.follows.held c.unregister-found.ensures.spare
