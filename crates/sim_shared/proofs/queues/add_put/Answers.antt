use Rattle.std.proofs.Common.{w64}
use Rattle.std.proofs.lemmas.Int.{to_z-of_z}
use Rattle.sim_shared_law.proofs.Waiters.JoinedWaiters.{shelf_put_joined}
use Rattle.sim_shared.proofs.queues.add_put.Goals as goal

pub returns-in-Shelf : goal.returns-in-Shelf
returns-in-Shelf c = λ res.
    let after = rw (to_z-of_z w64 c.args.amount c.ranges.amount, to_z-of_z w64 c.args.priority c.ranges.priority) at c.join_put-in-Shelf.ensures in
    rw c.in-Shelf.is (shelf_put_joined c.in-Shelf.shelf c.join_put-in-Shelf.new.self res c.args.put c.args.amount c.args.priority after)
