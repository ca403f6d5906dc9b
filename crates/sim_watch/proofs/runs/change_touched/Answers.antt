use Rattle.std.proofs.Common.{[]}
use Rattle.sim_watch.specs.Following.{HasMoved}
use Rattle.sim_watch.proofs.Changing.{all_changed, none_changed}
use Rattle.sim_watch.proofs.runs.change_touched.Goals as goal

pub returns-in-Nothing-clause-watched : goal.returns-in-Nothing-clause-watched
returns-in-Nothing-clause-watched c r k n moved watched =
    let kernel = c.args.kernel.now in
    let rows = c.args.watched.now in
    let none : HasMoved r k n [] kernel = rw c.in-Nothing.is at moved in
    all_changed r k n [] kernel none rows (none_changed r k n [] kernel none rows watched)
