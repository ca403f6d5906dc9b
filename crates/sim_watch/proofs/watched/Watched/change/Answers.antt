use Rattle.std.proofs.Common.{rules, FitsSigned, w64}
use Rattle.std.proofs.lemmas.Int.{to_z-of_z}
use Rattle.sim_watch.proofs.Watching.{changed_watched, again_watched}
use Rattle.sim_watch.proofs.watched.Watched.change.Goals as goal

pub returns-clause-watched : goal.returns-clause-watched
returns-clause-watched c time m k n watched steady some now_is measure_is =
    let fits : FitsSigned w64 c.args.now = search rules in
    rw (c.set.ensures, c.pass.ensures, to_z-of_z w64 c.args.now fits)
    (changed_watched time m k c.args.self.now watched n steady some c.args.now c.args.measure now_is measure_is)

pub returns-clause-again : goal.returns-clause-again
returns-clause-again c time m k watched now_is measure_is =
    let fits : FitsSigned w64 c.args.now = search rules in
    rw (c.set.ensures, c.pass.ensures, to_z-of_z w64 c.args.now fits)
    (again_watched time m k c.args.self.now watched c.args.now c.args.measure now_is measure_is)
