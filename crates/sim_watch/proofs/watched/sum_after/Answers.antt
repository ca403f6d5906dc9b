use Rattle.std.proofs.Common.{sym, subst}
use Rattle.sim_watch.specs.Watched.{IsSumWithin}
use Rattle.sim_watch.proofs.Sums.{product_fits, total_fits, total_is, total_within}
use Rattle.sim_watch.proofs.watched.sum_after.Goals as goal

pub overflow_mul-result : goal.overflow_mul-result
overflow_mul-result c =
    let given = c.requires in
    product_fits c.args.sum c.args.number c.args.since c.args.now c.from.result given.from_0 given.later given.to_last given.low given.high given.within c.from.ensures

pub overflow_add-result : goal.overflow_add-result
overflow_add-result c =
    let given = c.requires in
    total_fits c.args.sum c.args.number c.args.since c.args.now c.from.result given.from_0 given.later given.to_last given.low given.high given.within c.from.ensures

pub returns-clause-sum : goal.returns-clause-sum
returns-clause-sum c =
    let given = c.requires in
    total_is c.args.sum c.args.number c.args.since c.args.now c.from.result given.from_0 given.later given.to_last given.low given.high given.within c.from.ensures

pub returns-clause-within : goal.returns-clause-within
returns-clause-within c =
    let given = c.requires in
    let is = total_is c.args.sum c.args.number c.args.since c.args.now c.from.result given.from_0 given.later given.to_last given.low given.high given.within c.from.ensures in
    subst (IsSumWithin c.args.now) (sym is)
    (total_within c.args.sum c.args.number c.args.since c.args.now c.from.result given.from_0 given.later given.to_last given.low given.high given.within c.from.ensures)
