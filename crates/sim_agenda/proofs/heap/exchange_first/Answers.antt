use Rattle.std.proofs.Common.{◌+◌, ◌*◌, ◌<◌, ◌^◌, length, rules, arith}
use Rattle.sim_agenda.proofs.Comparing.{levels_few_enough, both_within}
use Rattle.sim_agenda.proofs.Moving.{first_exchanged}
use Rattle.sim_agenda.proofs.heap.exchange_first.Goals as goal

pub put_from-requires-clause-count : goal.put_from-requires-clause-count
put_from-requires-clause-count c =
    let few : length c.args.entries.now * 32 < 2 ^ 63 = search rules in
    let up = c.move_up-bottom.ensures in
    omega (arith, up.moved.within, up.moved.len, levels_few_enough _ _ _ up.count)

pub returns-clause-moved : goal.returns-clause-moved
returns-clause-moved c =
    first_exchanged c.args.entries.now c.move_up-bottom.new.entries _ c.move_up-bottom.result c.args.entry c.index-entries-0.result
    c.requires.some c.index-entries-0.is c.move_up-bottom.ensures.moved c.put_from.ensures.moved

pub returns-clause-count : goal.returns-clause-count
returns-clause-count c =
    let up = c.move_up-bottom.ensures in
    both_within (length c.args.entries.now + 1) c.move_up-bottom.result _ c.move_up-bottom.new.count _ (omega (arith, up.moved.within, up.moved.len)) up.count c.put_from.ensures.count
