use Rattle.std.proofs.Common.{rules}
use Rattle.sim_shared.proofs.OpenedResources.{opened_more}
use Rattle.sim_shared.proofs.opening.open_all.Goals as goal

pub loop-i-preserved : goal.loop-i-preserved
loop-i-preserved c = record {
  opened = rw c.push_reserved.ensures.items (opened_more c.loop-i.i c.args.resources.now c.loop-i.opened.items c.in_ok-open.field-0 c.loop-i.invariant.count (search rules) c.in_ok-open.ensures c.loop-i.invariant.opened);
  count = search rules;
  len = search rules;
  room = search rules;
}
