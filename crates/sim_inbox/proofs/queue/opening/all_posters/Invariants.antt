use Rattle.std.proofs.Common.{◌≡◌, [], length, replicate, None}
use Rattle.std.specs.Arc.{arc_value}
use Rattle.crossbeam_queue.specs.SegTies.{IsSegPassOf}
use Rattle.sim_inbox.specs.QueueEnds.{ArePostersOf, HavePostedNothing, inbox_of}
use Rattle.sim_inbox.specs.declared.rule.View.TheVariants.{Taker}
use Rattle.sim_inbox.proofs.queue.opening.all_posters.Given as goal

abbrev pub invariant-loop-number : goal.invariant-loop-number
invariant-loop-number g l = record {
  queue : IsSegPassOf (arc_value l.line).queue l.pass;
  split : l.pass.me.view.client ≡ Taker [] (replicate l.number None);
  many : length l.posters.items ≡ l.number;
  own : ArePostersOf (inbox_of (arc_value l.line).queue.web) l.posters.items;
  fresh : HavePostedNothing l.posters.items;
}
