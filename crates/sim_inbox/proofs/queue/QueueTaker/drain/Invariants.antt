use Rattle.std.proofs.Common.{◌≡◌, length}
use Rattle.sim_inbox.specs.Closing.{lists_of}
use Rattle.sim_inbox.specs.Lists.{untaken}
use Rattle.sim_inbox.specs.QueueEnds.{taken_from}
use Rattle.sim_inbox.proofs.Draining.{Drained}
use Rattle.sim_inbox.proofs.queue.QueueTaker.drain.Given as goal

abbrev pub invariant-loop-entry : goal.invariant-loop-entry
invariant-loop-entry g l = record {
  drained : Drained l.fn.self l.self l.entries.items;
  capacity : l.entries.cap ≡ l.fn.entries.cap;
}

abbrev pub decreases-loop-entry : goal.decreases-loop-entry
decreases-loop-entry g l = length (untaken (taken_from l.self) 0 (lists_of l.fn.self))
