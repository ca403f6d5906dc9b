use Rattle.std.proofs.Common.{◌≡◌, ◌++◌, take}
use Rattle.sim_inbox.specs.Closing.{in_order}
use Rattle.sim_inbox.specs.Lists.{entries_by}
use Rattle.sim_inbox.proofs.queue.closing.put_in_order.Given as goal

abbrev pub invariant-loop-poster : goal.invariant-loop-poster
invariant-loop-poster l = record {
  items : l.into.items ≡ in_order l.poster l.entries;
  capacity : l.into.cap ≡ l.fn.into.cap;
}

abbrev pub invariant-loop-entry : goal.invariant-loop-entry
invariant-loop-entry l = record {
  items : l.into.items ≡ in_order l.poster l.entries ++ entries_by l.poster (take l.entry-index l.entries);
  capacity : l.into.cap ≡ l.fn.into.cap;
}
