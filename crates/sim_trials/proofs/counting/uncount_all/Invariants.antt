use Rattle.std.proofs.Common.{◌≡◌, ◌+◌, ◌≤◌, ◌++◌, length, reverse}
use Rattle.sim_trials.proofs.counting.uncount_all.Given as goal

abbrev pub invariant-loop-poster : goal.invariant-loop-poster
invariant-loop-poster l = record {
  moved : l.fn.from.items ≡ l.from.items ++ reverse l.into.items;
  room : length l.into.items + length l.from.items ≤ l.into.cap;
  kept : l.from.cap ≡ l.fn.from.cap;
}

abbrev pub decreases-loop-poster : goal.decreases-loop-poster
decreases-loop-poster l = length l.from.items
