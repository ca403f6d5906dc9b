use Rattle.std.proofs.Common.{◌≡◌, ◌+◌, ◌≤◌, ◌++◌, length, reverse}
use Rattle.sim_trials.proofs.counting.count_all.Given as goal

abbrev pub invariant-loop-inner : goal.invariant-loop-inner
invariant-loop-inner l = record {
  moved : l.fn.from.items ≡ l.from.items ++ reverse l.into.items;
  room : length l.into.items + length l.from.items ≤ l.into.cap;
}

abbrev pub decreases-loop-inner : goal.decreases-loop-inner
decreases-loop-inner l = length l.from.items
