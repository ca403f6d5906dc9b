use Rattle.std.proofs.Common.{◌≡◌, ◌+◌, ◌≤◌, length}
use Rattle.sim_inbox_trials.proofs.queue.post_all.Given as goal

abbrev pub invariant-loop-value : goal.invariant-loop-value
invariant-loop-value g l = record {
  number : l.poster.number ≡ l.fn.poster.number;
  inbox : l.poster.inbox ≡ l.fn.poster.inbox;
  posted : length l.poster.posted ≤ length l.fn.poster.posted + l.value-index;
}
