use Rattle.std.proofs.Common.{◌≡◌, ◌-◌, ◌^◌, length, take}
use Rattle.std.specs.Prelude.{min, sum_by}
use Rattle.sim_inbox.proofs.queue.closing.total_posted.Given as goal

abbrev pub invariant-loop-poster : goal.invariant-loop-poster
invariant-loop-poster g l = l.total ≡ min (sum_by (λ x. length x.posted) (take l.poster-index l.posters)) (2 ^ 64 - 1)
