use Rattle.std.proofs.Common.{◌-◌, ◌≡◌, ℕ, ◌<◌, ◌≤◌, [], map, slice_index_or}
use Rattle.sim_agenda.specs.Windows.{turned}
use Rattle.sim_agenda.proofs.window.next_filled.Given as goal

-- all up to this one are empty
abbrev pub invariant-loop-number : goal.invariant-loop-number
invariant-loop-number l =
    record {
      few : l.number ≤ 64;
      before : (i : ℕ) → i < l.number → slice_index_or (turned l.turn (map (λ q. q.items) l.queues)) i [] ≡ [];
    }

abbrev pub decreases-loop-number : goal.decreases-loop-number
decreases-loop-number l = 64 - l.number
