use Rattle.std.proofs.Common.{◌<◌, ◌≤◌, ℕ, ◌-◌, false}
use Rattle.sim_places.proofs.search.place_from_ends.Given as goal

-- those that were looked at from either end fail
abbrev pub invariant-loop-near : goal.invariant-loop-near
invariant-loop-near g l = record {
  within : l.far ≤ l.len;
  first : (k : ℕ) → k < l.near → goal.F-post g l.passes k false;
  last : (k : ℕ) → l.far ≤ k → k < l.len → goal.F-post g l.passes k false;
}

abbrev pub decreases-loop-near : goal.decreases-loop-near
decreases-loop-near g l = l.far - l.near
