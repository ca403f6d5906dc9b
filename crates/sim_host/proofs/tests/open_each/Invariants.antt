use Rattle.std.proofs.Common.{◌≡◌, ◌≤◌, All, length, vec_len, vec_capacity}
use Rattle.sim_host.specs.Hosting.{IsHosted}
use Rattle.sim_host.proofs.tests.open_each.Given as goal

-- the runs so far are open, and there is room for the others
abbrev pub invariant-loop-limit : goal.invariant-loop-limit
invariant-loop-limit l =
    record {
      hosted : All (IsHosted l.scenario) l.runs.items;
      many : vec_len l.runs ≡ l.limit-index;
      room : length l.limits ≤ vec_capacity l.runs;
    }
