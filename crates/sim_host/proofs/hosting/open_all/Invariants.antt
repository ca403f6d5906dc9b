use Rattle.std.proofs.Common.{◌≡◌, ◌≤◌, vec_len, vec_capacity}
use Rattle.sim_host.specs.HostedTogether.{AreOpened}
use Rattle.sim_host.proofs.hosting.open_all.Given as goal

-- the runs so far are open, and there is room for the others
abbrev pub invariant-loop-index : goal.invariant-loop-index
invariant-loop-index l =
    record {
      opened : AreOpened l.scenario l.limit l.index l.runs.items;
      many : vec_len l.runs ≡ l.index;
      room : l.count ≤ vec_capacity l.runs;
    }
