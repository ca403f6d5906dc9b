use Rattle.std.proofs.Common.{◌≡◌, All}
use Rattle.sim_script_model.specs.Scenarios.{replications}
use Rattle.sim_engine.specs.Counting.{IsWithin}
use Rattle.sim_host.proofs.hosting.replicate_all.Given as goal

-- the replications so far
abbrev pub invariant-loop-index : goal.invariant-loop-index
invariant-loop-index l =
    record {
      summaries : l.summaries ≡ replications l.scenario l.limit 0 l.index;
      counts : All (IsWithin l.limit) l.summaries;
    }
