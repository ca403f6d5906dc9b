use Rattle.sim_replay.proofs.Runs.ReplayedRuns.{same_summary, same_trace}
use Rattle.sim_replay.proofs.replays.replayed_runs.Goals as goal

pub returns : goal.returns
returns c =
    record {
      lines = λ s seed journal limit. same_trace s seed journal limit;
      summary = λ s seed journal limit. same_summary s seed journal limit;
    }
