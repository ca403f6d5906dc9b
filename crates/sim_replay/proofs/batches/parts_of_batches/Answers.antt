use Rattle.sim_replay.proofs.Shares.{later_seeds, two_parts}
use Rattle.sim_replay.proofs.batches.parts_of_batches.Goals as goal

pub returns : goal.returns
returns c =
    record {
      seeds = λ s limit from count. later_seeds s limit from count;
      whole = λ s limit first further. two_parts s limit first further;
    }
