use Rattle.std.proofs.Common.{◌≤◌, length}
use Rattle.sim_posters.proofs.PostersAtWork.{AreComingBack}
use Rattle.sim_posters.proofs.posters.join_all.Given as goal

abbrev pub invariant-loop-worker : goal.invariant-loop-worker
invariant-loop-worker g l =
    record {
      room : length l._sections ≤ l.posters.cap;
      coming : AreComingBack g.T.Poster.Posting (g.T.Taking.inbox l._taker) l._sections l.workers.items l.posters.items;
    }

abbrev pub decreases-loop-worker : goal.decreases-loop-worker
decreases-loop-worker g l = length l.workers.items
