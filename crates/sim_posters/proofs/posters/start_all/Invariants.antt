use Rattle.std.proofs.Common.{◌≤◌, length}
use Rattle.sim_posters.proofs.PostersAtWork.{AreSetToWork}
use Rattle.sim_posters.proofs.posters.start_all.Given as goal

abbrev pub invariant-loop-poster : goal.invariant-loop-poster
invariant-loop-poster g l =
    record {
      room : length l.sections ≤ l.workers.cap;
      set : AreSetToWork g.T.Poster.Posting (g.T.Taking.inbox l._taker) l.sections l.posters.items l.workers.items;
    }

abbrev pub decreases-loop-poster : goal.decreases-loop-poster
decreases-loop-poster g l = length l.posters.items
