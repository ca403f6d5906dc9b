use Rattle.std.proofs.Common.{◌≡◌, true, take}
use Rattle.sim_posters.proofs.worker.post_all.Given as goal

abbrev pub invariant-loop-item : goal.invariant-loop-item
invariant-loop-item g l =
    record {
      inbox : g.P.Posting.inbox l.poster ≡ g.P.Posting.inbox l.fn.poster;
      number : g.P.Posting.number l.poster ≡ g.P.Posting.number l.fn.poster;
      capacity : g.P.Posting.capacity l.poster ≡ g.P.Posting.capacity l.fn.poster;
      posted : g.P.Posting.posted l.poster ≡ take l.item-index l.section;
      whole : l.whole ≡ true;
    }
