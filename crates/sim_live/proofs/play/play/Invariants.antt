use Rattle.std.proofs.Common.{◌≡◌, Ok}
use Rattle.sim_outside.specs.Writes.{IsUnflushed}
use Rattle.sim_live.specs.LiveRuns.{IsTold, WritesOn}
use Rattle.sim_live.proofs.play.play.Given as goal

abbrev pub invariant-loop : goal.invariant-loop
invariant-loop g l =
    record {
      told : IsTold l.scenario (g.T.Taking.taken l.taker) l.run;
      inbox : g.T.Taking.inbox l.taker ≡ g.T.Taking.inbox l.fn.taker;
      count : g.T.Taking.count l.taker ≡ g.T.Taking.count l.fn.taker;
      limit : l.run.session.limit ≡ l.fn.run.session.limit;
      written : WritesOn {T = Unit {0}} l.scenario l.fn.run l.run (g.K.Sink.tells l.fn.out) (g.K.Sink.tells l.out) (Ok tt);
      unflushed : IsUnflushed (g.K.Sink.tells l.fn.out) (g.K.Sink.tells l.out);
    }
