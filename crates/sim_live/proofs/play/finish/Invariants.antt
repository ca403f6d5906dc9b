use Rattle.std.proofs.Common.{◌≡◌, ◌-◌, ◌++◌, Ok, take, map}
use Rattle.sim_outside.specs.Writes.{IsUnflushed}
use Rattle.sim_live.specs.Journals.{post_of, KeepsSections}
use Rattle.sim_live.specs.LiveRuns.{IsLive, WritesOn}
use Rattle.sim_live.proofs.play.finish.Given as goal

abbrev pub invariant-loop-taken : goal.invariant-loop-taken
invariant-loop-taken g l =
    record {
      live : IsLive l.scenario l.run;
      journal : map post_of l.run.journal ≡ map post_of l.fn.run.journal ++ take l.taken-index l.left;
      limit : l.run.session.limit ≡ l.fn.run.session.limit;
      written : WritesOn {T = Unit {0}} l.scenario l.fn.run l.run (g.K.Sink.tells l.fn.out) (g.K.Sink.tells l.out) (Ok tt);
      unflushed : IsUnflushed (g.K.Sink.tells l.fn.out) (g.K.Sink.tells l.out);
    }

abbrev pub invariant-loop-run : goal.invariant-loop-run
invariant-loop-run g l =
    record {
      live : IsLive l.scenario l.run;
      sections : KeepsSections l.scenario l.run.journal;
      limit : l.run.session.limit ≡ l.fn.run.session.limit;
      written : WritesOn {T = Unit {0}} l.scenario l.fn.run l.run (g.K.Sink.tells l.fn.out) (g.K.Sink.tells l.out) (Ok tt);
      unflushed : IsUnflushed (g.K.Sink.tells l.fn.out) (g.K.Sink.tells l.out);
    }

-- a turn makes a unit at least
abbrev pub decreases-loop-run : goal.decreases-loop-run
decreases-loop-run g l = l.run.session.limit - l.run.session.units
