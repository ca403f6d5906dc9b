use Rattle.std.proofs.Common.{◌≡◌, ◌≤◌, ◌+◌, ◌-◌, Ok}
use Rattle.std.specs.Prelude.{if◌then◌else◌}
use Rattle.sim_outside.specs.Writes.{IsUnflushed, Writes}
use Rattle.sim_writing.specs.declared.fault.RunFault.{RunFault}
use Rattle.sim_writing.specs.RunFaults.{is_write}
use Rattle.sim_types.specs.Setups.{HavePorts}
use Rattle.sim_engine.specs.Rounds.{StandsInRun, text_by}
use Rattle.sim_engine.specs.Sessions.{IsSettled}
use Rattle.sim_engine.proofs.runs.make_units.Given as goal

-- the session stands where the run does, and all lines by then were written
abbrev pub invariant-loop-session : goal.invariant-loop-session
invariant-loop-session g l =
    record {
      stands : StandsInRun l.scenario l.fn.session.parts.seed l.journal l.left l.session;
      ports : HavePorts l.scenario.setup l.left;
      limit : l.session.limit ≡ l.fn.session.limit;
      within : l.session.units ≤ l.session.limit;
      settled : IsSettled l.session;
      written :
          Writes {T = Unit {0}} {E = RunFault} is_write (g.K.Sink.tells l.fn.out) (g.K.Sink.tells l.out) (Ok tt)
          (text_by l.scenario l.fn.session.parts.seed l.journal l.session.units);
      unflushed : IsUnflushed (g.K.Sink.tells l.fn.out) (g.K.Sink.tells l.out);
    }

-- a round makes a unit, or refuses an arrival
abbrev pub decreases-loop-session : goal.decreases-loop-session
decreases-loop-session g l = (l.session.limit - l.session.units) + (if l.session.refused then 0 else 1)
