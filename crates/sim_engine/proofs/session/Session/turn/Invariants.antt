use Rattle.std.proofs.Common.{◌≡◌, ◌≤◌, ◌<◌, ◌-◌, false, true, Ok}
use Rattle.sim_machine.specs.State.{State}
use Rattle.sim_steps_model.specs.Resting.{CanStep, rest_in}
use Rattle.sim_outside.specs.Writes.{IsUnflushed, Writes}
use Rattle.sim_script_model.specs.Scripts.{Script}
use Rattle.sim_writing.specs.declared.fault.RunFault.{RunFault}
use Rattle.sim_writing.specs.RunFaults.{is_write}
use Rattle.sim_engine.specs.Sessions.{IsAt, GoesOn, is_busy, steps_in, IsBusyBetween, text_of_steps}
use Rattle.sim_engine.proofs.session.Session.turn.Given as goal

-- so many units were made, one more can be, and all of them after the first went on with what was being done
abbrev pub invariant-loop-self : goal.invariant-loop-self
invariant-loop-self g l =
    record {
      code : l.scenario ≡ l.self.parts.code;
      goes_on : GoesOn l.fn.self l.self;
      none_refused : l.self.refused ≡ false;
      can : CanStep l.self.parts;
      left : l.self.units < l.self.limit;
      never_fewer : l.fn.self.units ≤ l.self.units;
      under_way : l.fn.self.units < l.self.units → is_busy (rest_in l.self.parts) ≡ true;
      busy : (t : State Script) → IsAt l.fn.self t → IsBusyBetween l.fn.self.parts (l.self.units - l.fn.self.units) t;
      steps : (t : State Script) → IsAt l.fn.self t → IsAt l.self (steps_in l.fn.self.parts (l.self.units - l.fn.self.units) t);
      written :
          (t : State Script) → IsAt l.fn.self t →
          Writes {T = Unit {0}} {E = RunFault} is_write (g.K.Sink.tells l.fn.out) (g.K.Sink.tells l.out) (Ok tt)
          (text_of_steps l.scenario.port_names l.fn.self.parts (l.self.units - l.fn.self.units) t);
      unflushed : IsUnflushed (g.K.Sink.tells l.fn.out) (g.K.Sink.tells l.out);
    }

abbrev pub decreases-loop-self : goal.decreases-loop-self
decreases-loop-self g l = l.self.limit - l.self.units
