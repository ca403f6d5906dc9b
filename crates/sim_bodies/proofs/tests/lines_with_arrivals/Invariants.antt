use Rattle.std.specs.Prelude.{◌≡◌, ◌≤◌}
use Rattle.sim_bodies.proofs.tests.lines_with_arrivals.Given as goal

-- the kernel keeps its code and its ports, has made at most a unit a turn, and no more values came in than turns were made
abbrev pub invariant-loop-unit : goal.invariant-loop-unit
invariant-loop-unit g l =
    record {
      code : l.kernel.parts.code ≡ l.initial.kernel.parts.code;
      ports : l.kernel.parts.setup ≡ l.initial.kernel.parts.setup;
      units : l.kernel.units ≤ l._unit;
      came : l.came ≤ l._unit;
    }
