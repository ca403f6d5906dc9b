use Rattle.std.specs.Prelude.{◌≡◌, ◌≤◌}
use Rattle.sim_bodies.proofs.tests.lines_of_units.Given as goal

-- the kernel keeps its code, and has made at most a unit a turn
abbrev pub invariant-loop-unit : goal.invariant-loop-unit
invariant-loop-unit g l = record { code : l.kernel.parts.code ≡ l.initial.kernel.parts.code; units : l.kernel.units ≤ l._unit }
