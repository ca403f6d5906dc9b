use Rattle.std.proofs.Common.{◌≡◌, ◌≤◌, ◌+◌}
use Rattle.sim_native_shop.proofs.make_units.Given as goal

-- the kernel keeps its code, and no more units are made than may be
abbrev pub invariant-loop-left : goal.invariant-loop-left
invariant-loop-left l = record { code : l.fn.code ≡ l.kernel.parts.code; units : l.kernel.units + l.left ≤ 10000000 }

abbrev pub decreases-loop-left : goal.decreases-loop-left
decreases-loop-left l = l.left
