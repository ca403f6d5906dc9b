use Rattle.std.proofs.Common.{sym, ap, arith}
use Rattle.sim_kernel.proofs.walk.Walk.new.Goals as goal

pub invariant_of-result : goal.invariant_of-result
invariant_of-result g c =
    let setup = c.in_ok-kernel.ensures.setup in
    record {
      until = ap (λ x. x.until) (sym setup);
      ports = rw setup c.requires.ports;
      within = omega (arith, c.in_ok-kernel.ensures.units);
    }
