use Rattle.std.proofs.Common.{◌+◌, ◌-◌, ◌≡◌, ◌∙◌, ap, ◌++◌, length, take, arith}
use Rattle.std.proofs.lemmas.Slice.{take-put_mid}
use Rattle.sim_trace.proofs.PairsBehind.{leading_put}
use Rattle.sim_trace.proofs.digits.Leading.put.Goals as goal

pub returns-clause-digits : goal.returns-clause-digits
returns-clause-digits c =
    let at = c.args.at in
    let line = c.args.line.now in
    let long : at + 20 ≡ at + length c.copy_from_slice.new.self = omega (arith, ap length c.copy_from_slice.ensures.after, c.self.told) in
    let put = take-put_mid at (at + 20 - at) line c.copy_from_slice.new.self (at + 20) long (omega (arith, c.requires)) in
    rw (← c.self.view_is)
    (leading_put _ line c.self.inside.digits at c.self.inside.number c.self.inside.count (omega (arith, c.requires)) c.self.invariant
    (put ∙ ap (λ ds. take at line ++ ds) c.copy_from_slice.ensures.after))
