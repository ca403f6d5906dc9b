use Rattle.std.proofs.Common.{rules, ◌≡◌, ℕ, ◌+◌, ◌<◌, ◌^◌, length, get_or, sym, ap, arith}
use Rattle.sim_lanes.specs.Places.{width}
use Rattle.sim_lanes.proofs.Laying.{ends_more}
use Rattle.sim_lanes.proofs.opening.lay_out.Goals as goal

pub loop-p-preserved : goal.loop-p-preserved
loop-p-preserved c =
    let i = c.loop-p.invariant in let small = i.small in
    let less : c.loop-p.p < length c.args.capacities.now = c.loop-p-test.true in
    let few = c.requires.few in
    let is : c.from.result ≡ get_or c.args.capacities.now c.loop-p.p 0 = c.from.ensures in
    let fits : get_or c.args.capacities.now c.loop-p.p 0 < 2 ^ 32 = search rules in
    record {
      laid = ends_more c.args.capacities.now c.loop-p.ends.items c.push.new.self.items c.loop-p.p c.loop-p.place (c.loop-p.place + width (get_or c.args.capacities.now c.loop-p.p 0)) c.from.result less c.requires.each is
          (ap (λ (k : ℕ). c.loop-p.place + width k) (sym is)) (omega (arith, small, fits, less, few)) c.in_ok-push.ensures.items i.laid;
      small = omega (arith, small, fits);
    }
