use Rattle.std.proofs.Common.{◌≡◌, sym, ◌∙◌, arith}
use Rattle.sim_callbacks.proofs.Relinking.{key_there, before_there}
use Rattle.sim_callbacks.proofs.Finding.{looked_at, looked_more, looked_found, looked_all}
use Rattle.sim_callbacks.proofs.chain.Chain.find.Goals as goal

pub index-requires : goal.index-requires
index-requires c = rw c.loop-place.invariant.here (before_there c.args.nodes.now c.args.self.now c.loop-place.place c.requires c.loop-place-test.true)

pub index-requires-in-loop-place : goal.index-requires-in-loop-place
index-requires-in-loop-place c =
    let at = looked_at _ _ _ _ _ _ c.loop-place.invariant c.index.ensures in
    rw at (key_there c.args.nodes.now c.args.self.now c.loop-place.place c.requires c.loop-place-test.true)

pub returns-then-is_same : goal.returns-then-is_same
returns-then-is_same c =
    let at = looked_at _ _ _ _ _ _ c.loop-place.invariant c.index.ensures in
    looked_found _ _ _ _ _ _ c.index-in-loop-place.result.now c.loop-place.invariant c.loop-place-test.true at c.index-in-loop-place.ensures
    (sym c.is_same.ensures ∙ c.if-is_same.true)

pub loop-place-preserved : goal.loop-place-preserved
loop-place-preserved c =
    let at = looked_at _ _ _ _ _ _ c.loop-place.invariant c.index.ensures in
    looked_more _ _ _ _ _ _ c.index-in-loop-place.result.now c.loop-place.invariant at c.index-in-loop-place.ensures
    (sym c.is_same.ensures ∙ c.if-is_same.false)

pub returns : goal.returns
returns c =
    let all : c.loop-place.place ≡ c.args.self.now.count = omega arith in
    looked_all _ _ _ c.loop-place.before (rw all at c.loop-place.invariant)
