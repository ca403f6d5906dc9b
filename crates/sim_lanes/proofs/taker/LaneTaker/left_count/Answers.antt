use Rattle.std.proofs.Common.{◌≡◌, ◌<◌, List, length, get_or, map, sym, ap, ◌∙◌, arith}
use Rattle.std.proofs.lemmas.List.{length-map}
use Rattle.std.proofs.Math.ListN.{get_or-map}
use Rattle.sim_types.specs.declared.setup.Post.{Post}
use Rattle.sim_inbox.proofs.Untaken.{length_untaken_next}
use Rattle.sim_lanes.specs.Ends.{taken_of, posted_of}
use Rattle.sim_lanes.proofs.taker.LaneTaker.left_count.Goals as goal

pub loop-p-preserved : goal.loop-p-preserved
loop-p-preserved c =
    let r = c.index-posters-p.result in let p = c.loop-p.p in
    let lists = map posted_of c.args.posters.now in
    let less : p < length lists = let t = c.loop-p-test.true in let n = c.lane_count-p-end.ensures.count in let q = c.requires in omega (arith, t, n, q, length-map c.args.posters.now posted_of) in
    let at : length (get_or lists p (posted_of r)) ≡ length (posted_of r) =
    ap (λ (l : List Post). length l) (get_or-map posted_of c.args.posters.now p r ∙ ap posted_of (sym c.index-posters-p.is)) in
    let n = length_untaken_next (taken_of c.args.self.now) lists p (posted_of r) less in
    let a = c.posted_count.ensures.count in let b = c.posted_count.ensures.few in let d = c.taken_count.ensures in let s = c.saturating_sub-left.ensures in
    let i = c.loop-p.invariant.count in let j = c.loop-p.invariant.few in
    record { count = omega (arith, n, at, a, d, s, i); few = omega (arith, a, b, d, s, j) }
