use Rattle.std.proofs.Common.{◌≡◌, ◌+◌, ◌<◌, List, [], length, get_or, take, Some, sym, ap, ◌∙◌, arith}
use Rattle.std.proofs.lemmas.List.{length-append, length-map}
use Rattle.sim_types.specs.declared.setup.Post.{Post}
use Rattle.sim_inbox.specs.declared.taken.Taken.{Taken}
use Rattle.sim_inbox.specs.Lists.{untaken}
use Rattle.sim_inbox.proofs.Untaken.{length_untaken_next, untaken_within}
use Rattle.sim_lanes.specs.Views.{lane}
use Rattle.sim_lanes.specs.Ends.{taken_of}
use Rattle.sim_lanes.specs.Closing.{whole_of, wholes_of}
use Rattle.sim_lanes.specs.declared.view.LaneView.{LaneView}
use Rattle.sim_lanes.proofs.Draining.{whole_at, drained_all_more}
use Rattle.sim_lanes.proofs.taker.LaneTaker.drain_all.Goals as goal

pub drain-requires-clause-joined : goal.drain-requires-clause-joined
drain-requires-clause-joined c =
    let same = c.loop-p.invariant.drained.later c.loop-p.p (omega arith) in
    ap (λ (g : LaneView). g.whole) same ∙ c.requires.joined c.loop-p.p (let t = c.loop-p-test.true in let n = c.lane_count-p-end.ensures.count in omega (arith, t, n))
    ∙ ap (λ (g : LaneView). Some (whole_of g)) (sym same)

pub drain-requires-clause-room : goal.drain-requires-clause-room
drain-requires-clause-room c =
    let d = c.loop-p.invariant.drained in let p = c.loop-p.p in let before = c.args.self.now in let lists = wholes_of before in
    let less : p < length before.lanes = let t = c.loop-p-test.true in let n = c.lane_count-p-end.ensures.count in omega (arith, t, n) in
    let same = d.later p (omega arith) in
    let n = length_untaken_next (taken_of before) lists p [] (let m = length-map before.lanes whole_of in omega (arith, less, m)) in
    let w = untaken_within (taken_of before) lists (p + 1) in
    let all : length (get_or lists p []) ≡ length (whole_of (lane c.loop-p.self.lanes p)) = ap (λ (l : List Post). length l) (whole_at before p) ∙ ap (λ (g : LaneView). length (whole_of g)) (sym same) in
    let taken : length (taken_of c.loop-p.self p) ≡ length (taken_of before p) = ap (λ (g : LaneView). length g.taken) same in
    let items : length c.loop-p.left.items ≡ length c.args.left.now.items + length (untaken (taken_of before) 0 (take p lists)) =
    ap (λ (l : List Taken). length l) d.items_are ∙ length-append c.args.left.now.items (untaken (taken_of before) 0 (take p lists)) in
    let cap = c.loop-p.invariant.capacity in let room = c.requires.room in let v = c.loop-p.left.ok in let v0 = c.args.left.now.ok in
    omega (arith, n, w, all, taken, items, cap, room, v, v0)

pub loop-p-preserved : goal.loop-p-preserved
loop-p-preserved c =
    let d = c.loop-p.invariant.drained in let e = c.drain.ensures in
    let less : c.loop-p.p < length c.args.self.now.lanes = let t = c.loop-p-test.true in let n = c.lane_count-p-end.ensures.count in omega (arith, t, n) in
    record {
      drained = drained_all_more c.args.self.now c.loop-p.self c.drain.new.self c.loop-p.p c.args.left.now.items c.loop-p.left.items c.drain.new.left.items less d e.others e.left e.whole;
      capacity = e.capacity ∙ c.loop-p.invariant.capacity;
    }
