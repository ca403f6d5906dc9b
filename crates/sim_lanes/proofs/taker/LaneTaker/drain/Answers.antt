use Rattle.std.proofs.Common.{◌≡◌, ℕ, ◌+◌, List, length, ap, ◌∙◌, arith}
use Rattle.std.proofs.lemmas.List.{length-append}
use Rattle.sim_types.specs.declared.setup.Post.{Post}
use Rattle.sim_inbox.specs.declared.taken.Taken.{Taken}
use Rattle.sim_inbox.specs.Lists.{numbered}
use Rattle.sim_inbox.proofs.Lists.{length_numbered}
use Rattle.sim_lanes.specs.Views.{lane}
use Rattle.sim_lanes.specs.Ends.{taken_of}
use Rattle.sim_lanes.specs.Closing.{whole_of}
use Rattle.sim_lanes.proofs.Draining.{drained_more}
use Rattle.sim_lanes.proofs.taker.LaneTaker.drain.Goals as goal

pub push_reserved-requires : goal.push_reserved-requires
push_reserved-requires c =
    let d = c.loop-taken.invariant.drained in let cap = c.loop-taken.invariant.capacity in let fits = c.requires.room in
    let before = c.args.self.now in let n = length (taken_of before c.args.p) in
    let left = c.in-Some.ensures.some.left (whole_of (lane before.lanes c.args.p)) (d.elsewhere.whole ∙ c.requires.joined) in
    let a : length (taken_of c.loop-taken.self c.args.p) ≡ n + length d.since = ap (λ (l : List Post). length l) d.taken ∙ length-append (taken_of before c.args.p) d.since in
    let b : length c.loop-taken.left.items ≡ length c.args.left.now.items + length d.since =
    ap (λ (l : List Taken). length l) d.items_are ∙ length-append c.args.left.now.items (numbered c.args.p n d.since)
    ∙ ap (λ (k : ℕ). length c.args.left.now.items + k) (length_numbered c.args.p n d.since) in
    let v = c.loop-taken.left.ok in let w = c.args.left.now.ok in
    omega (arith, cap, fits, left, a, b, v, w)

pub loop-taken-preserved : goal.loop-taken-preserved
loop-taken-preserved c = record {
  drained = drained_more c.args.self.now c.loop-taken.self c.take_from.new.self c.args.p c.args.left.now.items c.loop-taken.left.items c.push_reserved.new.self.items c.in-Some.taken
      c.loop-taken.invariant.drained c.in-Some.ensures.some c.push_reserved.ensures.items;
  capacity = c.push_reserved.ensures.capacity ∙ c.loop-taken.invariant.capacity;
}
