use Rattle.sim_inbox.proofs.Joining.{joined_more, last_of_rest}
use Rattle.sim_inbox.proofs.queue.QueueTaker.join_all.Goals as goal

pub loop-poster-preserved : goal.loop-poster-preserved
loop-poster-preserved g c =
    let before = c.args.self.now in
    let now = c.loop-poster.self in
    let rest = c.loop-poster.posters.items in
    let next = c.pop.new.self.items in
    let x = c.in-Some.poster in
    let j = c.loop-poster.invariant in
    let popped = c.in-Some.ensures.items in
    let number = (c.requires.own _ x (last_of_rest before now rest next c.args.posters.items x j popped)).0 in
    joined_more before now c.join.new.self rest next c.args.posters.items x j popped c.requires.all number c.join.ensures
