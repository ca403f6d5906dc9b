use Rattle.std.proofs.Common.{◌∙◌, subst, arith}
use Rattle.sim_inbox.specs.QueueEnds.{NoneLeft}
use Rattle.sim_inbox.proofs.Draining.{drained_fewer, drained_more, drained_all}
use Rattle.sim_inbox.proofs.queue.QueueTaker.drain.Goals as goal

pub push_reserved-requires : goal.push_reserved-requires
push_reserved-requires g c =
    let i = c.loop-entry.invariant in
    let cap = i.capacity in
    let fewer = drained_fewer c.args.self.now c.loop-entry.self c.next.new.self c.loop-entry.entries.items c.in-Some.entry c.requires.joined i.drained c.in-Some.ensures.some in
    let count = i.drained.count in
    let room = c.requires.room in
    let long = c.loop-entry.entries.ok in
    omega (arith, fewer, count, room, cap, long)

pub loop-entry-smaller : goal.loop-entry-smaller
loop-entry-smaller g c =
    let fewer = drained_fewer c.args.self.now c.loop-entry.self c.next.new.self c.loop-entry.entries.items c.in-Some.entry c.requires.joined c.loop-entry.invariant.drained c.in-Some.ensures.some in
    omega (arith, fewer)

pub loop-entry-preserved : goal.loop-entry-preserved
loop-entry-preserved g c =
    let i = c.loop-entry.invariant in
    record {
      drained = drained_more c.args.self.now c.loop-entry.self c.next.new.self c.loop-entry.entries.items c.push_reserved.new.self.items c.in-Some.entry c.requires.joined i.drained c.in-Some.ensures.some c.push_reserved.ensures.items;
      capacity = c.push_reserved.ensures.capacity ∙ i.capacity;
    }

pub returns : goal.returns
returns g c =
    let none = c.in_default.ensures.none in
    drained_all c.args.self.now c.loop-entry.self c.loop-entry.entries.items c.requires.joined c.loop-entry.invariant.drained (subst NoneLeft none.0 none.1)
