use Rattle.sim_language.specs.Statements.{event_of}
use Rattle.sim_code.proofs.FirstFew.{first_few_more, first_few_all}
use Rattle.sim_code.proofs.statement.members.Goals as goal

pub loop-slot-preserved : goal.loop-slot-preserved
loop-slot-preserved c = first_few_more (λ slot. event_of c.args.place.now slot.word) 16 c.args.slots.now c.loop-slot.slot-index c.slot-item.result c.event.result c.loop-slot.events c.push.new.self c.loop-slot-test.true c.slot-item.is c.event.ensures c.loop-slot.invariant c.push.ensures.new

pub returns : goal.returns
returns c = first_few_all (λ slot. event_of c.args.place.now slot.word) 16 c.args.slots.now c.loop-slot.slot-index c.loop-slot.events c.loop-slot-test.false c.loop-slot.invariant
