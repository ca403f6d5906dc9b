use Rattle.sim_language.specs.Statements.{argument_of}
use Rattle.sim_code.proofs.FirstFew.{first_few_more}
use Rattle.sim_code.proofs.statement.arguments.Goals as goal

pub loop-slot-preserved : goal.loop-slot-preserved
loop-slot-preserved c = first_few_more (argument_of c.args.place.now) 8 c.args.slots.now c.loop-slot.slot-index c.slot-item.result c.argument.result c.loop-slot.args c.push.new.self c.loop-slot-test.true c.slot-item.is c.argument.ensures c.loop-slot.invariant c.push.ensures.new
