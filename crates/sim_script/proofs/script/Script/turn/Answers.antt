use Rattle.std.proofs.Common.{refl}
use Rattle.sim_script_model.specs.Polls.{take_in}
use Rattle.sim_script.specs.StatementGroups.{asked_where}
use Rattle.sim_script.proofs.Remembering.{asks_and_remembers}
use Rattle.sim_script.proofs.script.Script.turn.Goals as goal

pub returns : goal.returns
returns c =
    let told = take_in c.args.code.now c.args.signal c.args.self.now in
    asks_and_remembers c.args.code.now c.args.time told c.take_in.new.self c.ask-asks.new.self _ (asked_where c.ask-asks.result c.ask-asks.new.asked)
    c.ranges.time c.take_in.ensures c.ask-asks.ensures (rw (← c.self.view_is, c.of.ensures, c.last_asked.ensures) refl)
