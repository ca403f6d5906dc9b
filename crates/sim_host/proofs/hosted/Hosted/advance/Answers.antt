use Rattle.std.proofs.Common.{sym}
use Rattle.sim_host.proofs.HostedRuns.{turn_not_over, arrival_over, rests}
use Rattle.sim_host.proofs.hosted.Hosted.advance.Goals as goal

pub returns-in-Turn-clause-again : goal.returns-in-Turn-clause-again
returns-in-Turn-clause-again c = λ over. absurd (turn_not_over c.args.scenario.now c.args.self.now c.requires.hosted (sym c.in-Turn.ensures) over)

pub returns-in-Arrival-clause-again : goal.returns-in-Arrival-clause-again
returns-in-Arrival-clause-again c = λ over.
    (c.arrive.ensures.spent (arrival_over c.args.scenario.now c.args.self.now c.requires.hosted c.in-Arrival.field-0 (sym c.in-Arrival.ensures) over)).1

pub returns-in-End-clause-step : goal.returns-in-End-clause-step
returns-in-End-clause-step c = rests c.args.scenario.now c.args.self.now c.requires.hosted (sym c.in-End.ensures)
