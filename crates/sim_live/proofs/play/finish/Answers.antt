use Rattle.std.proofs.Common.{◌∙◌}
use Rattle.sim_live.proofs.Finishing.{left_port, next_left, fronts_next, sections_are_fronts}
use Rattle.sim_live.proofs.WrittenOn.{on_and_on}
use Rattle.sim_live.proofs.play.finish.Goals as goal

pub arrive-requires-clause-port : goal.arrive-requires-clause-port
arrive-requires-clause-port g c =
    left_port c.args.scenario.now c.args.run.now.journal c.args.left.now c.requires.completes c.loop-taken.taken-index _ c.loop-taken-test.true c.requires.well_formed

pub returns-in_err-arrive-clause-fronts : goal.returns-in_err-arrive-clause-fronts
returns-in_err-arrive-clause-fronts g c =
    fronts_next c.args.scenario.now c.args.run.now.journal c.args.left.now c.requires.completes c.loop-taken.taken-index _ _ c.loop-taken.run.journal
    c.arrive.new.self.journal c.loop-taken-test.true c.loop-taken.invariant.journal c.arrive.ensures.at_most_one c.arrive.ensures.falls

pub loop-taken-preserved : goal.loop-taken-preserved
loop-taken-preserved g c =
    let s = c.args.scenario.now in
    let h = c.loop-taken.invariant in
    let came = c.in_ok-arrive.ensures in
    record {
      live = came.live;
      journal =
          next_left s c.args.run.now.journal c.args.left.now c.requires.completes c.loop-taken.taken-index _ _ c.loop-taken.run.journal
          c.arrive.new.self.journal c.loop-taken-test.true h.journal came.journal;
      limit = c.arrive.ensures.limit ∙ h.limit;
      written = on_and_on s c.args.run.now c.loop-taken.run c.arrive.new.self _ _ _ _ _ h.written came.writes;
      unflushed = c.arrive.ensures.unflushed ∙ h.unflushed;
    }

pub returns : goal.returns
returns g c =
    let h = c.loop-run.invariant in
    record {
      live = h.live;
      ended = λ idle. c.in_default.not-Idle (c.state.ensures ∙ idle);
      sections = h.sections;
      fronts = sections_are_fronts c.args.scenario.now c.loop-run.run.journal h.sections;
      limit = h.limit;
      within = h.live.within;
      writes = h.written;
      unflushed = h.unflushed;
    }
