use Rattle.std.proofs.Common.{rules}
use Rattle.sim_live.proofs.LiveEnds.{runs_none_told}
use Rattle.sim_live.proofs.caller.run_on_loan.Goals as goal

pub scoped-back-requires : goal.scoped-back-requires
scoped-back-requires g c = record { at = λ a. (c.in-Ok.ensures.ready, search rules) }

pub returns-in_default-clause-runs : goal.returns-in_default-clause-runs
returns-in_default-clause-runs g c = runs_none_told c.args.scenario.now c.args.limit _
