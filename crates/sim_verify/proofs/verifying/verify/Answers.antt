use Rattle.sim_verify.proofs.Taken.{yes_if_ok}
use Rattle.sim_verify.proofs.verifying.verify.Goals as goal

pub returns-clause-yes : goal.returns-clause-yes
returns-clause-yes c =
    yes_if_ok c.args.scenario.now c.args.seed c.args.journal.now c.args.limit c.args.text.now c.verify_text.result c.verify_text.ensures
