use Rattle.std.proofs.Common.{◌∙◌}
use Rattle.sim_machine.specs.Events.{defuse}
use Rattle.sim_machine.specs.Triggering.{fail}
use Rattle.sim_happen_law.proofs.Changes.Following.{kept_then, follows_then}
use Rattle.sim_happen_law.proofs.Changes.Judging.{defused_same}
use Rattle.sim_happen_law.proofs.Changes.NewEvents.{not_refused}
use Rattle.sim_happen.proofs.happen.Happen.fail_with.Goals as goal

pub put_now-triggered-requires-clause-kept : goal.put_now-triggered-requires-clause-kept
put_now-triggered-requires-clause-kept c = kept_then (defuse c.args.member) _ _ c.args.condition c.defuse.ensures.follows c.requires.kept

pub put_now-triggered-requires-clause-not_cancelled : goal.put_now-triggered-requires-clause-not_cancelled
put_now-triggered-requires-clause-not_cancelled c =
    (defused_same _ _ c.args.condition c.args.member c.requires.kept c.defuse.ensures.follows).cancelled ∙ c.requires.not_cancelled

pub returns-clause-follows : goal.returns-clause-follows
returns-clause-follows c =
    let same = defused_same _ _ c.args.condition c.args.member c.requires.kept c.defuse.ensures.follows in
    follows_then (defuse c.args.member) (fail c.args.condition c.args.what) _ _ _ c.defuse.ensures.follows
    (not_refused _ _ _ c.put_now-triggered.ensures.refused (same.outcome ∙ c.requires.pending) c.put_now-triggered.ensures.ok)
