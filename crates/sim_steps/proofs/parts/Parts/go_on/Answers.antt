use Rattle.std.proofs.Common.{◌∙◌, refl}
use Rattle.sim_steps_law.proofs.Polls.Waiting.{told_at_once}
use Rattle.sim_steps.proofs.parts.Parts.go_on.Goals as goal

pub returns-clause-becomes : goal.returns-clause-becomes
returns-clause-becomes g c =
    told_at_once c.args.self.now c.tell.new.self c.defuse_failed.new.self.shared.happen c.args.on c.args.process c.requires.kept c.requires.processed c.defuse_failed.ensures.follows (c.tell.ensures ∙ rw (c.defuse_failed.ensures.rest, c.signal_of-told.ensures) refl)
