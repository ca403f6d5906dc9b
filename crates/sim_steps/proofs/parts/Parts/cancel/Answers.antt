use Rattle.std.proofs.Common.{◌∙◌, refl}
use Rattle.sim_steps_law.proofs.Resources.Moves.{cancelled_becomes}
use Rattle.sim_steps.proofs.parts.Parts.cancel.Goals as goal

pub returns-clause-becomes : goal.returns-clause-becomes
returns-clause-becomes g c =
    let kept = rw (← c.self.view_is) at c.requires.kept in
    let plain = rw (← c.self.view_is) at c.requires.plain in
    let cancelled = c.take_out-place.ensures.cancelled in
    rw (← c.self.view_is) (cancelled_becomes _ c.tell.new.self c.take_out-place.new.self c.args.cancelled _ kept plain c.take_out-place.ensures.shown cancelled (c.tell.ensures ∙ rw cancelled.left refl))
