use Rattle.std.proofs.Common.{refl}
use Rattle.sim_steps_law.proofs.Resources.Moves.{try_get_called}
use Rattle.sim_steps.proofs.parts.Parts.call_try_get.Goals as goal

pub returns-clause-becomes : goal.returns-clause-becomes
returns-clause-becomes g c =
    let tried = c.try_get.ensures.tried in
    let calling = rw (← c.self.view_is) at c.requires.calling in
    rw (← c.self.view_is) (try_get_called g.B.LawfulBody.body _ _ c.args.event c.args.res calling c.self.invariant.resources (rw tried.left refl) tried)
