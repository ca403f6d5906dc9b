use Rattle.std.proofs.Common.{rules, w64, FitsSigned, ◌∙◌, refl}
use Rattle.std.proofs.lemmas.Int.{to_z-of_z}
use Rattle.sim_steps_law.proofs.Resources.Moves.{put_makes, move_refused}
use Rattle.sim_steps.proofs.parts.Parts.make_put.Goals as goal

pub returns-in-Ok-clause-made : goal.returns-in-Ok-clause-made
returns-in-Ok-clause-made g c =
    let amount : FitsSigned w64 c.args.amount = search rules in
    let priority : FitsSigned w64 c.args.priority = search rules in
    let ensures = rw (to_z-of_z w64 c.args.amount amount, to_z-of_z w64 c.args.priority priority) at c.in-Ok.ensures in
    let shown = rw (← c.self.view_is) at c.requires.ready.shown in
    let callbacks = rw (← c.self.view_is) at c.requires.ready.room.callbacks in
    rw (← c.self.view_is)
    (put_makes _ c.args.res _ _ c.in-Ok.put c.self.invariant.resources ensures.id (rw ensures.ok.turns.left refl) shown callbacks c.args.amount c.args.priority ensures.refused ensures.ok)

pub returns-in-Err-clause-refused : goal.returns-in-Err-clause-refused
returns-in-Err-clause-refused g c =
    let amount : FitsSigned w64 c.args.amount = search rules in
    let refused = rw (to_z-of_z w64 c.args.amount amount) at c.in-Err.ensures.refused in
    rw (← c.self.view_is) (move_refused _ c.args.res c.args.amount _ _ c.tell.new.self c.self.invariant.resources refused (c.tell.ensures ∙ rw c.in-Err.ensures.err refl))
