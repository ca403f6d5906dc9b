use Rattle.std.proofs.Common.{rules, w64, FitsSigned, ◌∙◌, refl}
use Rattle.std.proofs.lemmas.Int.{to_z-of_z}
use Rattle.sim_steps_law.proofs.Resources.Moves.{get_makes, move_refused}
use Rattle.sim_steps.proofs.parts.Parts.make_get.Goals as goal

pub returns-in-Ok-clause-made : goal.returns-in-Ok-clause-made
returns-in-Ok-clause-made g c =
    let least : FitsSigned w64 c.args.least = search rules in
    let greatest : FitsSigned w64 c.args.greatest = search rules in
    let ensures = rw (to_z-of_z w64 c.args.least least, to_z-of_z w64 c.args.greatest greatest) at c.in-Ok.ensures in
    let shown = rw (← c.self.view_is) at c.requires.ready.shown in
    let callbacks = rw (← c.self.view_is) at c.requires.ready.room.callbacks in
    rw (← c.self.view_is)
    (get_makes _ c.args.res _ _ c.in-Ok.get c.self.invariant.resources ensures.id (rw ensures.ok.turns.left refl) shown callbacks c.args.least c.args.greatest ensures.refused ensures.ok)

pub returns-in-Err-clause-refused : goal.returns-in-Err-clause-refused
returns-in-Err-clause-refused g c =
    let least : FitsSigned w64 c.args.least = search rules in
    let refused = rw (to_z-of_z w64 c.args.least least) at c.in-Err.ensures.refused in
    rw (← c.self.view_is) (move_refused _ c.args.res c.args.least _ _ c.tell.new.self c.self.invariant.resources refused (c.tell.ensures ∙ rw c.in-Err.ensures.err refl))
