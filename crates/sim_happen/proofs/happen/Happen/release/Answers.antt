use Rattle.std.proofs.Common.{refl, arith}
use Rattle.sim_happen_law.proofs.Changes.Shutting.{released_spare, sound_released}
use Rattle.sim_happen.proofs.happen.Happen.release.Goals as goal

pub invariant_of-self : goal.invariant_of-self
invariant_of-self c =
    sound_released _ _ _ c.args.event (rw (← c.self.view_is) at c.requires.held) (record { time = refl; scheduled = refl; agenda = refl; left = c.unhold.ensures.left }) c.unhold.ensures.events c.self.invariant

pub returns-clause-room : goal.returns-clause-room
returns-clause-room c =
    let held = rw (← c.self.view_is) at c.requires.held in
    let events = released_spare c.self.inside.agenda c.self.inside.table c.unhold.new.self c.args.event held c.self.invariant.places c.unhold.ensures.events c.unhold.ensures.kept_and_spare in
    rw (← c.self.view_is) (record { events = events; callbacks = omega (arith, c.unhold.ensures.callbacks); conditions = omega (arith, c.unhold.ensures.conditions) })
