use Rattle.std.proofs.Common.{refl}
use Rattle.sim_happen_law.proofs.Changes.Shutting.{turns_shut, sound_shut}
use Rattle.sim_happen.proofs.happen.Happen.shut.Goals as goal

pub invariant_of-self : goal.invariant_of-self
invariant_of-self c =
    let open_ = rw (← c.self.view_is) at c.requires.is_open in
    sound_shut _ _ _ c.args.event open_.kept open_.pending (record { time = refl; scheduled = refl; agenda = refl; left = c.shut.ensures.left }) c.shut.ensures.events c.self.invariant

pub returns-clause-cancelled : goal.returns-clause-cancelled
returns-clause-cancelled c =
    let open_ = rw (← c.self.view_is) at c.requires.is_open in
    rw (← c.self.view_is) (turns_shut _ _ c.args.event open_.kept (record { time = refl; scheduled = refl; agenda = refl; left = c.shut.ensures.left }) c.shut.ensures.events)
