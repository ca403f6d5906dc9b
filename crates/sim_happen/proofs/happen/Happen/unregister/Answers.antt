use Rattle.std.proofs.Common.{refl, arith}
use Rattle.sim_machine.specs.Callbacks.{is_same_callback}
use Rattle.sim_happen_law.proofs.Changes.Following.{follows_unregistered}
use Rattle.sim_happen_law.proofs.Changes.Soundness.{sound_quiet}
use Rattle.sim_happen.proofs.happen.Happen.unregister.Goals as goal

pub invariant_of-self : goal.invariant_of-self
invariant_of-self c =
    sound_quiet _ _ _ c.args.event _ (rw (← c.self.view_is) at c.requires.kept) (record { time = refl; scheduled = refl; agenda = refl; left = c.unregister.ensures.left }) c.unregister.ensures.events
    (record { outcome = refl; processed = refl; cancelled = refl; members = refl; holders = omega arith }) c.self.invariant

pub returns-clause-follows : goal.returns-clause-follows
returns-clause-follows c =
    rw (← c.self.view_is) (follows_unregistered _ _ c.args.event (is_same_callback c.args.callback) (rw (← c.self.view_is) at c.requires.kept) (record { time = refl; scheduled = refl; agenda = refl; left = c.unregister.ensures.left }) c.unregister.ensures.events)
