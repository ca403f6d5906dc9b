use Rattle.std.proofs.Common.{◌∙◌, refl, arith}
use Rattle.sim_events.proofs.KeptLists.{still_kept, changed_twice}
use Rattle.sim_happen_model.specs.Changes.{with_callback, with_holder}
use Rattle.sim_happen_law.proofs.Changes.Following.{follows_registered}
use Rattle.sim_happen_law.proofs.Changes.Soundness.{sound_quiet}
use Rattle.sim_happen.proofs.happen.Happen.register_held.Goals as goal

pub invariant_of-self : goal.invariant_of-self
invariant_of-self c =
    sound_quiet _ _ _ c.args.event _ (rw (← c.self.view_is) at c.requires.kept) (record { time = refl; scheduled = refl; agenda = refl; left = c.register_held.ensures.left }) c.register_held.ensures.events
    (record { outcome = refl; processed = refl; cancelled = refl; members = refl; holders = omega arith }) c.self.invariant

pub returns-clause-follows : goal.returns-clause-follows
returns-clause-follows c =
    let kept = rw (← c.self.view_is) at c.requires.kept in
    rw (← c.self.view_is) (follows_registered _ _ c.args.event c.args.callback (still_kept _ c.args.event with_holder kept)
    (record { time = refl; scheduled = refl; agenda = refl; left = c.register_held.ensures.left })
    (c.register_held.ensures.events ∙ changed_twice _ c.args.event with_holder (with_callback c.args.callback) kept))
