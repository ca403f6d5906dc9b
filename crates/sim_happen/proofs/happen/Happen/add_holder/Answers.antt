use Rattle.std.proofs.Common.{refl, ap, arith}
use Rattle.sim_happen_model.specs.TableOf.{TableOf}
use Rattle.sim_happen_law.proofs.Changes.Following.{turns_held}
use Rattle.sim_happen_law.proofs.Changes.Soundness.{sound_quiet}
use Rattle.sim_happen.proofs.happen.Happen.add_holder.Goals as goal

pub invariant_of-self : goal.invariant_of-self
invariant_of-self c =
    sound_quiet _ _ _ c.args.event _ (rw (← c.self.view_is) at c.requires.kept) (record { time = refl; scheduled = refl; agenda = refl; left = ap (λ (t : TableOf). t.left) c.hold.ensures.rest }) c.hold.ensures.events
    (record { outcome = refl; processed = refl; cancelled = refl; members = refl; holders = omega arith }) c.self.invariant

pub returns-clause-held : goal.returns-clause-held
returns-clause-held c =
    rw (← c.self.view_is) (turns_held _ _ c.args.event (rw (← c.self.view_is) at c.requires.kept) (record { time = refl; scheduled = refl; agenda = refl; left = ap (λ (t : TableOf). t.left) c.hold.ensures.rest }) c.hold.ensures.events)
