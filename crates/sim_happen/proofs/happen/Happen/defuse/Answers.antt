use Rattle.std.proofs.Common.{refl, ap, true, arith}
use Rattle.sim_machine.specs.State.{EventOf}
use Rattle.sim_happen_model.specs.TableOf.{TableOf}
use Rattle.sim_happen_law.proofs.Changes.Following.{follows_changed}
use Rattle.sim_happen_law.proofs.Changes.Soundness.{sound_quiet}
use Rattle.sim_happen.proofs.happen.Happen.defuse.Goals as goal

pub invariant_of-self : goal.invariant_of-self
invariant_of-self c =
    sound_quiet _ _ _ c.args.event _ (rw (← c.self.view_is) at c.requires.kept) (record { time = refl; scheduled = refl; agenda = refl; left = ap (λ (t : TableOf). t.left) c.defuse.ensures.rest }) c.defuse.ensures.events
    (record { outcome = refl; processed = refl; cancelled = refl; members = refl; holders = omega arith }) c.self.invariant

pub returns-clause-follows : goal.returns-clause-follows
returns-clause-follows c =
    rw (← c.self.view_is) (follows_changed _ _ c.args.event (λ (x : EventOf). record x { defused = true }) _ (rw (← c.self.view_is) at c.requires.kept) (record { time = refl; scheduled = refl; agenda = refl; left = ap (λ (t : TableOf). t.left) c.defuse.ensures.rest }) c.defuse.ensures.events refl)
