use Rattle.std.proofs.Common.{refl, arith}
use Rattle.sim_happen_law.proofs.Changes.Following.{turns_made}
use Rattle.sim_happen_law.proofs.Changes.Soundness.{sound_made}
use Rattle.sim_happen.proofs.happen.Happen.make.Goals as goal

pub invariant_of-self : goal.invariant_of-self
invariant_of-self c =
    let spare = rw (← c.self.view_is) at c.requires.spare in
    sound_made _ _ _ c.args.kind (record { time = refl; scheduled = refl; agenda = refl; left = c.make.ensures.left }) c.make.ensures.events (rw (← c.self.view_is) at c.requires.number) (omega (arith, spare)) c.self.invariant

pub returns-clause-made : goal.returns-clause-made
returns-clause-made c =
    rw (← c.self.view_is) (turns_made _ _ c.args.kind (record { time = refl; scheduled = refl; agenda = refl; left = c.make.ensures.left }) c.make.ensures.events)
