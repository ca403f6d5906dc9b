use Rattle.std.proofs.Common.{refl}
use Rattle.sim_steps_law.proofs.Polls.Waiting.{registered_held_owes, registered_zero_owes}
use Rattle.sim_steps.proofs.parts.Parts.hold_to_resume.Goals as goal
use Rattle.sim_steps.proofs.parts.Parts.hold_to_resume.Goals.{then-on-ne0, else-on-ne0}

pub returns-clause-owes : goal.returns-clause-owes
returns-clause-owes g c =
    let kept = rw (← c.self.view_is) at c.requires.kept in
    elim c.if-on-ne0.branch [
      | then-on-ne0 w ↦
          let follows = rw c.happen_mut-happen.ensures.value at w.register_held.ensures.follows in
          rw (← c.self.view_is, w.self-inside-is)
          (registered_held_owes _ _ w.register_held.new.self c.args.on c.args.process (rw follows.left refl) w.if-on-ne0.true kept follows)
      | else-on-ne0 w ↦
          let follows = rw c.happen_mut-happen.ensures.value at w.register.ensures.follows in
          rw (← c.self.view_is, w.self-inside-is)
          (registered_zero_owes _ _ w.register.new.self c.args.on c.args.process (rw follows.left refl) w.if-on-ne0.false follows)
    ]
