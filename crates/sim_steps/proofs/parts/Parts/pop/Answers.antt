use Rattle.std.proofs.Common.{refl}
use Rattle.sim_happen_model.specs.Seen.{seen}
use Rattle.sim_happen_law.proofs.Shown.SeenShown.{shows_seen}
use Rattle.sim_steps_law.proofs.Kernels.Keeping.{are_few}
use Rattle.sim_steps_law.proofs.Callbacks.Calls.{popped_moves, told_of}
use Rattle.sim_steps.proofs.parts.Parts.pop.Goals as goal

pub step-requires-clause-few : goal.step-requires-clause-few
step-requires-clause-few g c = rw c.happen_mut.ensures.value (are_few c.self.inside.shared.happen (rw (← c.self.view_is) at c.requires.few))

pub unreachable-requires-in_default : goal.unreachable-requires-in_default
unreachable-requires-in_default g c =
    c.in_default.not-Event _ _ _ _ _ _ (c.in-Some.ensures.steps.1.line (seen c.happen_mut.result.now) (shows_seen c.happen_mut.result.now))

pub returns-clause-moves : goal.returns-clause-moves
returns-clause-moves g c =
    let x = c.in-Some.ensures.steps.0 in
    let pops = rw c.happen_mut.ensures.value at c.in-Some.ensures.steps.1 in
    let event = told_of x _ _ _ _ pops c.in-Event.is in
    let idle = rw (← c.self.view_is) at c.requires.idle in
    rw (← c.self.view_is) (popped_moves g.B.LawfulBody.body _ _ x _ c.step.new.self idle (rw c.in-Event.is at pops) (rw event refl))
