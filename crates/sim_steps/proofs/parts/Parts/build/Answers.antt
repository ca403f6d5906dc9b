use Rattle.std.proofs.Common.{refl}
use Rattle.sim_accounts.proofs.CalendarChanges.{plainly_built}
use Rattle.sim_steps_law.proofs.Callbacks.CalledConditions.{followed_becomes}
use Rattle.sim_steps.proofs.parts.Parts.build.Goals as goal

pub returns-clause-becomes : goal.returns-clause-becomes
returns-clause-becomes g c =
    let follows = rw c.happen_mut.ensures.value at c.build.ensures.follows in
    rw (← c.self.view_is) (followed_becomes _ _ _ c.build.new.self (plainly_built c.args.condition) follows (rw follows.left refl))
