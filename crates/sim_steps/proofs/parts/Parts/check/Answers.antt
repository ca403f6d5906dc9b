use Rattle.std.proofs.Common.{refl}
use Rattle.sim_accounts.proofs.CalendarChanges.{plainly_checked}
use Rattle.sim_steps_law.proofs.Callbacks.CalledConditions.{followed_becomes}
use Rattle.sim_steps.proofs.parts.Parts.check.Goals as goal

pub returns-clause-becomes : goal.returns-clause-becomes
returns-clause-becomes g c =
    let follows = rw c.happen_mut.ensures.value at c.check.ensures.follows in
    rw (← c.self.view_is) (followed_becomes _ _ _ c.check.new.self (plainly_checked c.args.condition c.args.event) follows (rw follows.left refl))
