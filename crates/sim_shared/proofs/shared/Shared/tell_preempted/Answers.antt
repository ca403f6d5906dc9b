use Rattle.std.proofs.Common.{rules, w64, FitsSigned}
use Rattle.std.proofs.lemmas.Int.{to_z-of_z}
use Rattle.sim_shared_law.proofs.Desks.PreemptedSlots.{open_interrupted, told_follows}
use Rattle.sim_shared.proofs.shared.Shared.tell_preempted.Goals as goal

pub returns-clause-told : goal.returns-clause-told
returns-clause-told c =
    let fits : FitsSigned w64 c.args.since = search rules in
    rw (← c.self.view_is) (told_follows c.args.process c.args.since _ _ c.interrupt-interruption.new.self (to_z-of_z w64 c.args.since fits) c.interrupt-interruption.ensures.made)

pub returns-clause-open : goal.returns-clause-open
returns-clause-open c e opened =
    open_interrupted c.args.process _ c.self.inside.happen c.interrupt-interruption.new.self e c.interrupt-interruption.ensures.made (rw (← c.self.view_is) at opened)
