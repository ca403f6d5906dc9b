use Rattle.std.proofs.Common.{rules, subst, w64, FitsSigned}
use Rattle.std.proofs.lemmas.Int.{to_z-of_z}
use Rattle.sim_machine.specs.Triggering.{make_interruption}
use Rattle.sim_machine.specs.Trying.{on_calendar}
use Rattle.sim_happen_model.specs.HappenOf.{unheld_event}
use Rattle.sim_shared_model.specs.Granting.{preempted_since}
use Rattle.sim_shared_model.specs.ShowsAll.{TurnsAll}
use Rattle.sim_shared_law.proofs.Desks.PreemptedSlots.{interrupted_follows}
use Rattle.sim_shared.proofs.shared.Shared.succeed_after_preemption.Goals as goal

pub returns-clause-follows : goal.returns-clause-follows
returns-clause-follows c =
    let fits : FitsSigned w64 c.args.since = search rules in
    let told = subst (λ n. TurnsAll (on_calendar (make_interruption c.args.process (preempted_since n))) unheld_event c.args.self.now c.tell_preempted.new.self) (to_z-of_z w64 c.args.since fits) c.tell_preempted.ensures.told in
    interrupted_follows c.args.request c.args.process c.args.since c.args.self.now c.tell_preempted.new.self c.succeed.new.self told c.succeed.ensures.follows
