use Rattle.std.proofs.Common.{rules, subst, ap, ◌∙◌, w64, FitsSigned, [], ◌∷◌}
use Rattle.std.proofs.lemmas.Int.{to_z-of_z}
use Rattle.sim_machine.specs.Trying as trying
use Rattle.sim_machine.specs.Trying.{on_calendar}
use Rattle.sim_happen_model.specs.HappenOf.{unheld_event}
use Rattle.sim_shared_model.specs.Granting.{interrupted_for}
use Rattle.sim_shared_model.specs.ShowsAll.{TurnsAll}
use Rattle.sim_shared_law.proofs.Desks.GrantedSlots.{granted_open, granted_follows}
use Rattle.sim_shared_law.proofs.Waiters.MadeEvents.{makes_none, makes_one}
use Rattle.sim_shared_law.proofs.Desks.PreemptedSlots.{preempted_open, preempted_follows}
use Rattle.sim_shared_law.proofs.Desks.TriedDesks.{none_follows}
use Rattle.sim_shared_law.proofs.Shown.ShownMeasures.{desk_changes, happens_then}
use Rattle.sim_shared.proofs.shared.Shared.try_requests.Goals as goal

pub succeed-requires : goal.succeed-requires
succeed-requires c = record {
  «open» = granted_open c.args.self.now c.try_first.new.self c.args.res c.in-Granted.request c.in-Granted.ensures.tried c.requires.open;
}

pub succeed_after_preemption-requires-clause-open : goal.succeed_after_preemption-requires-clause-open
succeed_after_preemption-requires-clause-open c =
    let w = c.in-Preempted in
    preempted_open c.args.self.now c.try_first.new.self c.args.res w.request w.victim w.process w.since w.ensures.tried c.requires.open

pub returns-in-None-clause-tried : goal.returns-in-None-clause-tried
returns-in-None-clause-tried c =
    makes_none 1 (trying.try_put c.args.self.now.setup c.args.res) c.args.self.now c.try_first.new.self
    (none_follows c.args.self.now c.try_first.new.self c.args.res c.in-None.ensures.tried) (ap (λ h. h.spare) c.in-None.ensures.happen)

pub returns-in-Granted-clause-tried : goal.returns-in-Granted-clause-tried
returns-in-Granted-clause-tried c =
    makes_none 1 (trying.try_put c.args.self.now.setup c.args.res) c.args.self.now c.succeed.new.self
    (granted_follows c.args.self.now c.try_first.new.self c.succeed.new.self c.args.res c.in-Granted.request c.in-Granted.ensures.tried c.succeed.ensures.follows)
    (c.succeed.ensures.spare ∙ ap (λ h. h.spare) c.in-Granted.ensures.happen)

pub returns-in-Preempted-clause-tried : goal.returns-in-Preempted-clause-tried
returns-in-Preempted-clause-tried c =
    let w = c.in-Preempted in
    let s = c.succeed_after_preemption in
    let fits : FitsSigned w64 c.in-Preempted.since = search rules in
    let follows = subst (λ n. TurnsAll (on_calendar (interrupted_for w.request w.process n)) unheld_event c.try_first.new.self s.new.self) (to_z-of_z w64 w.since fits) s.ensures.follows in
    makes_one (trying.try_put c.args.self.now.setup c.args.res) c.args.self.now s.new.self
    (preempted_follows c.args.self.now c.try_first.new.self s.new.self c.args.res w.request w.victim w.process w.since w.ensures.tried follows)
    (s.ensures.spare ∙ ap (λ h. h.spare) w.ensures.happen)

pub returns-in-Granted-clause-touched : goal.returns-in-Granted-clause-touched
returns-in-Granted-clause-touched c =
    let tried = desk_changes c.args.res _ c.args.self.now c.try_first.new.self c.in-Granted.ensures.tried in
    happens_then (c.args.res ∷ []) c.args.self.now c.try_first.new.self c.succeed.new.self tried c.succeed.ensures.rest

pub returns-in-Preempted-clause-touched : goal.returns-in-Preempted-clause-touched
returns-in-Preempted-clause-touched c =
    let s = c.succeed_after_preemption in
    let tried = desk_changes c.args.res _ c.args.self.now c.try_first.new.self c.in-Preempted.ensures.tried in
    happens_then (c.args.res ∷ []) c.args.self.now c.try_first.new.self s.new.self tried s.ensures.rest

pub returns-in-None-clause-touched : goal.returns-in-None-clause-touched
returns-in-None-clause-touched c = desk_changes c.args.res _ c.args.self.now c.try_first.new.self c.in-None.ensures.tried
