use Rattle.std.proofs.Common.{refl, ap, arith, ◌+◌, Some}
use Rattle.sim_machine.specs.State.{EventOf, ConditionOf}
use Rattle.sim_machine.specs.Conditions.{condition_of}
use Rattle.sim_happen_model.specs.TableOf.{TableOf}
use Rattle.sim_happen_law.proofs.Changes.Following.{follows_changed}
use Rattle.sim_happen_law.proofs.Changes.Soundness.{sound_quiet}
use Rattle.sim_happen.proofs.happen.Happen.count_member.Goals as goal

pub invariant_of-self : goal.invariant_of-self
invariant_of-self c =
    sound_quiet _ _ _ c.args.condition _ (rw (← c.self.view_is) at c.requires.kept) (record { time = refl; scheduled = refl; agenda = refl; left = ap (λ (t : TableOf). t.left) c.count_member.ensures.rest }) c.count_member.ensures.events
    (record { outcome = refl; processed = refl; cancelled = refl; members = refl; holders = omega arith }) c.self.invariant

pub returns-clause-follows : goal.returns-clause-follows
returns-clause-follows c =
    let change : ConditionOf → ConditionOf = λ x. record x { count = x.count + 1 } in
    rw (← c.self.view_is) (follows_changed _ _ c.args.condition (λ (x : EventOf). record x { condition = Some (change (condition_of x.condition)) }) _ (rw (← c.self.view_is) at c.requires.kept) (record { time = refl; scheduled = refl; agenda = refl; left = ap (λ (t : TableOf). t.left) c.count_member.ensures.rest }) c.count_member.ensures.events refl)
