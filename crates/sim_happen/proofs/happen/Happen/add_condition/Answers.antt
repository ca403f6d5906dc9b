use Rattle.std.proofs.Common.{refl, arith}
use Rattle.sim_machine.specs.State.{Every, Either}
use Rattle.sim_happen_law.proofs.Conditions.NewConditions.{sound_condition, turns_condition}
use Rattle.sim_happen.proofs.happen.Happen.add_condition.Goals as goal

pub invariant_of-self : goal.invariant_of-self
invariant_of-self c =
    let spare = rw (← c.self.view_is) at c.requires.spare in
    sound_condition _ _ _ Every c.args.members (record { time = refl; scheduled = refl; agenda = refl; left = c.make_all_of.ensures.left }) c.make_all_of.ensures.events (rw (← c.self.view_is) at c.requires.number) (omega (arith, spare))
    (rw (← c.self.view_is) at c.requires.owed) (rw (← c.self.view_is) at c.requires.kept) (rw (← c.self.view_is) at c.requires.light) c.self.invariant

pub invariant_of-self-else-for_all : goal.invariant_of-self-else-for_all
invariant_of-self-else-for_all c =
    let spare = rw (← c.self.view_is) at c.requires.spare in
    sound_condition _ _ _ Either c.args.members (record { time = refl; scheduled = refl; agenda = refl; left = c.make_any_of.ensures.left }) c.make_any_of.ensures.events (rw (← c.self.view_is) at c.requires.number) (omega (arith, spare))
    (rw (← c.self.view_is) at c.requires.owed) (rw (← c.self.view_is) at c.requires.kept) (rw (← c.self.view_is) at c.requires.light) c.self.invariant

pub returns-then-for_all-clause-made : goal.returns-then-for_all-clause-made
returns-then-for_all-clause-made c =
    rw (← c.self.view_is) (rw c.if-for_all.true (turns_condition _ _ Every c.args.members (record { time = refl; scheduled = refl; agenda = refl; left = c.make_all_of.ensures.left }) c.make_all_of.ensures.events))

pub returns-else-for_all-clause-made : goal.returns-else-for_all-clause-made
returns-else-for_all-clause-made c =
    rw (← c.self.view_is) (rw c.if-for_all.false (turns_condition _ _ Either c.args.members (record { time = refl; scheduled = refl; agenda = refl; left = c.make_any_of.ensures.left }) c.make_any_of.ensures.events))
