use Rattle.std.proofs.Common.{rules, ◌∙◌, sym}
use Rattle.sim_happen_law.proofs.Conditions.Gathering.{leaf_again, leaf_new, leaf_pushed}
use Rattle.sim_happen.proofs.happen.Happen.add_leaf.Goals as goal

pub returns-then-not-contains-clause-gathers : goal.returns-then-not-contains-clause-gathers
returns-then-not-contains-clause-gathers c =
    leaf_new c.args.self.now.events c.args.event c.args.value.now _ (sym c.is_processed.ensures ∙ c.if-is_processed.true) (sym c.contains.ensures ∙ c.if-not-contains.true) (leaf_pushed c.args.value.now _ c.args.event c.push-room.ensures.new c.requires.room)

pub returns-else-not-contains-clause-gathers : goal.returns-else-not-contains-clause-gathers
returns-else-not-contains-clause-gathers c =
    leaf_again c.args.self.now.events c.args.event c.args.value.now (sym c.is_processed.ensures ∙ c.if-is_processed.true) (sym c.contains.ensures ∙ search rules)
