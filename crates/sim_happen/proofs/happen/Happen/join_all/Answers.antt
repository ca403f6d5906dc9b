use Rattle.std.proofs.Common.{List, length, fold, ap, sym, ◌∙◌}
use Rattle.std.specs.Prelude.{◌==◌}
use Rattle.sim_types.specs.declared.event.EventId.{EventId}
use Rattle.std.proofs.lemmas.Bool.{false≢true}
use Rattle.sim_machine.specs.Conditions.{join_member}
use Rattle.sim_happen_law.proofs.Changes.Following.{kept_then}
use Rattle.sim_happen_law.proofs.Conditions.MadeConditions.{joined_some}
use Rattle.sim_happen.proofs.happen.Happen.join_all.Goals as goal

pub register-requires-clause-kept : goal.register-requires-clause-kept
register-requires-clause-kept c =
    kept_then (λ d. fold (join_member c.args.condition) d c.args.members.now) c.args.self.now c.join_each.new.self c.args.condition c.join_each.ensures.follows c.requires.kept

pub returns-else-is_empty-clause-follows : goal.returns-else-is_empty-clause-follows
returns-else-is_empty-clause-follows c =
    joined_some c.args.condition c.args.members.now c.args.self.now c.join_each.new.self c.register.new.self
    (λ none. false≢true (sym c.if-is_empty.false ∙ (c.is_empty.ensures ∙ ap (λ (xs : List EventId). length xs == 0) (c.as_slice.ensures.values ∙ none)))) c.join_each.ensures.follows c.register.ensures.follows
