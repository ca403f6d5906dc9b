use Rattle.std.proofs.Common.{refl, sym, ◌∙◌}
use Rattle.std.proofs.lemmas.Bool.{false≢true}
use Rattle.sim_happen_law.proofs.Conditions.Weights.{too_wide_shown}
use Rattle.sim_happen.proofs.happen.Happen.make_unless_wide.Goals as goal

pub returns-then-is_too_wide-clause-wide : goal.returns-then-is_too_wide-clause-wide
returns-then-is_too_wide-clause-wide c =
    λ d s. (λ z. too_wide_shown c.args.self.now d c.args.members s c.tell.ensures.held c.requires.members ∙ (sym c.is_too_wide.ensures ∙ c.if-is_too_wide.true), λ z. refl)

pub returns-else-is_too_wide-clause-wide : goal.returns-else-is_too_wide-clause-wide
returns-else-is_too_wide-clause-wide c =
    λ d s. (
      λ z. absurd (false≢true z),
      λ wide. absurd (false≢true (sym (too_wide_shown c.args.self.now d c.args.members s c.tell.ensures.held c.requires.members ∙ (sym c.is_too_wide.ensures ∙ c.if-is_too_wide.false)) ∙ wide)),
    )
