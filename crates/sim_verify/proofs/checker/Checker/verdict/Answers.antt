use Rattle.std.proofs.Common.{◌≡◌, ◌∙◌, ap, subst, sym, take, arith}
use Rattle.std.proofs.lemmas.List.{take_all}
use Rattle.sim_verify.specs.Checkers.{CheckerOf}
use Rattle.sim_verify.proofs.Taken.{says_yes}
use Rattle.sim_verify.proofs.checker.Checker.verdict.Goals as goal

pub returns-in-None-clause-said : goal.returns-in-None-clause-said
returns-in-None-clause-said g c more =
    says_yes c.args.ports.now c.args.self.now g.T.Text.bytes more
    (sym (ap (λ (v : CheckerOf). v.wrong) c.self.view_is) ∙ c.in-None.is)
    (subst (λ (v : CheckerOf). take v.at v.given ≡ g.T.Text.bytes) c.self.view_is
    (take_all c.self.inside.at c.self.inside.given.now (omega (arith, c.if-self.true)) ∙ c.self.invariant.1))
