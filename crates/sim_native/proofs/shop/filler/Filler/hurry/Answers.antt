use Rattle.sim_native.proofs.ShopHurries.{filler_hurries}
use Rattle.sim_native.proofs.shop.filler.Filler.hurry.Goals as goal

pub returns-in-CrewLeft-Done-clause-passes : goal.returns-in-CrewLeft-Done-clause-passes
returns-in-CrewLeft-Done-clause-passes c = λ time.
    rw (c.in-CrewLeft-Done.is-0, c.in-CrewLeft-Done.is-1) (filler_hurries time c.args.self.now)
