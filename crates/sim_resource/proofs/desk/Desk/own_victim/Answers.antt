use Rattle.std.proofs.Common.{refl}
use Rattle.sim_resource.proofs.desk.Desk.own_victim.Goals as goal

pub returns-in-Some : goal.returns-in-Some
returns-in-Some c = λ res request. rw (← c.victim_with.ensures res request c.args.process, c.in-Some.is, c.process.ensures) refl

pub returns-in-None : goal.returns-in-None
returns-in-None c = λ res request. rw (← c.victim_with.ensures res request c.args.process, c.in-None.is) refl
