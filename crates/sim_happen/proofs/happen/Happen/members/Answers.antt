use Rattle.sim_happen_law.proofs.Conditions.Memberships.{members_kept}
use Rattle.sim_happen.proofs.happen.Happen.members.Goals as goal

pub returns-clause-held : goal.returns-clause-held
returns-clause-held c = rw (← c.self.view_is) c.self.invariant.members

pub returns-clause-kept : goal.returns-clause-kept
returns-clause-kept c = rw (c.members.ensures) (rw (← c.self.view_is) (members_kept c.self.inside.table.events c.args.event c.self.invariant.members))

pub returns-clause-narrow : goal.returns-clause-narrow
returns-clause-narrow c = rw (← c.self.view_is) c.self.invariant.narrow
