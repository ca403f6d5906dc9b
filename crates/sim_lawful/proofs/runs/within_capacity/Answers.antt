use Rattle.sim_lawful.proofs.Units.WholeRuns.{items_fit, levels_fit, levels_from_zero, users_fit}
use Rattle.sim_lawful.proofs.runs.within_capacity.Goals as goal

pub returns-clause-users : goal.returns-clause-users
returns-clause-users g c code r h =
    let b = g.B.LawfulBody in
    users_fit b.body code (b.lawful code) r h

pub returns-clause-levels_low : goal.returns-clause-levels_low
returns-clause-levels_low g c code r h =
    let b = g.B.LawfulBody in
    levels_from_zero b.body code (b.lawful code) r h

pub returns-clause-levels_high : goal.returns-clause-levels_high
returns-clause-levels_high g c code r h =
    let b = g.B.LawfulBody in
    levels_fit b.body code (b.lawful code) r h

pub returns-clause-items : goal.returns-clause-items
returns-clause-items g c code r h =
    let b = g.B.LawfulBody in
    items_fit b.body code (b.lawful code) r h
