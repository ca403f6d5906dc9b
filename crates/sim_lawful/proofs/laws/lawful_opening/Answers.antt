use Rattle.sim_lawful.proofs.Units.WholeRuns.{opening_lawful_at}
use Rattle.sim_lawful.proofs.laws.lawful_opening.Goals as goal

pub returns : goal.returns
returns g c =
    let b = g.B.LawfulBody in
    record { opening = λ code plan h. opening_lawful_at b.body code (b.lawful code) plan h }
