use Rattle.sim_lawful.proofs.Units.WholeRuns.{arrivals_keep_lawful}
use Rattle.sim_lawful.proofs.laws.lawful_arrival.Goals as goal

pub returns : goal.returns
returns g c =
    let b = g.B.LawfulBody in
    record { arrival = λ code plan h. arrivals_keep_lawful b.body code (b.lawful code) plan h }
