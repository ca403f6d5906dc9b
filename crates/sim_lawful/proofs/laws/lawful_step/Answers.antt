use Rattle.sim_lawful.proofs.Units.WholeRuns.{steps_keep_lawful}
use Rattle.sim_lawful.proofs.laws.lawful_step.Goals as goal

pub returns : goal.returns
returns g c =
    let b = g.B.LawfulBody in
    record { step = λ code plan h. steps_keep_lawful b.body code (b.lawful code) plan h }
