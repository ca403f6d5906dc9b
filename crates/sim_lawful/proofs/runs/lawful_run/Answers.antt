use Rattle.sim_lawful.proofs.Units.WholeRuns.{run_stays_lawful}
use Rattle.sim_lawful.proofs.runs.lawful_run.Goals as goal

pub returns : goal.returns
returns g c =
    let b = g.B.LawfulBody in
    record { run = λ code r h. run_stays_lawful b.body code (b.lawful code) r h }
