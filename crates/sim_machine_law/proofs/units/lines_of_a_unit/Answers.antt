use Rattle.sim_machine_law.proofs.RunLaws.LineLaws.{unit_adds}
use Rattle.sim_machine_law.proofs.units.lines_of_a_unit.Goals as goal

pub returns : goal.returns
returns g c = record { one_at_most = λ r m. unit_adds r.plan r.turn m }
