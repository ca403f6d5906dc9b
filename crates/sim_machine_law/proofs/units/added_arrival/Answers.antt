use Rattle.sim_machine.specs.Runs.{opening_course}
use Rattle.sim_machine_law.proofs.RunLaws.JournalLaws.{added_at_state}
use Rattle.sim_machine_law.proofs.units.added_arrival.Goals as goal

pub returns : goal.returns
returns g c = record { same = λ r a n h. added_at_state r.plan r.turn a (opening_course r.plan r.journal) n h.under_way h.comes }
