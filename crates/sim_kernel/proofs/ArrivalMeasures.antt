-- What arrives changes nothing that is measured at resources: that is read off who waits and off the ledger.
use Rattle.std.proofs.Common.{◌≡◌, ℕ, ℤ, List, refl}
use Rattle.sim_types.specs.declared.setup.Resource.{Resource}
use Rattle.sim_types.specs.declared.setup.ResourceKind.{ResourceKind}
use Rattle.sim_types.specs.declared.setup.ResourceKind.TheVariants as resource
use Rattle.sim_machine.specs.Measures.{measure_at}
use Rattle.sim_machine.specs.Requests.{held_of}
use Rattle.sim_machine.specs.State.{Facilities, Plan, State}
use Rattle.sim_machine.specs.Units.{arrive}
use Rattle.sim_machine.specs.Users.{resource_at}

-- what is held is read off the ledger
held_by_ledger : (k : ResourceKind) (rs : List Resource) (res : ℕ) (f g : Facilities) → g.ledger ≡ f.ledger → held_of k rs res g ≡ held_of k rs res f
held_by_ledger resource.Plain rs res f g same = rw same refl
held_by_ledger resource.Priority rs res f g same = rw same refl
held_by_ledger resource.Preemptive rs res f g same = rw same refl
held_by_ledger resource.Container rs res f g same = rw same refl
held_by_ledger resource.Store rs res f g same = rw same refl
held_by_ledger resource.PStore rs res f g same = rw same refl
held_by_ledger resource.FStore rs res f g same = rw same refl

pub arrival_measures : {B : Type 0} (g : Plan B) (port : ℕ) (value : ℤ) (s : State B) (rs : List Resource) (res : ℕ)
    → measure_at rs res (arrive g port value s).facilities ≡ measure_at rs res s.facilities
arrival_measures g port value s rs res =
    let held = held_by_ledger (resource_at rs res).kind rs res s.facilities (arrive g port value s).facilities refl in
    rw held refl
