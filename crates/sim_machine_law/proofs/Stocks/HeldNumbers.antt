-- What is held at a resource is from 0 to what a container may hold at most.
use Rattle.std.proofs.Common.{◌<◌, ◌≤ℤ◌, ℕ, ℤ, pos, List, length, rules, arith}
use Rattle.std.specs.Prelude.{IsTrue}
use Rattle.std.specs.List.{AllPass}
use Rattle.std.proofs.lemmas.Bool.{and_parts}
use Rattle.std.proofs.lemmas.Int.{ints}
use Rattle.std.proofs.lemmas.List.Elements.{All-get_or}
use Rattle.sim_types.specs.Limits.{most_level}
use Rattle.sim_types.specs.Setups.{is_within, most_capacity, most_opening, resource_fits}
use Rattle.sim_types.specs.declared.setup.Resource.{Resource}
use Rattle.sim_types.specs.declared.setup.ResourceKind.{ResourceKind}
use Rattle.sim_types.specs.declared.setup.ResourceKind.TheVariants as resource
use Rattle.sim_machine.specs.State.{Facilities}
use Rattle.sim_machine.specs.Users.{resource_at, users, items}
use Rattle.sim_machine.specs.Requests.{held_of, held}
use Rattle.sim_machine.specs.LawfulCapacities.{LawfulCapacities}

-- ---- no capacity is greater than what a container may hold

capacity_most : (k : ResourceKind) → most_capacity k ≤ℤ most_level
capacity_most resource.Plain = search rules
capacity_most resource.Priority = search rules
capacity_most resource.Preemptive = search rules
capacity_most resource.Container = search rules
capacity_most resource.Store = search rules
capacity_most resource.PStore = search rules
capacity_most resource.FStore = search rules

within_most : (least most n bound : ℤ) → IsTrue (is_within least most n) → most ≤ℤ bound → n ≤ℤ bound
within_most least most n bound h k = grind (arith, ints)

pub capacity_to_most : (r : Resource) → IsTrue (resource_fits r) → r.capacity ≤ℤ most_level
capacity_to_most r fits =
    within_most (pos 1) (most_capacity r.kind) r.capacity most_level
    (and_parts (is_within (pos 1) (most_capacity r.kind) r.capacity) (is_within (pos 0) (most_opening r.kind r.capacity) r.opening) fits).0
    (capacity_most r.kind)

-- ---- what is held

no_less : (n : ℕ) → pos 0 ≤ℤ pos n
no_less n = omega (arith, ints)

up_to : (a b c : ℤ) → a ≤ℤ b → b ≤ℤ c → a ≤ℤ c
up_to a b c h k = omega (arith, ints, h, k)

module _ (rs : List Resource) (res : ℕ) (f : Facilities) (lawful : LawfulCapacities rs f) (below : res < length rs) where
  held_from : (k : ResourceKind) → pos 0 ≤ℤ held_of k rs res f
  held_from resource.Container = lawful.level_low res below
  held_from resource.Plain = no_less (length (users res f.ledger))
  held_from resource.Priority = no_less (length (users res f.ledger))
  held_from resource.Preemptive = no_less (length (users res f.ledger))
  held_from resource.Store = no_less (length (items res f.ledger))
  held_from resource.PStore = no_less (length (items res f.ledger))
  held_from resource.FStore = no_less (length (items res f.ledger))

  pub held_from_0 : pos 0 ≤ℤ held rs res f
  held_from_0 = held_from (resource_at rs res).kind

  held_to : (k : ResourceKind) → held_of k rs res f ≤ℤ (resource_at rs res).capacity
  held_to resource.Container = lawful.level_high res below
  held_to resource.Plain = lawful.slots res below
  held_to resource.Priority = lawful.slots res below
  held_to resource.Preemptive = lawful.slots res below
  held_to resource.Store = lawful.room res below
  held_to resource.PStore = lawful.room res below
  held_to resource.FStore = lawful.room res below

  pub held_to_most : AllPass resource_fits rs → held rs res f ≤ℤ most_level
  held_to_most fit =
      up_to (held rs res f) (resource_at rs res).capacity most_level (held_to (resource_at rs res).kind)
      (capacity_to_most (resource_at rs res) (All-get_or (λ (r : Resource). IsTrue (resource_fits r)) rs res _ below fit))
