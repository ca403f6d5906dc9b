-- What contracts see of a container (SimPy's Container).
use Rattle.std.specs.Prelude.{◌≡◌, ℕ, ◌+◌, ℤ, pos, ◌+ℤ◌, List, ◌++◌, map, Option, MatchOption}
use Rattle.sim_types.specs.declared.event.EventId.{EventId}
use Rattle.sim_types.specs.declared.setup.Resource.{Resource}
use Rattle.sim_types.specs.declared.setup.ResourceKind.TheVariants as resource
use Rattle.sim_machine.specs.Users.{change_of_level}
use Rattle.sim_machine.specs.Attempts.{fill, drain}
use Rattle.sim_machine.specs.Attempts as attempts
use Rattle.sim_machine.specs.Trying.{put_reach, get_reach}
use Rattle.sim_shared_model.specs.declared.stock.Served.{Served}
use Rattle.sim_shared_model.specs.declared.stock.WaitingAmount.{WaitingAmount}
use Rattle.sim_shared_model.specs.StoreQueues.{besides, ServesNone, ServesOne}

-- a container: what it can hold and holds, who waits, the next to be served first, and for how many more there is room
pub record TankOf : Type 0 where
  pub capacity : ℤ
  pub puts : List WaitingAmount
  pub gets : List WaitingAmount
  pub level : ℤ
  pub spare_puts : ℕ
  pub spare_gets : ℕ

-- the events that wait
abbrev pub waiting_at_tank : TankOf → List EventId
waiting_at_tank t = map (λ w. w.event) t.puts ++ map (λ w. w.event) t.gets

-- as a resource of a scenario; attempts speak of no opening level
abbrev pub container_of : TankOf → Resource
container_of t = record { kind = resource.Container; capacity = t.capacity; opening = pos 0 }

-- what the machine's attempt answers to a put, where the container stands at this place of the scenario
abbrev pub attempt_fill : ℕ → TankOf → WaitingAmount → Option attempts.Served
attempt_fill res t w = fill (container_of t) res t.level w.amount

-- and to a get
abbrev pub attempt_drain : ℕ → TankOf → WaitingAmount → Option attempts.Served
attempt_drain res t w = drain res t.level w.amount

-- a put is served, and the level changes by what is done
pub record Fills (res : ℕ) (old : TankOf) (answer : Served) (after : TankOf) : Type 0 where
  pub one : ServesOne (put_reach resource.Container) (attempt_fill res old) (λ w. w.event) old.puts after.puts answer
  pub level : after.level ≡ old.level +ℤ change_of_level res one.deed.deed
  pub rest : after ≡ record old { puts = after.puts; level = after.level; spare_puts = old.spare_puts + 1 }

-- a get is served, and the level changes by what is done
pub record Drains (res : ℕ) (old : TankOf) (answer : Served) (after : TankOf) : Type 0 where
  pub one : ServesOne (get_reach resource.Container) (attempt_drain res old) (λ w. w.event) old.gets after.gets answer
  pub level : after.level ≡ old.level +ℤ change_of_level res one.deed.deed
  pub rest : after ≡ record old { gets = after.gets; level = after.level; spare_gets = old.spare_gets + 1 }

-- no put that a try looks at is served
abbrev pub FillsNone : ℕ → TankOf → Type 0
FillsNone res t = ServesNone (put_reach resource.Container) (attempt_fill res t) t.puts

-- no get that a try looks at is served
abbrev pub DrainsNone : ℕ → TankOf → Type 0
DrainsNone res t = ServesNone (get_reach resource.Container) (attempt_drain res t) t.gets

-- a try of the puts serves none, and all stays, or it serves one
abbrev pub TriesFill : ℕ → Option Served → TankOf → TankOf → Type 0
TriesFill res result old after = MatchOption result (FillsNone res old × (after ≡ old)) (λ answer. Fills res old answer after)

-- a try of the gets serves none, and all stays, or it serves one
abbrev pub TriesDrain : ℕ → Option Served → TankOf → TankOf → Type 0
TriesDrain res result old after = MatchOption result (DrainsNone res old × (after ≡ old)) (λ answer. Drains res old answer after)

-- the event waits no longer
abbrev pub tank_besides : EventId → TankOf → TankOf
tank_besides e t = record t { puts = besides (λ w. w.event) e t.puts; gets = besides (λ w. w.event) e t.gets }
