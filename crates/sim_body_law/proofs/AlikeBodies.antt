-- Two kinds of bodies that ask for the same, poll for poll: a relation between their states that each poll keeps.
use Rattle.std.specs.Prelude.{◌≡◌, ℕ, ℤ, List, [], ◌∷◌, Some, slice_index_or, All}
use Rattle.sim_types.specs.declared.event.Callback.{Callback}
use Rattle.sim_types.specs.declared.event.EventId.{EventId}
use Rattle.sim_types.specs.declared.event.ProcId.{ProcId}
use Rattle.sim_types.specs.declared.event.Signal.{Signal}
use Rattle.sim_types.specs.declared.op.Op.{Op}
use Rattle.sim_types.specs.declared.op.Op.TheVariants as op
use Rattle.sim_types.specs.declared.setup.Arrival.{Arrival}
use Rattle.sim_machine.specs.State.{Active, Plan, ProcessOf, State}
use Rattle.sim_machine.specs.Processes.{process_at}

-- how a process begins, by its kind, its arguments and its number
abbrev pub Begins : Type 0 → Type 0
Begins B = ℕ → List ℤ → ProcId → B

-- the plan with bodies that begin so
abbrev pub plan_with_bodies : {B C : Type 0} → Begins C → Plan B → Plan C
plan_with_bodies start g = record { setup = g.setup; word = g.word; start = start }

-- a process of this kind with these arguments begins alike by both, whatever its number
abbrev pub BeginsAlike : {B C : Type 0} → (B → C → Type 0) → Begins B → Begins C → ℕ → List ℤ → Type 0
BeginsAlike like start again kind args = (p : ProcId) → like (start kind args p) (again kind args p)

-- two polls ask for the same, and the bodies are alike then; a process that is asked for begins alike by both
pub record AsksAlike {B C : Type 0} (like : B → C → Type 0) (start : ℕ → List ℤ → ProcId → B) (again : ℕ → List ℤ → ProcId → C)
    (first : Op × B) (second : Op × C) : Type 0 where
  pub asked : second.0 ≡ first.0
  pub bodies : like first.1 second.1
  pub spawned : (kind : ℕ) (args : List ℤ) → first.0 ≡ op.Spawn kind args → BeginsAlike like start again kind args

-- bodies that are alike ask alike in each poll in which the first may be told what it is told, and the processes that run from the
-- start begin so
pub record AreAlike {B C : Type 0} (like : B → C → Type 0) (may : B → Signal → Type 0) (g : Plan B) (again : ℕ → List ℤ → ProcId → C)
    (turn : B → ℤ → Signal → Op × B) (turn_again : C → ℤ → Signal → Op × C) : Type 0 where
  pub polls : (b : B) (c : C) → like b c → (time : ℤ) (told : Signal) → may b told
      → AsksAlike like g.start again (turn b time told) (turn_again c time told)
  pub starts : All (λ x. BeginsAlike like g.start again x.kind x.args) g.setup.starts

-- the process that an arrival makes begins alike by both
abbrev pub ArrivesAlike : {B C : Type 0} → (B → C → Type 0) → Plan B → Begins C → Arrival → Type 0
ArrivesAlike like g again a = BeginsAlike like g.start again (slice_index_or g.setup.ports a.port 0) (a.value ∷ [])

-- the process that runs may be told what it is told
pub record IsToldWell {B : Type 0} (may : B → Signal → Type 0) (s : State B) : Type 0 where
  pub told : (e : EventId) (left : List Callback) (p : ProcId) (x : Signal) (one : ProcessOf B)
      → s.control ≡ Active e left p x → process_at p s ≡ Some one → may one.body x
