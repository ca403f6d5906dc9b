-- What a body of a process is to contracts, gathered so that each clause names one thing. Bodies, which take the place of
-- SimPy's generators, are this project's own.
use Rattle.std.specs.Prelude.{ℕ, ℤ, List}
use Rattle.sim_types.specs.declared.event.ProcId.{ProcId}
use Rattle.sim_machine.specs.Steps.{Turn}
use Rattle.sim_machine.specs.Tellings.{Telling, CodeFacts}

-- a kind of bodies, for each code that its bodies may share: a body that has begun with its process kind and arguments,
-- and the same once it knows its number; what it does in a poll; what it tells of itself; what its code tells; and the
-- states that a body of this code can be in
pub record BodyOf (B Code : Type 0) : Type 1 where
  pub begun : Code → ℕ → List ℤ → B
  pub numbered : B → ProcId → B
  pub turn : Code → Turn B
  pub tell : Code → Telling B
  pub facts : Code → CodeFacts
  pub sound : Code → B → Type 0

-- how a process begins: with its kind and arguments, knowing its number
abbrev pub start_of : {B Code : Type 0} → BodyOf B Code → Code → ℕ → List ℤ → ProcId → B
start_of body code kind args id = body.numbered (body.begun code kind args) id
