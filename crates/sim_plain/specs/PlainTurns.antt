-- Plain bodies: each asks only for operations that name no event, no resource and no process.
use Rattle.std.specs.Prelude.{◌≡◌, ℕ, ℤ, List, [], Option, Some, None}
use Rattle.sim_types.specs.declared.event.ProcId.{ProcId}
use Rattle.sim_types.specs.declared.event.Signal.{Signal}
use Rattle.sim_types.specs.declared.op.Op.{Op}
use Rattle.sim_types.specs.declared.op.Op.TheVariants as op
use Rattle.sim_types.specs.declared.setup.Class.{Class}
use Rattle.sim_machine.specs.Bodies.{BodyOf}
use Rattle.sim_machine.specs.Tellings.{CodeFacts}
use Rattle.sim_lawful.proofs.Polls.PlainBodies.{plain_tells, IsPlainBody}
use Rattle.sim_plain.specs.declared.op.PlainOp.{PlainOp}
use Rattle.sim_plain.specs.declared.op.PlainOp.TheVariants as plain_op

-- the same as an operation of any body
abbrev pub op_of : PlainOp → Op
op_of plain_op.Nop = op.Nop
op_of (plain_op.Pause delay value) = op.Pause delay value
op_of (plain_op.Log value) = op.Log value
op_of (plain_op.Draw lo hi) = op.Draw lo hi
op_of (plain_op.Finish value) = op.Finish value
op_of (plain_op.Die t) = op.Die t

-- its number, what it asked for last, and its state
pub record PlainOf (B : Type 0) : Type 0 where
  pub own : ProcId
  pub last : Option PlainOp
  pub state : B

-- the operation that it asked for last, if it was polled
abbrev pub last_of : {B : Type 0} → PlainOf B → Option Op
last_of b = asked b.last
  where
    asked : Option PlainOp → Option Op
    asked None = None
    asked (Some o) = Some (op_of o)

-- its kinds and their parameters; it knows no event and no resource by name
abbrev pub plain_facts : List (List Class) → CodeFacts
plain_facts params = record { params = params; named = 0; resources = [] }

-- it asks for what its turn says, and is then in the state that its turn says
pub record IsPlainTurn {B : Type 0} (turn : PlainOp × B) (b : PlainOf B) (asked : Op) (d : PlainOf B) : Type 0 where
  pub asks : asked ≡ op_of turn.0
  pub leaves : d ≡ record { own = b.own; last = Some turn.0; state = turn.1 }

-- such bodies, by the parameters of their kinds, their start and their turn
abbrev pub plain_body : {B Code : Type 0} → (Code → List (List Class)) → (Code → ℕ → List ℤ → B)
    → (Code → B → ℤ → Signal → PlainOp × B) → BodyOf (PlainOf B) Code
plain_body params begun turn = record {
  begun = λ code kind args. record { own = record { 0 = 0 }; last = None; state = begun code kind args };
  numbered = λ b id. record b { own = id };
  turn = λ code b time x asked d. IsPlainTurn (turn code b.state time x) b asked d;
  tell = λ code. plain_tells (λ b. b.own) last_of;
  facts = λ code. plain_facts (params code);
  sound = λ code. IsPlainBody last_of;
}
