-- Plain bodies keep the law of bodies, and open no scope.
use Rattle.std.specs.Prelude.{◌≡◌, ℕ, ℤ, List, true, refl}
use Rattle.std.proofs.lemmas.Bool.{false≢true}
use Rattle.sim_types.specs.declared.event.Signal.{Signal}
use Rattle.sim_types.specs.declared.op.Op.{Op}
use Rattle.sim_types.specs.declared.setup.Class.{Class}
use Rattle.sim_machine.specs.Bodies.{start_of}
use Rattle.sim_machine.specs.BodyLaw.{IsLawfulBody}
use Rattle.sim_lawful.proofs.Polls.PlainBodies.{is_plain, PollsPlain, plain_lawful}
use Rattle.sim_procs.specs.Premises.{EntersWithin}
use Rattle.sim_plain.specs.declared.op.PlainOp.{PlainOp}
use Rattle.sim_plain.specs.declared.op.PlainOp.TheVariants as plain_op
use Rattle.sim_plain.specs.PlainTurns.{op_of, PlainOf, last_of, IsPlainTurn, plain_body}

op_plain : (o : PlainOp) → is_plain (op_of o) ≡ true
op_plain plain_op.Nop = refl
op_plain (plain_op.Pause delay value) = refl
op_plain (plain_op.Log value) = refl
op_plain (plain_op.Draw lo hi) = refl
op_plain (plain_op.Finish value) = refl
op_plain (plain_op.Die t) = refl

turn_plain : {B : Type 0} (turn : PlainOp × B) (b : PlainOf B) (asked : Op) (d : PlainOf B) → IsPlainTurn turn b asked d
    → PollsPlain (λ c. c.own) last_of b asked d
turn_plain turn b asked d turned = record {
  plain = rw turned.asks (op_plain turn.0);
  same = rw turned.leaves refl;
  asks_last = rw (turned.asks, turned.leaves) refl;
}

pub plain_body_lawful : {B Code : Type 0} (params : Code → List (List Class)) (begun : Code → ℕ → List ℤ → B)
    (turn : Code → B → ℤ → Signal → PlainOp × B) (code : Code) → let body = plain_body params begun turn in
    IsLawfulBody (body.facts code) (body.tell code) (body.sound code) (start_of body code) (body.turn code)
plain_body_lawful params begun turn code =
    plain_lawful _ _ _ _ _
    (λ k args p. record { numbered = refl; unpolled = refl })
    (λ b time x asked d turned. turn_plain (turn code b.state time x) b asked d turned)

pub plain_enters_within : {B Code : Type 0} (params : Code → List (List Class)) (begun : Code → ℕ → List ℤ → B)
    (turn : Code → B → ℤ → Signal → PlainOp × B) (code : Code) → EntersWithin (plain_body params begun turn) code 0
plain_enters_within params begun turn code = record {
  fewer = λ b time x res priority preempts d can turned.
      absurd (false≢true (turn_plain (turn code b.state time x) b _ d turned).plain);
}
