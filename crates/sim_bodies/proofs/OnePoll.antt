-- A body that is polled once at most.
use Rattle.std.proofs.Common.{◌≤◌, ℕ, zero, suc, ℤ, subst, arith}
use Rattle.sim_types.specs.declared.event.Signal.{Signal}
use Rattle.sim_types.specs.declared.op.Op.{Op}
use Rattle.sim_machine.specs.Bodies.{BodyOf}
use Rattle.sim_procs.specs.QuietPolls.{Polls}

-- at least one poll in a row and at most one is a turn of the body
pub one_poll : {B Code : Type 0} (body : BodyOf B Code) (code : Code) (time : ℤ) (told : Signal) (n : ℕ) (old : B) (asked : Op) (new : B)
    → n ≤ 1 → Polls body code time told n old asked new → body.turn code old time told asked new
one_poll body code time told zero old asked new few none = absurd none
one_poll body code time told (suc zero) old asked new few row = subst (λ b. body.turn code b time told asked new) row.before row.after
one_poll body code time told (suc (suc n)) old asked new few row = absurd (omega (arith, few))
