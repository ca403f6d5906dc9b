-- What the law of bodies asks about scopes, of a body that enters where it has none open.
use Rattle.std.proofs.Common.{◌≡◌, ℕ, ℤ, lit<, Bool, false, refl, List, [], Option}
use Rattle.sim_types.specs.declared.event.EventId.{EventId}
use Rattle.sim_types.specs.declared.event.Signal.{Signal}
use Rattle.sim_types.specs.declared.event.Signal.TheVariants as signal
use Rattle.sim_types.specs.declared.op.Op.{Op}
use Rattle.sim_types.specs.declared.op.Op.TheVariants as op
use Rattle.sim_machine.specs.Bodies.{BodyOf}
use Rattle.sim_machine.specs.MayFollow.{is_enter}
use Rattle.sim_machine.specs.BodyLaw.{scopes_told}
use Rattle.sim_procs.specs.Premises.{EntersWithin}

-- no scope opens where no request was asked for, whatever is told
pub none_opens : (scopes : List EventId) (last : Option Op) (x : Signal) → is_enter last ≡ false → scopes_told scopes last x ≡ scopes
none_opens scopes last (signal.Made e) h = rw h refl
none_opens scopes last signal.Begin h = refl
none_opens scopes last (signal.Value v) h = refl
none_opens scopes last (signal.Thrown t) h = refl
none_opens scopes last (signal.Number n) h = refl
none_opens scopes last (signal.Raised n) h = refl
none_opens scopes last signal.Done h = refl

-- a body that asks to enter with no scope open has one open at most
pub one_scope_within : {B Code : Type 0} (body : BodyOf B Code) (code : Code)
    → ((b : B) (time : ℤ) (x : Signal) (res : ℕ) (priority : ℤ) (preempts : Bool) (d : B) → body.turn code b time x (op.Enter res priority preempts) d
    → scopes_told ((body.tell code).scopes b) ((body.tell code).last b) x ≡ [])
    → EntersWithin body code 1
one_scope_within body code alone = record {
  fewer = λ b time x res priority preempts d can turned. rw (alone b time x res priority preempts d turned) (lit< tt);
}
