-- Polls in a row, in which a body asks for nothing but in the last, and what is done many times in a row.
use Rattle.std.specs.Prelude.{◌≡◌, ℕ, zero, suc, ℤ}
use Rattle.sim_types.specs.declared.event.Signal.{Signal}
use Rattle.sim_types.specs.declared.event.Signal.TheVariants as signal
use Rattle.sim_types.specs.declared.op.Op.{Op}
use Rattle.sim_types.specs.declared.op.Op.TheVariants as op
use Rattle.sim_machine.specs.Bodies.{BodyOf}

-- there is something in between: the first leads to it, and from it the second leads on
pub record ByWayOf {A : Type 0} (first second : A → Type 0) : Type 0 where
  pub between : A
  pub before : first between
  pub after : second between

-- from the old to the new it leads so many times in a row; where it does not once, nothing changes
abbrev pub InARow : {A : Type 0} → (A → A → Type 0) → ℕ → A → A → Type 0
InARow leads zero old new = new ≡ old
InARow leads (suc n) old new = ByWayOf (InARow leads n old) (λ mid. leads mid new)

-- so many in a row, at least one: all but the last lead quietly, and from there the last leads on
abbrev pub QuietButLast : {A : Type 0} → (A → A → Type 0) → (A → Type 0) → ℕ → A → Type 0
QuietButLast quiet last zero old = ⊥
QuietButLast quiet last (suc n) old = ByWayOf (InARow quiet n old) last

-- what a body is told once it has asked for nothing so many times: that this is done
abbrev pub told_after : ℕ → Signal → Signal
told_after zero told = told
told_after (suc n) told = signal.Done

-- what it is told in the last of so many polls
abbrev pub told_at_last : ℕ → Signal → Signal
told_at_last zero told = told
told_at_last (suc n) told = told_after n told

-- so many polls in a row, at one time, in each of which a body asks for nothing: in the first it is told this, and in all
-- others that this is done
abbrev pub QuietPolls : {B Code : Type 0} → BodyOf B Code → Code → ℤ → Signal → ℕ → B → B → Type 0
QuietPolls body code time told zero old new = new ≡ old
QuietPolls body code time told (suc n) old new =
    ByWayOf (QuietPolls body code time told n old) (λ mid. body.turn code mid time (told_after n told) op.Nop new)

-- so many polls in a row, at least one: in all but the last the body asks for nothing, and in the last for this
abbrev pub Polls : {B Code : Type 0} → BodyOf B Code → Code → ℤ → Signal → ℕ → B → Op → B → Type 0
Polls body code time told zero old asked new = ⊥
Polls body code time told (suc n) old asked new =
    ByWayOf (QuietPolls body code time told n old) (λ mid. body.turn code mid time (told_after n told) asked new)
