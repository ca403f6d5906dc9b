use Rattle.std.proofs.Common.{◌≡◌, ℕ, refl, sym, ap, subst, arith, ◌+◌, ◌≤◌, Bool, Option, Some, None}
use Rattle.std.specs.Prelude.{IfNone, IfSome}
use Rattle.sim_happen_model.specs.TableOf.{TableOf, kept_at, kept_count}
use Rattle.sim_happen_model.specs.Changes.{callbacks_freed, change_or_forget, without_holder}
use Rattle.sim_happen_model.specs.Holders.{HasOwnHolder}
use Rattle.sim_happen_model.specs.Sound.{IsSound, happen_of, spare_in}
use Rattle.sim_happen_law.proofs.Changes.Shutting.{released_spare, sound_released}
use Rattle.sim_happen.proofs.happen.Happen.release_plain.Goals as goal

module _ (c : goal.After-unhold_plain) where
  -- the table before and after
  abbrev old : TableOf
  old = c.self.inside.table

  abbrev new : TableOf
  new = c.unhold_plain.new.self

  has_holder : HasOwnHolder old.events c.args.event
  has_holder = rw (← c.self.view_is) at c.requires.held

  -- that all is in order with this table
  abbrev sound_with : TableOf → Type 0
  sound_with t = IsSound (happen_of c.self.inside.time c.self.inside.scheduled c.self.inside.agenda t) c.self.inside.agenda.spare

  -- the events that are kept or fit besides with this table
  abbrev all_with : TableOf → ℕ
  all_with t = kept_count t.events + (spare_in c.self.inside.agenda t).events

  sound : (o : Option Bool) → IfNone o (new ≡ old) → IfSome o (λ _. new.events ≡ change_or_forget c.args.event without_holder old.events) → sound_with new
  sound None same is = subst sound_with (sym same) c.self.invariant
  sound (Some unhandled) same is =
      sound_released _ _ _ c.args.event has_holder (record { time = refl; scheduled = refl; agenda = refl; left = c.unhold_plain.ensures.left }) is c.self.invariant

  all : (o : Option Bool) → IfNone o (new ≡ old) → IfSome o (λ _. new.events ≡ change_or_forget c.args.event without_holder old.events)
      → all_with new ≡ all_with old
  all None same is = ap all_with same
  all (Some unhandled) same is =
      released_spare c.self.inside.agenda old new c.args.event has_holder c.self.invariant.places is c.unhold_plain.ensures.kept_and_spare

  callbacks : (o : Option Bool) → IfNone o (new ≡ old)
      → IfSome o (λ _. new.spare.callbacks ≡ old.spare.callbacks + callbacks_freed (without_holder (kept_at old.events c.args.event)))
      → old.spare.callbacks ≤ new.spare.callbacks
  callbacks None same is = subst (λ (t : TableOf). old.spare.callbacks ≤ t.spare.callbacks) (sym same) (omega arith)
  callbacks (Some unhandled) same is = omega (arith, is)

pub invariant_of-self : goal.invariant_of-self
invariant_of-self c = sound c c.unhold_plain.result c.unhold_plain.ensures.condition c.unhold_plain.ensures.events

pub returns-clause-room : goal.returns-clause-room
returns-clause-room c =
    rw (← c.self.view_is) (record {
      events = all c c.unhold_plain.result c.unhold_plain.ensures.condition c.unhold_plain.ensures.events;
      callbacks = callbacks c c.unhold_plain.result c.unhold_plain.ensures.condition c.unhold_plain.ensures.callbacks;
      conditions = omega (arith, c.unhold_plain.ensures.conditions);
    })
