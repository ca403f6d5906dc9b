-- What is to hold where a body begins and where it is polled, and the events that it remembers.
use Rattle.std.specs.Prelude.{◌≡◌, ◌≢◌, ◌<◌, ℕ, ℤ, Bool, List, [], length, map, slice_index_or, Option, Some, IsTrue}
use Rattle.sim_types.specs.declared.event.EventId.{EventId}
use Rattle.sim_types.specs.declared.event.Signal.{Signal}
use Rattle.sim_machine.specs.Tellings.{CodeFacts}
use Rattle.sim_machine.specs.Bodies.{BodyOf}
use Rattle.sim_types.specs.declared.op.Op.TheVariants as op
use Rattle.sim_machine.specs.BodyLaw.{may_begin, scopes_told}
use Rattle.sim_machine.specs.MayFollow.{may_be_told}
use Rattle.sim_machine.specs.NumberBounds.{arguments_within_bound, tells_within_bound}

-- the events in the places of a body
abbrev pub events_in_places : {B Code : Type 0} → BodyOf B Code → Code → B → List EventId
events_in_places body code b = map (λ x. x.event) ((body.tell code).places b)

-- the lists are as long as each other, and alike but for this place, if any
pub record ChangesOnly (at : Option ℕ) (old new : List EventId) : Type 0 where
  pub length : length new ≡ length old
  pub each : (i : ℕ) → at ≢ Some i
      → slice_index_or new i (record { 0 = 0 }) ≡ slice_index_or old i (record { 0 = 0 })

-- a process of this kind may begin with these arguments, and those that name events are within the bound of events
pub record CanBegin (f : CodeFacts) (kind : ℕ) (args : List ℤ) : Type 0 where
  pub fits : IsTrue (may_begin f kind args)
  pub bound : IsTrue (arguments_within_bound (slice_index_or f.params kind []) args)

-- the body is in a sound state and may be told this, and an event that it is told is within the bound of events
pub record CanBeTold {B Code : Type 0} (body : BodyOf B Code) (code : Code) (b : B) (x : Signal) : Type 0 where
  pub sound : body.sound code b
  pub told : IsTrue (may_be_told ((body.tell code).last b) x)
  pub bound : IsTrue (tells_within_bound x)

-- whoever asks to enter a resource holds fewer scopes open than so many, with the one that it is just told of
pub record EntersWithin {B Code : Type 0} (body : BodyOf B Code) (code : Code) (most : ℕ) : Type 0 where
  pub fewer : (b : B) (time : ℤ) (x : Signal) (res : ℕ) (priority : ℤ) (preempts : Bool) (d : B)
      → CanBeTold body code b x → body.turn code b time x (op.Enter res priority preempts) d
      → length (scopes_told ((body.tell code).scopes b) ((body.tell code).last b) x) < most
