-- What a body tells of itself besides its state, and what its code tells. Bodies, which take the place of SimPy's
-- generators, are this project's own.
use Rattle.std.specs.Prelude.{Bool, List, Option, true, false}
use Rattle.sim_types.specs.declared.event.EventId.{EventId}
use Rattle.sim_types.specs.declared.event.ProcId.{ProcId}
use Rattle.sim_types.specs.declared.event.EventKind.{EventKind}
use Rattle.sim_types.specs.declared.event.EventKind.TheVariants as kind
use Rattle.sim_types.specs.declared.op.Op.{Op}
use Rattle.sim_types.specs.declared.setup.Class.{Class}
use Rattle.sim_types.specs.declared.setup.Class.TheVariants as class
-- what a body's code tells, and whether two classes are one
pub use Rattle.sim_types.specs.Setups.{CodeFacts, is_class}

-- a place of a body, where it remembers an event: the class of event that it is for, and the event, or event 0 for none
pub record Place : Type 0 where
  pub class : Class
  pub event : EventId

-- what a body tells: its own number, its places, the requests of the scopes that it holds open, the outermost first, and
-- the operation that it asked for last, if it was polled
pub record Telling (B : Type 0) : Type 0 where
  pub own : B → ProcId
  pub places : B → List Place
  pub scopes : B → List EventId
  pub last : B → Option Op

-- whether an event of this kind may stand in a place of this class; in a number no event stands
abbrev pub kind_fits : Class → EventKind → Bool
kind_fits class.Event kind.Plain = true
kind_fits class.Event kind.Timeout = true
kind_fits class.Cond kind.Cond = true
kind_fits class.Proc kind.Process = true
kind_fits class.Request kind.Request = true
kind_fits class.Move kind.Put = true
kind_fits class.Move kind.Get = true
kind_fits _ _ = false
