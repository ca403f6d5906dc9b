-- What the machine's state is made of. Users, levels, items, queues and callback lists are no parts: they are read off
-- the lists that are.
use Rattle.std.specs.Prelude.{Bool, ℕ, ℤ, List, Option}
use Rattle.sim_types.specs.declared.event.RequestKey.{RequestKey}
use Rattle.sim_types.specs.declared.event.EventId.{EventId}
use Rattle.sim_types.specs.declared.event.ProcId.{ProcId}
use Rattle.sim_types.specs.declared.event.EventKind.{EventKind}
use Rattle.sim_types.specs.declared.event.Outcome.{Outcome}
use Rattle.sim_types.specs.declared.event.Callback.{Callback}
use Rattle.sim_types.specs.declared.event.Signal.{Signal}
use Rattle.sim_types.specs.declared.event.Entry.{Entry}
use Rattle.sim_types.specs.declared.line.End.{End}
use Rattle.sim_types.specs.declared.line.Line.{Line}
use Rattle.sim_types.specs.declared.setup.Setup.{Setup}

-- whether a condition waits for all of its members or for one (SimPy's AllOf and AnyOf)
pub data AllOrAny : Type 0 where
  Every : AllOrAny
  Either : AllOrAny

-- what a condition event has besides: how many of its members were counted, and the events of its value
pub record ConditionOf : Type 0 where
  pub sort : AllOrAny
  pub members : List EventId
  pub count : ℕ
  pub value : List EventId

-- an event (SimPy's Event): it is pending until it has an outcome, and processed once it was popped. A defused one may
-- fail without ending the run; a cancelled one was taken out of its queue while it was pending
pub record EventOf : Type 0 where
  pub kind : EventKind
  pub outcome : Option Outcome
  pub defused : Bool
  pub processed : Bool
  pub cancelled : Bool
  pub condition : Option ConditionOf

-- a callback that is to be called when the event is processed (SimPy's Event.callbacks)
pub record Registration : Type 0 where
  pub event : EventId
  pub callback : Callback

-- time, and what happens in it (SimPy's Environment)
pub record Calendar : Type 0 where
  pub time : ℤ
  -- how many entries the agenda was ever given
  pub scheduled : ℕ
  -- in no order that counts
  pub agenda : List Entry
  -- every event ever made, each at the place of its number
  pub events : List EventOf
  -- all registrations, in the order made
  pub registered : List Registration

-- what is waited for at a resource: a slot; to put an amount or item, of this priority; or to get an amount, or an item
-- from the least to the greatest
pub data Want : Type 0 where
  Slot : (process : ProcId) → (key : RequestKey) → Want
  Give : (amount : ℤ) → (priority : ℤ) → Want
  Take : (least : ℤ) → (greatest : ℤ) → Want

-- a request, put or get that waits at a resource
pub record Waiter : Type 0 where
  pub event : EventId
  pub res : ℕ
  pub want : Want

-- a user of a resource: the request that was granted, whose it is, its key, and the time since when (SimPy's
-- usage_since)
pub record User : Type 0 where
  pub request : EventId
  pub process : ProcId
  pub key : RequestKey
  pub since : ℤ

-- an item of a store: the put that brought it, its value and its priority
pub record Item : Type 0 where
  pub put : EventId
  pub value : ℤ
  pub priority : ℤ

-- what was done at the resource of this place: a slot was granted, released or preempted; an item was deposited by a
-- put, or taken, told by the put that brought it; an amount was filled into a container or drained from it
pub data Deed : Type 0 where
  Granted : (res : ℕ) → (user : User) → Deed
  Released : (res : ℕ) → (request : EventId) → Deed
  Preempted : (res : ℕ) → (request : EventId) → Deed
  Deposited : (res : ℕ) → (item : Item) → Deed
  Taken : (res : ℕ) → (put : EventId) → Deed
  Filled : (res : ℕ) → (amount : ℤ) → Deed
  Drained : (res : ℕ) → (amount : ℤ) → Deed

-- the calendar, and what goes on at the resources
pub record Facilities : Type 0 where
  pub calendar : Calendar
  -- all waiters, in the order made
  pub waiters : List Waiter
  -- all deeds, in order
  pub ledger : List Deed

-- a request whose scope is open (SimPy's `with` statement; that a request stands only in a scope is this project's own)
pub record OpenScope : Type 0 where
  pub process : ProcId
  pub request : EventId
  pub res : ℕ

-- a live process (SimPy's Process): its number, the state of its body, and the event that it waits for, or that it
-- waited for last while it is active
pub record ProcessOf (B : Type 0) : Type 0 where
  pub id : ProcId
  pub body : B
  pub target : EventId

-- what is being done: nothing; an event's callbacks are called; one of these runs a process, which is told this; or the
-- run is over, and the callbacks that are left are never called. (SimPy's step is whole; that it is cut is this
-- project's own.)
pub data Control : Type 0 where
  Idle : Control
  Calling : (event : EventId) → (left : List Callback) → Control
  Active : (event : EventId) → (left : List Callback) → (process : ProcId) → (told : Signal) → Control
  Over : (why : End) → (event : EventId) → (left : List Callback) → Control

-- the machine's state, where B has the states of a process's body
pub record State (B : Type 0) : Type 0 where
  pub facilities : Facilities
  -- how many events were processed, and how many random words were drawn
  pub processed : ℕ
  pub drawn : ℕ
  -- in the order opened
  pub scopes : List OpenScope
  pub processes : List (ProcessOf B)
  pub control : Control
  -- the lines written
  pub lines : List Line

-- what a run is given and never changes: the setup, the random words, and how a process begins that is of a kind, has
-- arguments and is told its number
pub record Plan (B : Type 0) : Type 0 where
  pub setup : Setup
  pub word : ℕ → ℕ
  pub start : ℕ → List ℤ → ProcId → B
