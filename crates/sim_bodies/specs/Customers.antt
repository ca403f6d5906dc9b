-- Customers: each comes to a counter, waits for one of two clerks, is served, and logs its number (SimPy's "Shared Resources").
use Rattle.std.specs.Prelude.{◌≡◌, ℤ, pos, false, Option, Some, None, List, [], ◌∷◌, slice_index_or}
use Rattle.sim_types.specs.declared.event.EventId.{EventId}
use Rattle.sim_types.specs.declared.event.ProcId.{ProcId}
use Rattle.sim_types.specs.declared.event.Signal.{Signal}
use Rattle.sim_types.specs.declared.event.Signal.TheVariants as signal
use Rattle.sim_types.specs.declared.op.Op.{Op}
use Rattle.sim_types.specs.declared.op.Op.TheVariants as op
use Rattle.sim_types.specs.declared.setup.Class.TheVariants as class
use Rattle.sim_types.specs.declared.setup.ResourceKind.TheVariants as resource
use Rattle.sim_machine.specs.Tellings.{CodeFacts, Telling}
use Rattle.sim_machine.specs.Bodies.{BodyOf}
use Rattle.sim_bodies.specs.declared.customer.Stage.{Stage}
use Rattle.sim_bodies.specs.declared.customer.Stage.TheVariants as stage

-- its process number, the two numbers that it was given, and how far it has come
pub record CustomerOf : Type 0 where
  pub own : ProcId
  pub arrival : ℤ
  pub number : ℤ
  pub stage : Stage

-- one kind, which is given two numbers, and a counter with two clerks
abbrev pub counter_facts : CodeFacts
counter_facts = record {
  params = (class.Number ∷ class.Number ∷ []) ∷ [];
  named = 0;
  resources = record { kind = resource.Plain; capacity = pos 2; opening = pos 0 } ∷ [];
}

-- before it is told its process number
abbrev pub begun_customer : List ℤ → CustomerOf
begun_customer args = record {
  own = record { 0 = 0 };
  arrival = slice_index_or args 0 (pos 0);
  number = slice_index_or args 1 (pos 0);
  stage = stage.AtHome;
}

-- the event in its place: its request, once that was made
abbrev pub request_of : Stage → EventId
request_of (stage.Queued request) = request
request_of (stage.Served request) = request
request_of (stage.Leaves request) = request
request_of (stage.Logs request) = request
request_of (stage.Flees request) = request
request_of (stage.Gone request) = request
request_of at = record { 0 = 0 }

-- its open scopes: it is at the counter while it waits and is served
abbrev pub scopes_of : Stage → List EventId
scopes_of (stage.Queued request) = request ∷ []
scopes_of (stage.Served request) = request ∷ []
scopes_of at = []

-- what it asked for last; a service takes this long
abbrev pub asked_of : ℤ → CustomerOf → Option Op
asked_of service b = asked_at b.stage
  where
    asked_at : Stage → Option Op
    asked_at stage.AtHome = None
    asked_at stage.Coming = Some (op.Pause b.arrival (pos 0))
    asked_at stage.AsksForClerk = Some (op.Enter 0 (pos 0) false)
    asked_at (stage.Queued request) = Some (op.Wait request)
    asked_at (stage.Served request) = Some (op.Pause service (pos 0))
    asked_at (stage.Leaves request) = Some op.Leave
    asked_at (stage.Logs request) = Some (op.Log b.number)
    asked_at (stage.Flees request) = Some op.Leave
    asked_at (stage.Gone request) = Some (op.Finish (pos 0))

abbrev pub customer_tells : ℤ → Telling CustomerOf
customer_tells service = record {
  own = λ b. b.own;
  places = λ b. record { class = class.Request; event = request_of b.stage } ∷ [];
  scopes = λ b. scopes_of b.stage;
  last = asked_of service;
}

-- what it asks for next, and how far it has come then; where the visit goes wrong, it leaves the counter and ends
abbrev pub next_of : ℤ → CustomerOf → Signal → Op × Stage
next_of service b told = after b.stage told
  where
    after : Stage → Signal → Op × Stage
    after stage.AtHome x = (op.Pause b.arrival (pos 0), stage.Coming)
    after stage.Coming (signal.Value v) = (op.Enter 0 (pos 0) false, stage.AsksForClerk)
    after stage.AsksForClerk (signal.Made request) = (op.Wait request, stage.Queued request)
    after (stage.Queued request) (signal.Value v) = (op.Pause service (pos 0), stage.Served request)
    after (stage.Served request) (signal.Value v) = (op.Leave, stage.Leaves request)
    after (stage.Leaves request) x = (op.Log b.number, stage.Logs request)
    after (stage.Queued request) x = (op.Leave, stage.Flees request)
    after (stage.Served request) x = (op.Leave, stage.Flees request)
    after at x = (op.Finish (pos 0), stage.Gone (request_of at))

-- one poll of a customer
abbrev pub IsCustomerTurn : ℤ → CustomerOf → ℤ → Signal → Op → CustomerOf → Type 0
IsCustomerTurn service b time x asked d =
    (asked ≡ (next_of service b x).0) × (d ≡ record b { stage = (next_of service b x).1 })

-- customers of a counter, whose code is how long a service takes
abbrev pub customer_body : BodyOf CustomerOf ℤ
customer_body = record {
  begun = λ service kind args. begun_customer args;
  numbered = λ b id. record b { own = id };
  turn = IsCustomerTurn;
  tell = customer_tells;
  facts = λ service. counter_facts;
  sound = λ service b. Unit {0};
}
