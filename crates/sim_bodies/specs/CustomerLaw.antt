-- A customer keeps the law of bodies.
use Rattle.std.specs.Prelude.{◌≡◌, ℕ, ℤ, pos, Bool, false, Some, None, [], refl}
use Rattle.sim_types.specs.declared.event.EventId.{EventId}
use Rattle.sim_types.specs.declared.event.Signal.{Signal}
use Rattle.sim_types.specs.declared.event.Signal.TheVariants as signal
use Rattle.sim_types.specs.declared.op.Op.{Op}
use Rattle.sim_types.specs.declared.op.Op.TheVariants as op
use Rattle.sim_types.specs.declared.setup.Class.TheVariants as class
use Rattle.sim_machine.specs.Bodies.{start_of}
use Rattle.sim_machine.specs.BodyLaw.{IsLawfulBody, IsLawfulPoll, scopes_told}
use Rattle.sim_procs.specs.Premises.{EntersWithin}
use Rattle.sim_bodies.specs.OnePlace.{leaves_places, may_wait, one_changes, place_gets}
use Rattle.sim_bodies.specs.OneScope.{none_opens, one_scope_within}
use Rattle.sim_bodies.specs.Customers.{CustomerOf, IsCustomerTurn, asked_of, counter_facts, customer_body, customer_tells, next_of, scopes_of}
use Rattle.sim_bodies.specs.declared.customer.Stage.{Stage}
use Rattle.sim_bodies.specs.declared.customer.Stage.TheVariants as stage

abbrev at_stage : CustomerOf → Stage → CustomerOf
at_stage b at = record b { stage = at }

-- the poll at a stage that is told this keeps the law
abbrev IsLawfulAt : ℤ → CustomerOf → Stage → Signal → Type 0
IsLawfulAt service b at x =
    let next = next_of service (at_stage b at) x in
    IsLawfulPoll counter_facts (customer_tells service) (at_stage b at) x next.0 (at_stage b next.1)

queues : (service : ℤ) (b : CustomerOf) (request : EventId) → IsLawfulAt service b stage.AsksForClerk (signal.Made request)
queues service b request =
    record {
      asks = may_wait counter_facts b.own class.Request request refl;
      own = refl;
      places = place_gets (Some (op.Enter 0 (pos 0) false)) class.Request (record { 0 = 0 }) request refl;
      one_place = one_changes class.Request (record { 0 = 0 }) request;
      scopes = refl;
      last = refl;
    }

-- a poll that makes no request leaves the place alone
polls_at : (service : ℤ) (b : CustomerOf) (at : Stage) (x : Signal) → IsLawfulAt service b at x
polls_at service b stage.AsksForClerk (signal.Made request) = queues service b request
polls_at service b stage.AtHome x =
    leaves_places (record { own = refl; places = refl; opens_none = none_opens [] None x refl; asks = refl; scopes = refl; last = refl })
polls_at service b stage.Coming (signal.Value v) =
    leaves_places (record { own = refl; places = refl; opens_none = refl; asks = refl; scopes = refl; last = refl })
polls_at service b (stage.Queued request) (signal.Value v) =
    leaves_places (record { own = refl; places = refl; opens_none = refl; asks = refl; scopes = refl; last = refl })
polls_at service b (stage.Served request) (signal.Value v) =
    leaves_places (record { own = refl; places = refl; opens_none = refl; asks = refl; scopes = refl; last = refl })
polls_at service b (stage.Leaves request) x =
    leaves_places (record { own = refl; places = refl; opens_none = none_opens [] (Some op.Leave) x refl; asks = refl; scopes = refl; last = refl })
polls_at service b (stage.Logs request) x =
    leaves_places (record { own = refl; places = refl; opens_none = none_opens [] (Some (op.Log b.number)) x refl; asks = refl; scopes = refl; last = refl })
polls_at service b (stage.Flees request) x =
    leaves_places (record { own = refl; places = refl; opens_none = none_opens [] (Some op.Leave) x refl; asks = refl; scopes = refl; last = refl })
polls_at service b (stage.Gone request) x =
    leaves_places (record { own = refl; places = refl; opens_none = none_opens [] (Some (op.Finish (pos 0))) x refl; asks = refl; scopes = refl; last = refl })
polls_at service b at x =
    leaves_places (record { own = refl; places = refl; opens_none = refl; asks = refl; scopes = refl; last = refl })

customer_poll : (service : ℤ) (b : CustomerOf) (time : ℤ) (x : Signal) (asked : Op) (d : CustomerOf) → IsCustomerTurn service b time x asked d
    → IsLawfulPoll counter_facts (customer_tells service) b x asked d
customer_poll service b time x asked d turned = rw (turned.0, turned.1) (polls_at service b b.stage x)

pub customer_lawful : (service : ℤ) →
    IsLawfulBody counter_facts (customer_tells service) (λ b. Unit {0}) (start_of customer_body service) (IsCustomerTurn service)
customer_lawful service = record {
  starts = λ kind args id fits. record { own = refl; places = refl; scopes = refl; last = refl };
  begins = λ kind args id fits. tt;
  polls = λ b time x asked d sound told turned. customer_poll service b time x asked d turned;
  keeps = λ b time x asked d sound told turned. tt;
}

-- it asks for a clerk when it has arrived alone, and then it has no scope open
enters_alone : (service : ℤ) (b : CustomerOf) (at : Stage) (x : Signal) (res : ℕ) (priority : ℤ) (preempts : Bool)
    → op.Enter res priority preempts ≡ (next_of service (at_stage b at) x).0 → scopes_told (scopes_of at) (asked_of service (at_stage b at)) x ≡ []
enters_alone service b stage.Coming (signal.Value v) res priority preempts is = refl
enters_alone service b stage.AsksForClerk (signal.Made request) res priority preempts is = absurd (cc)
enters_alone service b (stage.Queued request) (signal.Value v) res priority preempts is = absurd (cc)
enters_alone service b (stage.Served request) (signal.Value v) res priority preempts is = absurd (cc)
enters_alone service b at x res priority preempts is = absurd (cc)

pub customer_enters_within : (service : ℤ) → EntersWithin customer_body service 1
customer_enters_within service =
    one_scope_within customer_body service
    (λ b time x res priority preempts d turned. enters_alone service b b.stage x res priority preempts turned.0)
