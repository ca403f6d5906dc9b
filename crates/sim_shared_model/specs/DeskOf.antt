-- What contracts see of a desk, and what of the machine that is (SimPy's "Shared resources").
use Rattle.std.specs.Prelude.{Bool, true, false, ℕ, List, ◌∷◌, [], ◌++◌, map, pos}
use Rattle.sim_types.specs.declared.event.EventId.{EventId}
use Rattle.sim_types.specs.declared.event.ProcId.{ProcId}
use Rattle.sim_types.specs.declared.event.RequestKey.{RequestKey}
use Rattle.sim_types.specs.declared.setup.Resource.{Resource}
use Rattle.sim_types.specs.declared.setup.ResourceKind.{ResourceKind}
use Rattle.sim_types.specs.declared.setup.ResourceKind.TheVariants as resource
use Rattle.sim_machine.specs.State.{Slot, Waiter, User}
use Rattle.sim_machine.specs.Users.{in_order}
use Rattle.sim_shared_model.specs.declared.desk.DeskKind.{DeskKind}
use Rattle.sim_shared_model.specs.declared.desk.DeskKind.TheVariants as desk
use Rattle.sim_shared_model.specs.declared.desk.WaitingRequest.{WaitingRequest}

-- the requests that wait, the next to be served first; the users, in the order of grant; and for how many more waiters
-- there is room
pub record DeskOf : Type 0 where
  pub kind : DeskKind
  pub capacity : ℕ
  pub queue : List WaitingRequest
  pub users : List User
  pub spare : ℕ

-- the kind of the machine's resource that a desk of this kind is
abbrev pub resource_kind : DeskKind → ResourceKind
resource_kind desk.Plain = resource.Plain
resource_kind desk.Priority = resource.Priority
resource_kind desk.Preemptive = resource.Preemptive

-- the resource of the machine that a desk is
abbrev pub resource_of : DeskOf → Resource
resource_of d = record { kind = resource_kind d.kind; capacity = pos d.capacity; opening = pos 0 }

-- whether requests wait by their keys at a desk of this kind
abbrev pub goes_by_keys : DeskKind → Bool
goes_by_keys desk.Plain = false
goes_by_keys desk.Priority = true
goes_by_keys desk.Preemptive = true

-- a request of this process, which waits by this key
abbrev pub waiting_by : EventId → RequestKey → ProcId → WaitingRequest
waiting_by request key process = record { request = request; key = key; process = process }

-- what waits, as waiters of the machine at the resource of this place; a desk knows no place, so each will do
abbrev pub waiter_at : ℕ → WaitingRequest → Waiter
waiter_at res w = record { event = w.request; res = res; want = Slot w.process w.key }

abbrev pub waiters_at : ℕ → List WaitingRequest → List Waiter
waiters_at res ws = map (waiter_at res) ws

-- the queue of the machine once one more waits, which came after all others
abbrev pub queue_with : ℕ → WaitingRequest → DeskOf → List Waiter
queue_with res w d = in_order (resource_kind d.kind) (waiters_at res (d.queue ++ w ∷ []))
