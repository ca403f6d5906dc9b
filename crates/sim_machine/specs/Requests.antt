-- Requests, releases, puts and gets (SimPy's "Shared resources").
use Rattle.std.specs.Prelude.{Bool, ◌&&◌, not, int_lt, ℕ, ℤ, List, Option, true, false, [], ◌∷◌, ◌++◌, length, Some, None, if◌then◌else◌, pos}
use Rattle.std.specs.List.{list_any}
use Rattle.sim_types.specs.declared.event.RequestKey.{RequestKey}
use Rattle.sim_types.specs.declared.event.EventId.{EventId}
use Rattle.sim_types.specs.declared.event.ProcId.{ProcId}
use Rattle.sim_types.specs.declared.event.EventKind.{EventKind}
use Rattle.sim_types.specs.declared.event.Callback.{Callback}
use Rattle.sim_types.specs.declared.event.EventKind.TheVariants as kind
use Rattle.sim_types.specs.declared.event.Callback.TheVariants as callback
use Rattle.sim_types.specs.declared.setup.Resource.{Resource}
use Rattle.sim_types.specs.declared.setup.ResourceKind.{ResourceKind}
use Rattle.sim_types.specs.declared.setup.ResourceKind.TheVariants as resource
use Rattle.sim_machine.specs.State.{Want, Slot, Give, Take, Waiter, User, Released, Facilities}
use Rattle.sim_machine.specs.Events.{is_same, is_process, next_event, cancel_event, register}
use Rattle.sim_machine.specs.Triggering.{make, succeed}
use Rattle.sim_machine.specs.Users.{resource_at, users, items, put_queue}
use Rattle.sim_machine.specs.Attempts.{grant_of, victim_of, is_container}
use Rattle.sim_machine.specs.Trying.{on_calendar, write_deed, level, unqueue, try_put, try_get}

-- an event is made that waits at the resource behind all others; once it is processed, the other queue is tried
-- (SimPy's resources.base)
abbrev pub join : EventKind → ℕ → Want → Callback → Facilities → Facilities
join k res want after f =
    let e = next_event f.calendar in
    record f {
      calendar = register e after (make k f.calendar);
      waiters = f.waiters ++ record { event = e; res = res; want = want } ∷ [];
    }

-- only at a preemptive resource does it count whether a request preempts
abbrev pub is_preemptive : ResourceKind → Bool
is_preemptive resource.Preemptive = true
is_preemptive _ = false

-- what a request made now waits by: priority, time, and whether it waits where it could preempt
abbrev pub request_key : ResourceKind → ℤ → Bool → Facilities → RequestKey
request_key k priority preempts f = record { priority = priority; time = f.calendar.time; wait = is_preemptive k && not preempts }

-- a request is made and waits
abbrev pub join_request : List Resource → ℕ → ProcId → ℤ → Bool → Facilities → Facilities
join_request rs res p priority preempts f =
    join kind.Request res (Slot p (request_key (resource_at rs res).kind priority preempts f)) (callback.TryGet res) f

-- a request is made and tried (SimPy's Resource.request)
abbrev pub make_request : List Resource → ℕ → ProcId → ℤ → Bool → Facilities → Facilities
make_request rs res p priority preempts f = try_put rs res (join_request rs res p priority preempts f)

-- a put is made and tried (SimPy's Container.put and Store.put)
abbrev pub make_put : List Resource → ℕ → ℤ → ℤ → Facilities → Facilities
make_put rs res amount priority f = try_put rs res (join kind.Put res (Give amount priority) (callback.TryGet res) f)

-- a get is made and tried (SimPy's Container.get and Store.get)
abbrev pub make_get : List Resource → ℕ → ℤ → ℤ → Facilities → Facilities
make_get rs res least greatest f = try_get rs res (join kind.Get res (Take least greatest) (callback.TryPut res) f)

-- a put or get of a container whose amount is not positive is not made (SimPy's ValueError)
abbrev pub is_refused_amount : List Resource → ℕ → ℤ → Bool
is_refused_amount rs res amount = is_container (resource_at rs res).kind && int_lt amount (pos 1)

-- whom the attempt at a waiter that wants this would preempt; puts and gets preempt nobody
abbrev pub victim_at_want : Resource → Want → List User → Option User
victim_at_want r (Slot process key) us = victim_of (grant_of r key us)
victim_at_want r _ us = None

-- whom the attempt at the first of a queue would preempt
abbrev pub victim_at_first : Resource → List Waiter → List User → Option User
victim_at_first r [] us = None
victim_at_first r (w ∷ ws) us = victim_at_want r w.want us

-- whether there is such a user and it is p
abbrev pub is_of : ProcId → Option User → Bool
is_of p None = false
is_of p (Some u) = is_process u.process p

-- whether p's request, if it joined, would have the attempt at the front of the queue, which may be an older request,
-- preempt p itself (this project's own: SimPy raises in the midst of it)
abbrev pub is_own_victim : List Resource → ℕ → ProcId → ℤ → Bool → Facilities → Bool
is_own_victim rs res p priority preempts f =
    is_of p (victim_at_first (resource_at rs res) (put_queue rs res (join_request rs res p priority preempts f).waiters) (users res f.ledger))

-- whether the request uses a slot
abbrev pub is_user : ℕ → EventId → Facilities → Bool
is_user res request f = list_any (λ u. is_same u.request request) (users res f.ledger)

-- the request is a user no longer, where it is one
abbrev pub end_use : ℕ → EventId → Facilities → Facilities
end_use res request f = if is_user res request f then write_deed (Released res request) f else f

-- a release is served as soon as it is made, whether or not the request uses a slot; once it is processed, the requests
-- are tried (SimPy's Resource.release)
abbrev pub make_release : ℕ → EventId → Facilities → Facilities
make_release res request f =
    let e = next_event f.calendar in
    on_calendar (succeed e (pos 0)) (end_use res request (on_calendar (λ c. register e (callback.TryPut res) (make kind.Release c)) f))

-- whether the event waits at any resource
abbrev pub waits : EventId → Facilities → Bool
waits e f = list_any (λ w. is_same w.event e) f.waiters

-- a waiter is taken out of its queue, and nothing is tried (SimPy's cancel); of what does not wait nothing is done,
-- where SimPy may raise
abbrev pub cancel : EventId → Facilities → Facilities
cancel e f = if waits e f then on_calendar (cancel_event e) (unqueue e f) else f

-- a scope is left: a request that still waits is cancelled, and it is released in any case (SimPy's end of `with`)
abbrev pub leave : ℕ → EventId → Facilities → Facilities
leave res request f = make_release res request (cancel request f)

-- users, level or number of items
abbrev pub held_of : ResourceKind → List Resource → ℕ → Facilities → ℤ
held_of resource.Container rs res f = level rs res f
held_of resource.Plain rs res f = pos (length (users res f.ledger))
held_of resource.Priority rs res f = pos (length (users res f.ledger))
held_of resource.Preemptive rs res f = pos (length (users res f.ledger))
held_of _ rs res f = pos (length (items res f.ledger))

-- how much is in use at a resource, or stands in it (SimPy's count, level and length of items)
abbrev pub held : List Resource → ℕ → Facilities → ℤ
held rs res f = held_of (resource_at rs res).kind rs res f
