-- How far a try goes along a queue, and what an attempt at one waiter does (SimPy's "Shared resources").
use Rattle.std.specs.Prelude.{Bool, not, ℕ, ℤ, List, Option, true, false, [], ◌∷◌, ◌++◌, filter, Some, None, if◌then◌else◌, pos}
use Rattle.std.specs.List.{list_any}
use Rattle.sim_types.specs.Throws.{preemption}
use Rattle.sim_types.specs.declared.event.RequestKey.{RequestKey}
use Rattle.sim_types.specs.declared.event.EventId.{EventId}
use Rattle.sim_types.specs.declared.event.ProcId.{ProcId}
use Rattle.sim_types.specs.declared.setup.Resource.{Resource}
use Rattle.sim_types.specs.declared.setup.ResourceKind.{ResourceKind}
use Rattle.sim_types.specs.declared.setup.ResourceKind.TheVariants as resource
use Rattle.sim_machine.specs.State.{Calendar, Want, Slot, Give, Take, Waiter, User, Deed, Granted, Preempted, Facilities}
use Rattle.sim_machine.specs.Events.{is_same}
use Rattle.sim_machine.specs.Triggering.{succeed, make_interruption}
use Rattle.sim_machine.specs.Users.{resource_at, users, level_after, items, put_queue, get_queue}
use Rattle.sim_machine.specs.Attempts.{Grant, NoSlot, FreeSlot, SlotOf, Served, grant_of, put_served, get_served}

-- what is done to the calendar of the facilities
abbrev pub on_calendar : (Calendar → Calendar) → Facilities → Facilities
on_calendar change f = record f { calendar = change f.calendar }

-- a deed more stands in the ledger
abbrev pub write_deed : Deed → Facilities → Facilities
write_deed deed f = record f { ledger = f.ledger ++ deed ∷ [] }

-- what a container holds now
abbrev pub level : List Resource → ℕ → Facilities → ℤ
level rs res f = level_after (resource_at rs res).opening res f.ledger

-- e no longer waits
abbrev pub unqueue : EventId → Facilities → Facilities
unqueue e f = record f { waiters = filter (λ w. not (is_same w.event e)) f.waiters }

-- the waiter is served: it leaves its queue and succeeds with this value, and the deed is written
abbrev pub serve : Waiter → ℤ → Deed → Facilities → Facilities
serve w value deed f = write_deed deed (on_calendar (succeed w.event value) (unqueue w.event f))

-- the waiter is served as the attempt answered; where it answered nothing, nothing happens
abbrev pub serve_if_any : Waiter → Option Served → Facilities → Facilities
serve_if_any w None f = f
serve_if_any w (Some x) f = serve w x.value x.deed f

-- the victim is a user no longer, and is interrupted with the time since which it used the slot (SimPy's Preempted)
abbrev pub preempt : ℕ → User → Facilities → Facilities
preempt res u f = on_calendar (make_interruption u.process (record { kind = preemption; value = u.since })) (write_deed (Preempted res u.request) f)

-- the request is granted, and is a user since now
abbrev pub take_slot : Waiter → ProcId → RequestKey → Facilities → Facilities
take_slot w process key f =
    serve w (pos 0) (Granted w.res (record { request = w.event; process = process; key = key; since = f.calendar.time })) f

-- the request takes the slot that the attempt answered, after its user was preempted
abbrev pub use_slot : Waiter → ProcId → RequestKey → Grant → Facilities → Facilities
use_slot w process key NoSlot f = f
use_slot w process key FreeSlot f = take_slot w process key f
use_slot w process key (SlotOf u) f = take_slot w process key (preempt w.res u f)

-- an attempt at one waiter: it is served if it can be, else nothing happens (SimPy's Resource, Container and Store)
abbrev pub attempt_for : List Resource → Resource → Waiter → Want → Facilities → Facilities
attempt_for rs r w (Slot process key) f = use_slot w process key (grant_of r key (users w.res f.ledger)) f
attempt_for rs r w (Give amount priority) f =
    serve_if_any w (put_served r w amount priority (level rs w.res f) (items w.res f.ledger)) f
attempt_for rs r w (Take least greatest) f =
    serve_if_any w (get_served r w least greatest (level rs w.res f) (items w.res f.ledger)) f

-- an attempt at one waiter, for what it wants
abbrev pub attempt : List Resource → Waiter → Facilities → Facilities
attempt rs w f = attempt_for rs (resource_at rs w.res) w w.want f

-- whether the waiter was not served
abbrev pub still_waits : Waiter → Facilities → Bool
still_waits w f = list_any (λ v. is_same v.event w.event) f.waiters

-- how far a try goes: to the first waiter alone, on after each that is served, or along all (this project's rule:
-- SimPy's documentation does not say)
pub data Reach : Type 0 where
  First : Reach
  WhileServed : Reach
  All : Reach

-- how far a try goes along the requests or puts
abbrev pub put_reach : ResourceKind → Reach
put_reach resource.Container = WhileServed
put_reach _ = First

-- how far a try goes along the gets
abbrev pub get_reach : ResourceKind → Reach
get_reach resource.Container = WhileServed
get_reach resource.FStore = All
get_reach _ = First

-- whether a try goes on after this waiter, by the facilities after the attempt at it
abbrev pub goes_on : Reach → Waiter → Facilities → Bool
goes_on First w after = false
goes_on WhileServed w after = not (still_waits w after)
goes_on All w after = true

-- a try: attempts along the queue as it stood when the try began, from the front for as long as its rule says
abbrev pub try_along : List Resource → Reach → List Waiter → Facilities → Facilities
try_along rs reach [] f = f
try_along rs reach (w ∷ ws) f =
    let after = attempt rs w f in
    if goes_on reach w after then try_along rs reach ws after else after

-- the requests or puts at a resource are tried
abbrev pub try_put : List Resource → ℕ → Facilities → Facilities
try_put rs res f = try_along rs (put_reach (resource_at rs res).kind) (put_queue rs res f.waiters) f

-- the gets at a resource are tried
abbrev pub try_get : List Resource → ℕ → Facilities → Facilities
try_get rs res f = try_along rs (get_reach (resource_at rs res).kind) (get_queue res f.waiters) f
