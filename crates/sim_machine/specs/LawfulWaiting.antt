-- Lawful waiting: what waits is pending, and each request and user stands in the one open scope of its live process.
use Rattle.std.specs.Prelude.{Bool, nat_lt, ◌==◌, ◌||◌, ◌&&◌, not, ℕ, List, true, false, [], ◌∷◌, ◌++◌, map, filter, length, if◌then◌else◌, ◌≡◌, ◌≢◌, ◌≤◌, All, AllPairs, IsTrue, is_none}
use Rattle.std.specs.List.{list_any, AllPass}
use Rattle.sim_types.specs.declared.event.EventId.{EventId}
use Rattle.sim_types.specs.declared.event.ProcId.{ProcId}
use Rattle.sim_types.specs.declared.event.EventKind.{EventKind}
use Rattle.sim_types.specs.declared.event.EventKind.TheVariants as kind
use Rattle.sim_types.specs.declared.setup.Resource.{Resource}
use Rattle.sim_types.specs.declared.event.Signal.TheVariants as signal
use Rattle.sim_machine.specs.State.{EventOf, Calendar, Want, Slot, Waiter, OpenScope, ProcessOf, Control, Active, State, Plan}
use Rattle.sim_machine.specs.Events.{is_same, is_process, event_at, is_pending}
use Rattle.sim_machine.specs.Users.{resource_at, users}
use Rattle.sim_machine.specs.Requests.{waits}
use Rattle.sim_machine.specs.Processes.{is_alive, tell}
use Rattle.sim_machine.specs.Tellings.{Telling}
use Rattle.sim_machine.specs.MayFollow.{is_enter}
use Rattle.sim_machine.specs.MayAsk.{takes_requests, most_scopes}
use Rattle.sim_machine.specs.Standing.{was_made, kind_at}

-- the kind of requests
abbrev pub is_request_kind : EventKind → Bool
is_request_kind kind.Request = true
is_request_kind _ = false

-- the kind of puts
abbrev pub is_put_kind : EventKind → Bool
is_put_kind kind.Put = true
is_put_kind _ = false

-- the kind of gets
abbrev pub is_get_kind : EventKind → Bool
is_get_kind kind.Get = true
is_get_kind _ = false

-- the kinds of events that wait at resources
abbrev pub may_wait_kind : EventKind → Bool
may_wait_kind k = is_request_kind k || is_put_kind k || is_get_kind k

-- whether what waits was made, is pending, was not cancelled, and is a request, put or get
abbrev pub waits_well : Calendar → Waiter → Bool
waits_well c w = was_made c w.event && is_pending c w.event && not (event_at c w.event).cancelled && may_wait_kind (kind_at c w.event)

-- whether an event, if it was cancelled, is one that may wait at a resource, and is pending still
abbrev pub is_cancelled_well : EventOf → Bool
is_cancelled_well x = not x.cancelled || may_wait_kind x.kind && is_none x.outcome

-- whether an event is to wait at a resource: a request, put or get that is pending and was not cancelled
abbrev pub must_wait : EventOf → Bool
must_wait x = may_wait_kind x.kind && is_none x.outcome && not x.cancelled

-- whether the active process is just told that this event was made
abbrev pub is_told_made : Control → EventId → Bool
is_told_made (Active e left q (signal.Made r)) n = is_same r n
is_told_made _ n = false

-- whether a scope is open for this request, of this process and at this resource
abbrev pub has_scope : List OpenScope → EventId → ProcId → ℕ → Bool
has_scope scopes request p res = list_any (λ x. is_same x.request request && is_process x.process p && (x.res == res)) scopes

-- two scopes are of different requests
abbrev pub AreOfTwo : OpenScope → OpenScope → Type 0
AreOfTwo x y = x.request ≢ y.request

-- whether a request that waits stands in its scope; puts and gets need none
abbrev pub request_has_scope : List OpenScope → Waiter → Want → Bool
request_has_scope scopes w (Slot p key) = has_scope scopes w.event p w.res
request_has_scope scopes w _ = true

-- whether an open scope is of a live process, of a request, and at a resource that takes requests
abbrev pub is_scope_well : {B : Type 0} → List Resource → State B → OpenScope → Bool
is_scope_well rs s x =
    is_alive x.process s
    && was_made s.facilities.calendar x.request
    && is_request_kind (kind_at s.facilities.calendar x.request)
    && nat_lt x.res (length rs)
    && takes_requests (resource_at rs x.res).kind

-- the request that this process is just told of, where it asked to enter; its body does not know of that scope yet
abbrev pub entered_by : Control → ProcId → Bool → List EventId
entered_by (Active e left q (signal.Made r)) p true = if is_process q p then r ∷ [] else []
entered_by _ p _ = []

-- the requests of the open scopes of p, the outermost first
abbrev pub requests_of : {B : Type 0} → ProcId → State B → List EventId
requests_of p s = map (λ x. x.request) (filter (λ x. is_process x.process p) s.scopes)

-- the scopes of a process are those that its body knows of, with the one that it is just told of, and not too many
abbrev pub KnowsItsScopes : {B : Type 0} → Telling B → State B → ProcessOf B → Type 0
KnowsItsScopes tell s x =
    (requests_of x.id s ≡ tell.scopes x.body ++ entered_by s.control x.id (is_enter (tell.last x.body)))
    × (length (requests_of x.id s) ≤ most_scopes)

-- the requests, puts and gets that wait are those that are pending and were not cancelled; each request that waits and
-- each user stands in an open scope of its live process, and no request has two
pub record LawfulWaiting {B : Type 0} (g : Plan B) (tell : Telling B) (s : State B) : Type 0 where
  pub waiters : AllPass (waits_well s.facilities.calendar) s.facilities.waiters
  pub once : AllPairs (λ w v. w.event ≢ v.event) s.facilities.waiters
  pub pending : (e : EventId) → IsTrue (must_wait (event_at s.facilities.calendar e)) → IsTrue (waits e s.facilities)
  pub cancelled : AllPass is_cancelled_well s.facilities.calendar.events
  pub told : (e : EventId) → IsTrue (is_told_made s.control e) → IsTrue (not (event_at s.facilities.calendar e).cancelled)
  pub requests : AllPass (λ w. request_has_scope s.scopes w w.want) s.facilities.waiters
  pub using : (res : ℕ) → AllPass (λ u. has_scope s.scopes u.request u.process res) (users res s.facilities.ledger)
  pub scopes : AllPass (is_scope_well g.setup.resources s) s.scopes
  pub apart : AllPairs AreOfTwo s.scopes
  pub bodies : All (KnowsItsScopes tell s) s.processes
