-- What the laws of requests speak of: which request comes first, in what order they wait, and whose slot one takes.
use Rattle.std.specs.Prelude.{Bool, true, false, not, ◌&&◌, ◌==◌, ℕ, ◌<ℤ◌, pos, ◌≡◌, ◌≢◌, ◌⊎◌, List, ◌∷◌, ◌++◌, All, length, filter}
use Rattle.std.specs.List.{Contains}
use Rattle.sim_types.specs.declared.event.EventId.{EventId}
use Rattle.sim_types.specs.declared.event.ProcId.{ProcId}
use Rattle.sim_types.specs.declared.event.Entry.{Entry}
use Rattle.sim_types.specs.declared.event.Callback.TheVariants as callback
use Rattle.sim_types.specs.declared.event.RequestKey.{RequestKey}
use Rattle.sim_types.specs.declared.setup.Resource.{Resource}
use Rattle.sim_types.specs.declared.setup.ResourceKind.{ResourceKind}
use Rattle.sim_types.specs.declared.setup.ResourceKind.TheVariants as resource
use Rattle.sim_machine.specs.Keys.{is_served_first}
use Rattle.sim_machine.specs.State.{Calendar, Registration, Waiter, User, Deed, Facilities}
use Rattle.sim_machine.specs.Events.{is_same}
use Rattle.sim_machine.specs.Users.{wants_to_put, key_of, users}

-- ---- keys

-- a request of key a comes before one of key b: by priority, then by time, and at one time those that preempt come
-- before those that wait (SimPy's PriorityRequest)
abbrev pub IsServedBefore : RequestKey → RequestKey → Type 0
IsServedBefore a b =
    (a.priority <ℤ b.priority) ⊎ ((a.priority ≡ b.priority) × ((a.time <ℤ b.time) ⊎ ((a.time ≡ b.time) × (a.wait ≡ false) × (b.wait ≡ true))))

-- ---- queues

-- the requests and puts that wait at a resource, as they came
abbrev pub puts_at : ℕ → List Waiter → List Waiter
puts_at res ws = filter (λ w. (w.res == res) && wants_to_put w.want) ws

-- the gets that wait at a resource, as they came
abbrev pub gets_at : ℕ → List Waiter → List Waiter
gets_at res ws = filter (λ w. (w.res == res) && not (wants_to_put w.want)) ws

-- the waiters that wait for other events than this
abbrev pub waiters_besides : EventId → List Waiter → List Waiter
waiters_besides e ws = filter (λ w. not (is_same w.event e)) ws

-- a resource at which requests wait by their keys
abbrev pub GoesByKeys : ResourceKind → Type 0
GoesByKeys k = (k ≡ resource.Priority) ⊎ (k ≡ resource.Preemptive)

-- v, which stands behind w, does not come before it
abbrev pub StandsBehind : Waiter → Waiter → Type 0
StandsBehind w v = ¬ IsServedBefore (key_of v.want) (key_of w.want)

-- whether neither of a waiter and this key comes before the other
abbrev pub has_equal_key : RequestKey → Waiter → Bool
has_equal_key key w = not (is_served_first key (key_of w.want)) && not (is_served_first (key_of w.want) key)

-- those of a list of waiters whose keys are equal to this one, in order
abbrev pub with_key : RequestKey → List Waiter → List Waiter
with_key key ws = filter (has_equal_key key) ws

-- ---- slots

-- the user with the greatest key, and among equals the one last granted: no user granted before it has a greater key,
-- and each that was granted after it has a smaller one
pub record IsLastServed (us : List User) (u : User) : Type 0 where
  pub granted_before : List User
  pub granted_after : List User
  pub stands : us ≡ granted_before ++ u ∷ granted_after
  pub none_greater : All (λ v. ¬ IsServedBefore u.key v.key) granted_before
  pub all_smaller : All (λ v. IsServedBefore v.key u.key) granted_after

-- fewer slots are used than there are
abbrev pub HasRoom : Resource → List User → Type 0
HasRoom r us = pos (length us) <ℤ r.capacity

-- what is known where a request of this key takes the slot of a user
pub record TakesSlotOf (r : Resource) (key : RequestKey) (us : List User) (u : User) : Type 0 where
  pub kind : r.kind ≡ resource.Preemptive
  pub full : ¬ HasRoom r us
  pub preempts : key.wait ≡ false
  pub before : IsServedBefore key u.key
  pub last : IsLastServed us u

-- why a request of this key takes no user's slot: none can be taken at this resource, it does not preempt, or its key
-- comes before no user's
abbrev pub TakesNoSlot : Resource → RequestKey → List User → Type 0
TakesNoSlot r key us = (r.kind ≢ resource.Preemptive) ⊎ ((key.wait ≡ true) ⊎ All (λ u. ¬ IsServedBefore key u.key) us)

-- the users whose use is not of this request
abbrev pub users_besides : EventId → List User → List User
users_besides request us = filter (λ u. not (is_same u.request request)) us

-- no request is used by two processes
abbrev pub AreOfOneProcess : List Deed → Type 0
AreOfOneProcess ledger =
    (m n : ℕ) → All (λ u. All (λ v. u.request ≡ v.request → u.process ≡ v.process) (users n ledger)) (users m ledger)

-- the user that a granted request makes
abbrev pub user_since : Waiter → ProcId → RequestKey → Facilities → User
user_since w process key f = record { request = w.event; process = process; key = key; since = f.calendar.time }

-- a use of p in the ledger of the first facilities is one in that of the second
abbrev pub KeepsUses : ProcId → Facilities → Facilities → Type 0
KeepsUses p f g =
    (res : ℕ) (u : User) → Contains (users res f.ledger) u → u.process ≡ p → Contains (users res g.ledger) u

-- the callback that throws into a process once the event is processed
abbrev pub struck : EventId → ProcId → Registration
struck e p = record { event = e; callback = callback.Strike p }

-- an entry of now, before all that is not urgent
abbrev pub urgent_entry : EventId → Calendar → Entry
urgent_entry e c = record { key = record { time = c.time; priority = 0; number = c.scheduled }; event = e }
