-- Users, levels and items, read off the ledger, and queues, read off the waiters (SimPy's "Shared resources").
use Rattle.std.specs.Prelude.{Bool, ◌==◌, ◌&&◌, not, int_lt, ℕ, ℤ, List, Option, true, false, [], ◌∷◌, ◌++◌, filter, slice_index_or, Some, None, if◌then◌else◌, pos, ◌+ℤ◌, ◌-ℤ◌, find, int_le}
use Rattle.std.specs.List.{list_any}
use Rattle.sim_types.specs.declared.event.RequestKey.{RequestKey}
use Rattle.sim_types.specs.declared.event.EventId.{EventId}
use Rattle.sim_types.specs.declared.setup.Resource.{Resource}
use Rattle.sim_types.specs.declared.setup.ResourceKind.{ResourceKind}
use Rattle.sim_types.specs.declared.setup.ResourceKind.TheVariants as resource
use Rattle.sim_machine.specs.Choices.{best}
use Rattle.sim_machine.specs.Keys.{is_served_first}
use Rattle.sim_machine.specs.State.{Want, Slot, Take, Waiter, User, Item, Deed, Granted, Released, Preempted, Deposited, Taken, Filled, Drained}
use Rattle.sim_machine.specs.Events.{is_same}

-- the resource at this place of the scenario, counted from 0
abbrev pub resource_at : List Resource → ℕ → Resource
resource_at rs res = slice_index_or rs res (record { kind = resource.Plain; capacity = pos 0; opening = pos 0 })

-- whether the deed ends the use of this request
abbrev pub ends_use : EventId → Deed → Bool
ends_use request (Released res r) = is_same request r
ends_use request (Preempted res r) = is_same request r
ends_use request _ = false

-- the user that this deed makes, where none of the later deeds ends its use
abbrev pub user_by : ℕ → Deed → List Deed → List User
user_by res (Granted at user) later = if (at == res) && not (list_any (ends_use user.request) later) then user ∷ [] else []
user_by res _ later = []

-- the users of a resource, in the order granted (SimPy's Resource.users)
abbrev pub users : ℕ → List Deed → List User
users res [] = []
users res (deed ∷ later) = user_by res deed later ++ users res later

-- what a deed adds to a container
abbrev pub change_of_level : ℕ → Deed → ℤ
change_of_level res (Filled at amount) = if at == res then amount else pos 0
change_of_level res (Drained at amount) = if at == res then pos 0 -ℤ amount else pos 0
change_of_level res _ = pos 0

-- what a container holds that held so much before these deeds (SimPy's Container.level)
abbrev pub level_after : ℤ → ℕ → List Deed → ℤ
level_after level res [] = level
level_after level res (deed ∷ later) = level_after (level +ℤ change_of_level res deed) res later

-- whether the deed takes the item that this put brought
abbrev pub takes_item : EventId → Deed → Bool
takes_item put (Taken res p) = is_same put p
takes_item put _ = false

-- the item that this deed brings, where none of the later deeds takes it
abbrev pub item_by : ℕ → Deed → List Deed → List Item
item_by res (Deposited at item) later = if (at == res) && not (list_any (takes_item item.put) later) then item ∷ [] else []
item_by res _ later = []

-- the items of a store, in the order put (SimPy's Store.items)
abbrev pub items : ℕ → List Deed → List Item
items res [] = []
items res (deed ∷ later) = item_by res deed later ++ items res later

-- requests and puts wait in one queue, gets in the other
abbrev pub wants_to_put : Want → Bool
wants_to_put (Take least greatest) = false
wants_to_put _ = true

-- what a request waits by; puts and gets all wait alike
abbrev pub key_of : Want → RequestKey
key_of (Slot process key) = key
key_of _ = record { priority = pos 0; time = pos 0; wait = false }

-- the waiter joins behind those that are served before it; it came before all others here, so it stands before those
-- that are its equals
abbrev pub insert_waiter : Waiter → List Waiter → List Waiter
insert_waiter w [] = w ∷ []
insert_waiter w (v ∷ vs) = if is_served_first (key_of v.want) (key_of w.want) then v ∷ insert_waiter w vs else w ∷ v ∷ vs

-- by key, and those with equal keys as they came (SimPy's SortedQueue)
abbrev pub sorted_waiters : List Waiter → List Waiter
sorted_waiters [] = []
sorted_waiters (w ∷ ws) = insert_waiter w (sorted_waiters ws)

-- only requests of a priority or preemptive resource go by their keys; all else waits as it came
abbrev pub in_order : ResourceKind → List Waiter → List Waiter
in_order resource.Priority ws = sorted_waiters ws
in_order resource.Preemptive ws = sorted_waiters ws
in_order _ ws = ws

-- the requests and puts that wait at a resource
abbrev pub put_queue : List Resource → ℕ → List Waiter → List Waiter
put_queue rs res ws = in_order (resource_at rs res).kind (filter (λ w. (w.res == res) && wants_to_put w.want) ws)

-- the gets that wait at a resource
abbrev pub get_queue : ℕ → List Waiter → List Waiter
get_queue res ws = filter (λ w. (w.res == res) && not (wants_to_put w.want)) ws

-- what stands first in a list
abbrev pub first_of_list : {X : Type 0} → List X → Option X
first_of_list [] = None
first_of_list (x ∷ xs) = Some x

-- the user that a preemption looks at, if there is a user: the one with the greatest key, among equals the last granted
abbrev pub last_served : List User → Option User
last_served us = best (λ v u. not (is_served_first v.key u.key)) us

-- the item that a priority store gives, if it has one: the one with the least priority; among equals the first put,
-- which is this project's own rule
abbrev pub least_item : List Item → Option Item
least_item xs = best (λ y x. int_lt y.priority x.priority) xs

-- the item that a get from least to greatest is given; only a filter store looks at the range (SimPy's Store,
-- PriorityStore and FilterStore; a range in place of a filter function is this project's own)
abbrev pub item_for : ResourceKind → ℤ → ℤ → List Item → Option Item
item_for resource.PStore least greatest xs = least_item xs
item_for resource.FStore least greatest xs = find (λ x. int_le least x.value && int_le x.value greatest) xs
item_for _ least greatest xs = first_of_list xs
