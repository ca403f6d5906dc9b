-- What an attempt at one waiter answers, by the users, the level and the items of its resource alone (SimPy's "Shared
-- resources"). What is done then stands elsewhere.
use Rattle.std.specs.Prelude.{Bool, ◌&&◌, not, int_lt, int_le, ℕ, ℤ, List, Option, true, false, length, Some, None, if◌then◌else◌, pos, ◌+ℤ◌}
use Rattle.sim_types.specs.declared.event.RequestKey.{RequestKey}
use Rattle.sim_types.specs.declared.setup.Resource.{Resource}
use Rattle.sim_types.specs.declared.setup.ResourceKind.{ResourceKind}
use Rattle.sim_types.specs.declared.setup.ResourceKind.TheVariants as resource
use Rattle.sim_machine.specs.Keys.{is_served_first}
use Rattle.sim_machine.specs.State.{Waiter, User, Item, Deed, Deposited, Taken, Filled, Drained}
use Rattle.sim_machine.specs.Users.{last_served, item_for}

-- what an attempt at a request answers: no slot; a slot that is free; or the slot of this user, who is preempted
pub data Grant : Type 0 where
  NoSlot : Grant
  FreeSlot : Grant
  SlotOf : (victim : User) → Grant

-- whether fewer slots are used than there are
abbrev pub has_free_slot : Resource → List User → Bool
has_free_slot r us = int_lt (pos (length us)) r.capacity

-- the user's slot, where the request of this key preempts and its key comes before the user's
abbrev pub slot_of : RequestKey → Option User → Grant
slot_of key None = NoSlot
slot_of key (Some u) = if not key.wait && is_served_first key u.key then SlotOf u else NoSlot

-- where all slots are used, only a preemptive resource may take one away from a user (SimPy's PreemptiveResource)
abbrev pub slot_in_use : ResourceKind → RequestKey → List User → Grant
slot_in_use resource.Preemptive key us = slot_of key (last_served us)
slot_in_use _ key us = NoSlot

-- the slot that a request of this key is given (SimPy's Resource.request)
abbrev pub grant_of : Resource → RequestKey → List User → Grant
grant_of r key us = if has_free_slot r us then FreeSlot else slot_in_use r.kind key us

-- the user who is preempted, where one is
abbrev pub victim_of : Grant → Option User
victim_of (SlotOf u) = Some u
victim_of _ = None

-- what an attempt at a put or get answers that is served: the value that its event gets, and the deed
pub record Served : Type 0 where
  pub value : ℤ
  pub deed : Deed

-- whether a resource of this kind is a container
abbrev pub is_container : ResourceKind → Bool
is_container resource.Container = true
is_container _ = false

-- an amount is filled into a container where it fits into what is free (SimPy's Container.put)
abbrev pub fill : Resource → ℕ → ℤ → ℤ → Option Served
fill r res level amount = if int_le (level +ℤ amount) r.capacity then Some (record { value = pos 0; deed = Filled res amount }) else None

-- an amount is drained from a container where so much is there (SimPy's Container.get)
abbrev pub drain : ℕ → ℤ → ℤ → Option Served
drain res level amount = if int_le amount level then Some (record { value = pos 0; deed = Drained res amount }) else None

-- an item is deposited in a store that has fewer items than it may have (SimPy's Store.put)
abbrev pub deposit : Resource → ℕ → List Item → Item → Option Served
deposit r res xs x = if int_lt (pos (length xs)) r.capacity then Some (record { value = pos 0; deed = Deposited res x }) else None

-- the item leaves the store, and its value is what the get is given; without one nothing happens (SimPy's Store.get)
abbrev pub hand_out : ℕ → Option Item → Option Served
hand_out res None = None
hand_out res (Some x) = Some (record { value = x.value; deed = Taken res x.put })

-- what an attempt at a put of this amount, or of an item of this value and priority, answers
abbrev pub put_served : Resource → Waiter → ℤ → ℤ → ℤ → List Item → Option Served
put_served r w amount priority level xs =
    if is_container r.kind
    then fill r w.res level amount
    else deposit r w.res xs (record { put = w.event; value = amount; priority = priority })

-- what an attempt at a get of this amount, or of an item in this range, answers
abbrev pub get_served : Resource → Waiter → ℤ → ℤ → ℤ → List Item → Option Served
get_served r w least greatest level xs =
    if is_container r.kind
    then drain w.res level least
    else hand_out w.res (item_for r.kind least greatest xs)
