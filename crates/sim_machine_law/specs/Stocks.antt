-- What the laws of containers and stores speak of: amounts, which item is given, and how far a try comes.
use Rattle.std.specs.Prelude.{true, ◌⊎◌, not, ◌==◌, ℕ, ℤ, pos, ◌<ℤ◌, ◌≤ℤ◌, ◌+ℤ◌, ◌≡◌, ◌≢◌, List, [], ◌∷◌, ◌++◌, map, filter, All, AllPairs, if◌then◌else◌, IfSome, Some, length}
use Rattle.sim_types.specs.declared.event.EventId.{EventId}
use Rattle.sim_types.specs.declared.event.Outcome.TheVariants as outcome
use Rattle.sim_types.specs.declared.setup.Resource.{Resource}
use Rattle.sim_types.specs.declared.setup.ResourceKind.{ResourceKind}
use Rattle.sim_types.specs.declared.setup.ResourceKind.TheVariants as resource
use Rattle.sim_machine.specs.State.{Want, Give, Take, Waiter, Item, Deed, Filled, Drained, Facilities}
use Rattle.sim_machine.specs.Events.{is_same, event_at}
use Rattle.sim_machine.specs.Users.{resource_at, first_of_list, items}
use Rattle.sim_machine.specs.Trying.{level, still_waits}
use Rattle.sim_machine_law.specs.Desks.{waiters_besides}

-- ---- amounts

-- the amounts that were put into a container, in order
abbrev pub amounts_put : ℕ → List Deed → List ℤ
amounts_put res [] = []
amounts_put res (Filled at amount ∷ later) = if at == res then amount ∷ amounts_put res later else amounts_put res later
amounts_put res (_ ∷ later) = amounts_put res later

-- the amounts that were got from a container, in order
abbrev pub amounts_got : ℕ → List Deed → List ℤ
amounts_got res [] = []
amounts_got res (Drained at amount ∷ later) = if at == res then amount ∷ amounts_got res later else amounts_got res later
amounts_got res (_ ∷ later) = amounts_got res later

-- the amount that a put or get at a container is of
abbrev pub amount_of : Want → ℤ
amount_of (Give amount priority) = amount
amount_of (Take least greatest) = least
amount_of _ = pos 0

-- a want to put, and a want to get
abbrev pub IsPut : Waiter → Type 0
IsPut w = (amount : ℤ) × (priority : ℤ) × (w.want ≡ Give amount priority)

abbrev pub IsGet : Waiter → Type 0
IsGet w = (least : ℤ) × (greatest : ℤ) × (w.want ≡ Take least greatest)

-- ---- tries

-- each event waits once
abbrev pub WaitOnce : List Waiter → Type 0
WaitOnce ws = AllPairs (λ w v. w.event ≢ v.event) ws

-- the waiters but these
abbrev pub waiters_without : List Waiter → List Waiter → List Waiter
waiters_without [] ws = ws
waiters_without (v ∷ vs) ws = waiters_without vs (filter (λ w. not (is_same w.event v.event)) ws)

-- a try served those at the front of a queue, each by its deed, and in this order; what it stopped at does not fit
pub record ServesFront (deed : Waiter → Deed) (fits : Waiter → Facilities → Type 0) (queue : List Waiter) (f g : Facilities) : Type 0 where
  pub front : List Waiter
  pub left : List Waiter
  pub stands : queue ≡ front ++ left
  pub served : g.waiters ≡ waiters_without front f.waiters
  pub deeds : g.ledger ≡ f.ledger ++ map deed front
  pub stops : IfSome (first_of_list left) (λ w. ¬ fits w g)

-- the deeds of a put and of a get at a container
abbrev pub filled_by : Waiter → Deed
filled_by w = Filled w.res (amount_of w.want)

abbrev pub drained_by : Waiter → Deed
drained_by w = Drained w.res (amount_of w.want)

-- whether an amount fits into what is free, and whether so much is there
abbrev pub HasSpace : List Resource → Waiter → Facilities → Type 0
HasSpace rs w f = (level rs w.res f +ℤ amount_of w.want) ≤ℤ (resource_at rs w.res).capacity

abbrev pub HasAmount : List Resource → Waiter → Facilities → Type 0
HasAmount rs w f = amount_of w.want ≤ℤ level rs w.res f

-- ---- items

-- the items besides the one that this put brought
abbrev pub items_besides : EventId → List Item → List Item
items_besides put xs = filter (λ x. not (is_same x.put put)) xs

-- the first of the items that have the least priority
pub record IsFirstLeast (xs : List Item) (x : Item) : Type 0 where
  pub put_before : List Item
  pub put_after : List Item
  pub stands : xs ≡ put_before ++ x ∷ put_after
  pub all_greater : All (λ y. x.priority <ℤ y.priority) put_before
  pub none_less : All (λ y. x.priority ≤ℤ y.priority) put_after

-- an item in the range of a get
abbrev pub IsInRange : ℤ → ℤ → Item → Type 0
IsInRange least greatest x = (least ≤ℤ x.value) × (x.value ≤ℤ greatest)

-- the first of the items that are in the range
pub record IsFirstInRange (least greatest : ℤ) (xs : List Item) (x : Item) : Type 0 where
  pub put_before : List Item
  pub put_after : List Item
  pub stands : xs ≡ put_before ++ x ∷ put_after
  pub fits : IsInRange least greatest x
  pub none_before : All (λ y. ¬ IsInRange least greatest y) put_before

-- the item was put before all others that are there
abbrev pub IsFirstPut : List Item → Item → Type 0
IsFirstPut xs x = (later : List Item) × (xs ≡ x ∷ later)

-- no item is in the range
abbrev pub HasNoneInRange : ℤ → ℤ → List Item → Type 0
HasNoneInRange least greatest xs = All (λ x. ¬ IsInRange least greatest x) xs

-- no item is in the range of what this waiter wants
abbrev pub FindsNone : List Item → Waiter → Type 0
FindsNone xs w = (least greatest : ℤ) → w.want ≡ Take least greatest → HasNoneInRange least greatest xs

-- where this waiter still waits, no item of the store is in the range of what it wants
abbrev pub FindsNoneWhereLeft : ℕ → Waiter → Facilities → Type 0
FindsNoneWhereLeft res w f = still_waits w f ≡ true → FindsNone (items res f.ledger) w

-- the gets of a store that is no filter store and no container
abbrev pub GivesOne : ResourceKind → Type 0
GivesOne k = (k ≡ resource.Store) ⊎ (k ≡ resource.PStore)

-- ---- attempts at stores

-- the item that a put brings
abbrev pub item_of : Waiter → ℤ → ℤ → Item
item_of w value priority = record { put = w.event; value = value; priority = priority }

-- a store has fewer items than it may have
abbrev pub HasItemSpace : Resource → List Item → Type 0
HasItemSpace r xs = pos (length xs) <ℤ r.capacity

-- the get is given the value of this item, which leaves the store; all others wait on
pub record IsHandedOut (w : Waiter) (x : Item) (f g : Facilities) : Type 0 where
  pub taken : items w.res g.ledger ≡ items_besides x.put (items w.res f.ledger)
  pub given : (event_at g.calendar w.event).outcome ≡ Some (outcome.Ok x.value)
  pub waits_on : g.waiters ≡ waiters_besides w.event f.waiters

-- the item stands in the store, behind all others; all others wait on
pub record IsPutIn (w : Waiter) (x : Item) (f g : Facilities) : Type 0 where
  pub deposited : items w.res g.ledger ≡ items w.res f.ledger ++ x ∷ []
  pub given : (event_at g.calendar w.event).outcome ≡ Some (outcome.Ok (pos 0))
  pub waits_on : g.waiters ≡ waiters_besides w.event f.waiters
