-- What contracts see of a store (SimPy's Store, PriorityStore and FilterStore).
use Rattle.std.specs.Prelude.{◌≡◌, ◌≢◌, ℕ, ◌+◌, ◌≤◌, pos, List, [], ◌∷◌, ◌++◌, map, Option, Some, None, All, MatchOption}
use Rattle.sim_types.specs.declared.event.EventId.{EventId}
use Rattle.sim_types.specs.declared.setup.Resource.{Resource}
use Rattle.sim_types.specs.declared.setup.ResourceKind.{ResourceKind}
use Rattle.sim_types.specs.declared.setup.ResourceKind.TheVariants as resource
use Rattle.sim_machine.specs.State.{Item}
use Rattle.sim_machine.specs.Users.{item_for}
use Rattle.sim_machine.specs.Attempts.{deposit, hand_out}
use Rattle.sim_machine.specs.Attempts as attempts
use Rattle.sim_machine.specs.Trying.{put_reach, get_reach}
use Rattle.sim_shared_model.specs.declared.stock.Served.{Served}
use Rattle.sim_shared_model.specs.declared.stock.WaitingPut.{WaitingPut}
use Rattle.sim_shared_model.specs.declared.stock.WaitingGet.{WaitingGet}
use Rattle.sim_shared_model.specs.declared.stock.ShelfKind.{ShelfKind}
use Rattle.sim_shared_model.specs.declared.stock.ShelfKind.TheVariants as kind
use Rattle.sim_shared_model.specs.StoreQueues.{besides, ServesNone, ServesOne}

-- a store: its kind, how many items it can hold, who waits, the next to be looked at first, its items in the order put,
-- and for how many more that wait there is room
pub record ShelfOf : Type 0 where
  pub kind : ShelfKind
  pub capacity : ℕ
  pub puts : List WaitingPut
  pub gets : List WaitingGet
  pub items : List Item
  pub spare_puts : ℕ
  pub spare_gets : ℕ

-- the events that wait
abbrev pub waiting_at_shelf : ShelfOf → List EventId
waiting_at_shelf s = map (λ w. w.event) s.puts ++ map (λ w. w.event) s.gets

-- what the machine calls a store of this kind
abbrev pub store_kind : ShelfKind → ResourceKind
store_kind kind.Fifo = resource.Store
store_kind kind.Priority = resource.PStore
store_kind kind.Filter = resource.FStore

-- as a resource of a scenario
abbrev pub store_of : ShelfOf → Resource
store_of s = record { kind = store_kind s.kind; capacity = pos s.capacity; opening = pos 0 }

-- the item that a put brings
abbrev pub brought_by : WaitingPut → Item
brought_by w = record { put = w.event; value = w.value; priority = w.priority }

-- the item that a get is to be given, if there is one
abbrev pub given_to : ShelfKind → List Item → WaitingGet → Option Item
given_to k xs w = item_for (store_kind k) w.least w.greatest xs

-- the item leaves, at the first place where it stands, and the others stay in their order
pub record Leaves (x : Item) (old after : List Item) : Type 0 where
  pub before : List Item
  pub behind : List Item
  pub stood : old ≡ before ++ x ∷ behind
  pub stay : after ≡ before ++ behind
  pub first : All (λ y. y ≢ x) before

-- what the machine's attempt answers to a put, where the store stands at this place of the scenario
abbrev pub attempt_deposit : ℕ → ShelfOf → WaitingPut → Option attempts.Served
attempt_deposit res s w = deposit (store_of s) res s.items (brought_by w)

-- and to a get
abbrev pub attempt_hand_out : ℕ → ShelfOf → WaitingGet → Option attempts.Served
attempt_hand_out res s w = hand_out res (given_to s.kind s.items w)

-- a put is served, and its item stands behind the others
pub record Deposits (res : ℕ) (old : ShelfOf) (answer : Served) (after : ShelfOf) : Type 0 where
  pub one : ServesOne (put_reach (store_kind old.kind)) (attempt_deposit res old) (λ w. w.event) old.puts after.puts answer
  pub items : after.items ≡ old.items ++ brought_by one.waiter ∷ []
  pub rest : after ≡ record old { puts = after.puts; items = after.items; spare_puts = after.spare_puts }
  pub room : old.spare_puts ≤ after.spare_puts

-- a get is served, and the item that it is given leaves. For those that were passed over there is none afterwards either
pub record HandsOut (res : ℕ) (old : ShelfOf) (answer : Served) (after : ShelfOf) : Type 0 where
  pub one : ServesOne (get_reach (store_kind old.kind)) (attempt_hand_out res old) (λ w. w.event) old.gets after.gets answer
  pub item : Item
  pub given : given_to old.kind old.items one.waiter ≡ Some item
  pub leaves : Leaves item old.items after.items
  pub passed : All (λ w. attempt_hand_out res after w ≡ None) one.passed
  pub rest : after ≡ record old { gets = after.gets; items = after.items; spare_puts = after.spare_puts; spare_gets = old.spare_gets + 1 }
  pub room : old.spare_puts ≤ after.spare_puts

-- no put that a try looks at is served
abbrev pub DepositsNone : ℕ → ShelfOf → Type 0
DepositsNone res s = ServesNone (put_reach (store_kind s.kind)) (attempt_deposit res s) s.puts

-- no get that a try looks at is served
abbrev pub HandsOutNone : ℕ → ShelfOf → Type 0
HandsOutNone res s = ServesNone (get_reach (store_kind s.kind)) (attempt_hand_out res s) s.gets

-- a try of the puts serves none, and all stays, or it serves one
abbrev pub TriesDeposit : ℕ → Option Served → ShelfOf → ShelfOf → Type 0
TriesDeposit res result old after = MatchOption result (DepositsNone res old × (after ≡ old)) (λ answer. Deposits res old answer after)

-- a try of the gets serves none, and all stays, or it serves one
abbrev pub TriesHandOut : ℕ → Option Served → ShelfOf → ShelfOf → Type 0
TriesHandOut res result old after = MatchOption result (HandsOutNone res old × (after ≡ old)) (λ answer. HandsOut res old answer after)

-- the event waits no longer
abbrev pub shelf_besides : EventId → ShelfOf → ShelfOf
shelf_besides e s = record s { puts = besides (λ w. w.event) e s.puts; gets = besides (λ w. w.event) e s.gets }
