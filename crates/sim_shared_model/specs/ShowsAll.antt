-- Which facilities of the machine are shown, and how calls follow what the machine does to facilities.
use Rattle.std.specs.Prelude.{◌≡◌, ◌≢◌, ◌<◌, ℕ, ℤ, List, [], map, length, slice_get, Option, Some, None, All, AllPairs, IsTrue}
use Rattle.sim_types.specs.declared.event.EventId.{EventId}
use Rattle.sim_types.specs.declared.setup.Resource.{Resource}
use Rattle.sim_machine.specs.State.{Want, Slot, Give, Take, Waiter, Facilities}
use Rattle.sim_machine.specs.Standing.{was_made}
use Rattle.sim_machine.specs.Users.{users, items, put_queue, get_queue}
use Rattle.sim_machine.specs.Trying.{level}
use Rattle.sim_machine.specs.LawfulLedger.{LawfulLedger}
use Rattle.sim_happen_model.specs.HappenOf.{held, as_before}
use Rattle.sim_happen_model.specs.Shows.{Shows}
use Rattle.sim_shared_model.specs.DeskOf.{DeskOf, waiters_at}
use Rattle.sim_shared_model.specs.declared.stock.WaitingAmount.{WaitingAmount}
use Rattle.sim_shared_model.specs.declared.stock.WaitingPut.{WaitingPut}
use Rattle.sim_shared_model.specs.declared.stock.WaitingGet.{WaitingGet}
use Rattle.sim_shared_model.specs.Tanks.{TankOf}
use Rattle.sim_shared_model.specs.Shelves.{ShelfOf}
use Rattle.sim_shared_model.specs.AnyShared.{SharedResource}
use Rattle.sim_shared_model.specs.declared.resource.AnyResource.TheVariants.{Desk, Tank, Shelf}
use Rattle.sim_shared_model.specs.Resources.{declared_as, without_opening}
use Rattle.sim_shared_model.specs.SharedOf.{SharedOf}

-- who waits for how much at a container
pub record AmountFor : Type 0 where
  pub event : EventId
  pub amount : Option ℤ

-- how much is wanted; the priority of a put and the greatest of a get are nothing to a container, and a request is no amount
abbrev pub amount_of : Want → Option ℤ
amount_of (Give amount priority) = Some amount
amount_of (Take least greatest) = Some least
amount_of (Slot process key) = None

abbrev pub amount_for : Waiter → AmountFor
amount_for w = record { event = w.event; amount = amount_of w.want }

-- what waits at a container, as amounts
abbrev pub amount_waiting : WaitingAmount → AmountFor
amount_waiting w = record { event = w.event; amount = Some w.amount }

-- what waits at a store, as waiters of the machine at the resource of this place
abbrev pub put_waiting : ℕ → WaitingPut → Waiter
put_waiting res w = record { event = w.event; res = res; want = Give w.value w.priority }

abbrev pub get_waiting : ℕ → WaitingGet → Waiter
get_waiting res w = record { event = w.event; res = res; want = Take w.least w.greatest }

-- a desk has the queue and the users of the resource at this place, at which nobody gets
pub record ShowsDesk (rs : List Resource) (res : ℕ) (d : DeskOf) (f : Facilities) : Type 0 where
  pub queue : waiters_at res d.queue ≡ put_queue rs res f.waiters
  pub gets : get_queue res f.waiters ≡ []
  pub users : d.users ≡ users res f.ledger

-- a container has its queues, by events and amounts, and its level
pub record ShowsTank (rs : List Resource) (res : ℕ) (t : TankOf) (f : Facilities) : Type 0 where
  pub puts : map amount_waiting t.puts ≡ map amount_for (put_queue rs res f.waiters)
  pub gets : map amount_waiting t.gets ≡ map amount_for (get_queue res f.waiters)
  pub level : t.level ≡ level rs res f

-- a store has its queues and its items
pub record ShowsShelf (rs : List Resource) (res : ℕ) (s : ShelfOf) (f : Facilities) : Type 0 where
  pub puts : map (put_waiting res) s.puts ≡ put_queue rs res f.waiters
  pub gets : map (get_waiting res) s.gets ≡ get_queue res f.waiters
  pub items : s.items ≡ items res f.ledger

-- what stands at this place is what the facilities have there
abbrev pub ShowsAt : List Resource → ℕ → SharedResource → Facilities → Type 0
ShowsAt rs res (Desk d) f = ShowsDesk rs res d f
ShowsAt rs res (Tank t) f = ShowsTank rs res t f
ShowsAt rs res (Shelf s) f = ShowsShelf rs res s f

-- who waits does so once, at one of so many resources, and was made; and the ledger is in order
pub record AreTidy (resources : ℕ) (f : Facilities) : Type 0 where
  pub waiting : AllPairs (λ w v. w.event ≢ v.event) f.waiters
  pub placed : All (λ w. w.res < resources) f.waiters
  pub made : All (λ w. IsTrue (was_made f.calendar w.event)) f.waiters
  pub ledger : LawfulLedger f

-- the facilities may be these: the calendar is shown, each resource is of the kind and capacity that the setup says, and
-- what stands at each place is what the facilities have there
pub record ShowsAll (h : SharedOf) (f : Facilities) : Type 0 where
  pub calendar : Shows h.happen f.calendar
  pub opened : map declared_as h.resources ≡ map without_opening h.setup
  pub resources : (res : ℕ) (x : SharedResource) → slice_get h.resources res ≡ Some x → ShowsAt h.setup res x f
  pub tidy : AreTidy (length h.setup) f

-- whatever facilities were shown, what the change makes of them is shown; which events are kept, and by how many holders,
-- changes so; and the callbacks that are left to call stay
pub record TurnsAll (change : Facilities → Facilities) (holds : List (Option ℕ) → List (Option ℕ)) (old new : SharedOf) : Type 0 where
  pub each : (f : Facilities) → ShowsAll old f → ShowsAll new (change f)
  pub held : held new.happen ≡ holds (held old.happen)
  pub left : new.happen.left ≡ old.happen.left
  pub setup : new.setup ≡ old.setup

-- the same where nobody holds more or fewer
abbrev pub FollowsAll : (Facilities → Facilities) → SharedOf → SharedOf → Type 0
FollowsAll change old new = TurnsAll change as_before old new
