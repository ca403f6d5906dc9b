-- How the puts and gets at a resource are tried, one that can be served after another (SimPy's "Shared resources").
use Rattle.std.specs.Prelude.{Bool, ◌≡◌, true, false, ℕ, length, slice_get, slice_set, Option, Some, None, All, IfSome}
use Rattle.sim_machine.specs.State.{Facilities}
use Rattle.sim_happen_model.specs.HappenOf.{IsOpen, held}
use Rattle.sim_shared_model.specs.declared.stock.ShelfKind.TheVariants as kind
use Rattle.sim_shared_model.specs.declared.stock.ShelfKind.{ShelfKind}
use Rattle.sim_shared_model.specs.declared.stock.Served.{Served}
use Rattle.sim_shared_model.specs.StoreQueues.{AllDiffer}
use Rattle.sim_shared_model.specs.Tanks.{TriesFill, TriesDrain}
use Rattle.sim_shared_model.specs.Shelves.{TriesDeposit, TriesHandOut}
use Rattle.sim_shared_model.specs.AnyShared.{SharedResource}
use Rattle.sim_shared_model.specs.declared.resource.AnyResource.TheVariants.{Desk, Tank, Shelf}
use Rattle.sim_shared_model.specs.Resources.{waiting_at}
use Rattle.sim_shared_model.specs.SharedOf.{SharedOf}
use Rattle.sim_shared_model.specs.ShowsAll.{ShowsAll, FollowsAll}

-- a put at the resource of this place is served, if one can be; a desk has none
abbrev pub TriesPut : ℕ → Option Served → SharedResource → SharedResource → Type 0
TriesPut res answer (Tank t) (Tank u) = TriesFill res answer t u
TriesPut res answer (Shelf s) (Shelf u) = TriesDeposit res answer s u
TriesPut res answer (Desk d) (Desk e) = (answer ≡ None) × (e ≡ d)
TriesPut res answer _ _ = ⊥

-- a get is served, if one can be
abbrev pub TriesGet : ℕ → Option Served → SharedResource → SharedResource → Type 0
TriesGet res answer (Tank t) (Tank u) = TriesDrain res answer t u
TriesGet res answer (Shelf s) (Shelf u) = TriesHandOut res answer s u
TriesGet res answer (Desk d) (Desk e) = (answer ≡ None) × (e ≡ d)
TriesGet res answer _ _ = ⊥

-- the resource of this place was tried so, and all else stays; no event waits twice where one is served
pub record TriesAt (tries : ℕ → Option Served → SharedResource → SharedResource → Type 0) (res : ℕ)
    (answer : Option Served) (old new : SharedOf) : Type 0 where
  pub before : SharedResource
  pub after : SharedResource
  pub there : slice_get old.resources res ≡ Some before
  pub tried : tries res answer before after
  pub differ : IfSome answer (λ served. AllDiffer (waiting_at before))
  pub rest : new ≡ record old { resources = slice_set old.resources res after }

-- whether a try of the puts goes on once one was served: only at a container
abbrev pub puts_go_on : SharedResource → Bool
puts_go_on (Tank t) = true
puts_go_on _ = false

-- whether a store of this kind goes on with its gets
abbrev pub store_goes_on : ShelfKind → Bool
store_goes_on kind.Filter = true
store_goes_on _ = false

-- whether a try of the gets goes on: at a container and at a filter store
abbrev pub gets_go_on : SharedResource → Bool
gets_go_on (Tank t) = true
gets_go_on (Shelf s) = store_goes_on s.kind
gets_go_on (Desk d) = false

-- facilities are shown of which the change makes the same: what is left to do
pub record IsLeftToDo (change : Facilities → Facilities) (f : Facilities) (new : SharedOf) : Type 0 where
  pub facilities : Facilities
  pub shown : ShowsAll new facilities
  pub same : change facilities ≡ change f

-- a part of a change was done: whatever facilities were shown, what is left to do of it is the rest
pub record DoesPart (change : Facilities → Facilities) (old new : SharedOf) : Type 0 where
  pub each : (f : Facilities) → ShowsAll old f → IsLeftToDo change f new
  pub held : held new.happen ≡ held old.happen
  pub left : new.happen.left ≡ old.happen.left
  pub setup : new.setup ≡ old.setup

-- a part of the change was done and it goes on, or all of it was
abbrev pub DoesPartOrAll : (Facilities → Facilities) → Bool → SharedOf → SharedOf → Type 0
DoesPartOrAll change true old new = DoesPart change old new
DoesPartOrAll change false old new = FollowsAll change old new

-- each event that waits at this place is kept, pending and not cancelled
pub record AreOpenAt (res : ℕ) (h : SharedOf) : Type 0 where
  pub each : (x : SharedResource) → slice_get h.resources res ≡ Some x → All (IsOpen h.happen) (waiting_at x)

-- how many wait at a resource, if there is one
abbrev pub count_waiting : Option SharedResource → ℕ
count_waiting None = 0
count_waiting (Some x) = length (waiting_at x)

-- how many wait at this place
abbrev pub count_waiting_at : ℕ → SharedOf → ℕ
count_waiting_at res h = count_waiting (slice_get h.resources res)
