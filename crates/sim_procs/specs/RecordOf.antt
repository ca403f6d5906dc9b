-- What a contract sees of one record and of all records.
use Rattle.std.specs.Prelude.{◌≡◌, ◌≢◌, ◌<◌, ℕ, ◌==◌, [], ◌∷◌, List, map, length, find, slice_set, slice_get, slice_index_or, Option, Some, None, if◌then◌else◌}
use Rattle.sim_types.specs.declared.event.EventId.{EventId}
use Rattle.sim_types.specs.declared.event.ProcId.{ProcId}
use Rattle.sim_types.specs.declared.event.Scope.{Scope}

-- the open scopes of a process, outermost first, and how many find room
pub record ScopesOf : Type 0 where
  pub scopes : List Scope
  pub room : ℕ

-- a live process: its number, the state of its body, the event that it waits for, its open scopes, outermost first, and how
-- many of them find room
pub record RecordOf (B : Type 0) : Type 0 where
  pub id : ProcId
  pub body : B
  pub target : EventId
  pub scopes : List Scope
  pub room : ℕ

-- the record of a process that begins: no scope is open
abbrev pub begun_record : {B : Type 0} → ProcId → B → EventId → ℕ → RecordOf B
begun_record id body target room = record { id = id; body = body; target = target; scopes = []; room = room }

-- the live processes, in no order that counts, for how many more there is room, and how many scopes find room in each
pub record ProcsOf (B : Type 0) : Type 0 where
  pub live : List (RecordOf B)
  pub spare : ℕ
  pub room : ℕ

-- whether two processes have different numbers
abbrev pub HasOtherId : {B : Type 0} → RecordOf B → RecordOf B → Type 0
HasOtherId x y = x.id.0 ≢ y.id.0

-- the record of a process, if it is alive
abbrev pub record_of : {B : Type 0} → ProcId → List (RecordOf B) → Option (RecordOf B)
record_of p live = find (λ r. r.id.0 == p.0) live

-- the record of a process is changed, all others stay
abbrev pub change_record : {B : Type 0} → ProcId → (RecordOf B → RecordOf B) → List (RecordOf B) → List (RecordOf B)
change_record p change live = map (λ r. if r.id.0 == p.0 then change r else r) live

-- the record of a process is changed, and for as many more there is room
abbrev pub with_record : {B : Type 0} → ProcId → (RecordOf B → RecordOf B) → ProcsOf B → ProcsOf B
with_record p change procs = record procs { live = change_record p change procs.live }

-- each other process has the record that it had, or has none as before
abbrev pub KeepsOthers : {B : Type 0} → ProcId → List (RecordOf B) → List (RecordOf B) → Type 0
KeepsOthers p old new = (other : ProcId) → other.0 ≢ p.0 → record_of other new ≡ record_of other old

-- the open scope of a request among these
abbrev pub scope_of : EventId → List Scope → Option Scope
scope_of request scopes = find (λ s. s.request.0 == request.0) scopes

-- the last of the open scopes
abbrev pub innermost : List Scope → Option Scope
innermost [] = None
innermost (s ∷ []) = Some s
innermost (s ∷ t ∷ scopes) = innermost (t ∷ scopes)

-- the open scopes but the last
abbrev pub without_innermost : List Scope → List Scope
without_innermost [] = []
without_innermost (s ∷ []) = []
without_innermost (s ∷ t ∷ scopes) = s ∷ without_innermost (t ∷ scopes)

-- the record at this place is changed
abbrev pub change_at : {B : Type 0} → ℕ → (RecordOf B → RecordOf B) → List (RecordOf B) → List (RecordOf B)
change_at i change live = elim (slice_get live i) [ None ↦ live | Some r ↦ slice_set live i (change r) ]

-- the record of a process stands at this place
pub record StandsAt {B : Type 0} (p : ProcId) (live : List (RecordOf B)) (i : ℕ) : Type 0 where
  pub below : i < length live
  pub found : (d : RecordOf B) → record_of p live ≡ Some (slice_index_or live i d)
  pub changed : (change : RecordOf B → RecordOf B) → change_record p change live ≡ change_at i change live
