-- How holders change with the machine's state, and what no change of a calendar touches.
use Rattle.std.specs.Prelude.{◌≡◌, ◌≢◌, ◌⊎◌, true, ℕ, ◌+◌, ◌<◌, ◌≤◌, List, [], Option, Some, None, length, slice_index_or, count_by, AllPairs}
use Rattle.std.specs.List.{list_any}
use Rattle.sim_types.specs.declared.event.EventId.{EventId}
use Rattle.sim_types.specs.declared.event.ProcId.{ProcId}
use Rattle.sim_machine.specs.State.{Calendar, ProcessOf, State}
use Rattle.sim_machine.specs.Events.{is_same}
use Rattle.sim_machine.specs.Conditions.{members_of}
use Rattle.sim_machine.specs.Processes.{process_at}
use Rattle.sim_machine.specs.LawfulWaiting.{AreOfTwo}
use Rattle.sim_machine.specs.KeptEvents.{is_closed, triggers}
use Rattle.sim_machine.specs.Tellings.{Telling}
use Rattle.sim_happen_model.specs.HappenOf.{HappenOf}
use Rattle.sim_happen_model.specs.Shows.{Shows}
use Rattle.sim_happen_model.specs.Naming.{held_alone}

-- from one count of holders to another: each event has one more for each time that it stands in `gained`, and one fewer for
-- each time that it stands in `lost`
pub record Trades (gained lost : List EventId) (old new : EventId → ℕ) : Type 0 where
  pub each : (e : EventId) → new e + count_by (is_same e) lost ≡ old e + count_by (is_same e) gained

-- so they change from one state to another
abbrev pub StatesTrade : {B : Type 0} → ℕ → Telling B → List EventId → List EventId → State B → State B → Type 0
StatesTrade named tell gained lost s t = Trades gained lost (held_alone named tell s) (held_alone named tell t)

-- this is the live process of this number, and no two processes have one number
pub record IsOnlyProcess {B : Type 0} (p : ProcId) (x : ProcessOf B) (s : State B) : Type 0 where
  pub found : process_at p s ≡ Some x
  pub distinct : AllPairs (λ y z. y.id ≢ z.id) s.processes

-- a scope is open for this request, and no two are open for one
pub record HasOnlyScope {B : Type 0} (request : EventId) (s : State B) : Type 0 where
  pub is_open : list_any (λ x. is_same x.request request) s.scopes ≡ true
  pub apart : AllPairs AreOfTwo s.scopes

-- the calendar d comes after c: no event is lost, each has the members that it had, and what is closed stays closed
pub record ComesAfter (c d : Calendar) : Type 0 where
  pub longer : length c.events ≤ length d.events
  pub members : (e : EventId) → e.0 < length c.events → members_of d e ≡ members_of c e
  pub closed : (e : EventId) → is_closed c e ≡ true → is_closed d e ≡ true

-- and for each event as many are to pass their outcomes on to it
pub record ComesQuietly (c d : Calendar) : Type 0 where
  pub after : ComesAfter c d
  pub triggers : (e : EventId) →
      count_by (λ r. triggers e r.callback) d.registered ≡ count_by (λ r. triggers e r.callback) c.registered

-- no condition is made
pub record MakesNoCondition (c d : Calendar) : Type 0 where
  pub members : (e : EventId) → members_of d e ≡ members_of c e

-- both
pub record ComesPlainly (c d : Calendar) : Type 0 where
  pub quietly : ComesQuietly c d
  pub none : MakesNoCondition c d

-- an event that nobody holds goes, where it is closed then and no condition
pub record GoesUnheld (d : Calendar) (e : EventId) (hs gs : List (Option ℕ)) : Type 0 where
  pub unheld : slice_index_or hs e.0 None ≡ Some 0
  pub gone : slice_index_or gs e.0 None ≡ None
  pub closed : is_closed d e ≡ true
  pub plain : members_of d e ≡ []

-- no event that is kept has a holder more or fewer; some may go that nobody holds, and nobody holds what is made
pub record KeepsHolders (d : Calendar) (hs gs : List (Option ℕ)) : Type 0 where
  pub longer : length hs ≤ length gs
  pub old : (e : EventId) → e.0 < length hs →
      (slice_index_or gs e.0 None ≡ slice_index_or hs e.0 None) ⊎ GoesUnheld d e hs gs
  pub new : (e : EventId) → length hs ≤ e.0 → e.0 < length gs → slice_index_or gs e.0 None ≡ Some 0

-- what happens showed c, and shows d now, which comes after it
pub record ShowsLater (h n : HappenOf) (c d : Calendar) : Type 0 where
  pub before : Shows h c
  pub now : Shows n d
  pub after : ComesAfter c d
