-- Whole runs where the turn of a body is a function, and the words in which their laws are said.
use Rattle.std.specs.Prelude.{◌≡◌, ◌<◌, ◌≤◌, ◌+◌, ℕ, List, [], ◌∷◌, ◌++◌, length, None, All, AllPairs, ◌≢◌, IsTrue}
use Rattle.std.specs.List.{Contains}
use Rattle.sim_types.specs.Keys.{IsLess}
use Rattle.sim_types.specs.declared.event.Entry.{Entry}
use Rattle.sim_types.specs.declared.event.ProcId.{ProcId}
use Rattle.sim_types.specs.declared.line.Line.{Line}
use Rattle.sim_types.specs.declared.setup.Arrival.{Arrival}
use Rattle.sim_machine.specs.State.{User, Facilities, State, Plan}
use Rattle.sim_machine.specs.Users.{users}
use Rattle.sim_machine.specs.Processes.{is_alive}
use Rattle.sim_machine.specs.Steps.{Turn, TurnFunction}
use Rattle.sim_machine.specs.Units.{Course, IsUnit, unit_of}
use Rattle.sim_machine.specs.Runs.{HasEnded, IsRun, end_of, run, trace_of}
use Rattle.sim_machine.specs.LawfulProcesses.{is_active}

-- no entry comes before this one
abbrev pub ComesFirst : List Entry → Entry → Type 0
ComesFirst agenda x = All (λ y. ¬ IsLess y.key x.key) agenda

-- an entry of an agenda in which no number is given twice, and which no entry comes before
pub record IsOnlyFirst (agenda : List Entry) (x : Entry) : Type 0 where
  pub apart : AllPairs (λ y z. y.key.number ≢ z.key.number) agenda
  pub contained : Contains agenda x
  pub first : ComesFirst agenda x

-- what a run is of: its plan, what its bodies do in a poll, and its journal
pub record Run (B : Type 0) : Type 0 where
  pub plan : Plan B
  pub turn : TurnFunction B
  pub journal : List Arrival

-- the run after so many units
abbrev pub course_after : {B : Type 0} → Run B → ℕ → Course B
course_after r n = run r.plan r.turn r.journal n

-- its state
abbrev pub state_after : {B : Type 0} → Run B → ℕ → State B
state_after r n = (course_after r n).state

-- the lines that it wrote
abbrev pub lines_after : {B : Type 0} → Run B → ℕ → List Line
lines_after r n = (state_after r n).lines

-- its trace, where this is the limit
abbrev pub trace_after : {B : Type 0} → Run B → ℕ → List Line
trace_after r n = trace_of r.plan (course_after r n)

-- the run has ended by so many units
abbrev pub EndsBy : {B : Type 0} → Run B → ℕ → Type 0
EndsBy r n = HasEnded r.plan (course_after r n)

-- it stays from then on
abbrev pub StaysFrom : {B : Type 0} → Run B → ℕ → Type 0
StaysFrom r n = (k : ℕ) → course_after r (n + k) ≡ course_after r n

-- the unit that comes next
abbrev pub next_course : {B : Type 0} → Run B → Course B → Course B
next_course r m = unit_of r.plan r.turn m

-- what was written stays, and at most one line comes behind
abbrev pub AddsAtMostOne : List Line → List Line → Type 0
AddsAtMostOne before after = (added : List Line) × (length added ≤ 1) × (after ≡ before ++ added)

-- the same of the lines of two courses
abbrev pub WritesAtMostOne : {B : Type 0} → Course B → Course B → Type 0
WritesAtMostOne m n = AddsAtMostOne m.state.lines n.state.lines

-- one line comes behind
abbrev pub HasOneLineMore : List Line → List Line → Type 0
HasOneLineMore before after = (last : Line) × (after ≡ before ++ last ∷ [])

-- a trace has all lines of another but its last one, and then its own
abbrev pub GoesOnFrom : List Line → List Line → Type 0
GoesOnFrom before after =
    (written : List Line) × (last : Line) × (later : List Line) × (before ≡ written ++ last ∷ []) × (after ≡ written ++ later)

-- the same turn as a relation
abbrev pub OfFunction : {B : Type 0} → TurnFunction B → Turn B
OfFunction turn body time told asked after = turn body time told ≡ (asked, after)

-- n is one unit later than m, by the relation of a unit
abbrev pub IsNext : {B : Type 0} → Run B → Course B → Course B → Type 0
IsNext r m n = IsUnit r.plan (OfFunction r.turn) m n

-- n is what the run comes to with this limit, by the relation of a run
abbrev pub IsRunTo : {B : Type 0} → Run B → ℕ → Course B → Type 0
IsRunTo r limit n = IsRun r.plan (OfFunction r.turn) r.journal limit n

-- the process that runs is alive, as in every lawful state
abbrev pub IsActiveAlive : {B : Type 0} → State B → Type 0
IsActiveAlive s = (p : ProcId) → IsTrue (is_active s.control p) → IsTrue (is_alive p s)

-- the run has not ended, and the process that runs is alive
pub record CanGoOn {B : Type 0} (r : Run B) (m : Course B) : Type 0 where
  pub under_way : end_of r.plan m ≡ None
  pub alive : IsActiveAlive m.state

-- the run has not ended before so many units, and the arrival is to come in once as many events were processed as by then
pub record IsAddedAt {B : Type 0} (r : Run B) (a : Arrival) (n : ℕ) : Type 0 where
  pub under_way : (k : ℕ) → k < n → end_of r.plan (course_after r k) ≡ None
  pub comes : a.after ≡ (state_after r n).processed

-- the run with an arrival more behind all others
abbrev pub with_arrival : {B : Type 0} → Arrival → Run B → Run B
with_arrival a r = record r { journal = r.journal ++ a ∷ [] }

-- with the arrival more the run comes to the same by so many units, but that the arrival is left
abbrev pub IsSameWith : {B : Type 0} → Run B → Arrival → ℕ → Type 0
IsSameWith r a n = course_after (with_arrival a r) n ≡ record (course_after r n) { left = (course_after r n).left ++ a ∷ [] }

-- no user of this resource has the request of this one
abbrev pub UsesNoMore : ℕ → User → Facilities → Type 0
UsesNoMore res u f = All (λ v. v.request ≢ u.request) (users res f.ledger)
