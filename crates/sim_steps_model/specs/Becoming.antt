-- What each part of a unit promises.
use Rattle.std.specs.Prelude.{◌≡◌, ◌≢◌, ◌+◌, ◌≤◌, ℕ, List, [], ◌++◌, AllPairs, All, Option, IfSome, IsTrue}
use Rattle.sim_types.specs.declared.event.EventId.{EventId}
use Rattle.sim_machine.specs.State.{State}
use Rattle.sim_machine.specs.Processes.{is_alive}
use Rattle.sim_machine.specs.Bodies.{BodyOf}
use Rattle.sim_machine.specs.Standing.{was_made}
use Rattle.sim_machine.specs.LawfulWaiting.{AreOfTwo}
use Rattle.sim_happen_model.specs.HappenOf.{held}
use Rattle.sim_steps_model.specs.PartsOf.{PartsOf, IsOpenedAs}
use Rattle.sim_steps_model.specs.StandsFor.{StandsFor, Balances, LawfulOf, StepOf, lines_of}
use Rattle.sim_steps_model.specs.declared.mode.Unit.{Unit}

-- each event that is kept has so many holders at most
pub record AreFew (most : ℕ) (holders : List (Option ℕ)) : Type 0 where
  pub each : All (λ x. IfSome x (λ n. n ≤ most)) holders

-- each event that is kept has so many holders more at most
pub record AddsFew {B Code : Type 0} (more : ℕ) (old new : PartsOf B Code) : Type 0 where
  pub few : (most : ℕ) → AreFew most (held old.shared.happen) → AreFew (most + more) (held new.shared.happen)

-- the kernel stands for the state, whose processes have different numbers, and whose open scopes are of live processes and
-- of different requests that were made; in the midst of a unit it need not be lawful
pub record Stands {B Code : Type 0} (parts : PartsOf B Code) (s : State B) : Type 0 where
  pub stands : StandsFor parts s
  pub distinct : AllPairs (λ x y. x.id ≢ y.id) s.processes
  pub owned : All (λ x. IsTrue (is_alive x.process s)) s.scopes
  pub apart : AllPairs AreOfTwo s.scopes
  pub entered : All (λ x. IsTrue (was_made s.facilities.calendar x.request)) s.scopes

-- whatever state the kernel stood for, it stands for what the change makes of it. Where the accounts balanced, they do so
-- then: the change uses up a holder of each event gained, which was taken for it, and leaves one of each event lost, which is
-- to be given back. What the kernel was opened with stays, and no event has more than so many holders more
pub record BecomesOwing {B Code : Type 0}
    (body : BodyOf B Code) (gained lost : List EventId) (more : ℕ) (change : State B → State B)
    (old new : PartsOf B Code) : Type 0 where
  pub each : (s : State B) → Stands old s → Stands new (change s)
  pub accounts : (todo : List EventId) (s : State B) → Stands old s
      → Balances body (gained ++ todo) old s → Balances body (lost ++ todo) new (change s)
  pub opened : IsOpenedAs old new
  pub few : AddsFew more old new

-- the same where no holder is taken for it, and none is to be given back
abbrev pub BecomesWith : {B Code : Type 0} → BodyOf B Code → ℕ → (State B → State B) → PartsOf B Code → PartsOf B Code → Type 0
BecomesWith body more change old new = BecomesOwing body [] [] more change old new

-- and where no event has more holders
abbrev pub Becomes : {B Code : Type 0} → BodyOf B Code → (State B → State B) → PartsOf B Code → PartsOf B Code → Type 0
Becomes body change old new = BecomesWith body 0 change old new

-- the kernel stands for some state with accounts in which a holder of each of these events is to be given back, and maybe more
pub record IsOwing {B Code : Type 0} (body : BodyOf B Code) (owed : List EventId) (parts : PartsOf B Code) : Type 0 where
  pub state : State B
  pub stands : Stands parts state
  pub others : List EventId
  pub balances : Balances body (owed ++ others) parts state

-- one unit gives an event so many holders more at most
abbrev pub most_held : ℕ
most_held = 128

-- a step leads from s to a state that the kernel stands for, with accounts that balance if they did, and adds the line
-- answered
pub record Later {B Code : Type 0}
    (body : BodyOf B Code) (step : State B → State B → Type 0) (s : State B) (answer : Unit)
    (old new : PartsOf B Code) : Type 0 where
  pub state : State B
  pub stepped : step s state
  pub stands : StandsFor new state
  pub accounts : Balances body [] old s → Balances body [] new state
  pub lines : state.lines ≡ s.lines ++ lines_of answer

-- so it is from whatever lawful state the kernel stood for; what it was opened with stays, and each event has few holders
-- more
pub record Moves {B Code : Type 0}
    (body : BodyOf B Code) (old : PartsOf B Code) (answer : Unit)
    (new : PartsOf B Code) : Type 0 where
  pub each : (s : State B) → LawfulOf body old s → StandsFor old s →
      Later body (StepOf body old) s answer old new
  pub opened : IsOpenedAs old new
  pub few : AddsFew most_held old new
