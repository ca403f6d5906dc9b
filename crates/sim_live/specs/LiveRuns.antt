-- A live run under way, as contracts see it.
use Rattle.std.specs.Prelude.{◌≡◌, ◌≤◌, ℕ, List, [], All, Ok, IsTrue}
use Rattle.std.specs.List.{list_all}
use Rattle.std.specs.declared.result.Result.{Result}
use Rattle.sim_types.specs.Scenarios.{ScenarioOf}
use Rattle.sim_types.specs.declared.setup.Arrival.{Arrival}
use Rattle.sim_types.specs.declared.setup.Post.{Post}
use Rattle.sim_types.specs.Setups.{is_within}
use Rattle.sim_language.specs.Numbers.{least, greatest}
use Rattle.sim_language.specs.WellFormed.{never_falls}
use Rattle.sim_outside.specs.Writes.{SinkOf, Writes}
use Rattle.sim_inbox.specs.Lists.{Begins, numbered}
use Rattle.sim_writing.specs.declared.fault.RunFault.{RunFault}
use Rattle.sim_writing.specs.RunFaults.{is_write}
use Rattle.sim_engine.specs.Rounds.{StandsInRun, text_by}
use Rattle.sim_engine.specs.Sessions.{SessionOf, IsSettled, turn_of, takes_arrivals}
use Rattle.sim_live.specs.Journals.{posts_by, section}

-- the run under way, and the journal of what came by now
pub record LiveOf : Type 0 where
  pub session : SessionOf
  pub journal : List Arrival

-- it stands where the machine does on that journal, of which only what came too late is left
pub record IsLive (s : ScenarioOf) (x : LiveOf) : Type 0 where
  pub too_late : List Arrival
  pub stands : StandsInRun s s.seed x.journal too_late x.session
  pub in_time : IsTrue (takes_arrivals (turn_of x.session)) → too_late ≡ []
  pub settled : IsSettled x.session
  pub within : x.session.units ≤ x.session.limit
  pub falls : IsTrue (never_falls x.journal)
  pub by_now : All (λ a. a.after ≤ x.session.parts.processed) x.journal
  pub values : IsTrue (list_all (λ a. is_within least greatest a.value) x.journal)

-- and the journal tells of just what was taken of each poster, which is a front of what that posts
pub record IsTold (s : ScenarioOf) (taken : ℕ → List Post) (x : LiveOf) : Type 0 where
  pub live : IsLive s x
  pub posts : (p : ℕ) → posts_by p x.journal ≡ numbered p 0 (taken p)
  pub fronts : (p : ℕ) → Begins (taken p) (section s p)

-- ---- what was written

-- the lines of its units by now
abbrev pub text_so_far : ScenarioOf → LiveOf → List ℕ
text_so_far s x = text_by s s.seed x.journal x.session.units

-- since that moment a sink was written just these bytes, and no write failed
abbrev pub HasWritten : SinkOf → SinkOf → List ℕ → Type 0
HasWritten before now bytes = Writes {T = Unit {0}} {E = RunFault} is_write before now (Ok tt) bytes

-- a call goes on with the text of a run: where all lines before it were written, so are all lines after it
abbrev pub WritesOn : {T : Type 0} → ScenarioOf → LiveOf → LiveOf → SinkOf → SinkOf → Result T RunFault → Type 0
WritesOn s x y old new answer =
    (before : SinkOf) → HasWritten before old (text_so_far s x) → Writes is_write before new answer (text_so_far s y)
