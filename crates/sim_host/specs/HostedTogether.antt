-- Runs of one scenario that are hosted together.
use Rattle.std.specs.Prelude.{◌≡◌, ◌≤◌, ℕ, List, All, length, map, Vec, vec_capacity, Option, Some, None, Result, Ok, Err}
use Rattle.std.specs.List.{AllZip}
use Rattle.sim_types.specs.Scenarios.{ScenarioOf}
use Rattle.sim_types.specs.declared.line.Summary.{Summary}
use Rattle.sim_script_model.specs.Scenarios.{replications}
use Rattle.sim_engine.specs.Counting.{IsWithin}
use Rattle.sim_host.specs.Hosting.{HostedOf, IsHosted, IsOver, IsStep, summary_in}
use Rattle.sim_host.specs.declared.all.HostAll.{HostAll}

-- what each run comes to, in the order of the runs
abbrev pub summaries_in : ScenarioOf → List HostedOf → List Summary
summaries_in s runs = map (summary_in s) runs

-- this is what the runs come to, and no run logged more than its units can
pub record AreTold (s : ScenarioOf) (runs : List HostedOf) (told : List Summary) : Type 0 where
  pub summaries : told ≡ summaries_in s runs
  pub counts : AllZip (λ x. IsWithin x.session.limit) runs told

-- what a future of the runs may give: what they come to, or an error if some run is not over yet
abbrev pub MayGive : {E : Type 0} → ScenarioOf → List HostedOf → Result (List Summary) E → Type 0
MayGive s runs (Ok told) = AreTold s runs told
MayGive s runs (Err e) = ¬ All (IsOver s) runs

-- each run was stepped once
abbrev pub AreStepped : ScenarioOf → List HostedOf → List HostedOf → Type 0
AreStepped s old new = AllZip (IsStep s) old new

-- there is room for so many answers
abbrev pub HasRoom : {A Z : Type 0} → ℕ → Option (Vec A Z) → Type 0
HasRoom many None = ⊥
HasRoom many (Some room) = many ≤ vec_capacity room

-- each of its runs is hosted for its scenario, and the answers have not been told
pub record CanPoll (all : HostAll) : Type 0 where
  pub hosted : All (IsHosted all.scenario.now) all.runs.now
  pub room : HasRoom (length all.runs.now) all.room

-- the runs of so many replications, each of so many units at most
pub record AreOpened (s : ScenarioOf) (limit count : ℕ) (runs : List HostedOf) : Type 0 where
  pub hosted : All (IsHosted s) runs
  pub limits : All (λ x. x.session.limit ≡ limit) runs
  pub summaries : summaries_in s runs ≡ replications s limit 0 count
