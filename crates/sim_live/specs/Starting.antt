-- An inbox that was opened for a scenario, before its posters are set to work.
use Rattle.std.specs.Prelude.{◌≡◌, ◌≤◌, ℕ, List, [], length, slice_get, Some}
use Rattle.sim_types.specs.Scenarios.{ScenarioOf}
use Rattle.sim_inbox.specs.declared.posting.Posting as posters
use Rattle.sim_inbox.specs.declared.posting.Taking as takers
use Rattle.sim_posters.specs.Posters.{IsFresh}

-- nothing was posted or taken yet, and there is a poster for each section, with room for it
pub record AreReady {T P : Type 0} (taking : takers.Ghosts T P) (posting : posters.Ghosts P) (s : ScenarioOf) (taker : T) (posters : List P) : Type 0 where
  pub few : length s.posters ≤ 16
  pub many : length posters ≡ length s.posters
  pub count : taking.count taker ≡ length s.posters
  pub nothing : (p : ℕ) → taking.taken taker p ≡ []
  pub fresh : (p : ℕ) (x : P) → slice_get posters p ≡ Some x → IsFresh posting (taking.inbox taker) s.posters p x
