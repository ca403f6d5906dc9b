-- How calls that make events follow what the machine does to facilities.
use Rattle.std.specs.Prelude.{◌≡◌, ℕ, zero, suc, ◌≤◌, List, Option}
use Rattle.sim_machine.specs.State.{Facilities}
use Rattle.sim_happen_model.specs.Changes.{more_events, more_callbacks}
use Rattle.sim_happen_model.specs.HappenOf.{unheld_event}
use Rattle.sim_shared_model.specs.SharedOf.{SharedOf}
use Rattle.sim_shared_model.specs.ShowsAll.{ShowsAll, TurnsAll}

-- so many events more, which nobody holds
abbrev pub unheld_events : ℕ → List (Option ℕ) → List (Option ℕ)
unheld_events zero hs = hs
unheld_events (suc n) hs = unheld_event (unheld_events n hs)

-- whatever facilities were shown, what the change makes of them is shown; the events that it makes, at most so many, are held
-- by nobody, and each took the room of one event and of one callback
pub record MakesAll (most : ℕ) (change : Facilities → Facilities) (old new : SharedOf) : Type 0 where
  pub made : ℕ
  pub at_most : made ≤ most
  pub turns : TurnsAll change (unheld_events made) old new
  pub spare : more_events made (more_callbacks made new.happen.spare) ≡ old.happen.spare

-- some facilities are shown, so that what all facilities have holds of what stands here: for one, whatever waits or is used
-- was made
pub record ShowsSome (h : SharedOf) : Type 0 where
  pub facilities : Facilities
  pub shown : ShowsAll h facilities
