use Rattle.sim_happen_law.proofs.Shown.SeenShown.{shows_seen}
use Rattle.sim_happen_law.proofs.laws.shows_seen.Goals as goal

pub returns : goal.returns
returns c = shows_seen
