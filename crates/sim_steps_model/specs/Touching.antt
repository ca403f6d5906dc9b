-- At which resources what is measured may have changed.
use Rattle.std.specs.Prelude.{ℕ, List, [], ◌∷◌}
use Rattle.sim_steps_model.specs.declared.mode.Touched.{Touched}
use Rattle.sim_steps_model.specs.declared.mode.Touched.TheVariants as touched

-- their places, where these are the places that are listed
abbrev pub touched_places : Touched → List ℕ → List ℕ
touched_places touched.Nothing listed = []
touched_places (touched.One at) listed = at ∷ []
touched_places touched.Listed listed = listed
