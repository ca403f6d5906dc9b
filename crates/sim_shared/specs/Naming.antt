-- The resource at which an event waits, if it waits anywhere: its first callback names it.
use Rattle.std.specs.Prelude.{ℕ, List, [], ◌∷◌, Option, Some, None}
use Rattle.sim_types.specs.declared.event.Callback.{Callback}
use Rattle.sim_types.specs.declared.event.Callback.TheVariants as callback

-- the resource of which a callback has a queue tried
abbrev pub tried_by : Callback → Option ℕ
tried_by (callback.TryPut res) = Some res
tried_by (callback.TryGet res) = Some res
tried_by _ = None

-- the resource of which the first of these has a queue tried
abbrev pub tried_by_first : List Callback → Option ℕ
tried_by_first [] = None
tried_by_first (c ∷ cs) = tried_by c
