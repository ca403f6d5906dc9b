-- The variables of a process.
use Rattle.std.specs.Prelude.{List, ◌∷◌, ◌++◌, replicate, take}
use Rattle.sim_types.specs.declared.setup.Class.{Class}
use Rattle.sim_types.specs.declared.setup.Class.TheVariants as class

-- the classes of 64 variables: `val`, these, and numbers
abbrev pub with_val : List Class → List Class
with_val classes = take 64 (class.Number ∷ classes ++ replicate 64 class.Number)
