-- The names that lines declare, as the code keeps them: each once, with what it is declared as.
use Rattle.std.specs.Prelude.{◌≡◌, List, unwrap_or}
use Rattle.sim_language.specs.declared.form.Sort.{Sort}
use Rattle.sim_language.specs.declared.shape.Ahead.{Ahead}
use Rattle.sim_language.specs.declared.shape.Ahead.TheVariants.{Undeclared}
use Rattle.sim_language.specs.Lines.{Word}
use Rattle.sim_language.specs.Named.{Named, value_of}
use Rattle.sim_language.specs.AnywhereInText.{ahead}

-- each name has what these declare it as, and no other name is declared
abbrev pub AreAhead : List (Named Ahead) → List (Named Sort) → Type 0
AreAhead names ds = (w : Word) → unwrap_or (value_of w names) Undeclared ≡ ahead w ds
