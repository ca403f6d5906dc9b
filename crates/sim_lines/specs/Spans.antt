-- The process lines of a text, as the code keeps them: each with the span of its classes among those of all.
use Rattle.std.specs.Prelude.{◌≤◌, List, length, map, slice_range}
use Rattle.sim_types.specs.declared.setup.Class.{Class}
use Rattle.sim_language.specs.Lines.{Word}
use Rattle.sim_language.specs.Named.{Named}
use Rattle.sim_language.specs.Parameters.{parameter_class}
use Rattle.sim_language.specs.AnywhereInText.{ProcessLines}
use Rattle.sim_lines.specs.declared.process_lines.Span.{Span}

abbrev pub IsWithin : List Class → Span → Type 0
IsWithin classes span = (span.from ≤ span.to) × (span.to ≤ length classes)

abbrev pub classes_in : List Class → Span → List Class
classes_in classes span = slice_range classes span.from span.to

abbrev pub heads_in : List Class → List (Named Span) → ProcessLines
heads_in classes spans = map (λ n. record { name = n.name; value = classes_in classes n.value }) spans

-- the process of this name with these words as its parameters
abbrev pub head_by : Word → List Word → Named (List Class)
head_by name params = record { name = name; value = map parameter_class params }
