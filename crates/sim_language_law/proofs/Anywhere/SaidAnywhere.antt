-- What the lines of a text say for all its lines.
--     said_in said ls          what these lines say, one below the other
--     heads_said ls            the process lines among them, each with the classes of its parameters
--     declarations_said ls     the names that they declare
--     WholeOf whole ls         what is taken from the whole text is what its lines say
use Rattle.std.specs.Prelude.{◌≡◌, List, [], ◌∷◌, ◌++◌, map, option_map}
use Rattle.std.specs.Option.{option_to_list}
use Rattle.sim_language.specs.declared.form.Form.TheVariants as form
use Rattle.sim_language.specs.declared.form.Sort.{Sort}
use Rattle.sim_language.specs.Named.{Named, with_all}
use Rattle.sim_language.specs.Parameters.{parameter_class}
use Rattle.sim_language.specs.Forms.{declares_sort}
use Rattle.sim_language.specs.AnywhereInText.{ProcessLines, WholeText}
use Rattle.sim_language.specs.Sayings.{TextLine, Saying, Says}

abbrev pub said_in : {A : Type 0} → (Saying → List A) → List TextLine → List A
said_in said [] = []
said_in said (l ∷ ls) = said l.saying ++ said_in said ls

abbrev pub head_said : Saying → ProcessLines
head_said (Says form.Process (name ∷ params)) = record { name = name.word; value = map (λ p. parameter_class p.word) params } ∷ []
head_said other = []

abbrev pub heads_said : List TextLine → ProcessLines
heads_said ls = said_in head_said ls

abbrev pub declaration_said : Saying → List (Named Sort)
declaration_said (Says f (slot ∷ slots)) = option_to_list (option_map (λ s. record { name = slot.word; value = s }) (declares_sort f))
declaration_said other = []

abbrev pub declarations_said : List TextLine → List (Named Sort)
declarations_said ls = said_in declaration_said ls

pub record WholeOf (whole : WholeText) (ls : List TextLine) : Type 0 where
  -- each process by the first line that declares it
  pub heads : whole.heads ≡ with_all [] (heads_said ls)
  pub declarations : whole.declarations ≡ declarations_said ls
