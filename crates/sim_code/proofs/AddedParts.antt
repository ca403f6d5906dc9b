-- A line adds one event and one statement at most.
use Rattle.std.proofs.Common.{◌≡◌, ◌+◌, ◌≤◌, List, [], ◌∷◌, ◌++◌, length, Option, Some, None, arith}
use Rattle.std.proofs.lemmas.List.{length-append}
use Rattle.sim_types.specs.Scenarios.{ScenarioOf}
use Rattle.sim_types.specs.declared.script.Stmt.{Stmt}
use Rattle.sim_language.specs.declared.form.Form.{Form}
use Rattle.sim_language.specs.declared.form.Form.TheVariants as form
use Rattle.sim_language.specs.Shapes.{Operand}
use Rattle.sim_language.specs.AnywhereInText.{ProcessLines}
use Rattle.sim_language.specs.Sayings.{Saying, Blank, Wrong, Says}
use Rattle.sim_language.specs.Places.{LineInText}
use Rattle.sim_language.specs.Reads.{add, add_said, with_statement}
use Rattle.sim_language.specs.Statements.{statement}

-- no more events and no more statements than one
pub record OneMore (s t : ScenarioOf) : Type 0 where
  pub events : t.setup.events ≤ s.setup.events + 1
  pub statements : length t.code ≤ length s.code + 1

same_as : (s : ScenarioOf) → OneMore s s
same_as s = record { events = omega arith; statements = omega arith }

one_statement : (s : ScenarioOf) (made : Option Stmt) → OneMore s (with_statement s made)
one_statement s None = same_as s
one_statement s (Some made) = let longer : length (s.code ++ made ∷ []) ≡ length s.code + 1 = length-append s.code (made ∷ []) in record { events = omega arith; statements = omega (arith, longer) }

module _ (heads : ProcessLines) (place : LineInText) where
  form_adds : (f : Form) (slots : List Operand) (s : ScenarioOf) → OneMore s (add heads place f slots s)
  form_adds form.UntilTime (t ∷ []) s = record { events = omega arith; statements = omega arith }
  form_adds form.UntilEvent (n ∷ []) s = record { events = omega arith; statements = omega arith }
  form_adds form.Seed (n ∷ []) s = record { events = omega arith; statements = omega arith }
  form_adds form.Resource (n ∷ c ∷ []) s = record { events = omega arith; statements = omega arith }
  form_adds form.Priority (n ∷ c ∷ []) s = record { events = omega arith; statements = omega arith }
  form_adds form.Preemptive (n ∷ c ∷ []) s = record { events = omega arith; statements = omega arith }
  form_adds form.Container (n ∷ c ∷ o ∷ []) s = record { events = omega arith; statements = omega arith }
  form_adds form.Store (n ∷ c ∷ []) s = record { events = omega arith; statements = omega arith }
  form_adds form.PStore (n ∷ c ∷ []) s = record { events = omega arith; statements = omega arith }
  form_adds form.FStore (n ∷ c ∷ []) s = record { events = omega arith; statements = omega arith }
  form_adds form.Event slots s = record { events = omega arith; statements = omega arith }
  form_adds form.Port (n ∷ p ∷ []) s = record { events = omega arith; statements = omega arith }
  form_adds form.Process slots s = record { events = omega arith; statements = omega arith }
  form_adds form.Start (p ∷ args) s = record { events = omega arith; statements = omega arith }
  form_adds form.After (k ∷ p ∷ n ∷ port ∷ v ∷ []) s = record { events = omega arith; statements = omega arith }
  form_adds form.Poster slots s = record { events = omega arith; statements = omega arith }
  form_adds form.Post (port ∷ v ∷ []) s = record { events = omega arith; statements = omega arith }
  form_adds f slots s = one_statement s (statement heads place f slots)

  pub line_adds : (saying : Saying) (s : ScenarioOf) → OneMore s (add_said heads place saying s)
  line_adds Blank s = same_as s
  line_adds (Wrong kind) s = same_as s
  line_adds (Says f slots) s = form_adds f slots s
