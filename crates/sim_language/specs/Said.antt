-- What holds of the operands of a line that says a form.
use Rattle.std.specs.Prelude.{◌≡◌, false, List, [], Some}
use Rattle.std.specs.List.{list_any}
use Rattle.sim_language.specs.declared.form.Form.{Form}
use Rattle.sim_language.specs.Lines.{Word}
use Rattle.sim_language.specs.Shapes.{Operand, Context, shape, fit}
use Rattle.sim_language.specs.Sayings.{Saying, Blank, Wrong, Says, is_bad_number, is_bad_name}

-- the operands have the shape of the form, and their numbers and names are good
pub record Fits (f : Form) (slots : List Operand) : Type 0 where
  pub context : Context
  pub words : List Word
  pub shape : fit context [] (shape f) words ≡ Some slots
  pub numbers : list_any is_bad_number slots ≡ false
  pub names : list_any (is_bad_name context.whole.version) slots ≡ false

-- what a line can say
abbrev pub IsSaid : Saying → Type 0
IsSaid Blank = Unit {0}
IsSaid (Wrong kind) = Unit {0}
IsSaid (Says f slots) = Fits f slots
