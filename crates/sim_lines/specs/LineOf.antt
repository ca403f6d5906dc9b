-- A line as the code keeps it.
use Rattle.std.specs.Prelude.{List, []}
use Rattle.sim_language.specs.Shapes.{Operand}
use Rattle.sim_language.specs.Sayings as sayings
use Rattle.sim_lines.specs.declared.line.Saying.{Saying}
use Rattle.sim_lines.specs.declared.line.Saying.TheVariants.{Blank, Wrong, Says}

abbrev pub saying_of : Saying → List Operand → sayings.Saying
saying_of Blank slots = sayings.Blank
saying_of (Wrong kind) slots = sayings.Wrong kind
saying_of (Says f) slots = sayings.Says f slots

-- what it says without its operands
abbrev pub without_operands : sayings.Saying → Saying
without_operands sayings.Blank = Blank
without_operands (sayings.Wrong kind) = Wrong kind
without_operands (sayings.Says f slots) = Says f

-- its operands; none where it says no form
abbrev pub operands_of : sayings.Saying → List Operand
operands_of (sayings.Says f slots) = slots
operands_of other = []
