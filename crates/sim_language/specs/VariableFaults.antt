-- Faults of variables: ClassClash and Unset.
use Rattle.std.specs.Prelude.{Bool, true, false, not, ◌||◌, ◌&&◌, List, Option, Some, None, is_none}
use Rattle.std.specs.List.{list_any}
use Rattle.sim_types.specs.Setups.{is_class}
use Rattle.sim_types.specs.declared.setup.Class.{Class}
use Rattle.sim_types.specs.declared.setup.Class.TheVariants as class
use Rattle.sim_language.specs.declared.shape.Reference.{Reference}
use Rattle.sim_language.specs.declared.shape.Reference.TheVariants.{AnyEvent, PlainEvent, Chained, AProcess, ACondition, ARequest, AMove}
use Rattle.sim_language.specs.declared.shape.Role.{Role}
use Rattle.sim_language.specs.declared.shape.Role.TheVariants.{Gives, Value, Refers}
use Rattle.sim_language.specs.Named.{Named, value_of}
use Rattle.sim_language.specs.Shapes.{Operand}
use Rattle.sim_language.specs.Sayings.{is_now_or_val, is_me, takes_me}
use Rattle.sim_language.specs.Declarations.{is_event}
use Rattle.sim_language.specs.Places.{Above, LineInText}

-- a named event may stand there
abbrev pub takes_named : Reference → Bool
takes_named AnyEvent = true
takes_named PlainEvent = true
takes_named Chained = true
takes_named reference = false

abbrev pub takes_class : Reference → Class → Bool
takes_class AnyEvent c = not (is_class c class.Number)
takes_class PlainEvent c = is_class c class.Event
takes_class Chained c = is_class c class.Event || is_class c class.Cond || is_class c class.Proc
takes_class AProcess c = is_class c class.Proc
takes_class ACondition c = is_class c class.Cond
takes_class ARequest c = is_class c class.Request
takes_class AMove c = is_class c class.Move

-- the operand is a variable, and no literal, fixed word, `now`, `val`, `me` or named event
abbrev pub is_variable : Above → Operand → Bool
is_variable above slot = by slot.role
  where
    by : Role → Bool
    by (Gives class) = true
    by Value = not (is_now_or_val slot.word)
    by (Refers reference) = not (takes_me reference && is_me slot.word || takes_named reference && is_event above.declared slot.word)
    by role = false

abbrev pub role_takes : Role → Class → Bool
role_takes (Gives c) d = is_class c d
role_takes Value d = is_class class.Number d
role_takes (Refers reference) d = takes_class reference d
role_takes role d = true

-- a variable of another class than its own
abbrev pub clashes : List (Named Class) → Operand → Bool
clashes variables slot = by (value_of slot.word variables)
  where
    by : Option Class → Bool
    by None = false
    by (Some c) = not (role_takes slot.role c)

abbrev pub class_clash : LineInText → List Operand → Bool
class_clash place slots = list_any (λ slot. is_variable place.above slot && clashes place.variables slot) slots

-- a variable that no line gives
abbrev pub is_unset : List (Named Class) → Operand → Bool
is_unset variables slot = is_none (value_of slot.word variables)

abbrev pub unset : LineInText → List Operand → Bool
unset place slots = list_any (λ slot. is_variable place.above slot && is_unset place.variables slot) slots
