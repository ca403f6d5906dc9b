-- Faults of names: Duplicate, UnknownName and WrongKind.
use Rattle.std.specs.Prelude.{ℕ, Bool, true, false, not, ◌||◌, ◌&&◌, ◌==◌, List, [], ◌∷◌, map, length, Option, Some, None, is_none}
use Rattle.std.specs.Option.{option_and_then}
use Rattle.std.specs.List.{list_any}
use Rattle.sim_types.specs.Setups.{takes_one_number}
use Rattle.sim_types.specs.declared.setup.Class.{Class}
use Rattle.sim_types.specs.declared.setup.Class.TheVariants as class
use Rattle.sim_language.specs.declared.form.Form.{Form}
use Rattle.sim_language.specs.declared.form.Form.TheVariants as form
use Rattle.sim_language.specs.declared.form.Sort.{Sort}
use Rattle.sim_language.specs.declared.shape.Role.{Role}
use Rattle.sim_language.specs.declared.shape.Role.TheVariants.{Declares, Names, EventAhead}
use Rattle.sim_language.specs.declared.shape.Ahead.TheVariants.{Undeclared, NoEvent}
use Rattle.sim_language.specs.Lines.{Word, is_among}
use Rattle.sim_language.specs.Named.{is_named, value_of}
use Rattle.sim_language.specs.Forms.{is_process, same_sort}
use Rattle.sim_language.specs.Shapes.{Operand}
use Rattle.sim_language.specs.AnywhereInText.{ProcessLines, parameters}
use Rattle.sim_language.specs.Declarations.{sort_of, is_event}
use Rattle.sim_language.specs.Blocks.{first_word}
use Rattle.sim_language.specs.Variables.{given_by}
use Rattle.sim_language.specs.Places.{Above, stands_in}

-- ---- Duplicate

-- a declared name is declared again
abbrev pub declares_again : Above → Operand → Bool
declares_again above slot = by slot.role
  where
    by : Role → Bool
    by Declares = is_named slot.word above.declared
    by role = false

abbrev pub repeats : List Word → Bool
repeats [] = false
repeats (w ∷ ws) = is_among w ws || repeats ws

-- a parameter stands twice
abbrev pub repeats_parameter : Form → List Operand → Bool
repeats_parameter f slots = is_process f && repeats (map (λ v. v.name) (given_by slots))

-- a parameter or a variable given has the name of a declared event
abbrev pub hides_event : Above → List Operand → Bool
hides_event above slots = list_any (λ v. is_event above.declared v.name) (given_by slots)

-- a `with` gives the variable of a `with` in which it stands
abbrev pub gives_again : Above → Form → List Operand → Bool
gives_again above form.With slots = stands_in above (first_word slots)
gives_again above f slots = false

abbrev pub duplicate : Above → Form → List Operand → Bool
duplicate above f slots = list_any (declares_again above) slots || repeats_parameter f slots || hides_event above slots || gives_again above f slots

-- ---- UnknownName

abbrev pub names_unknown : ProcessLines → Above → Operand → Bool
names_unknown heads above slot = by slot.role
  where
    by : Role → Bool
    by (Names wanted) = is_none (sort_of heads above.declared slot.word)
    by (EventAhead Undeclared) = true
    by role = false

abbrev pub unknown_name : ProcessLines → Above → List Operand → Bool
unknown_name heads above slots = list_any (names_unknown heads above) slots

-- ---- WrongKind

abbrev pub is_other : Sort → Option Sort → Bool
is_other s None = false
is_other s (Some t) = not (same_sort s t)

-- a declared name of another sort
abbrev pub names_other : ProcessLines → Above → Operand → Bool
names_other heads above slot = by slot.role
  where
    by : Role → Bool
    by (Names wanted) = is_other wanted (sort_of heads above.declared slot.word)
    by (EventAhead NoEvent) = true
    by role = false

-- how many words a kind of resource takes behind its name, where it takes the form at all
abbrev pub takes_request : Form → Option ℕ
takes_request form.Resource = Some 0
takes_request form.Priority = Some 1
takes_request form.Preemptive = Some 2
takes_request kind = None

abbrev pub takes_put : Form → Option ℕ
takes_put form.Container = Some 1
takes_put form.Store = Some 1
takes_put form.FStore = Some 1
takes_put form.PStore = Some 2
takes_put kind = None

abbrev pub takes_get : Form → Option ℕ
takes_get form.Container = Some 1
takes_get form.Store = Some 0
takes_get form.PStore = Some 0
takes_get form.FStore = Some 2
takes_get kind = None

abbrev pub is_not : ℕ → Option ℕ → Bool
is_not n None = true
is_not n (Some m) = not (n == m)

abbrev pub takes_not : (Form → Option ℕ) → Above → List Operand → Bool
takes_not takes above [] = false
takes_not takes above (r ∷ rest) = is_not (length rest) (option_and_then (λ d. takes d.form) (value_of r.word above.declared))

-- the operands behind the variable that a line gives
abbrev pub behind_first : List Operand → List Operand
behind_first [] = []
behind_first (s ∷ slots) = slots

-- a form that the resource's kind does not take
abbrev pub not_taken : Above → Form → List Operand → Bool
not_taken above form.With slots = takes_not takes_request above (behind_first slots)
not_taken above form.Put slots = takes_not takes_put above slots
not_taken above form.NewPut slots = takes_not takes_put above (behind_first slots)
not_taken above form.Get slots = takes_not takes_get above slots
not_taken above form.NewGet slots = takes_not takes_get above (behind_first slots)
not_taken above f slots = false

-- another number of arguments than of parameters
abbrev pub miscounts : ProcessLines → List Operand → Bool
miscounts heads [] = false
miscounts heads (p ∷ args) = not (length args == length (parameters heads p.word))

-- a `start` can give nothing to a `:proc`
abbrev pub is_process_class : Class → Bool
is_process_class class.Proc = true
is_process_class c = false

abbrev pub starts_wrong : ProcessLines → List Operand → Bool
starts_wrong heads [] = false
starts_wrong heads (p ∷ args) = list_any is_process_class (parameters heads p.word)

-- a port's process has exactly one parameter, a number
abbrev pub port_wrong : ProcessLines → List Operand → Bool
port_wrong heads (n ∷ p ∷ slots) = not (takes_one_number (parameters heads p.word))
port_wrong heads slots = false

abbrev pub arguments_wrong : ProcessLines → Form → List Operand → Bool
arguments_wrong heads form.Spawn slots = miscounts heads slots
arguments_wrong heads form.NewSpawn slots = miscounts heads (behind_first slots)
arguments_wrong heads form.Start slots = miscounts heads slots || starts_wrong heads slots
arguments_wrong heads form.Port slots = port_wrong heads slots
arguments_wrong heads f slots = false

abbrev pub wrong_kind : ProcessLines → Above → Form → List Operand → Bool
wrong_kind heads above f slots = list_any (names_other heads above) slots || not_taken above f slots || arguments_wrong heads f slots
