-- The variables of a process.
--     variables_at above below      the parameters of the last process above, and what its lines give, each once, in order
use Rattle.std.specs.Prelude.{ℕ, suc, zero, Bool, ◌||◌, if◌then◌else◌, List, [], ◌∷◌, ◌++◌, filter_map, Option, Some, None}
use Rattle.sim_types.specs.declared.setup.Class.{Class}
use Rattle.sim_language.specs.declared.form.Form.{Form}
use Rattle.sim_language.specs.declared.form.Form.TheVariants as form
use Rattle.sim_language.specs.declared.shape.Role.{Role}
use Rattle.sim_language.specs.declared.shape.Role.TheVariants.{Parameter, Gives}
use Rattle.sim_language.specs.Lines.{Word}
use Rattle.sim_language.specs.Named.{Named, with_all, place_or_none}
use Rattle.sim_language.specs.Parameters.{parameter_name, parameter_class}
use Rattle.sim_language.specs.Forms.{opens_block, is_process, is_end}
use Rattle.sim_language.specs.Shapes.{Operand}
use Rattle.sim_language.specs.Sayings.{TextLine, Saying, Blank, Wrong, Says}

abbrev pub given_by_slot : Operand → Option (Named Class)
given_by_slot slot = by slot.role
  where
    by : Role → Option (Named Class)
    by (Gives class) = Some (record { name = slot.word; value = class })
    by Parameter = Some (record { name = parameter_name slot.word; value = parameter_class slot.word })
    by role = None

-- the variables that a line gives, or the parameters of a process line
abbrev pub given_by : List Operand → List (Named Class)
given_by slots = filter_map given_by_slot slots

-- ---- the lines of a process

-- the line ends the process, `deep` blocks being open: its `end`, or the next process line
abbrev pub ends_process : ℕ → Form → Bool
ends_process zero f = is_process f || is_end f
ends_process (suc deep) f = is_process f

-- how many blocks are open behind the line
abbrev pub deep_behind : ℕ → Form → ℕ
deep_behind zero f = if opens_block f then 1 else 0
deep_behind (suc deep) f = if opens_block f then suc (suc deep) else (if is_end f then deep else suc deep)

-- what the lines below give, up to the process's end; a line with a fault of its own gives nothing
abbrev pub given_below : ℕ → List TextLine → List (Named Class)
given_below deep [] = []
given_below deep (l ∷ below) = by l.saying (given_below (deep_then l.saying) below)
  where
    deep_then : Saying → ℕ
    deep_then Blank = deep
    deep_then (Wrong kind) = deep
    deep_then (Says f slots) = deep_behind deep f

    by : Saying → List (Named Class) → List (Named Class)
    by Blank more = more
    by (Wrong kind) more = more
    by (Says f slots) more = if ends_process deep f then [] else given_by slots ++ more

abbrev pub variables_of : List Operand → List TextLine → List (Named Class)
variables_of params below = with_all [] (given_by params ++ given_below 0 below)

-- a process line begins the variables anew
abbrev pub variables_then : Saying → List TextLine → List (Named Class) → List (Named Class)
variables_then (Says form.Process params) below others = variables_of params below
variables_then other below others = others

-- by the lines above, the nearest first, and those below
abbrev pub variables_at : List TextLine → List TextLine → List (Named Class)
variables_at [] below = []
variables_at (l ∷ above) below = variables_then l.saying below (variables_at above (l ∷ below))

-- `val` has the number 0, and each variable the next
abbrev pub variable_number : List (Named Class) → Word → ℕ
variable_number variables w = suc (place_or_none w variables)
