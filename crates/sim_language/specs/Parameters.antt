-- Parameters: a name, alone for a number, or with `:event` or `:proc`.
use Rattle.std.specs.Prelude.{ℕ, Bool, ◌||◌, ◌&&◌, ◌==◌, if◌then◌else◌, length, drop, codes}
use Rattle.sim_types.specs.declared.setup.Class.{Class}
use Rattle.sim_types.specs.declared.setup.Class.TheVariants as class
use Rattle.sim_language.specs.declared.form.Version.{Version}
use Rattle.sim_language.specs.Lines.{Word, same, is_empty, up_to}
use Rattle.sim_language.specs.Names.{is_name}

abbrev pub is_colon : ℕ → Bool
is_colon c = c == 58

abbrev pub parameter_name : Word → Word
parameter_name w = up_to is_colon w

-- the word from its first colon on
abbrev pub class_part : Word → Word
class_part w = drop (length (parameter_name w)) w

-- by what stands from its first colon on; all but `:event` and `:proc` count as a number
abbrev pub parameter_class : Word → Class
parameter_class w =
    if same (class_part w) (codes ":event") then class.Event
    else (if same (class_part w) (codes ":proc") then class.Proc else class.Number)

abbrev pub is_parameter : Version → Word → Bool
is_parameter version w =
    is_name version (parameter_name w)
    && (is_empty (class_part w) || same (class_part w) (codes ":event") || same (class_part w) (codes ":proc"))
