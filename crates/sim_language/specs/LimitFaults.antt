-- The fault TooMany: the line passes a limit.
use Rattle.std.specs.Prelude.{ℕ, Bool, false, ◌||◌, ◌&&◌, nat_lt, nat_le, List, length, Option, Some, None}
use Rattle.std.specs.List.{list_any}
use Rattle.sim_types.specs.declared.setup.Class.{Class}
use Rattle.sim_language.specs.declared.form.Form.{Form}
use Rattle.sim_language.specs.declared.form.Form.TheVariants as form
use Rattle.sim_language.specs.declared.form.Sort.{Sort}
use Rattle.sim_language.specs.declared.form.Sort.TheVariants as sort
use Rattle.sim_language.specs.Named.{Named}
use Rattle.sim_language.specs.Forms.{declares_sort, opens_block}
use Rattle.sim_language.specs.Shapes.{Operand}
use Rattle.sim_language.specs.Declarations.{count_of}
use Rattle.sim_language.specs.Variables.{given_by, variable_number}
use Rattle.sim_language.specs.Places.{Above, LineInText, blocks_of}

-- how many names of a sort a text may have
abbrev pub most_of : Sort → ℕ
most_of sort.Resource = 1024
most_of sort.Event = 1024
most_of sort.Port = 256
most_of sort.Process = 256

abbrev pub sort_is_full : Above → Option Sort → Bool
sort_is_full above None = false
sort_is_full above (Some s) = nat_le (most_of s) (count_of s above.declared)

-- 8 parameters, 16 members, 16 posters, 65,536 entries, 32 open blocks
abbrev pub form_is_full : Above → Form → List Operand → Bool
form_is_full above form.Process slots = nat_lt 9 (length slots)
form_is_full above form.NewAll slots = nat_lt 17 (length slots)
form_is_full above form.NewAny slots = nat_lt 17 (length slots)
form_is_full above form.Poster slots = nat_le 16 above.posters
form_is_full above form.After slots = nat_le 65536 above.entries
form_is_full above form.Post slots = nat_le 65536 above.entries
form_is_full above f slots = opens_block f && nat_le 32 (length (blocks_of above))

-- 64 variables a process, `val` and the parameters among them
abbrev pub gives_too_many : List (Named Class) → List Operand → Bool
gives_too_many variables slots = list_any (λ v. nat_le 64 (variable_number variables v.name)) (given_by slots)

abbrev pub too_many : LineInText → Form → List Operand → Bool
too_many place f slots =
    nat_lt 65536 place.number
    || sort_is_full place.above (declares_sort f)
    || form_is_full place.above f slots
    || gives_too_many place.variables slots
