-- Groups of lines.
use Rattle.std.specs.Prelude.{Bool, true, false, if◌then◌else◌, List}
use Rattle.sim_types.specs.Scenarios.{ScenarioOf}
use Rattle.sim_language.specs.declared.form.Form.{Form}
use Rattle.sim_language.specs.declared.form.Form.TheVariants as form
use Rattle.sim_language.specs.AnywhereInText.{ProcessLines}
use Rattle.sim_language.specs.Shapes.{Operand}
use Rattle.sim_language.specs.Places.{LineInText}
use Rattle.sim_language.specs.Reads.{add}

-- what a line adds, where it is of the group; else it adds nothing
abbrev pub add_of : (Form → Bool) → ProcessLines → LineInText → Form → List Operand → ScenarioOf → ScenarioOf
add_of is_of heads place f slots s = if is_of f then add heads place f slots s else s

-- the lines of the header
abbrev pub is_of_headers : Form → Bool
is_of_headers form.UntilTime = true
is_of_headers form.UntilEvent = true
is_of_headers form.Seed = true
is_of_headers f = false

-- the lines that declare resources
abbrev pub is_of_resources : Form → Bool
is_of_resources form.Resource = true
is_of_resources form.Priority = true
is_of_resources form.Preemptive = true
is_of_resources form.Container = true
is_of_resources form.Store = true
is_of_resources form.PStore = true
is_of_resources form.FStore = true
is_of_resources f = false

-- the lines that declare events and ports
abbrev pub is_of_declarations : Form → Bool
is_of_declarations form.Event = true
is_of_declarations form.Port = true
is_of_declarations f = false

-- the lines of the journal and of the posters
abbrev pub is_of_entries : Form → Bool
is_of_entries form.After = true
is_of_entries form.Poster = true
is_of_entries form.Post = true
is_of_entries f = false
