-- Groups of statements.
use Rattle.std.specs.Prelude.{Bool, true, false, if◌then◌else◌, List, Option, None}
use Rattle.sim_types.specs.declared.script.Stmt.{Stmt}
use Rattle.sim_language.specs.declared.form.Form.{Form}
use Rattle.sim_language.specs.declared.form.Form.TheVariants as form
use Rattle.sim_language.specs.AnywhereInText.{ProcessLines}
use Rattle.sim_language.specs.Shapes.{Operand}
use Rattle.sim_language.specs.Places.{LineInText}
use Rattle.sim_language.specs.Statements.{statement}

-- the statement of a line, where it is of the group
abbrev pub statement_of : (Form → Bool) → ProcessLines → LineInText → Form → List Operand → Option Stmt
statement_of is_of heads place f slots = if is_of f then statement heads place f slots else None

-- the statements that compute, log or make time pass
abbrev pub is_of_numbers : Form → Bool
is_of_numbers form.Let = true
is_of_numbers form.Draw = true
is_of_numbers form.Log = true
is_of_numbers form.Timeout = true
is_of_numbers f = false

-- the statements of events and conditions
abbrev pub is_of_events : Form → Bool
is_of_events form.NewTimeout = true
is_of_events form.NewEvent = true
is_of_events form.Wait = true
is_of_events form.Succeed = true
is_of_events form.Fail = true
is_of_events form.NewAll = true
is_of_events form.NewAny = true
is_of_events form.Has = true
is_of_events form.Chain = true
is_of_events f = false

-- the statements of processes
abbrev pub is_of_processes : Form → Bool
is_of_processes form.Spawn = true
is_of_processes form.NewSpawn = true
is_of_processes form.Interrupt = true
is_of_processes form.Drop = true
is_of_processes form.Raise = true
is_of_processes form.Finish = true
is_of_processes f = false

-- the statements of resources
abbrev pub is_of_resources : Form → Bool
is_of_resources form.Count = true
is_of_resources form.With = true
is_of_resources form.Release = true
is_of_resources form.Put = true
is_of_resources form.NewPut = true
is_of_resources form.Cancel = true
is_of_resources f = false

-- the statements that take out of a container or a store
abbrev pub is_of_gets : Form → Bool
is_of_gets form.Get = true
is_of_gets form.NewGet = true
is_of_gets f = false

-- the statements that are blocks or parts of blocks
abbrev pub is_of_blocks : Form → Bool
is_of_blocks form.Loop = true
is_of_blocks form.Repeat = true
is_of_blocks form.If = true
is_of_blocks form.Else = true
is_of_blocks form.Try = true
is_of_blocks form.Catch = true
is_of_blocks form.End = true
is_of_blocks form.Break = true
is_of_blocks f = false
