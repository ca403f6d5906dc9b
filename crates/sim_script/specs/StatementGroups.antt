-- The statements by what they change, as the code groups them, and what is asked.
use Rattle.std.specs.Prelude.{Bool, true, false, ◌||◌}
use Rattle.sim_types.specs.declared.op.Op.{Op}
use Rattle.sim_types.specs.declared.op.Op.TheVariants as op
use Rattle.sim_types.specs.declared.script.Stmt.{Stmt}
use Rattle.sim_types.specs.declared.script.Stmt.TheVariants as stmt

-- those that change a variable, the mode or the place
abbrev pub is_of_changes : Stmt → Bool
is_of_changes (stmt.Let to arith a b) = true
is_of_changes (stmt.Raise code) = true
is_of_changes (stmt.Finish value) = true
is_of_changes (stmt.If test other) = true
is_of_changes (stmt.Else past) = true
is_of_changes stmt.Break = true
is_of_changes other = false

-- those that enter a block, or come to its end
abbrev pub is_of_blocks : Stmt → Bool
is_of_blocks (stmt.Loop past) = true
is_of_blocks (stmt.Repeat times past) = true
is_of_blocks (stmt.Try catch) = true
is_of_blocks (stmt.Catch kind value past) = true
is_of_blocks (stmt.EndLoop first) = true
is_of_blocks (stmt.EndRepeat first) = true
is_of_blocks other = false

-- those that ask something of an event or a condition
abbrev pub is_of_events : Stmt → Bool
is_of_events (stmt.Timer to delay value) = true
is_of_events (stmt.Fresh to) = true
is_of_events (stmt.Wait on) = true
is_of_events (stmt.Succeed on value) = true
is_of_events (stmt.Fail on value) = true
is_of_events (stmt.All to members) = true
is_of_events (stmt.Any to members) = true
is_of_events (stmt.Has to cond on) = true
is_of_events (stmt.Chain on to) = true
is_of_events other = false

-- those that ask something of the process itself or of another
abbrev pub is_of_processes : Stmt → Bool
is_of_processes (stmt.Sleep delay) = true
is_of_processes (stmt.Spawn to kind args) = true
is_of_processes (stmt.Interrupt who value) = true
is_of_processes (stmt.Drop who value) = true
is_of_processes stmt.EndProcess = true
is_of_processes (stmt.Log value) = true
is_of_processes (stmt.Draw to lo hi) = true
is_of_processes other = false

-- those that ask something of a resource
abbrev pub is_of_resources : Stmt → Bool
is_of_resources (stmt.Count to res) = true
is_of_resources (stmt.With to res priority preempt) = true
is_of_resources (stmt.Release on) = true
is_of_resources (stmt.Put to res a p) = true
is_of_resources (stmt.Get to res lo hi) = true
is_of_resources (stmt.Cancel on) = true
is_of_resources other = false

-- those that ask for an operation and change nothing themselves
abbrev pub is_of_operations : Stmt → Bool
is_of_operations s = is_of_processes s || is_of_resources s || is_of_events s

-- what a script asks for that tells whether it asks for something: for this, or else for nothing
abbrev pub asked_where : Bool → Op → Op
asked_where true asked = asked
asked_where false asked = op.Nop
