-- What the scripts of a scenario need memory for: the variables that its code gives a value, and the blocks that stand
-- within each other. The other variables are 0 always.
use Rattle.std.specs.Prelude.{ℕ, suc, ◌-◌, min, max, List, [], ◌∷◌, Option, Some, None}
use Rattle.sim_types.specs.Scenarios.{ScenarioOf}
use Rattle.sim_types.specs.declared.script.Kind.{Kind}
use Rattle.sim_types.specs.declared.script.Stmt.{Stmt}
use Rattle.sim_types.specs.declared.script.Stmt.TheVariants as stmt
use Rattle.sim_script_model.specs.Polls.{given_by}

-- ---- variables

-- the variable, or `val` where none is named
abbrev pub or_val : Option ℕ → ℕ
or_val None = 0
or_val (Some v) = v

-- the last variable that a statement gives a value, or `val`
abbrev pub last_given : Stmt → ℕ
last_given (stmt.Let to op a b) = to
last_given (stmt.Catch kind value past) = max kind value
last_given s = or_val (given_by s)

-- the last variable that one of these statements gives a value
abbrev pub last_given_in : List Stmt → ℕ
last_given_in [] = 0
last_given_in (s ∷ code) = max (last_given s) (last_given_in code)

-- the parameters of the kind that has most of them
abbrev pub most_params : List Kind → ℕ
most_params [] = 0
most_params (k ∷ kinds) = max k.params (most_params kinds)

-- the last variable of a scenario that is given a value: a parameter, or one that a statement names
abbrev pub last_variable : ScenarioOf → ℕ
last_variable x = min 63 (max (most_params x.kinds) (last_given_in x.code))

-- ---- blocks

-- what a statement does to the blocks of a kind that are open: it opens one, closes one, ends the process, in which none is
-- open then, or leaves them as they are
pub data Change : Type 0 where
  Opens Closes Ends Stays : Change

-- the blocks that are open before a statement, by those that are open behind it
abbrev pub open_around : Change → ℕ → ℕ
open_around Opens behind = behind - 1
open_around Closes behind = suc behind
open_around Ends behind = 0
open_around Stays behind = behind

-- the blocks that are open before these statements, which close them
abbrev pub open_before : (Stmt → Change) → List Stmt → ℕ
open_before change [] = 0
open_before change (s ∷ code) = open_around (change s) (open_before change code)

-- the blocks that are open where most of them are
abbrev pub most_at_once : (Stmt → Change) → List Stmt → ℕ
most_at_once change [] = 0
most_at_once change (s ∷ code) = max (open_before change (s ∷ code)) (most_at_once change code)

-- the blocks that a script has a frame for
abbrev pub frame_change : Stmt → Change
frame_change (stmt.With to res priority preempt) = Opens
frame_change (stmt.Loop past) = Opens
frame_change (stmt.Repeat times past) = Opens
frame_change (stmt.Try catch) = Opens
frame_change (stmt.Catch kind value past) = Closes
frame_change (stmt.EndLoop first) = Closes
frame_change (stmt.EndRepeat first) = Closes
frame_change stmt.EndWith = Closes
frame_change stmt.EndProcess = Ends
frame_change s = Stays

-- the frames of a script where most of its blocks are open
abbrev pub most_frames : List Stmt → ℕ
most_frames code = most_at_once frame_change code

-- the blocks that are scopes
abbrev pub scope_change : Stmt → Change
scope_change (stmt.With to res priority preempt) = Opens
scope_change stmt.EndWith = Closes
scope_change stmt.EndProcess = Ends
scope_change s = Stays

-- the scopes of a script where most of them are open
abbrev pub most_open_scopes : List Stmt → ℕ
most_open_scopes code = most_at_once scope_change code
