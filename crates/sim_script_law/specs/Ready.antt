-- What the code of a script has to know before it takes in what it is told, and before it asks: the variables that a
-- statement gives a value are among those that it keeps, and a block that is entered finds room among the frames.
use Rattle.std.specs.Prelude.{◌^◌, Bool, true, ◌&&◌, nat_lt, nat_le, pos, int_le, List, ◌∷◌, length}
use Rattle.std.specs.List.{list_all}
use Rattle.sim_types.specs.declared.event.Signal.{Signal}
use Rattle.sim_types.specs.declared.event.Signal.TheVariants as signal
use Rattle.sim_types.specs.declared.script.Ref.TheVariants as ref
use Rattle.sim_types.specs.declared.script.SpawnArg.{SpawnArg}
use Rattle.sim_types.specs.declared.script.SpawnArg.TheVariants as spawn
use Rattle.sim_types.specs.declared.script.Stmt.{Stmt}
use Rattle.sim_types.specs.declared.script.Stmt.TheVariants as stmt
use Rattle.sim_script_model.specs.Scripts.{Mode, Running, Frame, InTry, Script, variable, stmt_at}
use Rattle.sim_script_model.specs.Polls.{last_stmt}
use Rattle.sim_script_model.specs.Needs.{last_given, last_variable, most_frames}

-- the variables that the statement gives a value are among those that the script keeps
abbrev pub keeps_given : Script → Stmt → Bool
keeps_given b s = nat_le (last_given s) (last_variable b.scenario)

-- an argument that is an event has a number of 63 bits
abbrev pub event_is_small : Script → SpawnArg → Bool
event_is_small b (spawn.Num n) = true
event_is_small b (spawn.Ref (ref.Var v)) = int_le (pos 0) (variable b v)
event_is_small b (spawn.Ref (ref.Named n)) = nat_lt n (2 ^ 63)
event_is_small b (spawn.Ref ref.Me) = true

abbrev pub events_are_small : Script → Stmt → Bool
events_are_small b (stmt.Spawn to kind args) = list_all (event_is_small b) args
events_are_small b other = true

-- one block more finds room
abbrev pub has_room : Script → Bool
has_room b = nat_lt (length b.frames) (most_frames b.scenario.code)

-- a block that the statement enters at once finds room
abbrev pub enters_room : Script → Stmt → Bool
enters_room b (stmt.Loop past) = has_room b
enters_room b (stmt.Repeat times past) = has_room b
enters_room b (stmt.Try catch) = has_room b
enters_room b other = true

-- the scope of a request that was made finds room
abbrev pub scope_finds_room : Script → Stmt → Bool
scope_finds_room b (stmt.With to res priority preempt) = has_room b
scope_finds_room b other = true

-- ---- before the signal is taken in

abbrev pub can_take : List Stmt → Signal → Script → Bool
can_take code (signal.Made e) b = nat_lt e.0 (2 ^ 63) && keeps_given b (last_stmt code b) && scope_finds_room b (last_stmt code b)
can_take code (signal.Number n) b = keeps_given b (last_stmt code b)
can_take code told b = true

-- ---- before it asks

-- the statement at its place can be done
abbrev pub can_do : List Stmt → Script → Bool
can_do code b =
    nat_lt b.place (length code)
    && keeps_given b (stmt_at code b.place)
    && events_are_small b (stmt_at code b.place)
    && enters_room b (stmt_at code b.place)

-- its innermost block can be left
abbrev pub can_leave : List Stmt → Script → List Frame → Bool
can_leave code b (InTry catch ∷ frames) = keeps_given b (stmt_at code catch)
can_leave code b frames = true

abbrev pub can_ask_in : List Stmt → Script → Mode → Bool
can_ask_in code b Running = can_do code b
can_ask_in code b mode = can_leave code b b.frames

abbrev pub can_ask : List Stmt → Script → Bool
can_ask code b = can_ask_in code b b.mode
