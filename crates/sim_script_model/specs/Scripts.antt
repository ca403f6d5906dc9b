-- The state of a script: its variables, its place in the code, the blocks that it stands in, and its mode. Scripts,
-- which take the place of Python's generators, are this project's own.
use Rattle.std.specs.Prelude.{ℕ, zero, suc, ◌-◌, ℤ, pos, nat_abs, List, [], ◌∷◌, ◌++◌, length, slice_index_or, slice_set, replicate, reverse, Option, None, if◌then◌else◌}
use Rattle.sim_types.specs.Scenarios.{ScenarioOf}
use Rattle.sim_types.specs.declared.event.EventId.{EventId}
use Rattle.sim_types.specs.declared.event.ProcId.{ProcId}
use Rattle.sim_types.specs.declared.event.Throw.{Throw}
use Rattle.sim_types.specs.declared.op.Op.{Op}
use Rattle.sim_types.specs.declared.script.Num.{Num}
use Rattle.sim_types.specs.declared.script.Num.TheVariants as num
use Rattle.sim_types.specs.declared.script.Ref.{Ref}
use Rattle.sim_types.specs.declared.script.Ref.TheVariants as ref
use Rattle.sim_types.specs.declared.script.SpawnArg.{SpawnArg}
use Rattle.sim_types.specs.declared.script.SpawnArg.TheVariants as arg
use Rattle.sim_types.specs.declared.script.Stmt.{Stmt}
use Rattle.sim_types.specs.declared.script.Stmt.TheVariants as stmt
use Rattle.sim_types.specs.declared.script.Kind.{Kind}
use Rattle.sim_types.specs.declared.setup.Class.{Class}
use Rattle.sim_types.specs.declared.setup.Class.TheVariants as class
use Rattle.sim_machine.specs.Tellings.{is_class, Place, Telling}

-- whether the script goes on as written, or leaves its blocks from the innermost outwards, and why
pub data Mode : Type 0 where
  Running : Mode
  Throwing : (what : Throw) → Mode
  Breaking : Mode
  Finishing : (value : ℤ) → Mode

-- a block that the script stands in: a scope with its request; a try with the place of its catch line; a loop or repeat
-- with the place behind its `end`, and a repeat with the turns that are left, the present one among them
pub data Frame : Type 0 where
  InScope : (request : EventId) → Frame
  InTry : (catch : ℕ) → Frame
  InLoop : (past : ℕ) → Frame
  InRepeat : (count : ℤ) → (past : ℕ) → Frame

-- the state of a script
pub record Script : Type 0 where
  -- the scenario that its kind and its statements stand in
  pub scenario : ScenarioOf
  pub me : ProcId
  -- its kind, by its place in the scenario
  pub kind : ℕ
  -- the classes of its variables
  pub classes : List Class
  -- the statement that comes next
  pub place : ℕ
  -- 64 of them; the first is `val`, then come the parameters; an event is held by its number
  pub variables : List ℤ
  -- the innermost first
  pub frames : List Frame
  pub mode : Mode
  -- what it asked for last
  pub asked : Option Op

-- what a variable holds
abbrev pub variable : Script → ℕ → ℤ
variable b at = slice_index_or b.variables at (pos 0)

-- a variable gets a value
abbrev pub set_variable : ℕ → ℤ → Script → Script
set_variable at value b = record b { variables = slice_set b.variables at value }

-- this statement comes next
abbrev pub set_place : ℕ → Script → Script
set_place at b = record b { place = at }

-- the mode is now this
abbrev pub set_mode : Mode → Script → Script
set_mode mode b = record b { mode = mode }

-- these are the blocks that the script stands in
abbrev pub set_frames : List Frame → Script → Script
set_frames frames b = record b { frames = frames }

-- the script enters a block
abbrev pub push_frame : Frame → Script → Script
push_frame frame b = set_frames (frame ∷ b.frames) b

-- the blocks but the innermost
abbrev pub tail_of : List Frame → List Frame
tail_of [] = []
tail_of (x ∷ xs) = xs

-- the script leaves its innermost block
abbrev pub pop_frame : Script → Script
pop_frame b = set_frames (tail_of b.frames) b

-- the statement at a place; behind the code the process ends
abbrev pub stmt_at : List Stmt → ℕ → Stmt
stmt_at code at = slice_index_or code at stmt.EndProcess

-- what a number of a statement stands for
abbrev pub value_of_num : ℤ → Script → Num → ℤ
value_of_num time b (num.Lit n) = n
value_of_num time b (num.Var at) = variable b at
value_of_num time b num.Now = time

-- the event that a variable holds, by its number; 0 where none was given to it yet
abbrev pub event_in : Script → ℕ → EventId
event_in b at = record { 0 = nat_abs (variable b at) }

-- the event that a statement names
abbrev pub event_of_ref : Script → Ref → EventId
event_of_ref b (ref.Var at) = event_in b at
event_of_ref b (ref.Named n) = record { 0 = n }
event_of_ref b ref.Me = record { 0 = b.me.0 }

-- the process that a statement names
abbrev pub process_of_ref : Script → Ref → ProcId
process_of_ref b r = record { 0 = (event_of_ref b r).0 }

-- what a process is given, an event by its number
abbrev pub value_of_arg : ℤ → Script → SpawnArg → ℤ
value_of_arg time b (arg.Num n) = value_of_num time b n
value_of_arg time b (arg.Ref r) = pos (event_of_ref b r).0

-- the first statement of the kind at this place
abbrev pub first_place : List Kind → ℕ → ℕ
first_place [] k = 0
first_place (x ∷ xs) zero = x.first
first_place (x ∷ xs) (suc k) = first_place xs k

-- the classes of the variables of a process kind
abbrev pub classes_at : List Kind → ℕ → List Class
classes_at [] k = []
classes_at (x ∷ xs) zero = x.classes
classes_at (x ∷ xs) (suc k) = classes_at xs k

-- how a process of a kind begins: with its arguments in the parameters and 0 in all other variables
abbrev pub script_start : ScenarioOf → ℕ → List ℤ → ProcId → Script
script_start x k args p =
    record {
      scenario = x;
      me = p;
      kind = k;
      classes = classes_at x.kinds k;
      place = first_place x.kinds k;
      variables = pos 0 ∷ args ++ replicate (63 - length args) (pos 0);
      frames = [];
      mode = Running;
      asked = None;
    }

-- ---- what a script tells of itself

-- the variables as places; a number holds no event
abbrev pub places_of : List Class → List ℤ → List Place
places_of (c ∷ cs) (v ∷ vs) = record { class = c; event = record { 0 = if is_class c class.Number then 0 else nat_abs v } } ∷ places_of cs vs
places_of _ _ = []

-- the requests of the scopes among these blocks, the innermost first
abbrev pub requests_in : List Frame → List EventId
requests_in [] = []
requests_in (InScope request ∷ frames) = request ∷ requests_in frames
requests_in (_ ∷ frames) = requests_in frames

-- what a script tells of itself
abbrev pub script_telling : Telling Script
script_telling =
    record {
      own = λ b. b.me;
      places = λ b. places_of b.classes b.variables;
      scopes = λ b. reverse (requests_in b.frames);
      last = λ b. b.asked;
    }
