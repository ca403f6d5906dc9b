-- The states that a script can be in.
use Rattle.std.specs.Prelude.{◌≡◌, IsTrue, ℕ, ◌<◌, ◌≤◌, Bool, true, false, List, ◌∷◌, length, Option, Some, slice_get}
use Rattle.std.specs.List.{list_any}
use Rattle.sim_types.specs.Scenarios.{ScenarioOf}
use Rattle.sim_types.specs.declared.op.Op.{Op}
use Rattle.sim_types.specs.declared.op.Op.TheVariants as op
use Rattle.sim_types.specs.declared.setup.Class.{Class}
use Rattle.sim_types.specs.declared.setup.Class.TheVariants as class
use Rattle.sim_types.specs.declared.script.Kind.{Kind}
use Rattle.sim_types.specs.declared.script.Num.{Num}
use Rattle.sim_types.specs.declared.script.Stmt.{Stmt}
use Rattle.sim_types.specs.declared.script.Stmt.TheVariants as stmt
use Rattle.sim_machine.specs.BodyLaw.{may_start}
use Rattle.sim_machine.specs.MayFollow.{is_enter}
use Rattle.sim_language.specs.WellFormed.{is_well_formed}
use Rattle.sim_language.specs.FittingBlocks.{Open, OpenWith, is_open_loop}
use Rattle.sim_language.specs.FittingStatements.{statement_fits}
use Rattle.sim_script_model.specs.Scripts.{Mode, Running, Breaking, Script}
use Rattle.sim_script_model.specs.Polls.{last_stmt}
use Rattle.sim_script_law.specs.Walks.{Walks}
use Rattle.sim_script_law.specs.Framing.{Framed, is_held}

-- whether the operation, whose answer is an event or a number, is one that the statement asks for
abbrev pub is_asked_by : Stmt → Op → Bool
is_asked_by (stmt.Timer to delay value) (op.Timeout d v) = true
is_asked_by (stmt.Fresh to) op.NewEvent = true
is_asked_by (stmt.Spawn to kind args) (op.Spawn k vs) = true
is_asked_by (stmt.All to of) (op.AllOf members) = true
is_asked_by (stmt.Any to of) (op.AnyOf members) = true
is_asked_by (stmt.With to res priority preempt) (op.Enter r p q) = true
is_asked_by (stmt.Put to res a p) (op.Put r b q) = true
is_asked_by (stmt.Get to res lo hi) (op.Get r b q) = true
is_asked_by (stmt.Count to res) (op.Count r) = true
is_asked_by (stmt.Has to cond on) (op.Has c e) = true
is_asked_by (stmt.Draw to lo hi) (op.Draw l h) = true
is_asked_by _ _ = false

-- whether the answer of the operation is an event or a number
abbrev pub is_answered : Op → Bool
is_answered (op.Timeout delay value) = true
is_answered op.NewEvent = true
is_answered (op.Spawn k args) = true
is_answered (op.AllOf members) = true
is_answered (op.AnyOf members) = true
is_answered (op.Enter res priority preempts) = true
is_answered (op.Put res amount priority) = true
is_answered (op.Get res least greatest) = true
is_answered (op.Count res) = true
is_answered (op.Has cond e) = true
is_answered (op.Draw lo hi) = true
is_answered _ = false

-- the statement before the place is the one that asked for this
pub record IsAskedThere (x : ScenarioOf) (kind : Kind) (asked : Op) (last : Stmt) : Type 0 where
  pub by : is_asked_by last asked ≡ true
  pub fits : statement_fits x kind last ≡ true

-- a request is asked for: the `with` that did it is open where the script stands, and has no frame yet
pub record IsEntering (x : ScenarioOf) (kind : Kind) (opens : List Open) (b : Script) : Type 0 where
  pub variable : ℕ
  pub resource : ℕ
  pub priority : Num
  pub preempts : Bool
  pub asked_by : last_stmt x.code b ≡ stmt.With variable resource priority preempts
  pub some : 1 ≤ b.place
  pub within : b.place ≤ length x.code
  pub runs : b.mode ≡ Running
  pub fresh : is_held variable opens ≡ false
  pub few : length opens < 32
  pub walks : Walks x kind b.place (OpenWith variable ∷ opens)

-- whether the process is at its end
abbrev pub has_ended : Option Op → Bool
has_ended (Some (op.Finish value)) = true
has_ended (Some (op.Die thrown)) = true
has_ended last = false

-- whether the script goes on as written
abbrev pub is_running : Mode → Bool
is_running Running = true
is_running mode = false

-- whether it leaves blocks up to a loop
abbrev pub is_breaking : Mode → Bool
is_breaking Breaking = true
is_breaking mode = false

-- `val` is a number
abbrev pub begins_with_number : List Class → Bool
begins_with_number (class.Number ∷ classes) = true
begins_with_number classes = false

pub record IsSoundScript (x : ScenarioOf) (b : Script) : Type 0 where
  pub scenario : b.scenario ≡ x
  pub well_formed : IsTrue (is_well_formed x)
  pub kind : Kind
  pub kind_is : slice_get x.kinds b.kind ≡ Some kind
  pub classes : b.classes ≡ kind.classes
  pub long : length b.classes ≡ 64
  pub val : IsTrue (begins_with_number b.classes)
  -- a variable that is no number holds the number of an event
  pub variables : IsTrue (may_start b.classes b.variables)
  pub opens : List Open
  pub few : length opens ≤ 32
  pub framed : Framed x kind b.variables opens b.frames
  pub runs : has_ended b.asked ≡ false → is_enter b.asked ≡ false → is_running b.mode ≡ true → Walks x kind b.place opens
  pub enters : is_enter b.asked ≡ true → IsEntering x kind opens b
  pub breaks : is_breaking b.mode ≡ true → IsTrue (list_any is_open_loop opens)
  pub asked : (last : Op) → b.asked ≡ Some last → is_answered last ≡ true → IsAskedThere x kind last (last_stmt x.code b)
