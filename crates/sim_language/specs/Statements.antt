-- The statement that a line of a process is.
--     statement heads place f slots      with the numbers of its variables, resources and processes
-- Where a statement goes on besides at the next is still 0.
use Rattle.std.specs.Prelude.{ℕ, suc, Bool, true, if◌then◌else◌, nat_lt, List, [], ◌∷◌, map, take, codes, pos, ℤ, Option, Some, None, unwrap_or}
use Rattle.sim_types.specs.declared.setup.Class.{Class}
use Rattle.sim_types.specs.declared.script.Num.{Num}
use Rattle.sim_types.specs.declared.script.Num.TheVariants as num
use Rattle.sim_types.specs.declared.script.Ref.{Ref}
use Rattle.sim_types.specs.declared.script.Ref.TheVariants as ref
use Rattle.sim_types.specs.declared.script.SpawnArg.{SpawnArg}
use Rattle.sim_types.specs.declared.script.SpawnArg.TheVariants as spawn
use Rattle.sim_types.specs.declared.script.Arith.{Arith}
use Rattle.sim_types.specs.declared.script.Arith.TheVariants as arith
use Rattle.sim_types.specs.declared.script.Stmt.{Stmt}
use Rattle.sim_types.specs.declared.script.Stmt.TheVariants as stmt
use Rattle.sim_language.specs.declared.form.Form.{Form}
use Rattle.sim_language.specs.declared.form.Meaning.{Meaning}
use Rattle.sim_language.specs.declared.form.Form.TheVariants as form
use Rattle.sim_language.specs.declared.shape.Role.{Role}
use Rattle.sim_language.specs.declared.shape.Role.TheVariants.{Within, Refers}
use Rattle.sim_language.specs.Lines.{Word, same}
use Rattle.sim_language.specs.Numbers.{literal}
use Rattle.sim_language.specs.Named.{Named, value_of, place_or_none}
use Rattle.sim_language.specs.Shapes.{Operand}
use Rattle.sim_language.specs.AnywhereInText.{ProcessLines}
use Rattle.sim_language.specs.Sayings.{is_me}
use Rattle.sim_language.specs.Declarations.{is_event}
use Rattle.sim_language.specs.Blocks.{Block}
use Rattle.sim_language.specs.Variables.{variable_number}
use Rattle.sim_language.specs.Places.{LineInText}

-- ---- words as what they stand for

-- a process has no more than 64 variables
abbrev pub variable : List (Named Class) → Word → ℕ
variable variables w = let n : ℕ = variable_number variables w in if nat_lt n 64 then n else 0

-- the number of a declared name among those of its sort
abbrev pub number_declared : List (Named Meaning) → Word → ℕ
number_declared ds w = by (value_of w ds)
  where
    by : Option Meaning → ℕ
    by None = 0
    by (Some d) = d.number

-- event 0 is processed from the start, and the named events have the numbers from 1 on
abbrev pub event_number : List (Named Meaning) → Word → ℕ
event_number ds w = suc (number_declared ds w)

-- processes are numbered by their lines in the text
abbrev pub kind_number : ProcessLines → Word → ℕ
kind_number heads w = place_or_none w heads

abbrev pub literal_of : Word → ℤ
literal_of w = unwrap_or (literal w) (pos 0)

-- `now`, `val`, or a variable
abbrev pub variable_or_now : List (Named Class) → Word → Num
variable_or_now variables w = if same w (codes "now") then num.Now else (if same w (codes "val") then num.Var 0 else num.Var (variable variables w))

abbrev pub number_of : List (Named Class) → Operand → Num
number_of variables slot = by slot.role
  where
    by : Role → Num
    by (Within low high) = num.Lit (literal_of slot.word)
    by role = variable_or_now variables slot.word

abbrev pub event_of : LineInText → Word → Ref
event_of place w =
    if is_me w then ref.Me
    else (if is_event place.above.declared w then ref.Named (event_number place.above.declared w)
    else ref.Var (variable place.variables w))

abbrev pub argument_of : LineInText → Operand → SpawnArg
argument_of place slot = by slot.role
  where
    by : Role → SpawnArg
    by (Refers reference) = spawn.Ref (event_of place slot.word)
    by role = spawn.Num (number_of place.variables slot)

-- a process has no more than 8 parameters
abbrev pub arguments : LineInText → List Operand → List SpawnArg
arguments place slots = take 8 (map (argument_of place) slots)

-- a condition has no more than 16 members
abbrev pub members : LineInText → List Operand → List Ref
members place slots = take 16 (map (λ slot. event_of place slot.word) slots)

-- a part that the form has not is 0
abbrev pub nothing : Num
nothing = num.Lit (pos 0)

abbrev pub number_or_nothing : List (Named Class) → List Operand → Num
number_or_nothing variables [] = nothing
number_or_nothing variables (slot ∷ slots) = number_of variables slot

abbrev pub operator_of : Word → Arith
operator_of w =
    if same w (codes "+") then arith.Add
    else (if same w (codes "-") then arith.Sub
    else (if same w (codes "*") then arith.Mul
    else (if same w (codes "/") then arith.Div
    else (if same w (codes "%") then arith.Rem
    else (if same w (codes "min") then arith.Min
    else (if same w (codes "max") then arith.Max
    else (if same w (codes "<") then arith.Less
    else (if same w (codes "<=") then arith.AtMost else arith.Equal))))))))

-- only `wait` makes a request that preempts nobody
abbrev pub preempts : List Operand → Bool
preempts (p ∷ preference ∷ []) = same preference.word (codes "preempt")
preempts slots = true

-- the `end` of a process, or of the innermost block
abbrev pub end_of : List Block → Stmt
end_of [] = stmt.EndProcess
end_of (b ∷ blocks) = by b.form
  where
    by : Form → Stmt
    by form.With = stmt.EndWith
    by form.Loop = stmt.EndLoop b.inside
    by form.Repeat = stmt.EndRepeat b.inside
    by f = stmt.EndPlain

-- ---- the statement

abbrev pub statement : ProcessLines → LineInText → Form → List Operand → Option Stmt
statement heads place form.Let (x ∷ a ∷ []) = Some (stmt.Let (variable place.variables x.word) arith.Only (number_of place.variables a) nothing)
statement heads place form.Let (x ∷ a ∷ op ∷ b ∷ []) = Some (stmt.Let (variable place.variables x.word) (operator_of op.word) (number_of place.variables a) (number_of place.variables b))
statement heads place form.Count (x ∷ r ∷ []) = Some (stmt.Count (variable place.variables x.word) (number_declared place.above.declared r.word))
statement heads place form.Timeout (d ∷ []) = Some (stmt.Sleep (number_of place.variables d))
statement heads place form.NewTimeout (x ∷ d ∷ v ∷ []) = Some (stmt.Timer (variable place.variables x.word) (number_of place.variables d) (number_of place.variables v))
statement heads place form.NewEvent (x ∷ []) = Some (stmt.Fresh (variable place.variables x.word))
statement heads place form.Wait (e ∷ []) = Some (stmt.Wait (event_of place e.word))
statement heads place form.Succeed (e ∷ v ∷ []) = Some (stmt.Succeed (event_of place e.word) (number_of place.variables v))
statement heads place form.Fail (e ∷ c ∷ []) = Some (stmt.Fail (event_of place e.word) (number_of place.variables c))
statement heads place form.NewAll (x ∷ es) = Some (stmt.All (variable place.variables x.word) (members place es))
statement heads place form.NewAny (x ∷ es) = Some (stmt.Any (variable place.variables x.word) (members place es))
statement heads place form.Has (y ∷ c ∷ e ∷ []) = Some (stmt.Has (variable place.variables y.word) (variable place.variables c.word) (event_of place e.word))
statement heads place form.Spawn (p ∷ args) = Some (stmt.Spawn None (kind_number heads p.word) (arguments place args))
statement heads place form.NewSpawn (x ∷ p ∷ args) = Some (stmt.Spawn (Some (variable place.variables x.word)) (kind_number heads p.word) (arguments place args))
statement heads place form.Interrupt (p ∷ c ∷ []) = Some (stmt.Interrupt (event_of place p.word) (number_of place.variables c))
statement heads place form.Drop (p ∷ v ∷ []) = Some (stmt.Drop (event_of place p.word) (number_of place.variables v))
statement heads place form.Raise (c ∷ []) = Some (stmt.Raise (number_of place.variables c))
statement heads place form.Finish (v ∷ []) = Some (stmt.Finish (number_of place.variables v))
statement heads place form.With (x ∷ r ∷ more) = Some (stmt.With (variable place.variables x.word) (number_declared place.above.declared r.word) (number_or_nothing place.variables more) (preempts more))
statement heads place form.Release (x ∷ []) = Some (stmt.Release (variable place.variables x.word))
statement heads place form.Put (r ∷ a ∷ more) = Some (stmt.Put None (number_declared place.above.declared r.word) (number_of place.variables a) (number_or_nothing place.variables more))
statement heads place form.NewPut (x ∷ r ∷ a ∷ more) = Some (stmt.Put (Some (variable place.variables x.word)) (number_declared place.above.declared r.word) (number_of place.variables a) (number_or_nothing place.variables more))
statement heads place form.Get (r ∷ []) = Some (stmt.Get None (number_declared place.above.declared r.word) nothing nothing)
statement heads place form.Get (r ∷ a ∷ more) = Some (stmt.Get None (number_declared place.above.declared r.word) (number_of place.variables a) (number_or_nothing place.variables more))
statement heads place form.NewGet (x ∷ r ∷ []) = Some (stmt.Get (Some (variable place.variables x.word)) (number_declared place.above.declared r.word) nothing nothing)
statement heads place form.NewGet (x ∷ r ∷ a ∷ more) = Some (stmt.Get (Some (variable place.variables x.word)) (number_declared place.above.declared r.word) (number_of place.variables a) (number_or_nothing place.variables more))
statement heads place form.Cancel (x ∷ []) = Some (stmt.Cancel (variable place.variables x.word))
statement heads place form.Loop [] = Some (stmt.Loop 0)
statement heads place form.Repeat (a ∷ []) = Some (stmt.Repeat (number_of place.variables a) 0)
statement heads place form.If (a ∷ []) = Some (stmt.If (number_of place.variables a) 0)
statement heads place form.Else [] = Some (stmt.Else 0)
statement heads place form.Try [] = Some (stmt.Try 0)
statement heads place form.Catch (k ∷ v ∷ []) = Some (stmt.Catch (variable place.variables k.word) (variable place.variables v.word) 0)
statement heads place form.End [] = Some (end_of (unwrap_or place.above.blocks []))
statement heads place form.Break [] = Some stmt.Break
statement heads place form.Log (a ∷ []) = Some (stmt.Log (number_of place.variables a))
statement heads place form.Chain (e ∷ f ∷ []) = Some (stmt.Chain (event_of place e.word) (event_of place f.word))
statement heads place form.Draw (x ∷ lo ∷ hi ∷ []) = Some (stmt.Draw (variable place.variables x.word) (number_of place.variables lo) (number_of place.variables hi))
statement heads place f slots = None
