-- Statements that fit a process kind: each variable has the class that its place wants, each named thing is declared.
--     statement_fits s k statement
use Rattle.std.specs.Prelude.{ℕ, zero, Bool, true, false, ◌&&◌, nat_lt, nat_le, List, [], ◌∷◌, length, take, drop, pos, Option, Some, None, option_map, unwrap_or, slice_get}
use Rattle.std.specs.List.{list_all}
use Rattle.std.specs.Cmp.Lexicographic.{pointwise}
use Rattle.sim_types.specs.Setups.{is_class}
use Rattle.sim_types.specs.Scenarios.{ScenarioOf, parameter_classes}
use Rattle.sim_types.specs.declared.setup.Class.{Class}
use Rattle.sim_types.specs.declared.setup.Class.TheVariants as class
use Rattle.sim_types.specs.declared.setup.Resource.{Resource}
use Rattle.sim_types.specs.declared.setup.ResourceKind.{ResourceKind}
use Rattle.sim_types.specs.declared.setup.ResourceKind.TheVariants as resource
use Rattle.sim_types.specs.declared.script.Kind.{Kind}
use Rattle.sim_types.specs.declared.script.Num.{Num}
use Rattle.sim_types.specs.declared.script.Num.TheVariants as num
use Rattle.sim_types.specs.declared.script.Ref.{Ref}
use Rattle.sim_types.specs.declared.script.Ref.TheVariants as ref
use Rattle.sim_types.specs.declared.script.SpawnArg.{SpawnArg}
use Rattle.sim_types.specs.declared.script.SpawnArg.TheVariants as spawn
use Rattle.sim_types.specs.declared.script.Stmt.{Stmt}
use Rattle.sim_types.specs.declared.script.Stmt.TheVariants as stmt
use Rattle.sim_language.specs.declared.shape.Reference.{Reference}
use Rattle.sim_language.specs.declared.shape.Reference.TheVariants.{AnyEvent, PlainEvent, Chained, AProcess}
use Rattle.sim_language.specs.Sayings.{takes_me}
use Rattle.sim_language.specs.VariableFaults.{takes_class, takes_named}

abbrev pub classes_at : ScenarioOf → ℕ → Option (List Class)
classes_at s kind = option_map parameter_classes (slice_get s.kinds kind)

-- ---- variables

abbrev pub class_of : Kind → ℕ → Class
class_of k v = unwrap_or (slice_get k.classes v) class.Number

-- a variable that is given; `val` never is
abbrev pub gives : Kind → ℕ → Class → Bool
gives k v c = nat_le 1 v && nat_lt v 64 && is_class c (class_of k v)

abbrev pub gives_maybe : Kind → Option ℕ → Class → Bool
gives_maybe k None c = true
gives_maybe k (Some v) c = gives k v c

-- a variable that is used
abbrev pub uses : Kind → ℕ → Class → Bool
uses k v c = nat_lt v 64 && is_class c (class_of k v)

abbrev pub number_fits : Kind → Num → Bool
number_fits k (num.Var v) = uses k v class.Number
number_fits k n = true

abbrev pub event_fits : ScenarioOf → Kind → Reference → Ref → Bool
event_fits s k wanted (ref.Var v) = nat_lt v 64 && takes_class wanted (class_of k v)
event_fits s k wanted (ref.Named e) = takes_named wanted && nat_le 1 e && nat_le e s.setup.events
event_fits s k wanted ref.Me = takes_me wanted

-- ---- arguments and members

abbrev pub argument_fits : ScenarioOf → Kind → Class → SpawnArg → Bool
argument_fits s k class.Number (spawn.Num n) = number_fits k n
argument_fits s k class.Event (spawn.Ref r) = event_fits s k PlainEvent r
argument_fits s k class.Proc (spawn.Ref r) = event_fits s k AProcess r
argument_fits s k c a = false

abbrev pub arguments_fit : ScenarioOf → Kind → ℕ → List SpawnArg → Bool
arguments_fit s k kind args = by (classes_at s kind)
  where
    by : Option (List Class) → Bool
    by None = false
    by (Some classes) = pointwise (argument_fits s k) classes args

abbrev pub members_fit : ScenarioOf → Kind → List Ref → Bool
members_fit s k es = nat_le (length es) 16 && list_all (event_fits s k AnyEvent) es

-- ---- resources: the parts that a kind of resource has not are 0, and its requests preempt

abbrev pub is_nothing : Num → Bool
is_nothing (num.Lit (pos zero)) = true
is_nothing n = false

abbrev pub request_fits : Num → Bool → Option Resource → Bool
request_fits p preempt None = false
request_fits p preempt (Some r) = by r.kind
  where
    by : ResourceKind → Bool
    by resource.Plain = is_nothing p && preempt
    by resource.Priority = preempt
    by resource.Preemptive = true
    by kind = false

abbrev pub put_fits : Num → Option Resource → Bool
put_fits p None = false
put_fits p (Some r) = by r.kind
  where
    by : ResourceKind → Bool
    by resource.Container = is_nothing p
    by resource.Store = is_nothing p
    by resource.FStore = is_nothing p
    by resource.PStore = true
    by kind = false

abbrev pub get_fits : Num → Num → Option Resource → Bool
get_fits lo hi None = false
get_fits lo hi (Some r) = by r.kind
  where
    by : ResourceKind → Bool
    by resource.Container = is_nothing hi
    by resource.Store = is_nothing lo && is_nothing hi
    by resource.PStore = is_nothing lo && is_nothing hi
    by resource.FStore = true
    by kind = false

abbrev pub resource_at : ScenarioOf → ℕ → Option Resource
resource_at s r = slice_get s.setup.resources r

-- ---- statements

abbrev pub statement_fits : ScenarioOf → Kind → Stmt → Bool
statement_fits s k (stmt.Let to op a b) = gives k to class.Number && number_fits k a && number_fits k b
statement_fits s k (stmt.Count to res) = gives k to class.Number && nat_lt res (length s.setup.resources)
statement_fits s k (stmt.Sleep delay) = number_fits k delay
statement_fits s k (stmt.Timer to delay value) = gives k to class.Event && number_fits k delay && number_fits k value
statement_fits s k (stmt.Fresh to) = gives k to class.Event
statement_fits s k (stmt.Wait on) = event_fits s k AnyEvent on
statement_fits s k (stmt.Succeed on value) = event_fits s k PlainEvent on && number_fits k value
statement_fits s k (stmt.Fail on value) = event_fits s k PlainEvent on && number_fits k value
statement_fits s k (stmt.All to of) = gives k to class.Cond && members_fit s k of
statement_fits s k (stmt.Any to of) = gives k to class.Cond && members_fit s k of
statement_fits s k (stmt.Has to cond on) = gives k to class.Number && uses k cond class.Cond && event_fits s k AnyEvent on
statement_fits s k (stmt.Spawn to kind args) = gives_maybe k to class.Proc && arguments_fit s k kind args
statement_fits s k (stmt.Interrupt who value) = event_fits s k AProcess who && number_fits k value
statement_fits s k (stmt.Drop who value) = event_fits s k AProcess who && number_fits k value
statement_fits s k (stmt.Raise code) = number_fits k code
statement_fits s k (stmt.Finish value) = number_fits k value
statement_fits s k (stmt.With to res priority preempt) = gives k to class.Request && number_fits k priority && request_fits priority preempt (resource_at s res)
statement_fits s k (stmt.Release on) = uses k on class.Request
statement_fits s k (stmt.Put to res a p) = gives_maybe k to class.Move && number_fits k a && number_fits k p && put_fits p (resource_at s res)
statement_fits s k (stmt.Get to res lo hi) = gives_maybe k to class.Move && number_fits k lo && number_fits k hi && get_fits lo hi (resource_at s res)
statement_fits s k (stmt.Cancel on) = uses k on class.Move
statement_fits s k (stmt.Repeat times past) = number_fits k times
statement_fits s k (stmt.If test other) = number_fits k test
statement_fits s k (stmt.Catch kind value past) = gives k kind class.Number && gives k value class.Number
statement_fits s k (stmt.Log value) = number_fits k value
statement_fits s k (stmt.Draw to lo hi) = gives k to class.Number && number_fits k lo && number_fits k hi
statement_fits s k (stmt.Chain on to) = event_fits s k Chained on && event_fits s k PlainEvent to
statement_fits s k other = true

-- the statements from a place on, up to the end of the process
abbrev pub up_to_end : List Stmt → List Stmt
up_to_end [] = []
up_to_end (stmt.EndProcess ∷ code) = stmt.EndProcess ∷ []
up_to_end (x ∷ code) = x ∷ up_to_end code

abbrev pub script_fits : ScenarioOf → Kind → Bool
script_fits s k = list_all (statement_fits s k) (up_to_end (drop k.first s.code))
