-- The answer of an operation that a statement asks for goes into a variable of its class.
use Rattle.std.proofs.Common.{◌≡◌, ℕ, ◌<◌, ◌≤◌, ℤ, Bool, true, false, refl, ◌∙◌, sym, Option, Some}
use Rattle.std.specs.Prelude.{◌&&◌, nat_lt, nat_le}
use Rattle.std.proofs.lemmas.Bool.{false≢true, and_parts, leb-true, ltb-true}
use Rattle.std.proofs.lemmas.Option.{none-some, same_Some}
use Rattle.sim_types.specs.Scenarios.{ScenarioOf}
use Rattle.sim_types.specs.declared.event.EventId.{EventId}
use Rattle.sim_types.specs.declared.event.Signal.TheVariants as signal
use Rattle.sim_types.specs.declared.op.Op.{Op}
use Rattle.sim_types.specs.declared.op.Op.TheVariants as op
use Rattle.sim_types.specs.declared.setup.Class.{Class}
use Rattle.sim_types.specs.declared.setup.Class.TheVariants as class
use Rattle.sim_types.specs.declared.script.Kind.{Kind}
use Rattle.sim_types.specs.declared.script.Stmt.{Stmt}
use Rattle.sim_types.specs.declared.script.Stmt.TheVariants as stmt
use Rattle.sim_machine.specs.Tellings.{is_class}
use Rattle.sim_machine.specs.MayFollow.{may_follow}
use Rattle.sim_machine.specs.BodyLaw.{makes_class}
use Rattle.sim_language.specs.FittingStatements.{class_of, gives, gives_maybe, statement_fits}
use Rattle.sim_script_model.specs.Polls.{given_by}
use Rattle.sim_script_law.specs.SoundScripts.{is_asked_by}
use Rattle.sim_script_law.proofs.Scripts.Variables.{same_class-is, made_not_number}

-- the variable may be given, and has this class
record IsGiven (kind : Kind) (v : ℕ) (c : Class) : Type 0 where
  behind_val : 1 ≤ v
  within : v < 64
  class_is : class_of kind v ≡ c

is_given : (kind : Kind) (v : ℕ) (c : Class) → gives kind v c ≡ true → IsGiven kind v c
is_given kind v c h =
    let parts = and_parts (nat_le 1 v && nat_lt v 64) (is_class c (class_of kind v)) h in
    let range = and_parts (nat_le 1 v) (nat_lt v 64) parts.0 in
    record { behind_val = leb-true 1 v range.0; within = ltb-true v 64 range.1; class_is = same_class-is c (class_of kind v) parts.1 }

-- the class of what a statement makes, counts or draws
abbrev pub class_given : Stmt → Class
class_given (stmt.Timer to delay value) = class.Event
class_given (stmt.Fresh to) = class.Event
class_given (stmt.All to of) = class.Cond
class_given (stmt.Any to of) = class.Cond
class_given (stmt.Spawn to kind args) = class.Proc
class_given (stmt.With to res priority preempt) = class.Request
class_given (stmt.Put to res a p) = class.Move
class_given (stmt.Get to res lo hi) = class.Move
class_given other = class.Number

-- the first of two tests that both hold
first : (x y : Bool) → (x && y) ≡ true → x ≡ true
first x y h = (and_parts x y h).0

-- the statement's own variable is given
gives_own : (kind : Kind) (v to : ℕ) (c : Class) → Some v ≡ Some to → gives kind v c ≡ true → gives kind to c ≡ true
gives_own kind v to c is h = let same : v ≡ to = same_Some v to is in rw (sym same) h

-- where no variable is named, or one that fits
gives_named : (kind : Kind) (o : Option ℕ) (to : ℕ) (c : Class) → o ≡ Some to → gives_maybe kind o c ≡ true → gives kind to c ≡ true
gives_named kind o to c is h = rw is at h

pub given_fits : (x : ScenarioOf) (kind : Kind) (s : Stmt) (to : ℕ) → given_by s ≡ Some to → statement_fits x kind s ≡ true → gives kind to (class_given s) ≡ true
given_fits x kind (stmt.Count v res) to is h = gives_own kind v to class.Number is (first (gives kind v class.Number) _ h)
given_fits x kind (stmt.Timer v delay value) to is h = gives_own kind v to class.Event is (first (gives kind v class.Event) _ (first _ _ h))
given_fits x kind (stmt.Fresh v) to is h = gives_own kind v to class.Event is h
given_fits x kind (stmt.All v of) to is h = gives_own kind v to class.Cond is (first (gives kind v class.Cond) _ h)
given_fits x kind (stmt.Any v of) to is h = gives_own kind v to class.Cond is (first (gives kind v class.Cond) _ h)
given_fits x kind (stmt.Has v cond on) to is h = gives_own kind v to class.Number is (first (gives kind v class.Number) _ (first _ _ h))
given_fits x kind (stmt.Spawn o k args) to is h = gives_named kind o to class.Proc is (first (gives_maybe kind o class.Proc) _ h)
given_fits x kind (stmt.With v res priority preempt) to is h = gives_own kind v to class.Request is (first (gives kind v class.Request) _ (first _ _ h))
given_fits x kind (stmt.Put o res a p) to is h = gives_named kind o to class.Move is (first (gives_maybe kind o class.Move) _ (first _ _ (first _ _ h)))
given_fits x kind (stmt.Get o res lo hi) to is h = gives_named kind o to class.Move is (first (gives_maybe kind o class.Move) _ (first _ _ (first _ _ h)))
given_fits x kind (stmt.Draw v lo hi) to is h = gives_own kind v to class.Number is (first (gives kind v class.Number) _ (first _ _ h))
given_fits x kind _ to is h = absurd (none-some to is)

-- the operation may be answered by an event of this class, or by a number where the class is that of numbers
record Answers (asked : Op) (c : Class) : Type 0 where
  made : (e : EventId) → may_follow asked (signal.Made e) ≡ true → makes_class (Some asked) c ≡ true
  number : (n : ℤ) → may_follow asked (signal.Number n) ≡ true → c ≡ class.Number

answers : (s : Stmt) (asked : Op) → is_asked_by s asked ≡ true → Answers asked (class_given s)
answers (stmt.Timer to delay value) (op.Timeout d v) h = record { made = λ e _. refl; number = λ n never. absurd (false≢true never) }
answers (stmt.Fresh to) op.NewEvent h = record { made = λ e _. refl; number = λ n never. absurd (false≢true never) }
answers (stmt.Spawn to kind args) (op.Spawn k vs) h = record { made = λ e _. refl; number = λ n never. absurd (false≢true never) }
answers (stmt.All to of) (op.AllOf members) h = record { made = λ e _. refl; number = λ n never. absurd (false≢true never) }
answers (stmt.Any to of) (op.AnyOf members) h = record { made = λ e _. refl; number = λ n never. absurd (false≢true never) }
answers (stmt.With to res priority preempt) (op.Enter r p q) h = record { made = λ e _. refl; number = λ n never. absurd (false≢true never) }
answers (stmt.Put to res a p) (op.Put r b q) h = record { made = λ e _. refl; number = λ n never. absurd (false≢true never) }
answers (stmt.Get to res lo hi) (op.Get r b q) h = record { made = λ e _. refl; number = λ n never. absurd (false≢true never) }
answers (stmt.Count to res) (op.Count r) h = record { made = λ e never. absurd (false≢true never); number = λ n _. refl }
answers (stmt.Has to cond on) (op.Has c e) h = record { made = λ e never. absurd (false≢true never); number = λ n _. refl }
answers (stmt.Draw to lo hi) (op.Draw l g) h = record { made = λ e never. absurd (false≢true never); number = λ n _. refl }
answers _ _ h = absurd (false≢true h)

-- the variable that a statement gives may be given; where an event may answer what it asked for, the variable's class is
-- that of such events, which is not that of numbers, and where a number may, it is that of numbers
pub record GivesClass (kind : Kind) (asked : Op) (to : ℕ) : Type 0 where
  pub behind_val : 1 ≤ to
  pub within : to < 64
  pub made : (e : EventId) → may_follow asked (signal.Made e) ≡ true → makes_class (Some asked) (class_of kind to) ≡ true
  pub not_number : (e : EventId) → may_follow asked (signal.Made e) ≡ true → is_class (class_of kind to) class.Number ≡ false
  pub number : (n : ℤ) → may_follow asked (signal.Number n) ≡ true → class_of kind to ≡ class.Number

pub gives_class : (x : ScenarioOf) (kind : Kind) (s : Stmt) (asked : Op) (to : ℕ) → given_by s ≡ Some to
    → is_asked_by s asked ≡ true → statement_fits x kind s ≡ true → GivesClass kind asked to
gives_class x kind s asked to is by fits =
    let given = is_given kind to (class_given s) (given_fits x kind s to is fits) in
    let told = answers s asked by in
    let made : (e : EventId) → may_follow asked (signal.Made e) ≡ true → makes_class (Some asked) (class_of kind to) ≡ true = λ e may. rw given.class_is (told.made e may) in
    record {
      behind_val = given.behind_val;
      within = given.within;
      made = made;
      not_number = λ e may. made_not_number (Some asked) (class_of kind to) (made e may);
      number = λ n may. given.class_is ∙ told.number n may;
    }
