-- A statement that fits its process kind gives the 64 variables alone a value, and gives small numbers of events.
use Rattle.std.proofs.Common.{◌≡◌, ℕ, zero, suc, ◌^◌, ◌≤◌, ℤ, pos, negsuc, true, false, List, [], ◌∷◌, refl, sym, ◌∙◌, arith, Option, Some, None}
use Rattle.std.specs.Prelude.{◌&&◌, nat_lt, nat_le, int_le, slice_index_or}
use Rattle.std.specs.List.{list_all}
use Rattle.std.specs.Cmp.Lexicographic.{pointwise}
use Rattle.std.proofs.Math.Nat.{max-le}
use Rattle.std.proofs.lemmas.Bool.{false≢true, true≢false, and_parts, and_from, leb-true, ltb-true, le-leb, lt-ltb}
use Rattle.sim_types.specs.Scenarios.{ScenarioOf}
use Rattle.sim_types.specs.declared.setup.Class.{Class}
use Rattle.sim_types.specs.declared.setup.Class.TheVariants as class
use Rattle.sim_types.specs.declared.script.Kind.{Kind}
use Rattle.sim_types.specs.declared.script.Ref.TheVariants as ref
use Rattle.sim_types.specs.declared.script.SpawnArg.{SpawnArg}
use Rattle.sim_types.specs.declared.script.SpawnArg.TheVariants as spawn
use Rattle.sim_types.specs.declared.script.Stmt.{Stmt}
use Rattle.sim_types.specs.declared.script.Stmt.TheVariants as stmt
use Rattle.sim_machine.specs.Tellings.{is_class}
use Rattle.sim_machine.specs.BodyLaw.{may_start}
use Rattle.sim_language.specs.FittingStatements.{classes_at, class_of, gives, gives_maybe, number_fits, argument_fits, arguments_fit, statement_fits}
use Rattle.sim_script_model.specs.Scripts.{Script}
use Rattle.sim_script_model.specs.Polls.{given_by}
use Rattle.sim_script_model.specs.Needs.{or_val, last_given}
use Rattle.sim_script_law.specs.Ready.{event_is_small, events_are_small}
use Rattle.sim_script_law.proofs.Turns.Answered.{class_given, given_fits}
use Rattle.sim_script_law.proofs.Scripts.Variables.{same_class-is, class_of-is, may_start-rest}

-- ---- arguments

-- arguments that fit are those of a kind with such parameters
parameters : (x : ScenarioOf) (kind : Kind) (k : ℕ) (args : List SpawnArg) → arguments_fit x kind k args ≡ true
    → (cs : List Class) × (pointwise (argument_fits x kind) cs args ≡ true)
parameters x kind k args h = by (classes_at x k) refl
  where
    by : (o : Option (List Class)) → classes_at x k ≡ o → (cs : List Class) × (pointwise (argument_fits x kind) cs args ≡ true)
    by None is = absurd (false≢true (rw is at h))
    by (Some cs) is = (cs, rw is at h)

-- ---- variables

given : (kind : Kind) (v : ℕ) (c : Class) → gives kind v c ≡ true → v ≤ 63
given kind v c h = omega (arith, ltb-true v 64 (and_parts (nat_le 1 v) (nat_lt v 64) (and_parts (nat_le 1 v && nat_lt v 64) _ h).0).1)

-- the variable that a statement gives what it makes, counts or draws
given_few : (x : ScenarioOf) (kind : Kind) (s : Stmt) → statement_fits x kind s ≡ true → or_val (given_by s) ≤ 63
given_few x kind s h = by (given_by s) refl
  where
    by : (o : Option ℕ) → given_by s ≡ o → or_val o ≤ 63
    by None is = omega arith
    by (Some v) is = given kind v (class_given s) (given_fits x kind s v is h)

pub fits_few : (x : ScenarioOf) (kind : Kind) (s : Stmt) → statement_fits x kind s ≡ true → last_given s ≤ 63
fits_few x kind (stmt.Let to op a b) h = given kind to class.Number (and_parts (gives kind to class.Number) (number_fits kind a) (and_parts (gives kind to class.Number && number_fits kind a) (number_fits kind b) h).0).0
fits_few x kind (stmt.Catch thrown value past) h =
    let parts = and_parts (gives kind thrown class.Number) (gives kind value class.Number) h in
    max-le (given kind thrown class.Number parts.0) (given kind value class.Number parts.1)
fits_few x kind s h = given_few x kind s h

-- ---- events

-- a variable that is no number holds no negative one
not_negative : (cs : List Class) (vs : List ℤ) (v : ℕ) → may_start cs vs ≡ true
    → is_class (slice_index_or cs v class.Number) class.Number ≡ false → int_le (pos 0) (slice_index_or vs v (pos 0)) ≡ true
not_negative [] vs v may other = absurd (true≢false other)
not_negative (c ∷ cs) [] v may other = absurd (false≢true may)
not_negative (c ∷ cs) (pos n ∷ vs) zero may other = le-leb 0 n (omega arith)
not_negative (c ∷ cs) (negsuc n ∷ vs) zero may other = absurd (false≢true (sym other ∙ (and_parts (is_class c class.Number) _ may).0))
not_negative (c ∷ cs) (w ∷ vs) (suc v) may other = not_negative cs vs v (may_start-rest c cs w vs may) other

event_variable : (kind : Kind) (b : Script) (v : ℕ) (c : Class) → is_class c class.Number ≡ false → b.classes ≡ kind.classes
    → may_start b.classes b.variables ≡ true → class_of kind v ≡ c → event_is_small b (spawn.Ref (ref.Var v)) ≡ true
event_variable kind b v c other same may is =
    let here : slice_index_or b.classes v class.Number ≡ c = rw same (sym (class_of-is kind v) ∙ is) in
    not_negative b.classes b.variables v may (rw here other)

named_event : (b : Script) (n most : ℕ) → nat_le n most ≡ true → most ≤ 1024 → event_is_small b (spawn.Ref (ref.Named n)) ≡ true
named_event b n most few many = lt-ltb n (2 ^ 63) (omega (arith, leb-true n most few, many))

small : (x : ScenarioOf) (kind : Kind) (b : Script) (c : Class) (a : SpawnArg) → b.classes ≡ kind.classes
    → may_start b.classes b.variables ≡ true → x.setup.events ≤ 1024 → argument_fits x kind c a ≡ true
    → event_is_small b a ≡ true
small x kind b c (spawn.Num n) same may few h = refl
small x kind b class.Event (spawn.Ref (ref.Var v)) same may few h = event_variable kind b v class.Event refl same may (sym (same_class-is (class_of kind v) class.Event (and_parts (nat_lt v 64) _ h).1))
small x kind b class.Event (spawn.Ref (ref.Named n)) same may few h = named_event b n x.setup.events (and_parts (nat_le 1 n) _ h).1 few
small x kind b class.Proc (spawn.Ref (ref.Var v)) same may few h = event_variable kind b v class.Proc refl same may (sym (same_class-is (class_of kind v) class.Proc (and_parts (nat_lt v 64) _ h).1))
small x kind b c (spawn.Ref ref.Me) same may few h = refl
small x kind b _ _ same may few h = absurd (false≢true h)

all_small : (x : ScenarioOf) (kind : Kind) (b : Script) (cs : List Class) (args : List SpawnArg) → b.classes ≡ kind.classes
    → may_start b.classes b.variables ≡ true → x.setup.events ≤ 1024 → pointwise (argument_fits x kind) cs args ≡ true
    → list_all (event_is_small b) args ≡ true
all_small x kind b [] [] same may few h = refl
all_small x kind b [] (a ∷ args) same may few h = absurd (false≢true h)
all_small x kind b (c ∷ cs) [] same may few h = absurd (false≢true h)
all_small x kind b (c ∷ cs) (a ∷ args) same may few h =
    let parts = and_parts (argument_fits x kind c a) (pointwise (argument_fits x kind) cs args) h in
    and_from (event_is_small b a) _ (small x kind b c a same may few parts.0) (all_small x kind b cs args same may few parts.1)

pub fits_small : (x : ScenarioOf) (kind : Kind) (b : Script) (s : Stmt) → b.classes ≡ kind.classes
    → may_start b.classes b.variables ≡ true → x.setup.events ≤ 1024 → statement_fits x kind s ≡ true
    → events_are_small b s ≡ true
fits_small x kind b (stmt.Spawn to k args) same may few h =
    let fit = parameters x kind k args (and_parts (gives_maybe kind to class.Proc) _ h).1 in
    all_small x kind b fit.0 args same may few fit.1
fits_small x kind b _ same may few h = refl
