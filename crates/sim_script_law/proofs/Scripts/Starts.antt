-- How a script begins: in a state that it can be in, with places that hold its arguments.
use Rattle.std.proofs.Common.{◌≡◌, refl, ap, sym, subst, ℕ, zero, suc, ◌+◌, ◌-◌, ◌<◌, ◌≤◌, ℤ, pos, negsuc, Bool, true, false, List, [], ◌∷◌, ◌++◌, length, map, take, drop, replicate, Some, slice_get, arith, ◌⊎◌, inl, inr}
use Rattle.std.specs.Prelude.{IsTrue, ◌&&◌, ◌||◌, not, ◌==◌, nat_lt, slice_index_or, if◌then◌else◌}
use Rattle.std.specs.List.{list_all}
use Rattle.std.proofs.lemmas.Bool.{false≢true, and_parts, and_from, or_cases, or_left, or_right, cond-true, eq-eqb, ltb-true}
use Rattle.std.proofs.lemmas.List.{length-map, length-take, length-drop}
use Rattle.std.proofs.Math.Nat.{le-max_left, le-max_right, le-min}
use Rattle.std.proofs.lemmas.Option.{none-some, same_Some}
use Rattle.sim_types.specs.Scenarios.{ScenarioOf, facts_of}
use Rattle.sim_types.specs.declared.event.ProcId.{ProcId}
use Rattle.sim_types.specs.declared.setup.Class.{Class}
use Rattle.sim_types.specs.declared.setup.Class.TheVariants as class
use Rattle.sim_types.specs.declared.script.Kind.{Kind}
use Rattle.sim_machine.specs.Tellings.{Place, is_class}
use Rattle.sim_machine.specs.MayAsk.{is_zero}
use Rattle.sim_machine.specs.BodyLaw.{IsLawfulStart, holds_argument, may_start, may_begin}
use Rattle.sim_language.specs.WellFormed.{is_well_formed}
use Rattle.sim_script_model.specs.Scripts.{script_telling, classes_at, first_place, places_of}
use Rattle.sim_script_model.specs.Needs.{last_given_in, last_variable, most_params}
use Rattle.sim_script_law.specs.Walks.{Walks}
use Rattle.sim_machine.specs.Bodies.{start_of}
use Rattle.sim_script_law.specs.ScriptMembers.{script_body, script_facts}
use Rattle.sim_script_law.specs.SoundScripts.{begins_with_number, IsSoundScript}
use Rattle.sim_script_law.proofs.Scripts.KindsOfScenarios.{KindBegins, kind_begins}

-- ---- the facts of a scenario

-- the facts of a scenario that is well-formed
pub facts_are : (x : ScenarioOf) → IsTrue (is_well_formed x) → script_facts x ≡ facts_of x
facts_are x well_formed = cond-true (is_well_formed x) (facts_of x) (record { params = []; named = 0; resources = [] }) well_formed

-- this is the kind at this place
record IsKindAt (kinds : List Kind) (k : ℕ) (kind : Kind) : Type 0 where
  is : slice_get kinds k ≡ Some kind
  classes : classes_at kinds k ≡ kind.classes
  first : first_place kinds k ≡ kind.first
  params : slice_index_or (map (λ m. take m.params (drop 1 m.classes)) kinds) k [] ≡ take kind.params (drop 1 kind.classes)

kind_at : (kinds : List Kind) (k : ℕ) → k < length kinds → (kind : Kind) × IsKindAt kinds k kind
kind_at [] k lt = absurd (omega arith)
kind_at (m ∷ kinds) zero lt = (m, record { is = refl; classes = refl; first = refl; params = refl })
kind_at (m ∷ kinds) (suc k) lt = by (kind_at kinds k (omega arith))
  where
    by : (kind : Kind) × IsKindAt kinds k kind → (kind : Kind) × IsKindAt (m ∷ kinds) (suc k) kind
    by (kind, at) = (kind, record { is = at.is; classes = at.classes; first = at.first; params = at.params })

-- ---- a process that may begin

record MayBegin (x : ScenarioOf) (k : ℕ) (args : List ℤ) : Type 0 where
  well_formed : IsTrue (is_well_formed x)
  within : k < length x.kinds
  kind : Kind
  at : IsKindAt x.kinds k kind
  begins : KindBegins x kind
  starts : may_start (take kind.params (drop 1 kind.classes)) args ≡ true

may_begin_with : (x : ScenarioOf) (k : ℕ) (args : List ℤ) → IsTrue (may_begin (script_facts x) k args) → MayBegin x k args
may_begin_with x k args h = by (is_well_formed x) refl h
  where
    of_kind : IsTrue (is_well_formed x) → k < length x.kinds
        → may_start (slice_index_or (facts_of x).params k []) args ≡ true → (kind : Kind) × IsKindAt x.kinds k kind
        → MayBegin x k args
    of_kind well_formed within starts (kind, at) = record { well_formed = well_formed; within = within; kind = kind; at = at; begins = kind_begins x k kind well_formed at.is; starts = rw (← at.params) starts }

    by : (b : Bool) → is_well_formed x ≡ b
        → may_begin (if b then facts_of x else record { params = []; named = 0; resources = [] }) k args ≡ true
        → MayBegin x k args
    by false e h = absurd (omega (arith, ltb-true k 0 (and_parts (nat_lt k 0) _ h).0))
    by true e h =
        let parts = and_parts (nat_lt k (length (facts_of x).params)) _ h in
        let within : k < length x.kinds = omega (arith, ltb-true k _ parts.0, length-map x.kinds (λ m. take m.params (drop 1 m.classes))) in
        of_kind e within parts.1 (kind_at x.kinds k within)

-- it is of a kind
pub has_kind : (x : ScenarioOf) (k : ℕ) (args : List ℤ) → IsTrue (may_begin (script_facts x) k args) → k < length x.kinds
has_kind x k args h = (may_begin_with x k args h).within

as_many : (cs : List Class) (args : List ℤ) → may_start cs args ≡ true → length args ≡ length cs
as_many [] [] h = refl
as_many [] (v ∷ vs) h = absurd (false≢true h)
as_many (c ∷ cs) [] h = absurd (false≢true h)
as_many (c ∷ cs) (pos n ∷ vs) h = ap suc (as_many cs vs h)
as_many (c ∷ cs) (negsuc n ∷ vs) h = ap suc (as_many cs vs (and_parts (is_class c class.Number) _ h).1)

few_where : (x : ScenarioOf) (k : ℕ) (args : List ℤ) → MayBegin x k args → length args ≤ 63
few_where x k args may = omega (arith, as_many _ args may.starts, length-take may.kind.params (drop 1 may.kind.classes), length-drop 1 may.kind.classes, may.begins.long)

-- no kind has more parameters than the one with the most
params_few : (kinds : List Kind) (k : ℕ) (kind : Kind) → slice_get kinds k ≡ Some kind → kind.params ≤ most_params kinds
params_few [] k kind is = absurd (none-some kind is)
params_few (m ∷ kinds) zero kind is = let same : m ≡ kind = same_Some m kind is in rw (← same) (le-max_left m.params (most_params kinds))
params_few (m ∷ kinds) (suc k) kind is = omega (arith, params_few kinds k kind is, le-max_right m.params (most_params kinds))

few_of_kind : (x : ScenarioOf) (k : ℕ) (args : List ℤ) → MayBegin x k args → length args ≤ last_variable x
few_of_kind x k args may =
    let fewer : length args ≤ may.kind.params = omega (arith, as_many _ args may.starts, length-take may.kind.params (drop 1 may.kind.classes)) in
    let most = params_few x.kinds k may.kind may.at.is in
    le-min (few_where x k args may) (omega (arith, fewer, most, le-max_left (most_params x.kinds) (last_given_in x.code)))

-- its arguments fit into the variables that it keeps behind `val`
pub few_arguments : (x : ScenarioOf) (k : ℕ) (args : List ℤ) → IsTrue (may_begin (script_facts x) k args) → length args ≤ last_variable x
few_arguments x k args h = few_of_kind x k args (may_begin_with x k args h)

-- ---- its variables

zeros_start : (cs : List Class) → may_start cs (replicate (length cs) (pos 0)) ≡ true
zeros_start [] = refl
zeros_start (c ∷ cs) = zeros_start cs

-- arguments that may start the parameters may start all variables, with 0 in those behind them
filled_start : (n : ℕ) (cs : List Class) (args : List ℤ) (m : ℕ) → may_start (take n cs) args ≡ true
    → length args + m ≡ length cs → may_start cs (args ++ replicate m (pos 0)) ≡ true
filled_start n cs [] m h long = let many : m ≡ length cs = omega (arith, long) in rw many (zeros_start cs)
filled_start zero cs (v ∷ vs) m h long = absurd (false≢true h)
filled_start (suc n) [] (v ∷ vs) m h long = absurd (false≢true h)
filled_start (suc n) (c ∷ cs) (pos i ∷ vs) m h long = filled_start n cs vs m h (omega (arith, long))
filled_start (suc n) (c ∷ cs) (negsuc i ∷ vs) m h long =
    let parts = and_parts (is_class c class.Number) (may_start (take n cs) vs) h in
    and_from (is_class c class.Number) (may_start cs (vs ++ replicate m (pos 0))) parts.0 (filled_start n cs vs m parts.1 (omega (arith, long)))

variables_start : (classes : List Class) (n : ℕ) (args : List ℤ) → length classes ≡ 64 → length args ≤ 63
    → begins_with_number classes ≡ true → may_start (take n (drop 1 classes)) args ≡ true
    → may_start classes (pos 0 ∷ args ++ replicate (63 - length args) (pos 0)) ≡ true
variables_start [] n args long few val starts = absurd (false≢true val)
variables_start (c ∷ cs) n args long few val starts = filled_start n cs args (63 - length args) starts (omega (arith, long, few))

sound_where : (x : ScenarioOf) (k : ℕ) (args : List ℤ) (id : ProcId) → MayBegin x k args → IsSoundScript x (start_of script_body x k args id)
sound_where x k args id may =
    let classes = may.at.classes in
    let few = few_where x k args may in
    record {
      scenario = refl;
      well_formed = may.well_formed;
      kind = may.kind;
      kind_is = may.at.is;
      classes = classes;
      long = rw classes may.begins.long;
      val = rw classes may.begins.val;
      variables = rw classes (variables_start may.kind.classes may.kind.params args may.begins.long few may.begins.val may.starts);
      opens = [];
      few = omega arith;
      framed = tt;
      runs = λ going told running. subst (λ n. Walks x may.kind n []) (sym may.at.first) may.begins.walks;
      enters = λ entering. absurd (false≢true entering);
      breaks = λ breaking. absurd (false≢true breaking);
      asked = λ last is answered. absurd (none-some last is);
    }

pub start_sound : (x : ScenarioOf) (k : ℕ) (args : List ℤ) (id : ProcId) → IsTrue (may_begin (script_facts x) k args)
    → IsSoundScript x (start_of script_body x k args id)
start_sound x k args id h = sound_where x k args id (may_begin_with x k args h)

-- ---- its places

own_class : (c : Class) → is_class c c ≡ true
own_class class.Number = refl
own_class class.Event = refl
own_class class.Cond = refl
own_class class.Proc = refl
own_class class.Request = refl
own_class class.Move = refl

-- a place of a variable that is 0 holds event 0
zeros_hold_none : (holds : Place → Bool) (cs : List Class) (n : ℕ) → list_all (λ p. is_zero p.event || holds p) (places_of cs (replicate n (pos 0))) ≡ true
zeros_hold_none holds [] n = refl
zeros_hold_none holds (c ∷ cs) zero = refl
zeros_hold_none holds (c ∷ cs) (suc n) = by (is_class c class.Number) (zeros_hold_none holds cs n)
  where
    by : (b : Bool) → list_all (λ p. is_zero p.event || holds p) (places_of cs (replicate n (pos 0))) ≡ true
        → (((if b then 0 else 0) == 0) || holds (record { class = c; event = record { 0 = if b then 0 else 0 } })) && list_all (λ p. is_zero p.event || holds p)
        (places_of cs (replicate n (pos 0))) ≡ true
    by true ih = ih
    by false ih = ih

-- what passes one test passes a weaker one
list_all-weaker : {X : Type 0} (p q : X → Bool) → ((x : X) → p x ≡ true → q x ≡ true) → (xs : List X) → list_all p xs ≡ true → list_all q xs ≡ true
list_all-weaker p q imply [] h = refl
list_all-weaker p q imply (x ∷ xs) h =
    let parts : (p x ≡ true) × (list_all p xs ≡ true) = and_parts (p x) _ h in
    and_from (q x) _ (imply x parts.0) (list_all-weaker p q imply xs parts.1)

-- the test of a place at the start of a process
abbrev begins_well : List Class → List ℤ → Place → Bool
begins_well ps args x = is_zero x.event || holds_argument ps args x

-- the place of an argument holds it, or event 0 where it is a number
argument_held : (c : Class) (n : ℕ) (ps : List Class) (vs : List ℤ)
    → begins_well (c ∷ ps) (pos n ∷ vs)
    (record { class = c; event = record { 0 = if is_class c class.Number then 0 else n } }) ≡ true
argument_held c n ps vs = by (is_class c class.Number) (is_class c c) (own_class c)
  where
    by : (number same : Bool) → same ≡ true
        → (((if number then 0 else n) == 0) || (not number && same && ((if number then 0 else n) == n) || holds_argument ps vs (record { class = c; event = record { 0 = if number then 0 else n } })))
        ≡ true
    by true same s = refl
    by false same s = rw (s, eq-eqb n n refl) (or_right (n == 0) true refl)

-- what was passed over holds no other argument
later_held : (c : Class) (v : ℤ) (ps : List Class) (vs : List ℤ) (x : Place) → begins_well ps vs x ≡ true → begins_well (c ∷ ps) (v ∷ vs) x ≡ true
later_held c (pos n) ps vs x h = by (or_cases (is_zero x.event) _ h)
  where
    by : (is_zero x.event ≡ true) ⊎ (holds_argument ps vs x ≡ true) → begins_well (c ∷ ps) (pos n ∷ vs) x ≡ true
    by (inl none) = or_left (is_zero x.event) _ none
    by (inr holds) = or_right (is_zero x.event) _ (or_right (not (is_class c class.Number) && is_class c x.class && (x.event.0 == n)) _ holds)
later_held c (negsuc n) ps vs x h = h

-- each place holds event 0 or an argument
arguments_held : (n : ℕ) (cs : List Class) (args : List ℤ) (m : ℕ) → may_start (take n cs) args ≡ true
    → list_all (begins_well (take n cs) args) (places_of cs (args ++ replicate m (pos 0))) ≡ true
arguments_held n [] args m h = refl
arguments_held n (c ∷ cs) [] m h = zeros_hold_none (holds_argument (take n (c ∷ cs)) []) (c ∷ cs) m
arguments_held zero (c ∷ cs) (v ∷ vs) m h = absurd (false≢true h)
arguments_held (suc n) (c ∷ cs) (pos i ∷ vs) m h =
    and_from _ _ (argument_held c i (take n cs) vs)
    (list_all-weaker (begins_well (take n cs) vs) _ (later_held c (pos i) (take n cs) vs) (places_of cs (vs ++ replicate m (pos 0))) (arguments_held n cs vs m h))
arguments_held (suc n) (class.Number ∷ cs) (negsuc i ∷ vs) m h =
    list_all-weaker (begins_well (take n cs) vs) _ (later_held class.Number (negsuc i) (take n cs) vs) (places_of cs (vs ++ replicate m (pos 0))) (arguments_held n cs vs m h)
arguments_held (suc n) (_ ∷ cs) (negsuc i ∷ vs) m h = absurd (false≢true h)

-- behind a number the places are those of the arguments
places_begun : (classes : List Class) (n : ℕ) (args : List ℤ) (m : ℕ) → begins_with_number classes ≡ true
    → may_start (take n (drop 1 classes)) args ≡ true
    → list_all (λ x. is_zero x.event || holds_argument (take n (drop 1 classes)) args x)
    (places_of classes (pos 0 ∷ args ++ replicate m (pos 0))) ≡ true
places_begun (class.Number ∷ cs) n args m val starts = arguments_held n cs args m starts
places_begun [] n args m val starts = refl
places_begun (_ ∷ cs) n args m val starts = absurd (false≢true val)

lawful_where : (x : ScenarioOf) (k : ℕ) (args : List ℤ) (id : ProcId) → MayBegin x k args
    → IsLawfulStart (facts_of x) script_telling k args id (start_of script_body x k args id)
lawful_where x k args id may = record { own = refl; places = rw (may.at.classes, may.at.params) (places_begun may.kind.classes may.kind.params args (63 - length args) may.begins.val may.starts); scopes = refl; last = refl }

pub start_lawful : (x : ScenarioOf) (k : ℕ) (args : List ℤ) (id : ProcId) → IsTrue (may_begin (script_facts x) k args)
    → IsLawfulStart (script_facts x) script_telling k args id (start_of script_body x k args id)
start_lawful x k args id h =
    let may = may_begin_with x k args h in
    rw (facts_are x may.well_formed) (lawful_where x k args id may)
