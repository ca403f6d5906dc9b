-- A statement that fits its process kind asks only for what the process may ask for.
use Rattle.std.proofs.Common.{◌≡◌, ℕ, zero, suc, ◌<◌, ℤ, pos, Bool, true, false, List, [], ◌∷◌, length, map, take, drop, refl, sym, ◌∙◌, arith, Option, Some, None}
use Rattle.std.specs.Prelude.{◌&&◌, ◌||◌, ◌==◌, not, nat_lt, nat_le, nat_abs, slice_get, slice_index_or}
use Rattle.std.specs.List.{list_any, list_all}
use Rattle.std.specs.Cmp.Lexicographic.{pointwise}
use Rattle.std.proofs.lemmas.Bool.{false≢true, and_parts, and_from, or_left, or_right, eq-eqb, leb-true, lt-ltb, ltb-true}
use Rattle.std.proofs.lemmas.Option.{none-some, same_Some}
use Rattle.std.proofs.lemmas.List.{length-map}
use Rattle.sim_types.specs.Scenarios.{ScenarioOf, parameter_classes, facts_of}
use Rattle.sim_types.specs.declared.event.EventId.{EventId}
use Rattle.sim_types.specs.declared.setup.Class.{Class}
use Rattle.sim_types.specs.declared.setup.Class.TheVariants as class
use Rattle.sim_types.specs.declared.setup.Resource.{Resource}
use Rattle.sim_types.specs.declared.setup.ResourceKind.{ResourceKind}
use Rattle.sim_types.specs.declared.setup.ResourceKind.TheVariants as resource
use Rattle.sim_types.specs.declared.script.Kind.{Kind}
use Rattle.sim_types.specs.declared.script.Num.{Num}
use Rattle.sim_types.specs.declared.script.Ref.{Ref}
use Rattle.sim_types.specs.declared.script.Ref.TheVariants as ref
use Rattle.sim_types.specs.declared.script.SpawnArg.{SpawnArg}
use Rattle.sim_types.specs.declared.script.SpawnArg.TheVariants as spawn
use Rattle.sim_types.specs.declared.script.Stmt.{Stmt}
use Rattle.sim_types.specs.declared.script.Stmt.TheVariants as stmt
use Rattle.sim_machine.specs.Events.{is_same}
use Rattle.sim_machine.specs.Tellings.{is_class}
use Rattle.sim_machine.specs.MayAsk as asks
use Rattle.sim_machine.specs.MayAsk.{is_zero, is_named, is_in_place, is_known, is_known_event, is_known_process, takes_requests, has_resource, may_ask}
use Rattle.sim_machine.specs.BodyLaw.{may_start}
use Rattle.sim_language.specs.declared.shape.Reference.TheVariants.{AnyEvent, PlainEvent, Chained, AProcess}
use Rattle.sim_language.specs.VariableFaults.{takes_class}
use Rattle.sim_language.specs.FittingStatements as fits
use Rattle.sim_language.specs.FittingStatements.{class_of, uses, number_fits, gives, gives_maybe, event_fits, members_fit, request_fits, put_fits, get_fits, resource_at, statement_fits}
use Rattle.sim_script_model.specs.Scripts.{Script, event_in, event_of_ref, process_of_ref, value_of_num, value_of_arg, places_of}
use Rattle.sim_script_model.specs.Polls.{do_stmt, put_op, get_op}
use Rattle.sim_script_law.proofs.Scripts.Variables.{same_class-is, class_of-is, own_class, not_number, may_start-rest}

-- ---- variables

-- a variable whose class passes a test that numbers fail stands in a place of such a class
in_place : (test : Class → Bool) → test class.Number ≡ false → (cs : List Class) (vs : List ℤ) (v : ℕ)
    → may_start cs vs ≡ true → test (slice_index_or cs v class.Number) ≡ true
    → list_any (λ x. test x.class && is_same x.event (record { 0 = nat_abs (slice_index_or vs v (pos 0)) }))
    (places_of cs vs) ≡ true
in_place test fails [] vs v may h = absurd (false≢true (sym fails ∙ h))
in_place test fails (c ∷ cs) [] v may h = absurd (false≢true may)
in_place test fails (c ∷ cs) (w ∷ vs) zero may h = rw (h, not_number test fails c h, eq-eqb (nat_abs w) (nat_abs w) refl) refl
in_place test fails (c ∷ cs) (w ∷ vs) (suc v) may h = or_right _ _ (in_place test fails cs vs v (may_start-rest c cs w vs may) h)

variable_in_place : (test : Class → Bool) → test class.Number ≡ false → (kind : Kind) (b : Script) (v : ℕ)
    → b.classes ≡ kind.classes → may_start b.classes b.variables ≡ true → test (class_of kind v) ≡ true
    → list_any (λ x. test x.class && is_same x.event (event_in b v)) (places_of b.classes b.variables) ≡ true
variable_in_place test fails kind b v same may h =
    let is : class_of kind v ≡ slice_index_or b.classes v class.Number = rw same (class_of-is kind v) in
    in_place test fails b.classes b.variables v may (rw (sym is) h)

class_in_place : (c : Class) → is_class class.Number c ≡ false → (kind : Kind) (b : Script) (v : ℕ)
    → b.classes ≡ kind.classes → may_start b.classes b.variables ≡ true → class_of kind v ≡ c
    → is_in_place (places_of b.classes b.variables) c (event_in b v) ≡ true
class_in_place c fails kind b v same may is = variable_in_place (λ d. is_class d c) fails kind b v same may (rw is (own_class c))

class_used : (kind : Kind) (v : ℕ) (c : Class) → uses kind v c ≡ true → class_of kind v ≡ c
class_used kind v c h = same_class-is c (class_of kind v) (and_parts (nat_lt v 64) _ h).1

no_number : (c : Class) → not (is_class c class.Number) ≡ true → not (is_class c class.Number) ≡ true
no_number class.Number h = h
no_number _ h = refl

-- ---- references

named_event : (x : ScenarioOf) (e : ℕ) → nat_le 1 e ≡ true → nat_le e x.setup.events ≡ true → is_named (facts_of x) (record { 0 = e }) ≡ true
named_event x e some few = and_from (nat_lt 0 e) _ (lt-ltb 0 e (omega (arith, leb-true 1 e some))) few

any_event : (x : ScenarioOf) (kind : Kind) (b : Script) (r : Ref) → b.classes ≡ kind.classes
    → may_start b.classes b.variables ≡ true → event_fits x kind AnyEvent r ≡ true
    → is_known (facts_of x) b.me (places_of b.classes b.variables) (event_of_ref b r) ≡ true
any_event x kind b (ref.Var v) same may h =
    or_right _ _ (variable_in_place (λ c. not (is_class c class.Number)) refl kind b v same may (no_number (class_of kind v) (and_parts (nat_lt v 64) _ h).1))
any_event x kind b (ref.Named e) same may h =
    let parts = and_parts (nat_le 1 e) (nat_le e x.setup.events) h in
    or_left _ _ (or_left _ _ (or_right _ _ (named_event x e parts.0 parts.1)))
any_event x kind b ref.Me same may h = or_left _ _ (or_right _ _ (eq-eqb b.me.0 b.me.0 refl))

plain_event : (x : ScenarioOf) (kind : Kind) (b : Script) (r : Ref) → b.classes ≡ kind.classes
    → may_start b.classes b.variables ≡ true → event_fits x kind PlainEvent r ≡ true
    → is_known_event (facts_of x) (places_of b.classes b.variables) (event_of_ref b r) ≡ true
plain_event x kind b (ref.Var v) same may h =
    or_right _ _ (class_in_place class.Event refl kind b v same may (sym (same_class-is (class_of kind v) class.Event (and_parts (nat_lt v 64) _ h).1)))
plain_event x kind b (ref.Named e) same may h =
    let parts = and_parts (nat_le 1 e) (nat_le e x.setup.events) h in
    or_left _ _ (or_right _ _ (named_event x e parts.0 parts.1))
plain_event x kind b ref.Me same may h = absurd (false≢true h)

a_process : (x : ScenarioOf) (kind : Kind) (b : Script) (r : Ref) → b.classes ≡ kind.classes
    → may_start b.classes b.variables ≡ true → event_fits x kind AProcess r ≡ true
    → is_known_process b.me (places_of b.classes b.variables) (process_of_ref b r).0 ≡ true
a_process x kind b (ref.Var v) same may h =
    or_right _ _ (class_in_place class.Proc refl kind b v same may (sym (same_class-is (class_of kind v) class.Proc (and_parts (nat_lt v 64) _ h).1)))
a_process x kind b (ref.Named e) same may h = absurd (false≢true h)
a_process x kind b ref.Me same may h = or_left _ _ (or_right _ _ (eq-eqb b.me.0 b.me.0 refl))

-- what a chain takes the outcome of
module _ (x : ScenarioOf) (kind : Kind) (b : Script) (same : b.classes ≡ kind.classes) (may : may_start b.classes b.variables ≡ true) where
  abbrev is_chained : EventId → Bool
  is_chained e =
      is_known_event (facts_of x) (places_of b.classes b.variables) e
      || (e.0 == b.me.0)
      || is_in_place (places_of b.classes b.variables) class.Cond e
      || is_in_place (places_of b.classes b.variables) class.Proc e

  chained_variable : (v : ℕ) (c : Class) → class_of kind v ≡ c → takes_class Chained c ≡ true → is_chained (event_in b v) ≡ true
  chained_variable v class.Event is takes = or_left _ _ (or_left _ _ (or_left _ _ (or_right _ _ (class_in_place class.Event refl kind b v same may is))))
  chained_variable v class.Cond is takes = or_left _ _ (or_right _ _ (class_in_place class.Cond refl kind b v same may is))
  chained_variable v class.Proc is takes = or_right _ _ (class_in_place class.Proc refl kind b v same may is)
  chained_variable v _ is takes = absurd (false≢true takes)

  chained_event : (r : Ref) → event_fits x kind Chained r ≡ true → is_chained (event_of_ref b r) ≡ true
  chained_event (ref.Var v) h = chained_variable v (class_of kind v) refl (and_parts (nat_lt v 64) _ h).1
  chained_event (ref.Named e) h = or_left _ _ (or_left _ _ (or_left _ _ (plain_event x kind b (ref.Named e) same may h)))
  chained_event ref.Me h = or_left _ _ (or_left _ _ (or_right _ _ (eq-eqb b.me.0 b.me.0 refl)))

-- ---- arguments and members

argument : (x : ScenarioOf) (kind : Kind) (time : ℤ) (b : Script) (c : Class) (a : SpawnArg) → b.classes ≡ kind.classes
    → may_start b.classes b.variables ≡ true → fits.argument_fits x kind c a ≡ true
    → asks.argument_fits (facts_of x) b.me (places_of b.classes b.variables) c (value_of_arg time b a) ≡ true
argument x kind time b class.Number (spawn.Num n) same may h = refl
argument x kind time b class.Event (spawn.Ref r) same may h = plain_event x kind b r same may h
argument x kind time b class.Proc (spawn.Ref r) same may h = a_process x kind b r same may h
argument x kind time b _ _ same may h = absurd (false≢true h)

arguments : (x : ScenarioOf) (kind : Kind) (time : ℤ) (b : Script) (cs : List Class) (args : List SpawnArg)
    → b.classes ≡ kind.classes → may_start b.classes b.variables ≡ true
    → pointwise (fits.argument_fits x kind) cs args ≡ true
    → asks.arguments_fit (facts_of x) b.me (places_of b.classes b.variables) cs (map (value_of_arg time b) args) ≡ true
arguments x kind time b [] [] same may h = refl
arguments x kind time b [] (a ∷ args) same may h = absurd (false≢true h)
arguments x kind time b (c ∷ cs) [] same may h = absurd (false≢true h)
arguments x kind time b (c ∷ cs) (a ∷ args) same may h =
    let parts = and_parts (fits.argument_fits x kind c a) (pointwise (fits.argument_fits x kind) cs args) h in
    and_from _ _ (argument x kind time b c a same may parts.0) (arguments x kind time b cs args same may parts.1)

-- a kind that is found is one of the code's
record IsFound (kinds : List Kind) (k : ℕ) (kind : Kind) : Type 0 where
  within : k < length kinds
  params : slice_index_or (map (λ m. take m.params (drop 1 m.classes)) kinds) k [] ≡ parameter_classes kind

found : (kinds : List Kind) (k : ℕ) (kind : Kind) → slice_get kinds k ≡ Some kind → IsFound kinds k kind
found [] k kind is = absurd (none-some kind is)
found (m ∷ kinds) zero kind is = record { within = omega arith; params = let same : m ≡ kind = cc in rw same refl }
found (m ∷ kinds) (suc k) kind is = let later = found kinds k kind is in record { within = omega (arith, later.within); params = later.params }

-- a process is begun with arguments that fit its parameters
spawned : (x : ScenarioOf) (kind : Kind) (time : ℤ) (b : Script) (k : ℕ) (args : List SpawnArg) → b.classes ≡ kind.classes
    → may_start b.classes b.variables ≡ true → fits.arguments_fit x kind k args ≡ true
    → nat_lt k (length (facts_of x).params) && asks.arguments_fit (facts_of x) b.me (places_of b.classes b.variables)
    (slice_index_or (facts_of x).params k []) (map (value_of_arg time b) args) ≡ true
spawned x kind time b k args same may h = by (slice_get x.kinds k) refl
  where
    by : (o : Option Kind) → slice_get x.kinds k ≡ o
        → nat_lt k (length (facts_of x).params) && asks.arguments_fit (facts_of x) b.me (places_of b.classes b.variables)
        (slice_index_or (facts_of x).params k []) (map (value_of_arg time b) args) ≡ true
    by None is = absurd (false≢true (rw is at h))
    by (Some other) is =
        let at = found x.kinds k other is in
        let fit : pointwise (fits.argument_fits x kind) (parameter_classes other) args ≡ true = rw is at h in
        and_from (nat_lt k (length (facts_of x).params)) _
        (lt-ltb k _ (omega (arith, at.within, length-map x.kinds (λ (m : Kind). take m.params (drop 1 m.classes)))))
        (rw at.params (arguments x kind time b (parameter_classes other) args same may fit))

all_known : (x : ScenarioOf) (kind : Kind) (b : Script) (es : List Ref) → b.classes ≡ kind.classes
    → may_start b.classes b.variables ≡ true → list_all (event_fits x kind AnyEvent) es ≡ true
    → list_all (is_known (facts_of x) b.me (places_of b.classes b.variables)) (map (event_of_ref b) es) ≡ true
all_known x kind b [] same may h = refl
all_known x kind b (e ∷ es) same may h =
    let parts = and_parts (event_fits x kind AnyEvent e) (list_all (event_fits x kind AnyEvent) es) h in
    and_from _ _ (any_event x kind b e same may parts.0) (all_known x kind b es same may parts.1)

-- a condition has few members, and the process knows each
members : (x : ScenarioOf) (kind : Kind) (b : Script) (es : List Ref) → b.classes ≡ kind.classes
    → may_start b.classes b.variables ≡ true → members_fit x kind es ≡ true
    → nat_le (length (map (event_of_ref b) es)) 16 && list_all (is_known (facts_of x) b.me (places_of b.classes b.variables))
    (map (event_of_ref b) es) ≡ true
members x kind b es same may h =
    let parts = and_parts (nat_le (length es) 16) (list_all (event_fits x kind AnyEvent) es) h in
    and_from _ _ (rw (length-map es (event_of_ref b)) parts.0) (all_known x kind b es same may parts.1)

-- ---- resources

resource_found : (rs : List Resource) (test : ResourceKind → Bool) (n : ℕ) (r : Resource) → slice_get rs n ≡ Some r
    → test r.kind ≡ true → has_resource rs test n ≡ true
resource_found [] test n r is h = absurd (none-some r is)
resource_found (s ∷ rs) test zero r is h = let same : s ≡ r = same_Some s r is in rw same h
resource_found (s ∷ rs) test (suc n) r is h = resource_found rs test n r is h

resource_within : (rs : List Resource) (n : ℕ) → n < length rs → has_resource rs (λ k. true) n ≡ true
resource_within [] n h = absurd (omega (arith, h))
resource_within (r ∷ rs) zero h = refl
resource_within (r ∷ rs) (suc n) h = resource_within rs n (omega (arith, h))

requested_kind : (p : Num) (preempt : Bool) (r : Resource) (k : ResourceKind) → r.kind ≡ k → request_fits p preempt (Some r) ≡ true → takes_requests k ≡ true
requested_kind p preempt r resource.Plain is h = refl
requested_kind p preempt r resource.Priority is h = refl
requested_kind p preempt r resource.Preemptive is h = refl
requested_kind p preempt r _ is h = absurd (false≢true (rw is at h))

put_kind : (p : Num) (r : Resource) (k : ResourceKind) → r.kind ≡ k → put_fits p (Some r) ≡ true → not (takes_requests k) ≡ true
put_kind p r resource.Container is h = refl
put_kind p r resource.Store is h = refl
put_kind p r resource.FStore is h = refl
put_kind p r resource.PStore is h = refl
put_kind p r _ is h = absurd (false≢true (rw is at h))

get_kind : (lo hi : Num) (r : Resource) (k : ResourceKind) → r.kind ≡ k → get_fits lo hi (Some r) ≡ true → not (takes_requests k) ≡ true
get_kind lo hi r resource.Container is h = refl
get_kind lo hi r resource.Store is h = refl
get_kind lo hi r resource.PStore is h = refl
get_kind lo hi r resource.FStore is h = refl
get_kind lo hi r _ is h = absurd (false≢true (rw is at h))

requested : (rs : List Resource) (n : ℕ) (p : Num) (preempt : Bool) (o : Option Resource) → slice_get rs n ≡ o
    → request_fits p preempt o ≡ true → has_resource rs takes_requests n ≡ true
requested rs n p preempt None is h = absurd (false≢true h)
requested rs n p preempt (Some r) is h = resource_found rs takes_requests n r is (requested_kind p preempt r r.kind refl h)

put_into : (rs : List Resource) (n : ℕ) (p : Num) (o : Option Resource) → slice_get rs n ≡ o → put_fits p o ≡ true
    → has_resource rs (λ k. not (takes_requests k)) n ≡ true
put_into rs n p None is h = absurd (false≢true h)
put_into rs n p (Some r) is h = resource_found rs (λ k. not (takes_requests k)) n r is (put_kind p r r.kind refl h)

got_from : (rs : List Resource) (n : ℕ) (lo hi : Num) (o : Option Resource) → slice_get rs n ≡ o → get_fits lo hi o ≡ true
    → has_resource rs (λ k. not (takes_requests k)) n ≡ true
got_from rs n lo hi None is h = absurd (false≢true h)
got_from rs n lo hi (Some r) is h = resource_found rs (λ k. not (takes_requests k)) n r is (get_kind lo hi r r.kind refl h)

-- ---- statements

-- the scopes that are open are such as the statement needs
abbrev pub ScopesAllow : Script → List EventId → Stmt → Type 0
ScopesAllow b scopes (stmt.With to res priority preempt) = length scopes < 32
ScopesAllow b scopes stmt.EndWith = 0 < length scopes
ScopesAllow b scopes stmt.EndProcess = scopes ≡ []
ScopesAllow b scopes (stmt.Release v) = list_any (is_same (event_in b v)) scopes ≡ true
ScopesAllow b scopes other = Unit {0}

pub statement_may_ask : (x : ScenarioOf) (kind : Kind) (b : Script) (time : ℤ) (s : Stmt) (scopes : List EventId)
    → b.classes ≡ kind.classes → length kind.classes ≡ 64 → may_start b.classes b.variables ≡ true
    → statement_fits x kind s ≡ true → ScopesAllow b scopes s
    → may_ask (facts_of x) b.me (places_of b.classes b.variables) scopes (do_stmt time b s).0 ≡ true
statement_may_ask x kind b time (stmt.Count to res) scopes same long may fit allow =
    resource_within x.setup.resources res (ltb-true res _ (and_parts (gives kind to class.Number) _ fit).1)
statement_may_ask x kind b time (stmt.Wait on) scopes same long may fit allow = any_event x kind b on same may fit
statement_may_ask x kind b time (stmt.Succeed on value) scopes same long may fit allow = plain_event x kind b on same may (and_parts _ (number_fits kind value) fit).0
statement_may_ask x kind b time (stmt.Fail on value) scopes same long may fit allow = plain_event x kind b on same may (and_parts _ (number_fits kind value) fit).0
statement_may_ask x kind b time (stmt.All to of) scopes same long may fit allow = members x kind b of same may (and_parts (gives kind to class.Cond) _ fit).1
statement_may_ask x kind b time (stmt.Any to of) scopes same long may fit allow = members x kind b of same may (and_parts (gives kind to class.Cond) _ fit).1
statement_may_ask x kind b time (stmt.Has to cond on) scopes same long may fit allow =
    let parts = and_parts (gives kind to class.Number && uses kind cond class.Cond) (event_fits x kind AnyEvent on) fit in
    let used = and_parts (gives kind to class.Number) (uses kind cond class.Cond) parts.0 in
    and_from _ _ (or_right _ _ (class_in_place class.Cond refl kind b cond same may (class_used kind cond class.Cond used.1))) (any_event x kind b on same may parts.1)
statement_may_ask x kind b time (stmt.Spawn to k args) scopes same long may fit allow = spawned x kind time b k args same may (and_parts (gives_maybe kind to class.Proc) _ fit).1
statement_may_ask x kind b time (stmt.Interrupt who value) scopes same long may fit allow = a_process x kind b who same may (and_parts _ (number_fits kind value) fit).0
statement_may_ask x kind b time (stmt.Drop who value) scopes same long may fit allow = a_process x kind b who same may (and_parts _ (number_fits kind value) fit).0
statement_may_ask x kind b time (stmt.With to res priority preempt) scopes same long may fit allow =
    let parts = and_parts (gives kind to class.Request && number_fits kind priority) (request_fits priority preempt (resource_at x res)) fit in
    and_from _ _ (lt-ltb (length scopes) 32 allow) (requested x.setup.resources res priority preempt (resource_at x res) refl parts.1)
statement_may_ask x kind b time (stmt.Release on) scopes same long may fit allow = allow
statement_may_ask x kind b time (stmt.Put to res a p) scopes same long may fit allow =
    let parts = and_parts (gives_maybe kind to class.Move && number_fits kind a && number_fits kind p) (put_fits p (resource_at x res)) fit in
    by to (put_into x.setup.resources res p (resource_at x res) refl parts.1)
  where
    by : (o : Option ℕ) → has_resource x.setup.resources (λ k. not (takes_requests k)) res ≡ true
        → may_ask (facts_of x) b.me (places_of b.classes b.variables) scopes (put_op o res (value_of_num time b a) (value_of_num time b p))
        ≡ true
    by None h = h
    by (Some to) h = h
statement_may_ask x kind b time (stmt.Get to res lo hi) scopes same long may fit allow =
    let parts = and_parts (gives_maybe kind to class.Move && number_fits kind lo && number_fits kind hi) (get_fits lo hi (resource_at x res)) fit in
    by to (got_from x.setup.resources res lo hi (resource_at x res) refl parts.1)
  where
    by : (o : Option ℕ) → has_resource x.setup.resources (λ k. not (takes_requests k)) res ≡ true
        → may_ask (facts_of x) b.me (places_of b.classes b.variables) scopes (get_op o res (value_of_num time b lo) (value_of_num time b hi))
        ≡ true
    by None h = h
    by (Some to) h = h
statement_may_ask x kind b time (stmt.Cancel on) scopes same long may fit allow = or_right _ _ (class_in_place class.Move refl kind b on same may (class_used kind on class.Move fit))
statement_may_ask x kind b time stmt.EndWith scopes same long may fit allow = lt-ltb 0 (length scopes) allow
statement_may_ask x kind b time stmt.EndProcess scopes same long may fit allow = rw allow refl
statement_may_ask x kind b time (stmt.Chain on to) scopes same long may fit allow =
    let parts = and_parts (event_fits x kind Chained on) (event_fits x kind PlainEvent to) fit in
    and_from _ _ (chained_event x kind b same may on parts.0) (plain_event x kind b to same may parts.1)
statement_may_ask x kind b time _ scopes same long may fit allow = refl
