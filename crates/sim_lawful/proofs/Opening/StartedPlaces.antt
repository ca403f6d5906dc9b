-- The places of a body that begins at the start, or by an arrival, fit: it is given numbers and named events alone.
use Rattle.std.proofs.Common.{◌≡◌, ℕ, ◌<◌, ◌≤◌, ℤ, pos, negsuc, true, false, ◌&&◌, not, List, [], ◌∷◌, length, refl, sym, ◌∙◌, arith, ◌⊎◌, inl, inr}
use Rattle.std.specs.Prelude.{IsTrue, nat_lt, ◌==◌, slice_index_or}
use Rattle.std.specs.List.{list_all}
use Rattle.std.proofs.lemmas.Bool.{false≢true, and_parts, and_from, or_cases, or_right, eqb-true, lt-ltb}
use Rattle.sim_types.specs.declared.event.ProcId.{ProcId}
use Rattle.sim_types.specs.declared.event.EventKind.{EventKind}
use Rattle.sim_types.specs.declared.event.EventKind.TheVariants as kind
use Rattle.sim_types.specs.declared.setup.Class.{Class}
use Rattle.sim_types.specs.declared.setup.Class.TheVariants as class
use Rattle.sim_types.specs.declared.setup.Start.{Start}
use Rattle.sim_machine.specs.State.{Calendar, State}
use Rattle.sim_machine.specs.Tellings.{Place, Telling, CodeFacts, is_class, kind_fits}
use Rattle.sim_machine.specs.BodyLaw.{IsLawfulStart, holds_argument}
use Rattle.sim_machine.specs.Setups.{start_argument_fits, start_arguments_fit, start_fits, takes_one_number, port_fits}
use Rattle.sim_machine.specs.Standing.{was_made, kind_at}
use Rattle.sim_machine.specs.LawfulProcesses.{LawfulProcesses, is_plain_kind}
use Rattle.sim_machine.specs.LawfulBodies.{place_fits}
use Rattle.sim_machine_law.proofs.KeptParts.KeptRegistrations.{named_within}
use Rattle.sim_machine_law.proofs.KeptParts.KeptBodiesUnits.{places_begun}

-- the named events were made, and are plain
pub record NamedPlain (named : ℕ) (c : Calendar) : Type 0 where
  pub made : named < length c.events
  pub plain : (n : ℕ) → n ≤ named → IsTrue (is_plain_kind (kind_at c (record { 0 = n })))

pub named_plain_of : {B : Type 0} (named : ℕ) (s : State B) → LawfulProcesses named s → NamedPlain named s.facilities.calendar
named_plain_of named s h = record { made = h.named_made; plain = h.named_plain }

-- a plain event fits in a place for events
pub plain_fits : (d : Class) (k : EventKind) → is_class class.Event d ≡ true → is_plain_kind k ≡ true → kind_fits d k ≡ true
plain_fits class.Event kind.Plain h w = refl
plain_fits class.Event _ h w = absurd (false≢true w)
plain_fits _ k h w = absurd (false≢true h)

-- an argument that a process may be given at the start is held by places that it fits
argument_placed : (named : ℕ) (c : Calendar) → NamedPlain named c → (k : Class) (n : ℕ) (x : Place)
    → start_argument_fits named k (pos n) ≡ true
    → (not (is_class k class.Number) && is_class k x.class && (x.event.0 == n)) ≡ true → place_fits c x ≡ true
argument_placed named c h class.Number n x fits holds = absurd (false≢true holds)
argument_placed named c h class.Event n x fits holds =
    let parts : (is_class class.Event x.class ≡ true) × ((x.event.0 == n) ≡ true) = and_parts (is_class class.Event x.class) _ holds in
    let same : x.event.0 ≡ n = eqb-true x.event.0 n parts.1 in
    let within : n ≤ named = named_within n named fits in
    let made : was_made c x.event ≡ true = lt-ltb x.event.0 (length c.events) (omega (arith, same, within, h.made)) in
    let plain : is_plain_kind (kind_at c x.event) ≡ true = h.plain x.event.0 (omega (arith, same, within)) in
    or_right (x.event.0 == 0) _ (and_from (was_made c x.event) _ made (plain_fits x.class (kind_at c x.event) parts.0 plain))
argument_placed named c h _ n x fits holds = absurd (false≢true fits)

arguments_placed : (named : ℕ) (c : Calendar) → NamedPlain named c → (ks : List Class) (vs : List ℤ) (x : Place)
    → start_arguments_fit named ks vs ≡ true → holds_argument ks vs x ≡ true → place_fits c x ≡ true
arguments_placed named c h [] vs x fits holds = absurd (false≢true holds)
arguments_placed named c h (k ∷ ks) [] x fits holds = absurd (false≢true holds)
arguments_placed named c h (k ∷ ks) (negsuc n ∷ vs) x fits holds = arguments_placed named c h ks vs x (and_parts (start_argument_fits named k (negsuc n)) _ fits).1 holds
arguments_placed named c h (k ∷ ks) (pos n ∷ vs) x fits holds = at (and_parts (start_argument_fits named k (pos n)) _ fits) (arguments_placed named c h ks vs x (and_parts (start_argument_fits named k (pos n)) _ fits).1) (or_cases (not (is_class k class.Number) && is_class k x.class && (x.event.0 == n)) _ holds)
  where
    at : (start_argument_fits named k (pos n) ≡ true) × (start_arguments_fit named ks vs ≡ true)
        → (holds_argument ks vs x ≡ true → place_fits c x ≡ true)
        → ((not (is_class k class.Number) && is_class k x.class && (x.event.0 == n)) ≡ true)
        ⊎ (holds_argument ks vs x ≡ true) → place_fits c x ≡ true
    at parts later (inl here) = argument_placed named c h k n x parts.0 here
    at parts later (inr there) = later there

-- the places that hold what a process is given at the start fit
pub start_places : (f : CodeFacts) (c : Calendar) → NamedPlain f.named c → (x : Start) → IsTrue (start_fits f x)
    → (y : Place) → holds_argument (slice_index_or f.params x.kind []) x.args y ≡ true → place_fits c y ≡ true
start_places f c h x fits y holds = arguments_placed f.named c h (slice_index_or f.params x.kind []) x.args y (and_parts (nat_lt x.kind (length f.params)) _ fits).1 holds

-- and so do all places of the body that begins then
pub start_placed : {B : Type 0} (f : CodeFacts) (tell : Telling B) (c : Calendar) (x : Start) (p : ProcId) (b : B)
    → NamedPlain f.named c → IsTrue (start_fits f x) → IsLawfulStart f tell x.kind x.args p b
    → IsTrue (list_all (place_fits c) (tell.places b))
start_placed f tell c x p b h fits start = places_begun c f tell x.kind x.args p b (start_places f c h x fits) start

-- ---- an arrival

one_number_held : (ks : List Class) (value : ℤ) (x : Place) → takes_one_number ks ≡ true → holds_argument ks (value ∷ []) x ≡ false
one_number_held [] value x h = absurd (false≢true h)
one_number_held (class.Number ∷ []) (pos n) x h = refl
one_number_held (class.Number ∷ []) (negsuc n) x h = refl
one_number_held (_ ∷ []) value x h = absurd (false≢true h)
one_number_held (k ∷ l ∷ ks) value x h = absurd (false≢true h)

-- no place holds the value that comes in by a port
pub port_holds_none : (f : CodeFacts) (k : ℕ) (value : ℤ) (x : Place) → IsTrue (port_fits f k)
    → holds_argument (slice_index_or f.params k []) (value ∷ []) x ≡ false
port_holds_none f k value x h = one_number_held (slice_index_or f.params k []) value x (and_parts (nat_lt k (length f.params)) _ h).1

-- so the places of the body that begins with it hold event 0, which fits
pub port_placed : {B : Type 0} (f : CodeFacts) (tell : Telling B) (c : Calendar) (k : ℕ) (value : ℤ) (p : ProcId) (b : B)
    → IsTrue (port_fits f k) → IsLawfulStart f tell k (value ∷ []) p b → IsTrue (list_all (place_fits c) (tell.places b))
port_placed f tell c k value p b fits start = places_begun c f tell k (value ∷ []) p b (λ x holds. absurd (false≢true (sym (port_holds_none f k value x fits) ∙ holds))) start
