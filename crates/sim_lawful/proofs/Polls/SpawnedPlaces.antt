-- What a process gives to one that it spawns fits in the places of the new one: event 0, a named event, its own, or one that
-- stands in a place of the same class.
use Rattle.std.proofs.Common.{◌≡◌, ℕ, ◌<◌, ℤ, pos, negsuc, true, ◌&&◌, ◌||◌, not, List, [], ◌∷◌, length, refl, sym, ap, ◌∙◌, arith, ⊎_elim}
use Rattle.std.specs.Prelude.{◌==◌, slice_index_or}
use Rattle.std.specs.List.{list_all}
use Rattle.std.proofs.lemmas.Bool.{and_from, and_parts, or_cases, or_left, or_right, false≢true, eqb-true, lt-ltb}
use Rattle.sim_types.specs.declared.event.EventId.{EventId}
use Rattle.sim_types.specs.declared.event.ProcId.{ProcId}
use Rattle.sim_types.specs.declared.event.EventKind.{EventKind}
use Rattle.sim_types.specs.declared.event.EventKind.TheVariants as kind
use Rattle.sim_types.specs.declared.setup.Class.{Class}
use Rattle.sim_types.specs.declared.setup.Class.TheVariants as class
use Rattle.sim_machine.specs.State.{Calendar}
use Rattle.sim_machine.specs.Events.{is_same}
use Rattle.sim_machine.specs.Processes.{event_of}
use Rattle.sim_machine.specs.Standing.{was_made, kind_at}
use Rattle.sim_machine.specs.Tellings.{Place, Telling, CodeFacts, is_class, kind_fits}
use Rattle.sim_machine.specs.MayAsk.{is_zero, is_named, is_in_place, argument_fits, arguments_fit}
use Rattle.sim_machine.specs.BodyLaw.{IsLawfulStart, holds_argument, may_start}
use Rattle.sim_machine.specs.LawfulProcesses.{is_process_kind, is_plain_kind}
use Rattle.sim_machine.specs.LawfulBodies.{place_fits}
use Rattle.sim_machine_law.proofs.Events.EventLaws.{same_event}
use Rattle.sim_machine_law.proofs.KeptParts.KeptBodiesUnits.{places_begun}
use Rattle.sim_machine_law.proofs.KeptParts.KeptRegistrations.{named_within}
use Rattle.sim_lawful.proofs.Opening.StartedPlaces.{plain_fits, NamedPlain}

-- ---- a process may begin with what fits

negative_number : (f : CodeFacts) (own : ProcId) (places : List Place) (c : Class) (n : ℕ)
    → argument_fits f own places c (negsuc n) ≡ true → is_class c class.Number ≡ true
negative_number f own places class.Number n h = refl
negative_number f own places _ n h = absurd (false≢true h)

pub spawned_starts : (f : CodeFacts) (own : ProcId) (places : List Place) (cs : List Class) (vs : List ℤ)
    → arguments_fit f own places cs vs ≡ true → may_start cs vs ≡ true
spawned_starts f own places [] [] h = refl
spawned_starts f own places (c ∷ cs) (pos n ∷ vs) h = spawned_starts f own places cs vs (and_parts (argument_fits f own places c (pos n)) _ h).1
spawned_starts f own places (c ∷ cs) (negsuc n ∷ vs) h =
    let parts = and_parts (argument_fits f own places c (negsuc n)) (arguments_fit f own places cs vs) h in
    and_from (is_class c class.Number) (may_start cs vs) (negative_number f own places c n parts.0) (spawned_starts f own places cs vs parts.1)
spawned_starts f own places _ _ h = absurd (false≢true h)

-- ---- its places fit

-- the process that spawns: named events are plain, its own event is of a process, and its places fit
pub record MaySpawn (f : CodeFacts) (c : Calendar) (own : ProcId) (places : List Place) : Type 0 where
  pub named : NamedPlain f.named c
  pub made : own.0 < length c.events
  pub kind : is_process_kind (kind_at c (event_of own)) ≡ true
  pub placed : list_all (place_fits c) places ≡ true

is_class-yes : (a b : Class) → is_class a b ≡ true → a ≡ b
is_class-yes class.Number class.Number h = refl
is_class-yes class.Event class.Event h = refl
is_class-yes class.Cond class.Cond h = refl
is_class-yes class.Proc class.Proc h = refl
is_class-yes class.Request class.Request h = refl
is_class-yes class.Move class.Move h = refl
is_class-yes _ _ h = absurd (false≢true h)

same_place_fits : (c : Calendar) (x y : Place) → x.class ≡ y.class → x.event ≡ y.event → place_fits c y ≡ true → place_fits c x ≡ true
same_place_fits c x y classes events h =
    let P : Class → EventId → Place = λ k e. record { class = k; event = e } in
    ap (λ k. place_fits c (P k x.event)) classes ∙ (ap (λ e. place_fits c (P y.class e)) events ∙ h)

-- what stands in a place of a class fits in another of that class
place_shared : (c : Calendar) (places : List Place) (k : Class) (e : EventId) (x : Place)
    → list_all (place_fits c) places ≡ true → is_in_place places k e ≡ true → is_class k x.class ≡ true → x.event ≡ e
    → place_fits c x ≡ true
place_shared c [] k e x fits stands same at = absurd (false≢true stands)
place_shared c (y ∷ ys) k e x fits stands same at =
    let parts = and_parts (place_fits c y) (list_all (place_fits c) ys) fits in
    ⊎_elim
    (λ here. let found = and_parts (is_class y.class k) (is_same y.event e) here in
    same_place_fits c x y (sym (is_class-yes k x.class same) ∙ sym (is_class-yes y.class k found.0)) (at ∙ sym (same_event y.event e (eqb-true y.event.0 e.0 found.1))) parts.0)
    (λ there. place_shared c ys k e x parts.1 there same at)
    (or_cases (is_class y.class k && is_same y.event e) (is_in_place ys k e) stands)

process_fits : (d : Class) (k : EventKind) → is_class class.Proc d ≡ true → is_process_kind k ≡ true → kind_fits d k ≡ true
process_fits class.Proc kind.Process h w = refl
process_fits class.Proc _ h w = absurd (false≢true w)
process_fits _ k h w = absurd (false≢true h)

zero_fits : (c : Calendar) (x : Place) (n : ℕ) → x.event.0 ≡ n → (n == 0) ≡ true → place_fits c x ≡ true
zero_fits c x n same zero = or_left (x.event.0 == 0) _ (ap (λ (m : ℕ). m == 0) same ∙ zero)

named_fits : (f : CodeFacts) (c : Calendar) (x : Place) (n : ℕ) → NamedPlain f.named c → is_class class.Event x.class ≡ true
    → x.event.0 ≡ n → is_named f (record { 0 = n }) ≡ true → place_fits c x ≡ true
named_fits f c x n h same at named =
    let within = named_within n f.named named in
    let made : was_made c x.event ≡ true = lt-ltb x.event.0 (length c.events) (omega (arith, at, within, h.made)) in
    let plain : is_plain_kind (kind_at c x.event) ≡ true = h.plain x.event.0 (omega (arith, at, within)) in
    or_right (x.event.0 == 0) _ (and_from (was_made c x.event) _ made (plain_fits x.class (kind_at c x.event) same plain))

own_fits : (c : Calendar) (own : ProcId) (x : Place) (n : ℕ) → own.0 < length c.events
    → is_process_kind (kind_at c (event_of own)) ≡ true → is_class class.Proc x.class ≡ true → x.event.0 ≡ n
    → (n == own.0) ≡ true → place_fits c x ≡ true
own_fits c own x n made of same at is =
    let number : n ≡ own.0 = eqb-true n own.0 is in
    let event : x.event ≡ event_of own = same_event x.event (event_of own) (at ∙ number) in
    or_right (x.event.0 == 0) _ (and_from (was_made c x.event) _ (lt-ltb x.event.0 (length c.events) (omega (arith, at, number, made)))
    (process_fits x.class (kind_at c x.event) same (ap (λ e. is_process_kind (kind_at c e)) event ∙ of)))

argument_placed : (f : CodeFacts) (c : Calendar) (own : ProcId) (places : List Place) → MaySpawn f c own places
    → (k : Class) (n : ℕ) (x : Place) → argument_fits f own places k (pos n) ≡ true
    → (not (is_class k class.Number) && is_class k x.class && (x.event.0 == n)) ≡ true → place_fits c x ≡ true
argument_placed f c own places h class.Number n x fits holds = absurd (false≢true holds)
argument_placed f c own places h class.Event n x fits holds =
    let e : EventId = record { 0 = n } in
    let parts = and_parts (is_class class.Event x.class) (x.event.0 == n) holds in
    let at : x.event.0 ≡ n = eqb-true x.event.0 n parts.1 in
    ⊎_elim
    (λ known. ⊎_elim (λ zero. zero_fits c x n at zero) (λ named. named_fits f c x n h.named parts.0 at named) (or_cases (is_zero e) (is_named f e) known))
    (λ stands. place_shared c places class.Event e x h.placed stands parts.0 (same_event x.event e at))
    (or_cases (is_zero e || is_named f e) (is_in_place places class.Event e) fits)
argument_placed f c own places h class.Proc n x fits holds =
    let e : EventId = record { 0 = n } in
    let parts = and_parts (is_class class.Proc x.class) (x.event.0 == n) holds in
    let at : x.event.0 ≡ n = eqb-true x.event.0 n parts.1 in
    ⊎_elim
    (λ known. ⊎_elim (λ zero. zero_fits c x n at zero) (λ is. own_fits c own x n h.made h.kind parts.0 at is) (or_cases (n == 0) (n == own.0) known))
    (λ stands. place_shared c places class.Proc e x h.placed stands parts.0 (same_event x.event e at))
    (or_cases ((n == 0) || (n == own.0)) (is_in_place places class.Proc e) fits)
argument_placed f c own places h _ n x fits holds = absurd (false≢true fits)

arguments_placed : (f : CodeFacts) (c : Calendar) (own : ProcId) (places : List Place) → MaySpawn f c own places
    → (ks : List Class) (vs : List ℤ) (x : Place) → arguments_fit f own places ks vs ≡ true → holds_argument ks vs x ≡ true
    → place_fits c x ≡ true
arguments_placed f c own places h [] vs x fits held = absurd (false≢true held)
arguments_placed f c own places h (k ∷ ks) [] x fits held = absurd (false≢true held)
arguments_placed f c own places h (k ∷ ks) (negsuc n ∷ vs) x fits held =
    arguments_placed f c own places h ks vs x (and_parts (argument_fits f own places k (negsuc n)) (arguments_fit f own places ks vs) fits).1 held
arguments_placed f c own places h (k ∷ ks) (pos n ∷ vs) x fits held =
    let parts = and_parts (argument_fits f own places k (pos n)) (arguments_fit f own places ks vs) fits in
    ⊎_elim (λ here. argument_placed f c own places h k n x parts.0 here) (λ there. arguments_placed f c own places h ks vs x parts.1 there)
    (or_cases (not (is_class k class.Number) && is_class k x.class && (x.event.0 == n)) (holds_argument ks vs x) held)

-- so do all places of the body that begins then
pub spawned_placed : {B : Type 0} (f : CodeFacts) (tell : Telling B) (c : Calendar) (own : ProcId) (places : List Place)
    (k : ℕ) (args : List ℤ) (p : ProcId) (b : B) → MaySpawn f c own places
    → arguments_fit f own places (slice_index_or f.params k []) args ≡ true → IsLawfulStart f tell k args p b
    → list_all (place_fits c) (tell.places b) ≡ true
spawned_placed f tell c own places k args p b h fits start =
    places_begun c f tell k args p b (λ x held. arguments_placed f c own places h (slice_index_or f.params k []) args x fits held) start
