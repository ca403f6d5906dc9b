-- What an operation names, that a process asks for in a lawful state, is kept.
use Rattle.std.proofs.Common.{◌≡◌, ℕ, ℤ, pos, ◌≤◌, Bool, true, false, ◌||◌, ◌&&◌, not, List, [], ◌∷◌, Option, Some, refl, sym, ap, subst, ◌∙◌, arith, ⊎_elim, inl, inr, length, get_or}
use Rattle.std.specs.Prelude.{All, ◌==◌, nat_lt, nat_le, slice_index_or, filter}
use Rattle.std.specs.List.{list_any, list_all}
use Rattle.std.proofs.lemmas.Bool.{and_parts, both_ways, false≢true, not-true, or_cases, cases_Bool, eqb-true}
use Rattle.std.proofs.lemmas.Bool.Decides.{nat_tests}
use Rattle.std.proofs.lemmas.List.Elements.{All-nil, All-cons, All-head, All-tail, All-map, All-filter}
use Rattle.sim_types.specs.declared.event.EventId.{EventId}
use Rattle.sim_types.specs.declared.event.ProcId.{ProcId}
use Rattle.sim_types.specs.declared.event.Callback.{Callback}
use Rattle.sim_types.specs.declared.event.Signal.{Signal}
use Rattle.sim_types.specs.declared.event.Signal.TheVariants as signal
use Rattle.sim_types.specs.declared.op.Op.{Op}
use Rattle.sim_types.specs.declared.op.Op.TheVariants as op
use Rattle.sim_types.specs.declared.setup.Class.{Class}
use Rattle.sim_types.specs.declared.setup.Class.TheVariants as class
use Rattle.sim_machine.specs.State.{OpenScope, ProcessOf, Active, State, Plan}
use Rattle.sim_machine.specs.Events.{is_same, is_process}
use Rattle.sim_machine.specs.Processes.{event_of, process_at}
use Rattle.sim_machine.specs.Tellings.{Place, Telling, CodeFacts, is_class}
use Rattle.sim_machine.specs.MayAsk.{is_zero, is_named, is_in_place, is_known, is_known_event, is_known_process, argument_fits, arguments_fit, may_ask}
use Rattle.sim_machine.specs.BodyLaw.{IsLawfulPoll, gets_made, makes_class, places_kept, scopes_told}
use Rattle.sim_machine.specs.Setups.{FitsCode}
use Rattle.sim_machine.specs.KeptEvents.{is_kept}
use Rattle.sim_machine.specs.Lawful.{Lawful}
use Rattle.sim_machine_law.specs.NamedEvents.{arguments_name, events_named}
use Rattle.sim_machine_law.proofs.Events.EventLaws.{is_same-yes, same_event}
use Rattle.sim_machine_law.proofs.KeptParts.KeptProcessesParts.{is_process-yes}
use Rattle.sim_machine_law.proofs.KeptParts.KeptBodies.{find_has, find_passes}
use Rattle.sim_machine_law.proofs.KeptParts.KeptBodiesPolls.{own_number}
use Rattle.sim_machine_law.proofs.KeptParts.KeptWaitingPolls.{own_scopes}
use Rattle.sim_machine_law.proofs.KeptParts.LawfulBasis.{basis_of}
use Rattle.sim_lawful.proofs.Waiting.PolledCancel.{any_gives}
use Rattle.sim_lawful.proofs.Reached.KeptReasons.{or_first, or_second}
use Rattle.sim_lawful.proofs.Reached.KeptReached.{all_pass, all_named_kept, processes_kept, places_kept as held_kept, scopes_kept, told_kept}

-- ---- classes

class_same : (c k : Class) → is_class c k ≡ true → c ≡ k
class_same class.Number class.Number h = refl
class_same class.Event class.Event h = refl
class_same class.Cond class.Cond h = refl
class_same class.Proc class.Proc h = refl
class_same class.Request class.Request h = refl
class_same class.Move class.Move h = refl
class_same _ _ h = absurd (false≢true h)

-- what stands in a place of this class is an event
no_number : (k : Class) → is_class k class.Number ≡ false → (c : Class) → is_class c k ≡ true → is_class c class.Number ≡ false
no_number k other c same = ap (λ z. is_class z class.Number) (class_same c k same) ∙ other

-- places that pass the test are for events
abbrev PassesEvents : (Place → Bool) → Type 0
PassesEvents test = (v : Place) → test v ≡ true → is_class v.class class.Number ≡ false

-- what was made is told
told_by : (last : Option Op) (x : Signal) (v : Place) → gets_made last x v ≡ true → (r : EventId) × (x ≡ signal.Made r) × (is_same v.event r ≡ true)
told_by last (signal.Made r) v h = (r, refl, (and_parts (is_same v.event r) (makes_class last v.class) h).0)
told_by last _ v h = absurd (false≢true h)

named_few : (f : CodeFacts) (e : EventId) → is_named f e ≡ true → e.0 ≤ f.named
named_few f e h = grind (arith, nat_tests)

either_of : (a b : Bool) → (a || b) ≡ true → a ≡ false → b ≡ true
either_of true b h off = absurd (both_ways true off refl)
either_of false b h off = h

module _ {B : Type 0} (g : Plan B) (tell : Telling B) (sound : B → Type 0) (f : CodeFacts) (s : State B) (l : Lawful g tell sound s) where
  abbrev Keeps : EventId → Type 0
  Keeps e = is_kept g.setup.events tell s e ≡ true

  -- a place that is for a number, or holds a kept event
  abbrev KeepsAt : Place → Type 0
  KeepsAt v = (is_class v.class class.Number || is_kept g.setup.events tell s v.event) ≡ true

  -- ---- the places after the poll

  module _ (last : Option Op) (x : Signal) (told : (r : EventId) → x ≡ signal.Made r → Keeps r) where
    place_after : (u v : Place) → (is_class v.class u.class && (is_same v.event u.event || gets_made last x v)) ≡ true → KeepsAt u → KeepsAt v
    place_after u v h kept =
        let parts = and_parts (is_class v.class u.class) (is_same v.event u.event || gets_made last x v) h in
        let same : v.class ≡ u.class = class_same v.class u.class parts.0 in
        elim (cases_Bool (is_class u.class class.Number)) [
          | inl number ↦ or_first (is_class v.class class.Number) (is_kept g.setup.events tell s v.event) (ap (λ c. is_class c class.Number) same ∙ number)
          | inr other ↦ or_second (is_class v.class class.Number) (is_kept g.setup.events tell s v.event) (⊎_elim
              (λ stays. subst Keeps (sym (is_same-yes v.event u.event stays)) (either_of (is_class u.class class.Number) (is_kept g.setup.events tell s u.event) kept other))
              (λ gets. let m = told_by last x v gets in subst Keeps (sym (is_same-yes v.event m.0 m.2)) (told m.0 m.1))
              (or_cases (is_same v.event u.event) (gets_made last x v) parts.1))
        ]

    places_after : (us vs : List Place) → places_kept last x us vs ≡ true → All KeepsAt us → All KeepsAt vs
    places_after [] [] h kept = All-nil KeepsAt
    places_after [] (v ∷ vs) h kept = absurd (false≢true h)
    places_after (u ∷ us) [] h kept = absurd (false≢true h)
    places_after (u ∷ us) (v ∷ vs) h kept =
        let parts = and_parts (is_class v.class u.class && (is_same v.event u.event || gets_made last x v)) (places_kept last x us vs) h in
        All-cons KeepsAt v vs (place_after u v parts.0 (All-head KeepsAt u us kept)) (places_after us vs parts.1 (All-tail KeepsAt u us kept))

  -- ---- what may be named

  module _ (fits : FitsCode f g.setup) (own : ProcId) (mine : Keeps (event_of own)) (places : List Place) (held : All KeepsAt places) where
    placed : (test : Place → Bool) → PassesEvents test → (e : EventId) → list_any (λ v. test v && is_same v.event e) places ≡ true → Keeps e
    placed test other e some =
        any_gives KeepsAt (Keeps e) (λ v. test v && is_same v.event e) places
        (λ v kept is. let parts = and_parts (test v) (is_same v.event e) is in
        subst Keeps (is_same-yes v.event e parts.1) (either_of (is_class v.class class.Number) (is_kept g.setup.events tell s v.event) kept (other v parts.0))) held some

    in_place : (k : Class) → is_class k class.Number ≡ false → (e : EventId) → is_in_place places k e ≡ true → Keeps e
    in_place k other e some = placed (λ v. is_class v.class k) (λ v is. no_number k other v.class is) e some

    zero_kept : (e : EventId) → is_zero e ≡ true → Keeps e
    zero_kept e zero = all_named_kept g tell sound s l e (let none : e.0 ≡ 0 = eqb-true e.0 0 zero in omega (arith, none))

    named_kept : (e : EventId) → (is_zero e || is_named f e) ≡ true → Keeps e
    named_kept e h =
        ⊎_elim (zero_kept e) (λ named. all_named_kept g tell sound s l e (let few : e.0 ≤ f.named = named_few f e named in let same = fits.events in omega (arith, few, same))) (or_cases (is_zero e) (is_named f e) h)

    own_kept : (e : EventId) → (e.0 == own.0) ≡ true → Keeps e
    own_kept e same = subst Keeps (sym (same_event e (event_of own) (eqb-true e.0 own.0 same))) mine

    known_kept : (e : EventId) → is_known f own places e ≡ true → Keeps e
    known_kept e h =
        let some : Bool = list_any (λ v. not (is_class v.class class.Number) && is_same v.event e) places in
        ⊎_elim (λ first. ⊎_elim (named_kept e) (own_kept e) (or_cases (is_zero e || is_named f e) (e.0 == own.0) first))
        (placed (λ v. not (is_class v.class class.Number)) (λ v is. not-true (is_class v.class class.Number) is) e)
        (or_cases (is_zero e || is_named f e || (e.0 == own.0)) some h)

    known_event_kept : (e : EventId) → is_known_event f places e ≡ true → Keeps e
    known_event_kept e h = ⊎_elim (named_kept e) (in_place class.Event refl e) (or_cases (is_zero e || is_named f e) (is_in_place places class.Event e) h)

    known_process_kept : (m : ℕ) → is_known_process own places m ≡ true → Keeps (record { 0 = m })
    known_process_kept m h =
        let e : EventId = record { 0 = m } in
        ⊎_elim (λ first. ⊎_elim (zero_kept e) (own_kept e) (or_cases (m == 0) (m == own.0) first)) (in_place class.Proc refl e) (or_cases ((m == 0) || (m == own.0)) (is_in_place places class.Proc e) h)

    arguments_kept : (cs : List Class) (vs : List ℤ) → arguments_fit f own places cs vs ≡ true → All Keeps (arguments_name cs vs)
    arguments_kept [] [] h = All-nil Keeps
    arguments_kept [] (v ∷ vs) h = All-nil Keeps
    arguments_kept (c ∷ cs) [] h = absurd (false≢true h)
    arguments_kept (class.Number ∷ cs) (v ∷ vs) h = arguments_kept cs vs (and_parts (argument_fits f own places class.Number v) (arguments_fit f own places cs vs) h).1
    arguments_kept (class.Event ∷ cs) (pos m ∷ vs) h =
        let parts = and_parts (argument_fits f own places class.Event (pos m)) (arguments_fit f own places cs vs) h in
        All-cons Keeps (record { 0 = m }) (arguments_name cs vs) (known_event_kept (record { 0 = m }) parts.0) (arguments_kept cs vs parts.1)
    arguments_kept (class.Proc ∷ cs) (pos m ∷ vs) h =
        let parts = and_parts (argument_fits f own places class.Proc (pos m)) (arguments_fit f own places cs vs) h in
        All-cons Keeps (record { 0 = m }) (arguments_name cs vs) (known_process_kept m parts.0) (arguments_kept cs vs parts.1)
    arguments_kept (_ ∷ cs) (_ ∷ vs) h = absurd (false≢true h)

    all_known : (es : List EventId) → list_all (is_known f own places) es ≡ true → All Keeps es
    all_known es h = λ i e below. known_kept (get_or es i e) (all_pass (is_known f own places) es i e below h)

    one_kept : (e : EventId) → Keeps e → All Keeps (e ∷ [])
    one_kept e h = All-cons Keeps e [] h (All-nil Keeps)

    two_kept : (e n : EventId) → Keeps e → Keeps n → All Keeps (e ∷ n ∷ [])
    two_kept e n h k = All-cons Keeps e (n ∷ []) h (one_kept n k)

    -- whether its outcome may be passed on
    abbrev is_source : EventId → Bool
    is_source e = is_known_event f places e || (e.0 == own.0) || is_in_place places class.Cond e || is_in_place places class.Proc e

    source_kept : (e : EventId) → is_source e ≡ true → Keeps e
    source_kept e h =
        let event : Bool = is_known_event f places e in
        let mine_too : Bool = e.0 == own.0 in
        let cond : Bool = is_in_place places class.Cond e in
        ⊎_elim (λ three. ⊎_elim (λ two. ⊎_elim (known_event_kept e) (own_kept e) (or_cases event mine_too two)) (in_place class.Cond refl e) (or_cases (event || mine_too) cond three))
        (in_place class.Proc refl e) (or_cases (event || mine_too || cond) (is_in_place places class.Proc e) h)

    -- whatever is asked for, where the requests of these scopes are kept
    module _ (scopes : List EventId) (entered : All Keeps scopes) where
      request_kept : (e : EventId) → list_any (is_same e) scopes ≡ true → Keeps e
      request_kept e h = any_gives Keeps (Keeps e) (is_same e) scopes (λ r kept is. subst Keeps (sym (is_same-yes e r is)) kept) entered h

      named_by : (o : Op) → may_ask f own places scopes o ≡ true → All Keeps (events_named f o)
      named_by op.Nop h = All-nil Keeps
      named_by (op.Timeout delay value) h = All-nil Keeps
      named_by (op.Pause delay value) h = All-nil Keeps
      named_by (op.Wait e) h = one_kept e (known_kept e h)
      named_by op.NewEvent h = All-nil Keeps
      named_by (op.Succeed e value) h = one_kept e (known_event_kept e h)
      named_by (op.Fail e code) h = one_kept e (known_event_kept e h)
      named_by (op.Spawn k args) h = arguments_kept (slice_index_or f.params k []) args (and_parts (nat_lt k (length f.params)) (arguments_fit f own places (slice_index_or f.params k []) args) h).1
      named_by (op.Interrupt q cause) h = one_kept (event_of q) (known_process_kept q.0 h)
      named_by (op.Drop q value) h = one_kept (event_of q) (known_process_kept q.0 h)
      named_by (op.AllOf members) h = all_known members (and_parts (nat_le (length members) 16) (list_all (is_known f own places) members) h).1
      named_by (op.AnyOf members) h = all_known members (and_parts (nat_le (length members) 16) (list_all (is_known f own places) members) h).1
      named_by (op.Has cond e) h =
          let parts = and_parts (is_zero cond || is_in_place places class.Cond cond) (is_known f own places e) h in
          two_kept cond e (⊎_elim (zero_kept cond) (in_place class.Cond refl cond) (or_cases (is_zero cond) (is_in_place places class.Cond cond) parts.0)) (known_kept e parts.1)
      named_by (op.Enter res priority preempts) h = All-nil Keeps
      named_by op.Leave h = All-nil Keeps
      named_by (op.Release request) h = one_kept request (request_kept request h)
      named_by (op.Put res amount priority) h = All-nil Keeps
      named_by (op.PutWait res amount priority) h = All-nil Keeps
      named_by (op.Get res least greatest) h = All-nil Keeps
      named_by (op.GetWait res least greatest) h = All-nil Keeps
      named_by (op.Cancel e) h = one_kept e (⊎_elim (zero_kept e) (in_place class.Move refl e) (or_cases (is_zero e) (is_in_place places class.Move e) h))
      named_by (op.Count res) h = All-nil Keeps
      named_by (op.Draw lo hi) h = All-nil Keeps
      named_by (op.Log value) h = All-nil Keeps
      named_by (op.Finish value) h = All-nil Keeps
      named_by (op.Die t) h = All-nil Keeps
      named_by (op.Chain e y) h =
          let parts = and_parts (is_known_event f places e || (e.0 == own.0) || is_in_place places class.Cond e || is_in_place places class.Proc e) (is_known_event f places y) h in
          two_kept e y (source_kept e parts.0) (known_event_kept y parts.1)

  -- ---- the process that asks

  module _ (e : EventId) (left : List Callback) (p : ProcId) (x : Signal) (y : ProcessOf B) (active : s.control ≡ Active e left p x) (found : process_at p s ≡ Some y) where
    is_its : is_process y.id p ≡ true
    is_its = find_passes (λ z. is_process z.id p) s.processes y found

    own_scopes_kept : All Keeps (scopes_told (tell.scopes y.body) (tell.last y.body) x)
    own_scopes_kept =
        let test : OpenScope → Bool = λ z. is_process z.process y.id in
        subst (All Keeps) (own_scopes g tell s e left p x y active found (basis_of g tell sound s l).waiting y.id is_its).0
        (All-map Keeps (λ z. z.request) (filter test s.scopes) (All-filter test (λ z. Keeps z.request) s.scopes (scopes_kept g tell sound s l)))

    pub asked_kept : (o : Op) (b : B) → FitsCode f g.setup → IsLawfulPoll f tell y.body x o b → All Keeps (events_named f o)
    asked_kept o b fits poll =
        let told : (r : EventId) → x ≡ signal.Made r → Keeps r = λ r is. told_kept g tell sound s l e left p r (active ∙ ap (λ z. Active e left p z) is) in
        let before : All KeepsAt (tell.places y.body) = find_has (λ z. All KeepsAt (tell.places z.body)) (λ z. is_process z.id p) s.processes y found (held_kept g tell sound s l) in
        let after : All KeepsAt (tell.places b) = places_after (tell.last y.body) x told (tell.places y.body) (tell.places b) poll.places before in
        let number : tell.own b ≡ y.id = poll.own ∙ (own_number tell sound s p y l.bodies found ∙ sym (is_process-yes y.id p is_its)) in
        let mine : Keeps (event_of (tell.own b)) = subst (λ q. Keeps (event_of q)) (sym number) (find_has (λ z. Keeps (event_of z.id)) (λ z. is_process z.id p) s.processes y found (processes_kept g tell sound s l)) in
        named_by fits (tell.own b) mine (tell.places b) after (scopes_told (tell.scopes y.body) (tell.last y.body) x) own_scopes_kept o poll.asks
