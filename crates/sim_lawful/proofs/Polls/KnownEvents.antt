-- What the events that a body may name are: they were made, and are of the kinds of their classes.
use Rattle.std.proofs.Common.{◌≡◌, ℕ, ◌<◌, ◌≤◌, Bool, true, ◌||◌, ◌&&◌, not, List, [], ◌∷◌, length, refl, sym, ap, subst, ◌∙◌, arith, ◌⊎◌, inl, inr, All, ⊎_elim}
use Rattle.std.specs.Prelude.{◌==◌}
use Rattle.std.specs.List.{list_any, list_all}
use Rattle.std.proofs.lemmas.Bool.Decides.{nat_tests}
use Rattle.std.proofs.lemmas.Bool.{false≢true, and_parts, or_cases, ltb-true, eqb-true}
use Rattle.sim_types.specs.declared.event.EventId.{EventId}
use Rattle.sim_types.specs.declared.event.ProcId.{ProcId}
use Rattle.sim_types.specs.declared.event.EventKind.{EventKind}
use Rattle.sim_types.specs.declared.event.Signal.{Signal}
use Rattle.sim_types.specs.declared.event.Callback.{Callback}
use Rattle.sim_types.specs.declared.event.EventKind.TheVariants as kind
use Rattle.sim_types.specs.declared.op.Op.{Op}
use Rattle.sim_types.specs.declared.setup.Class.{Class}
use Rattle.sim_types.specs.declared.setup.Class.TheVariants as class
use Rattle.sim_machine.specs.State.{Calendar, ProcessOf, Control, Active, State, Plan}
use Rattle.sim_machine.specs.Events.{is_same, is_process}
use Rattle.sim_machine.specs.Processes.{event_of}
use Rattle.sim_machine.specs.Effect.{calendar}
use Rattle.sim_machine.specs.Tellings.{Place, Telling, CodeFacts, is_class, kind_fits}
use Rattle.sim_machine.specs.MayAsk.{is_zero, is_named, is_in_place, is_known, is_known_event}
use Rattle.sim_machine.specs.Setups.{FitsCode}
use Rattle.sim_machine.specs.Standing.{was_made, kind_at}
use Rattle.sim_machine.specs.LawfulProcesses.{LawfulProcesses, is_plain_kind, is_process_kind}
use Rattle.sim_machine.specs.LawfulInterruptions.{is_unheard_kind}
use Rattle.sim_machine.specs.LawfulBodies.{place_fits, told_fits}
use Rattle.sim_machine.specs.LawfulChains.{is_trigger_kind, is_triggered_kind}
use Rattle.sim_machine_law.proofs.Events.EventLaws.{same_event, is_same-yes}
use Rattle.sim_machine_law.proofs.KeptParts.KeptTimes.{found_pending}
use Rattle.sim_machine_law.proofs.KeptParts.KeptBodies.{IsBodyWell, bodies_well, find_has, find_passes, places_polled}
use Rattle.sim_machine_law.proofs.KeptParts.KeptBodiesPolls.{told_active, own_number}
use Rattle.sim_machine_law.proofs.Events.ChangedCalendars.{HasAsked}

-- an event that was made, and whose kind passes the test
pub record IsMadeOf (test : EventKind → Bool) (c : Calendar) (e : EventId) : Type 0 where
  pub made : e.0 < length c.events
  pub kind : test (kind_at c e) ≡ true

-- ---- the places of the body that asked

-- they fit, as they did before the poll
pub places_fit : {B : Type 0} (g : Plan B) (tell : Telling B) (sound : B → Type 0) (s : State B) (f : CodeFacts)
    (e : EventId) (left : List Callback) (p : ProcId) (x : Signal) (y : ProcessOf B) (b : B) (o : Op)
    → HasAsked g tell sound s f e left p x y b o → list_all (place_fits (calendar s)) (tell.places b) ≡ true
places_fit {B} g tell sound s f e left p x y b o h =
    let c : Calendar = calendar s in
    let test : ProcessOf B → Bool = λ z. is_process z.id p in
    let P : Control → Type 0 = λ k. All (IsBodyWell tell sound c k) s.processes in
    let all : P (Active e left p x) = subst P h.active (bodies_well tell sound s h.lawful.bodies) in
    let own : IsBodyWell tell sound c (Active e left p x) y = find_has (IsBodyWell tell sound c (Active e left p x)) test s.processes y h.found all in
    let told : told_fits tell c y.body x ≡ true = sym (told_active tell c y.id y.body e left p x (find_passes test s.processes y h.found)) ∙ own.told in
    places_polled tell c y.body x (tell.places y.body) (tell.places b) told own.places h.poll.places

-- what stands in a place that passes is event 0, or was made and is of a kind of such places
in_places : (test : Place → Bool) (fits : EventKind → Bool) (c : Calendar) (e : EventId)
    → ((x : Place) → test x ≡ true → (k : EventKind) → kind_fits x.class k ≡ true → fits k ≡ true) → (xs : List Place)
    → list_all (place_fits c) xs ≡ true → list_any (λ x. test x && is_same x.event e) xs ≡ true
    → (e.0 ≡ 0) ⊎ IsMadeOf fits c e
in_places test fits c e kinds [] h any = absurd (false≢true any)
in_places test fits c e kinds (x ∷ xs) h any =
    let all : (place_fits c x ≡ true) × (list_all (place_fits c) xs ≡ true) = and_parts (place_fits c x) (list_all (place_fits c) xs) h in
    ⊎_elim
    (λ here. let both : (test x ≡ true) × (is_same x.event e ≡ true) = and_parts (test x) (is_same x.event e) here in at both.0 (is_same-yes x.event e both.1) (or_cases (x.event.0 == 0) (was_made c x.event && kind_fits x.class (kind_at c x.event)) all.0))
    (λ later. in_places test fits c e kinds xs all.1 later)
    (or_cases (test x && is_same x.event e) (list_any (λ x. test x && is_same x.event e) xs) any)
  where
    at : test x ≡ true → x.event ≡ e
        → ((x.event.0 == 0) ≡ true) ⊎ ((was_made c x.event && kind_fits x.class (kind_at c x.event)) ≡ true)
        → (e.0 ≡ 0) ⊎ IsMadeOf fits c e
    at passes same (inl zero) = inl (ap (λ (n : EventId). n.0) (sym same) ∙ eqb-true x.event.0 0 zero)
    at passes same (inr made) =
        let parts : (was_made c x.event ≡ true) × (kind_fits x.class (kind_at c x.event) ≡ true) = and_parts (was_made c x.event) (kind_fits x.class (kind_at c x.event)) made in
        let here : IsMadeOf fits c x.event = record { made = ltb-true x.event.0 (length c.events) parts.0; kind = kinds x passes (kind_at c x.event) parts.1 } in
        inr (subst (IsMadeOf fits c) same here)

-- ---- the events of the scenario

plain_has : (fits : EventKind → Bool) (k : EventKind) → fits kind.Plain ≡ true → is_plain_kind k ≡ true → fits k ≡ true
plain_has fits kind.Plain h plain = h
plain_has fits _ h plain = absurd (false≢true plain)

-- event 0 and the named events were made, and are plain
first_made : {B : Type 0} (named : ℕ) (s : State B) (fits : EventKind → Bool) (e : EventId) → fits kind.Plain ≡ true
    → e.0 ≤ named → LawfulProcesses named s → IsMadeOf fits (calendar s) e
first_made named s fits e plain low h =
    record { made = omega (arith, low, h.named_made); kind = plain_has fits (kind_at (calendar s) e) plain (h.named_plain e.0 low) }

zero_low : (e : EventId) (named : ℕ) → is_zero e ≡ true → e.0 ≤ named
zero_low e named h = omega (arith, eqb-true e.0 0 h)

named_low : (f : CodeFacts) (e : EventId) → is_named f e ≡ true → e.0 ≤ f.named
named_low f e h = grind (arith, nat_tests)

-- ---- all that may be named

-- by what a test takes of the events that stand in places of some classes, and of plain events
scenario_made : {B : Type 0} (g : Plan B) (s : State B) (f : CodeFacts) (fits : EventKind → Bool) (e : EventId)
    → FitsCode f g.setup → fits kind.Plain ≡ true → LawfulProcesses g.setup.events s → (is_zero e || is_named f e) ≡ true
    → IsMadeOf fits (calendar s) e
scenario_made g s f fits e setup plain h named =
    first_made g.setup.events s fits e plain (⊎_elim (λ zero. zero_low e g.setup.events zero) (λ low. rw setup.events (named_low f e low)) (or_cases (is_zero e) (is_named f e) named)) h

placed_made : {B : Type 0} (g : Plan B) (tell : Telling B) (sound : B → Type 0) (s : State B) (f : CodeFacts) (e : EventId)
    (left : List Callback) (p : ProcId) (x : Signal) (y : ProcessOf B) (b : B) (o : Op) (test : Place → Bool)
    (fits : EventKind → Bool) (n : EventId) → HasAsked g tell sound s f e left p x y b o → fits kind.Plain ≡ true
    → ((z : Place) → test z ≡ true → (k : EventKind) → kind_fits z.class k ≡ true → fits k ≡ true)
    → list_any (λ z. test z && is_same z.event n) (tell.places b) ≡ true → IsMadeOf fits (calendar s) n
placed_made g tell sound s f e left p x y b o test fits n h plain kinds placed =
    ⊎_elim (λ zero. first_made g.setup.events s fits n plain (omega (arith, zero)) h.lawful.processes) (λ made. made)
    (in_places test fits (calendar s) n kinds (tell.places b) (places_fit g tell sound s f e left p x y b o h) placed)

triggered_fits : (z : Class) → is_class z class.Event ≡ true → (k : EventKind) → kind_fits z k ≡ true → is_triggered_kind k ≡ true
triggered_fits class.Event h kind.Plain w = refl
triggered_fits class.Event h kind.Timeout w = refl
triggered_fits class.Event h _ w = absurd (false≢true w)
triggered_fits _ h k w = absurd (false≢true h)

-- an event that a body may trigger is plain or a timeout
pub known_event_made : {B : Type 0} (g : Plan B) (tell : Telling B) (sound : B → Type 0) (s : State B) (f : CodeFacts)
    (e : EventId) (left : List Callback) (p : ProcId) (x : Signal) (y : ProcessOf B) (b : B) (o : Op) (n : EventId)
    → FitsCode f g.setup → HasAsked g tell sound s f e left p x y b o → is_known_event f (tell.places b) n ≡ true
    → IsMadeOf is_triggered_kind (calendar s) n
known_event_made g tell sound s f e left p x y b o n setup h known =
    ⊎_elim (λ named. scenario_made g s f is_triggered_kind n setup refl h.lawful.processes named)
    (λ placed. placed_made g tell sound s f e left p x y b o (λ z. is_class z.class class.Event) is_triggered_kind n h refl (λ z. triggered_fits z.class) placed)
    (or_cases (is_zero n || is_named f n) (is_in_place (tell.places b) class.Event n) known)

-- ---- an event that a body may wait for

number_fits : (z : Class) → not (is_class z class.Number) ≡ true → (k : EventKind) → kind_fits z k ≡ true → not (is_unheard_kind k) ≡ true
number_fits class.Event h kind.Plain w = refl
number_fits class.Event h kind.Timeout w = refl
number_fits class.Cond h kind.Cond w = refl
number_fits class.Proc h kind.Process w = refl
number_fits class.Request h kind.Request w = refl
number_fits class.Move h kind.Put w = refl
number_fits class.Move h kind.Get w = refl
number_fits _ h _ w = absurd (false≢true w)

process_has : (fits : EventKind → Bool) (k : EventKind) → fits kind.Process ≡ true → is_process_kind k ≡ true → fits k ≡ true
process_has fits kind.Process h process = h
process_has fits _ h process = absurd (false≢true process)

-- the event of the process that asked, where its body has its number
own_made : {B : Type 0} (g : Plan B) (tell : Telling B) (sound : B → Type 0) (s : State B) (f : CodeFacts) (e : EventId)
    (left : List Callback) (p : ProcId) (x : Signal) (y : ProcessOf B) (b : B) (o : Op) (fits : EventKind → Bool)
    (n : EventId) → HasAsked g tell sound s f e left p x y b o → fits kind.Process ≡ true → (n.0 == (tell.own b).0) ≡ true
    → IsMadeOf fits (calendar s) n
own_made g tell sound s f e left p x y b o fits n h process same =
    let found = found_pending g tell sound s p y h.found h.lawful in
    let number : n.0 ≡ p.0 = eqb-true n.0 (tell.own b).0 same ∙ ap (λ (q : ProcId). q.0) (h.poll.own ∙ own_number tell sound s p y h.lawful.bodies h.found) in
    let its : IsMadeOf fits (calendar s) (event_of p) = record { made = found.0; kind = process_has fits (kind_at (calendar s) (event_of p)) process found.3 } in
    subst (IsMadeOf fits (calendar s)) (same_event (event_of p) n (sym number)) its

-- it is no interruption and no stop
pub known_made : {B : Type 0} (g : Plan B) (tell : Telling B) (sound : B → Type 0) (s : State B) (f : CodeFacts)
    (e : EventId) (left : List Callback) (p : ProcId) (x : Signal) (y : ProcessOf B) (b : B) (o : Op) (n : EventId)
    → FitsCode f g.setup → HasAsked g tell sound s f e left p x y b o → is_known f (tell.own b) (tell.places b) n ≡ true
    → IsMadeOf (λ k. not (is_unheard_kind k)) (calendar s) n
known_made g tell sound s f e left p x y b o n setup h known =
    let fits : EventKind → Bool = λ k. not (is_unheard_kind k) in
    let test : Place → Bool = λ z. not (is_class z.class class.Number) in
    let some : Bool = list_any (λ z. test z && is_same z.event n) (tell.places b) in
    ⊎_elim
    (λ first. ⊎_elim (λ named. scenario_made g s f fits n setup refl h.lawful.processes named) (λ mine. own_made g tell sound s f e left p x y b o fits n h refl mine) (or_cases (is_zero n || is_named f n) (n.0 == (tell.own b).0) first))
    (λ placed. placed_made g tell sound s f e left p x y b o test fits n h refl (λ z. number_fits z.class) placed)
    (or_cases (is_zero n || is_named f n || (n.0 == (tell.own b).0)) some known)

-- ---- an event that a body may let pass its outcome on

cond_fits : (z : Class) → is_class z class.Cond ≡ true → (k : EventKind) → kind_fits z k ≡ true → is_trigger_kind k ≡ true
cond_fits class.Cond h kind.Cond w = refl
cond_fits class.Cond h _ w = absurd (false≢true w)
cond_fits _ h k w = absurd (false≢true h)

proc_fits : (z : Class) → is_class z class.Proc ≡ true → (k : EventKind) → kind_fits z k ≡ true → is_trigger_kind k ≡ true
proc_fits class.Proc h kind.Process w = refl
proc_fits class.Proc h _ w = absurd (false≢true w)
proc_fits _ h k w = absurd (false≢true h)

triggered_triggers : (k : EventKind) → is_triggered_kind k ≡ true → is_trigger_kind k ≡ true
triggered_triggers kind.Plain h = refl
triggered_triggers kind.Timeout h = refl
triggered_triggers _ h = absurd (false≢true h)

-- it is of the kinds of chains
pub known_source_made : {B : Type 0} (g : Plan B) (tell : Telling B) (sound : B → Type 0) (s : State B) (f : CodeFacts)
    (e : EventId) (left : List Callback) (p : ProcId) (x : Signal) (y : ProcessOf B) (b : B) (o : Op) (n : EventId)
    → FitsCode f g.setup → HasAsked g tell sound s f e left p x y b o
    → (is_known_event f (tell.places b) n || (n.0 == (tell.own b).0) || is_in_place (tell.places b) class.Cond n || is_in_place (tell.places b) class.Proc n)
    ≡ true → IsMadeOf is_trigger_kind (calendar s) n
known_source_made g tell sound s f e left p x y b o n setup h known =
    let event : Bool = is_known_event f (tell.places b) n in
    let mine : Bool = n.0 == (tell.own b).0 in
    let cond : Bool = is_in_place (tell.places b) class.Cond n in
    let proc : Bool = is_in_place (tell.places b) class.Proc n in
    ⊎_elim
    (λ three. ⊎_elim
    (λ two. ⊎_elim
    (λ is. let made : IsMadeOf is_triggered_kind (calendar s) n = known_event_made g tell sound s f e left p x y b o n setup h is in
    record { made = made.made; kind = triggered_triggers (kind_at (calendar s) n) made.kind })
    (λ is. own_made g tell sound s f e left p x y b o is_trigger_kind n h refl is)
    (or_cases event mine two))
    (λ is. placed_made g tell sound s f e left p x y b o (λ z. is_class z.class class.Cond) is_trigger_kind n h refl (λ z. cond_fits z.class) is)
    (or_cases (event || mine) cond three))
    (λ is. placed_made g tell sound s f e left p x y b o (λ z. is_class z.class class.Proc) is_trigger_kind n h refl (λ z. proc_fits z.class) is)
    (or_cases (event || mine || cond) proc known)
