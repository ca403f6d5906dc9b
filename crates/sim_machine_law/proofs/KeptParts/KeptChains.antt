-- Each unit keeps lawful chains.
use Rattle.std.proofs.Common.{◌≡◌, ℕ, ◌+◌, ◌<◌, ◌≤◌, ℤ, pos, Bool, true, ◌&&◌, not, length, List, [], ◌∷◌, Some, refl, sym, ap, subst, ◌∙◌, arith}
use Rattle.std.specs.Prelude.{◌==◌, nat_lt, nat_le, slice_index_or, filter, map}
use Rattle.std.specs.Bool.{IsTrue}
use Rattle.std.specs.List.{AllPass}
use Rattle.std.proofs.lemmas.Bool.{and_parts, false≢true}
use Rattle.std.proofs.lemmas.List.Elements.{All-weaker, All-same, All-push, All-filter, filter_passes, All-map, All-tail}
use Rattle.sim_types.specs.declared.event.EventId.{EventId}
use Rattle.sim_types.specs.declared.event.ProcId.{ProcId}
use Rattle.sim_types.specs.declared.event.Entry.{Entry}
use Rattle.sim_types.specs.declared.event.Callback.{Callback}
use Rattle.sim_types.specs.declared.event.Outcome.{Outcome}
use Rattle.sim_types.specs.declared.event.Signal.{Signal}
use Rattle.sim_types.specs.declared.event.EventKind.{EventKind}
use Rattle.sim_types.specs.declared.event.EventKind.TheVariants as kind
use Rattle.sim_types.specs.declared.event.Outcome.TheVariants as outcome
use Rattle.sim_types.specs.declared.event.Callback.TheVariants as callback
use Rattle.sim_types.specs.declared.line.End.TheVariants as end
use Rattle.sim_types.specs.declared.setup.Until.{Until}
use Rattle.sim_types.specs.declared.setup.Until.TheVariants as until
use Rattle.sim_machine.specs.State.{EventOf, Registration, Calendar, Control, State, ProcessOf, Plan, Idle, Calling, Active, Over}
use Rattle.sim_machine.specs.Events.{is_same, is_pending, is_processed, callbacks_of, next_event, register}
use Rattle.sim_machine.specs.Agenda.{due, popped}
use Rattle.sim_machine.specs.Triggering.{urgent, normal, make, schedule, trigger, make_timeout}
use Rattle.sim_machine.specs.Scopes.{on_events}
use Rattle.sim_machine.specs.Processes.{event_of, process_at, with_body, told_more, not_active, rest, defuse_failed, wait, make_process, end_process}
use Rattle.sim_machine.specs.Effect.{calendar}
use Rattle.sim_machine.specs.Steps.{pop_entry, resume, call, end_at, is_crash, settle}
use Rattle.sim_machine.specs.Runs.{blank_state, set_stop}
use Rattle.sim_machine.specs.Tellings.{Telling, CodeFacts}
use Rattle.sim_machine.specs.BodyLaw.{IsLawfulStart, scopes_told, may_start}
use Rattle.sim_machine.specs.Setups.{FitsCode, until_fits}
use Rattle.sim_machine.specs.Standing.{was_made, kind_at, left_of, is_event_of}
use Rattle.sim_machine.specs.LawfulRegistrations.{LawfulRegistrations}
use Rattle.sim_machine.specs.LawfulChains.{LawfulChains, is_trigger_kind, is_triggered_kind, chains_well}
use Rattle.sim_machine_law.proofs.Events.EventLaws.{is_same-yes, make-length, make-new}
use Rattle.sim_machine_law.proofs.KeptParts.KeptRegistrationsCalendar.{Later, below_made, made_below, processed_made, later_made, later_popped, calm_scheduled, calm_defuse_failed}
use Rattle.sim_machine_law.proofs.KeptParts.KeptTimesCases.{if_cases, wait_cases}
use Rattle.sim_machine_law.proofs.KeptParts.KeptRegistrations.{event_of_told, event_of_rest, registrations_made, registrations_register}
use Rattle.sim_machine_law.proofs.KeptParts.LawfulBasis.{AreNamedPending, LawfulBasis}
use Rattle.sim_machine_law.proofs.KeptParts.KeptBodies.{three_parts}
use Rattle.sim_machine_law.proofs.KeptParts.KeptProcesses.{registered-defused}

-- ---- the calendar or the control is changed

three_from : (a b c : Bool) → a ≡ true → b ≡ true → c ≡ true → (a && b && c) ≡ true
three_from a b c p q r = grind arith

-- what is passed on well from an event that was made is so later
pub chains_well_later : (c d : Calendar) (e : EventId) (x : Callback) → Later c d → e.0 < length c.events → chains_well c e x ≡ true → chains_well d e x ≡ true
chains_well_later c d e (callback.Trigger y) l made h =
    let k : (is_trigger_kind (kind_at c e) ≡ true) × (was_made c y ≡ true) × (is_triggered_kind (kind_at c y) ≡ true) = three_parts (is_trigger_kind (kind_at c e)) (was_made c y) (is_triggered_kind (kind_at c y)) h in
    let longer : length c.events ≤ length d.events = l.longer in
    let there : y.0 < length c.events = made_below c y k.1 in
    three_from (is_trigger_kind (kind_at d e)) (was_made d y) (is_triggered_kind (kind_at d y)) (ap is_trigger_kind (l.kinds e made) ∙ k.0) (below_made d y (omega (arith, there, longer))) (ap is_triggered_kind (l.kinds y there) ∙ k.2)
chains_well_later c d e _ l made h = refl

pub registered_later : (c d : Calendar) (control : Control) → Later c d → LawfulRegistrations c control
    → LawfulChains c control → AllPass (λ r. chains_well d r.event r.callback) c.registered
registered_later c d control l at h = λ k r below. chains_well_later c d _ _ l (made_below c _ (and_parts _ _ (at.unprocessed k r below)).0) (h.registered k r below)

-- a later calendar with the same registrations
pub chains_later : (c d : Calendar) (control : Control) → Later c d → d.registered ≡ c.registered
    → LawfulRegistrations c control → LawfulChains c control → LawfulChains d control
chains_later c d control l same at h =
    record {
      registered = All-same (λ r. chains_well d r.event r.callback ≡ true) d.registered c.registered same (registered_later c d control l at h);
      calling = λ e k. All-weaker (λ x. chains_well c e x ≡ true) (λ x. chains_well d e x ≡ true) (λ x w. chains_well_later c d e x l (processed_made c e (at.processing e k)) w) (left_of control) (h.calling e k);
    }

-- a registration that passes on well
pub chains_register : (e : EventId) (x : Callback) (c : Calendar) (control : Control) → chains_well c e x ≡ true
    → LawfulChains c control → LawfulChains (register e x c) control
chains_register e x c control well h =
    let new : Registration = record { event = e; callback = x } in
    record { registered = All-push (λ r. chains_well c r.event r.callback ≡ true) c.registered new h.registered well; calling = h.calling }

-- a control that speaks of no other events, and of no other callbacks
pub chains_control : (c : Calendar) (old new : Control)
    → ((e : EventId) → is_event_of new e ≡ true → is_event_of old e ≡ true)
    → ((e : EventId) → AllPass (chains_well c e) (left_of old) → AllPass (chains_well c e) (left_of new))
    → LawfulChains c old → LawfulChains c new
chains_control c old new events calls h = record { registered = h.registered; calling = λ e k. calls e (h.calling e (events e k)) }

pub left_of_told : (x : Signal) (c : Control) → left_of (told_more x c) ≡ left_of c
left_of_told x Idle = refl
left_of_told x (Calling f left) = refl
left_of_told x (Active f left p y) = refl
left_of_told x (Over why f left) = refl

pub left_of_rest : (c : Control) → left_of (not_active c) ≡ left_of c
left_of_rest Idle = refl
left_of_rest (Calling f left) = refl
left_of_rest (Active f left p y) = refl
left_of_rest (Over why f left) = refl

pub chains_told : (x : Signal) (c : Calendar) (control : Control) → LawfulChains c control → LawfulChains c (told_more x control)
chains_told x c control h =
    chains_control c control (told_more x control) (λ e k. sym (event_of_told x control e) ∙ k) (λ e k. All-same (λ y. chains_well c e y ≡ true) (left_of (told_more x control)) (left_of control) (left_of_told x control) k) h

pub chains_rest : (c : Calendar) (control : Control) → LawfulChains c control → LawfulChains c (not_active control)
chains_rest c control h =
    chains_control c control (not_active control) (λ e k. sym (event_of_rest control e) ∙ k) (λ e k. All-same (λ y. chains_well c e y ≡ true) (left_of (not_active control)) (left_of control) (left_of_rest control) k) h

pub chains_defuse_failed : (e : EventId) (c : Calendar) (control : Control) → LawfulRegistrations c control
    → LawfulChains c control → LawfulChains (defuse_failed e c) control
chains_defuse_failed e c control at h = chains_later c (defuse_failed e c) control (calm_defuse_failed e c).later (registered-defused e c) at h

pub chains_made : (k : EventKind) (c : Calendar) (control : Control) → LawfulRegistrations c control → LawfulChains c control → LawfulChains (make k c) control
chains_made k c control at h = chains_later c (make k c) control (later_made k c) refl at h

pub chains_scheduled : (e : EventId) (x : Outcome) (priority : ℕ) (delay : ℤ) (c : Calendar) (control : Control)
    → LawfulRegistrations c control → LawfulChains c control → LawfulChains (schedule e x priority delay c) control
chains_scheduled e x priority delay c control at h = chains_later c (schedule e x priority delay c) control (calm_scheduled e x priority delay c).later refl at h

-- an event is made, it is to call this, which passes nothing on, and it is scheduled
pub chains_new : (k : EventKind) (y : Callback) (x : Outcome) (priority : ℕ) (delay : ℤ) (c : Calendar) (control : Control)
    → ((d : Calendar) (e : EventId) → chains_well d e y ≡ true) → LawfulRegistrations c control → LawfulChains c control
    → LawfulChains (schedule (next_event c) x priority delay (register (next_event c) y (make k c))) control
chains_new k y x priority delay c control well at h =
    let e : EventId = next_event c in
    let d : Calendar = make k c in
    let more : length d.events ≡ length c.events + 1 = make-length k c in
    let made : LawfulRegistrations d control = registrations_made k c control at in
    chains_scheduled e x priority delay (register e y d) control (registrations_register e y d control (omega (arith, more)) (ap (λ (z : EventOf). z.processed) (make-new k c)) made) (chains_register e y d control (well d e) (chains_made k c control at h))

pub chains_timeout : (delay value : ℤ) (c : Calendar) (control : Control) → LawfulRegistrations c control
    → LawfulChains c control → LawfulChains (make_timeout delay value c) control
chains_timeout delay value c control at h =
    chains_scheduled (next_event c) (outcome.Ok value) normal delay (make kind.Timeout c) control (registrations_made kind.Timeout c control at) (chains_made kind.Timeout c control at h)

pub chains_wait : {B : Type 0} (e : EventId) (p : ProcId) (s : State B) → LawfulRegistrations (calendar s) s.control
    → LawfulChains (calendar s) s.control → LawfulChains (calendar (wait e p s)) (wait e p s).control
chains_wait e p s at h =
    wait_cases (λ t. LawfulChains (calendar t) t.control) e p s (λ k. chains_told _ (defuse_failed e (calendar s)) s.control (chains_defuse_failed e (calendar s) s.control at h))
    (λ k. chains_rest (register e (callback.Resume p) (calendar s)) s.control (chains_register e (callback.Resume p) (calendar s) s.control refl h))

-- ---- the units

well_at : (d : Calendar) (e : EventId) (r : Registration) → is_same r.event e ≡ true
    → chains_well d r.event r.callback ≡ true → chains_well d e r.callback ≡ true
well_at d e r same h = subst (λ f. chains_well d f r.callback ≡ true) (is_same-yes r.event e same) h

-- the callbacks of the event that is popped pass on as well as they did while they were registered
popped_callbacks : (d : Calendar) (e : EventId) (rs : List Registration) → AllPass (λ r. chains_well d r.event r.callback) rs
    → AllPass (chains_well d e) (map (λ r. r.callback) (filter (λ r. is_same r.event e) rs))
popped_callbacks d e rs h =
    All-map (λ x. chains_well d e x ≡ true) (λ r. r.callback) (filter (λ r. is_same r.event e) rs)
    (λ k r below. well_at d e _ (filter_passes (λ r. is_same r.event e) rs k r below) (All-filter (λ r. is_same r.event e) (λ r. chains_well d r.event r.callback ≡ true) rs h k r below))

pub chains-popped : {B : Type 0} (g : Plan B) (tell : Telling B) (sound : B → Type 0) (s : State B) (x : Entry)
    → s.control ≡ Idle → due (calendar s).agenda ≡ Some x → LawfulBasis g tell sound s
    → LawfulChains (pop_entry x s).facilities.calendar (pop_entry x s).control
chains-popped g tell sound s x idle h l =
    let c : Calendar = calendar s in
    let d : Calendar = popped x c in
    let made : AllPass (λ r. chains_well d r.event r.callback) c.registered = registered_later c d s.control (later_popped x c) l.registrations l.chains in
    record {
      registered = All-filter (λ r. not (is_same r.event x.event)) (λ r. chains_well d r.event r.callback ≡ true) c.registered made;
      calling = λ e k. subst (λ f. AllPass (chains_well d f) (callbacks_of x.event c)) (is_same-yes x.event e k) (popped_callbacks d x.event c.registered made);
    }

pub chains-resumed : {B : Type 0} (g : Plan B) (tell : Telling B) (sound : B → Type 0) (s : State B) (e : EventId)
    (left : List Callback) (p : ProcId) → s.control ≡ Calling e (callback.Resume p ∷ left) → LawfulBasis g tell sound s
    → LawfulChains (resume e left p s).facilities.calendar (resume e left p s).control
chains-resumed g tell sound s e left p at l =
    let d : Calendar = defuse_failed e (calendar s) in
    let h : LawfulChains d (Calling e (callback.Resume p ∷ left)) = subst (λ c. LawfulChains d c) at (chains_defuse_failed e (calendar s) s.control l.registrations l.chains) in
    chains_control d (Calling e (callback.Resume p ∷ left)) _ (λ f k. k) (λ f k. All-tail (λ y. chains_well d f y ≡ true) (callback.Resume p) left k) h

pub chains-stopped : {B : Type 0} (g : Plan B) (tell : Telling B) (sound : B → Type 0) (s : State B) (e : EventId)
    (left : List Callback) → s.control ≡ Calling e (callback.Stop ∷ left) → LawfulBasis g tell sound s
    → LawfulChains (call g e callback.Stop left s).facilities.calendar (call g e callback.Stop left s).control
chains-stopped g tell sound s e left at l =
    chains_control (calendar s) (Calling e (callback.Stop ∷ left)) (Over (end_at e s) e left) (λ f k. k) (λ f k. All-tail (λ y. chains_well (calendar s) f y ≡ true) callback.Stop left k)
    (subst (λ c. LawfulChains (calendar s) c) at l.chains)

pub chains-settled : {B : Type 0} (g : Plan B) (tell : Telling B) (sound : B → Type 0) (s : State B) (e : EventId)
    → s.control ≡ Calling e [] → LawfulBasis g tell sound s
    → LawfulChains (settle e s).facilities.calendar (settle e s).control
chains-settled g tell sound s e at l =
    let h : LawfulChains (calendar s) (Calling e []) = subst (λ c. LawfulChains (calendar s) c) at l.chains in
    if_cases (λ c. LawfulChains (calendar s) c) (is_crash e s) (Over end.Crash e []) Idle (λ b. chains_control (calendar s) (Calling e []) (Over end.Crash e []) (λ f k. k) (λ f k. k) h)
    (λ b. chains_control (calendar s) (Calling e []) Idle (λ f k. absurd (false≢true k)) (λ f k. k) h)

pub chains-polled_end : {B : Type 0} (g : Plan B) (tell : Telling B) (sound : B → Type 0) (s : State B) (f : CodeFacts)
    (e : EventId) (left : List Callback) (p : ProcId) (x : Signal) (y : ProcessOf B) (b : B) (o : Outcome)
    → s.control ≡ Active e left p x → process_at p s ≡ Some y → sound b → LawfulBasis g tell sound s
    → IsTrue (length (scopes_told (tell.scopes y.body) (tell.last y.body) x) == 0)
    → LawfulChains (rest (end_process p o (with_body p b s))).facilities.calendar (rest (end_process p o (with_body p b s))).control
chains-polled_end g tell sound s f e left p x y b o at found keeps l closed =
    chains_rest (trigger (event_of p) o (calendar s)) s.control (chains_scheduled (event_of p) o normal (pos 0) (calendar s) s.control l.registrations l.chains)

pub chains-made_process : {B : Type 0} (g : Plan B) (tell : Telling B) (sound : B → Type 0) (s : State B) (f : CodeFacts)
    (k : ℕ) (args : List ℤ) → IsTrue (nat_lt k (length f.params) && may_start (slice_index_or f.params k []) args)
    → IsLawfulStart f tell k args (record { 0 = (next_event (calendar s)).0 })
    (g.start k args (record { 0 = (next_event (calendar s)).0 }))
    → sound (g.start k args (record { 0 = (next_event (calendar s)).0 })) → LawfulBasis g tell sound s
    → LawfulChains (make_process g k args s).facilities.calendar (make_process g k args s).control
chains-made_process g tell sound s f k args fits start keeps l =
    let c : Calendar = calendar s in
    chains_new kind.Init (callback.Resume (record { 0 = (next_event c).0 })) (outcome.Ok (pos 0)) urgent (pos 0) (make kind.Process c) s.control (λ d e. refl) (registrations_made kind.Process c s.control l.registrations) (chains_made kind.Process c s.control l.registrations l.chains)

pub chains-blank : {B : Type 0} (g : Plan B) (tell : Telling B) (sound : B → Type 0) (f : CodeFacts) → FitsCode f g.setup
    → LawfulChains (blank_state g).facilities.calendar (blank_state g).control
chains-blank g tell sound f fits = record { registered = λ i d below. absurd (omega (arith, below)); calling = λ e k. absurd (false≢true k) }

pub chains-set_stop : {B : Type 0} (g : Plan B) (tell : Telling B) (sound : B → Type 0) (s : State B) (until : Until)
    → IsTrue (until_fits g.setup.events until)
    → AreNamedPending g s
    → (calendar s).time ≡ pos 0 → s.control ≡ Idle → LawfulBasis g tell sound s
    → LawfulChains (on_events (set_stop until) s).facilities.calendar (on_events (set_stop until) s).control
chains-set_stop g tell sound s until.Never fits named zero_time idle l = l.chains
chains-set_stop g tell sound s (until.At time) fits named zero_time idle l = chains_new kind.Stop callback.Stop (outcome.Ok (pos 0)) urgent time (calendar s) s.control (λ d e. refl) l.registrations l.chains
chains-set_stop g tell sound s (until.Event e) fits named zero_time idle l = chains_register e callback.Stop (calendar s) s.control refl l.chains
