-- Each unit keeps bodies lawful.
use Rattle.std.proofs.Common.{◌≡◌, ℕ, ◌<◌, ℤ, pos, Bool, true, false, List, [], ◌∷◌, length, refl, sym, subst, ap, ◌∙◌, if◌then◌else◌, arith, Option, Some, None, ◌⊎◌, inl, inr}
use Rattle.std.specs.Prelude.{IsTrue, nat_lt, nat_le, ◌==◌, ◌&&◌, ◌||◌, not, slice_index_or}
use Rattle.std.specs.List.{list_all, Any}
use Rattle.std.proofs.lemmas.Bool.{or_left, or_cases, ltb-true, eqb-true, eq-eqb, ne_eqb}
use Rattle.std.proofs.lemmas.List.Elements.{All-nil, All-push, All-weaker}
use Rattle.std.proofs.lemmas.List.Sums.{AllPass-from_list_all, list_all-from_AllPass}
use Rattle.std.proofs.lemmas.List.Folds.{Any-from_list_any}
use Rattle.sim_types.specs.declared.event.EventId.{EventId}
use Rattle.sim_types.specs.declared.event.ProcId.{ProcId}
use Rattle.sim_types.specs.declared.event.Outcome.{Outcome}
use Rattle.sim_types.specs.declared.event.Signal.{Signal}
use Rattle.sim_types.specs.declared.event.Entry.{Entry}
use Rattle.sim_types.specs.declared.event.Callback.{Callback}
use Rattle.sim_types.specs.declared.event.EventKind.TheVariants as kind
use Rattle.sim_types.specs.declared.event.Callback.TheVariants as callback
use Rattle.sim_types.specs.declared.event.Signal.TheVariants as signal
use Rattle.sim_types.specs.declared.line.End.TheVariants as end
use Rattle.sim_types.specs.declared.op.Op.{Op}
use Rattle.sim_types.specs.declared.setup.Until.{Until}
use Rattle.sim_machine.specs.State.{Calendar, ProcessOf, Control, Idle, Calling, Active, Over, State, Plan}
use Rattle.sim_machine.specs.Events.{is_process, event_at, is_pending, is_processed, next_event}
use Rattle.sim_machine.specs.Agenda.{due}
use Rattle.sim_machine.specs.Triggering.{make, normal}
use Rattle.sim_machine.specs.Scopes.{on_events}
use Rattle.sim_machine.specs.Processes.{process_at, is_alive, with_body, event_of, rest, make_process, end_process}
use Rattle.sim_machine.specs.Effect.{calendar, raise}
use Rattle.sim_machine.specs.Steps.{pop_entry, resume, call, settle, signal_by, is_crash}
use Rattle.sim_machine.specs.Runs.{blank_state, set_stop}
use Rattle.sim_machine.specs.Tellings.{Place, Telling, CodeFacts}
use Rattle.sim_machine.specs.MayFollow.{may_wait, may_be_told}
use Rattle.sim_machine.specs.MayAsk.{is_zero}
use Rattle.sim_machine.specs.BodyLaw.{IsLawfulStart, may_start, scopes_told, holds_argument}
use Rattle.sim_machine.specs.Setups.{FitsCode, until_fits}
use Rattle.sim_machine.specs.Standing.{was_made, kind_at}
use Rattle.sim_machine.specs.LawfulProcesses.{LawfulProcesses, is_active, is_living_well, is_process_kind}
use Rattle.sim_machine.specs.LawfulBodies.{LawfulBodies, place_fits, waits_or_new, told_fits, is_told_well}
use Rattle.sim_machine_law.proofs.KeptParts.KeptBodies.{four_parts, IsBodyWell, bodies_well, bodies_lawful, places_grown, told_resumed, by_is_resumption, told_stays}
use Rattle.sim_machine_law.proofs.KeptParts.KeptBodiesEvents.{OldStay, grown_itself, grown_old, grown_failed_defused, grown_popped, grown_scheduled, old_process, old_stop}
use Rattle.sim_machine_law.proofs.KeptParts.KeptBodiesPolls.{IsBodyPoll, bodies_moved, bodies_going_on, bodies_ended, then_second}
use Rattle.sim_machine_law.proofs.KeptParts.LawfulBasis.{AreNamedPending, LawfulBasis}

-- what a process is told, where the control is known
told_at : {B : Type 0} (tell : Telling B) (c : Calendar) (q : ProcId) (b : B) (k l : Control) → k ≡ l
    → is_told_well tell c q b k ≡ true → is_told_well tell c q b l ≡ true
told_at tell c q b k l is h = ap (is_told_well tell c q b) (sym is) ∙ h

pub bodies-popped : {B : Type 0} (g : Plan B) (tell : Telling B) (sound : B → Type 0) (s : State B) (x : Entry)
    → s.control ≡ Idle → due (calendar s).agenda ≡ Some x → LawfulBasis g tell sound s
    → LawfulBodies tell sound (pop_entry x s)
bodies-popped g tell sound s x idle is_due h =
    bodies_moved tell sound s (pop_entry x s) refl (grown_popped x s.facilities.calendar) (λ q b w. told_at tell s.facilities.calendar q b s.control Idle idle w) h.bodies

pub bodies-resumed : {B : Type 0} (g : Plan B) (tell : Telling B) (sound : B → Type 0) (s : State B) (e : EventId)
    (left : List Callback) (p : ProcId) → s.control ≡ Calling e (callback.Resume p ∷ left) → LawfulBasis g tell sound s
    → LawfulBodies tell sound (resume e left p s)
bodies-resumed g tell sound s e left p calling h =
    let c : Calendar = s.facilities.calendar in
    let x : Signal = signal_by (event_at c e).kind (event_at c e).outcome in
    bodies_moved tell sound s (resume e left p s) refl (grown_failed_defused e c)
    (λ q b w. told_resumed tell (resume e left p s).facilities.calendar q b e left p x (told_at tell c q b s.control (Calling e (callback.Resume p ∷ left)) calling w) (by_is_resumption (event_at c e).kind (event_at c e).outcome)) h.bodies

pub bodies-stopped : {B : Type 0} (g : Plan B) (tell : Telling B) (sound : B → Type 0) (s : State B) (e : EventId)
    (left : List Callback) → s.control ≡ Calling e (callback.Stop ∷ left) → LawfulBasis g tell sound s
    → LawfulBodies tell sound (call g e callback.Stop left s)
bodies-stopped g tell sound s e left calling h =
    bodies_moved tell sound s (call g e callback.Stop left s) refl (grown_itself s.facilities.calendar) (λ q b w. told_at tell s.facilities.calendar q b s.control (Calling e (callback.Stop ∷ left)) calling w) h.bodies

settled_told : {B : Type 0} (tell : Telling B) (c : Calendar) (q : ProcId) (b : B) (e : EventId) (v : Bool)
    → waits_or_new tell b ≡ true → is_told_well tell c q b (if v then Over end.Crash e [] else Idle) ≡ true
settled_told tell c q b e true h = h
settled_told tell c q b e false h = h

pub bodies-settled : {B : Type 0} (g : Plan B) (tell : Telling B) (sound : B → Type 0) (s : State B) (e : EventId)
    → s.control ≡ Calling e [] → LawfulBasis g tell sound s → LawfulBodies tell sound (settle e s)
bodies-settled g tell sound s e calling h =
    let c : Calendar = s.facilities.calendar in
    bodies_moved tell sound s (settle e s) refl (grown_itself c) (λ q b w. settled_told tell c q b e (is_crash e s) (told_at tell c q b s.control (Calling e []) calling w)) h.bodies

-- an operation is refused
pub bodies_raise : {B : Type 0} (tell : Telling B) (sound : B → Type 0) (s : State B) (e : EventId) (left : List Callback)
    (p : ProcId) (x : Signal) (y : ProcessOf B) (b : B) (n : ℕ) → IsBodyPoll tell sound s e left p x y b
    → may_be_told (tell.last b) (signal.Raised n) ≡ true → LawfulBodies tell sound (raise n (with_body p b s))
bodies_raise tell sound s e left p x y b n h fits =
    bodies_going_on tell sound s (raise n (with_body p b s)) e left p x y b (signal.Raised n) h refl (grown_itself s.facilities.calendar) refl fits

-- a body that last asked for something to wait for waits
pub waits_asked : {B : Type 0} (tell : Telling B) (b : B) (asked : Op) → tell.last b ≡ Some asked → may_wait asked ≡ true → waits_or_new tell b ≡ true
waits_asked tell b asked last h = ap (λ (o : Option Op). elim o [ None ↦ true | Some a ↦ may_wait a ]) last ∙ h

pub bodies-polled_end : {B : Type 0} (g : Plan B) (tell : Telling B) (sound : B → Type 0) (s : State B) (f : CodeFacts)
    (e : EventId) (left : List Callback) (p : ProcId) (x : Signal) (y : ProcessOf B) (b : B) (o : Outcome)
    → s.control ≡ Active e left p x → process_at p s ≡ Some y → sound b → LawfulBasis g tell sound s
    → IsTrue (length (scopes_told (tell.scopes y.body) (tell.last y.body) x) == 0)
    → LawfulBodies tell sound (rest (end_process p o (with_body p b s)))
bodies-polled_end g tell sound s f e left p x y b o active found sb h no_scopes =
    bodies_ended tell sound s (rest (end_process p o (with_body p b s))) e left p x b active refl (grown_scheduled (event_of p) o normal (pos 0) s.facilities.calendar) refl h.bodies

pub bodies-blank : {B : Type 0} (g : Plan B) (tell : Telling B) (sound : B → Type 0) (f : CodeFacts) → FitsCode f g.setup
    → LawfulBodies tell sound (blank_state g)
bodies-blank g tell sound f fits = bodies_lawful tell sound (blank_state g) (All-nil (IsBodyWell tell sound (blank_state g).facilities.calendar Idle))

pub bodies-set_stop : {B : Type 0} (g : Plan B) (tell : Telling B) (sound : B → Type 0) (s : State B) (until : Until)
    → IsTrue (until_fits g.setup.events until)
    → AreNamedPending g s
    → (calendar s).time ≡ pos 0 → s.control ≡ Idle → LawfulBasis g tell sound s
    → LawfulBodies tell sound (on_events (set_stop until) s)
bodies-set_stop g tell sound s until fits named start idle h =
    let c : Calendar = s.facilities.calendar in
    let t = on_events (set_stop until) s in
    bodies_moved tell sound s t refl (grown_old c t.facilities.calendar (old_stop until c)) (λ q b w. told_stays tell c t.facilities.calendar q b s.control (old_stop until c) w) h.bodies

-- ---- a process is made

-- the event of a live process was made
pub alive_made : {B : Type 0} (named : ℕ) (s : State B) (q : ProcId) → LawfulProcesses named s → is_alive q s ≡ true → q.0 < length s.facilities.calendar.events
alive_made {B} named s q h alive =
    let any : Any (λ z. is_process z.id q ≡ true) s.processes = Any-from_list_any (λ z. is_process z.id q) s.processes alive in
    let P : ProcessOf B → Type 0 = λ z. is_living_well s z ≡ true in
    let living : is_living_well s any.1 ≡ true = subst P any.3 (h.living any.0 any.1 any.2) in
    let c : Calendar = s.facilities.calendar in
    let parts = four_parts (was_made c any.1.target) (was_made c (event_of any.1.id)) (is_pending c (event_of any.1.id)) (is_process_kind (kind_at c (event_of any.1.id))) living in
    omega (arith, ltb-true any.1.id.0 (length c.events) parts.1, eqb-true any.1.id.0 q.0 any.4)

-- a process that is to be made is not the active one
pub new_not_active : {B : Type 0} (named : ℕ) (s : State B) (q p : ProcId) → LawfulProcesses named s
    → p.0 ≡ length s.facilities.calendar.events → is_active s.control q ≡ true → is_process q p ≡ false
new_not_active named s q p h new active = ne_eqb q.0 p.0 (λ same. omega (arith, same, new, alive_made named s q h (h.active q active)))

new_waits : {B : Type 0} (tell : Telling B) (d : Calendar) (p : ProcId) (b : B) (k : Control)
    → ((q : ProcId) → is_active k q ≡ true → is_process q p ≡ false) → waits_or_new tell b ≡ true
    → is_told_well tell d p b k ≡ true
new_waits tell d p b Idle apart h = h
new_waits tell d p b (Calling e left) apart h = h
new_waits tell d p b (Active e left q x) apart h = then_second (is_process q p) (told_fits tell d b x) (waits_or_new tell b) (apart q (eq-eqb q.0 q.0 refl)) ∙ h
new_waits tell d p b (Over why e left) apart h = h

-- the places of a body that begins fit, where its arguments do
pub places_begun : {B : Type 0} (c : Calendar) (f : CodeFacts) (tell : Telling B) (k : ℕ) (args : List ℤ) (p : ProcId)
    (b : B) → ((x : Place) → holds_argument (slice_index_or f.params k []) args x ≡ true → place_fits c x ≡ true)
    → IsLawfulStart f tell k args p b → list_all (place_fits c) (tell.places b) ≡ true
places_begun c f tell k args p b fits start =
    let holds : Place → Bool = λ x. is_zero x.event || holds_argument (slice_index_or f.params k []) args x in
    list_all-from_AllPass (place_fits c) (tell.places b) (All-weaker (λ x. holds x ≡ true) (λ x. place_fits c x ≡ true) (λ x w. at x (or_cases (is_zero x.event) _ w)) (tell.places b) (AllPass-from_list_all holds (tell.places b) start.places))
  where
    at : (x : Place) → (is_zero x.event ≡ true) ⊎ (holds_argument (slice_index_or f.params k []) args x ≡ true) → place_fits c x ≡ true
    at x (inl zero) = or_left (is_zero x.event) _ zero
    at x (inr holds) = fits x holds

-- where the new body's places fit; that the arguments are such as a process may begin with does not say so
pub bodies-made_process_placed : {B : Type 0} (g : Plan B) (tell : Telling B) (sound : B → Type 0) (s : State B)
    (f : CodeFacts) (k : ℕ) (args : List ℤ)
    → IsTrue (nat_lt k (length f.params) && may_start (slice_index_or f.params k []) args)
    → IsLawfulStart f tell k args (record { 0 = (next_event (calendar s)).0 })
    (g.start k args (record { 0 = (next_event (calendar s)).0 }))
    → IsTrue (list_all (place_fits (calendar s)) (tell.places (g.start k args (record { 0 = (next_event (calendar s)).0 }))))
    → sound (g.start k args (record { 0 = (next_event (calendar s)).0 })) → LawfulBasis g tell sound s
    → LawfulBodies tell sound (make_process g k args s)
bodies-made_process_placed {B} g tell sound s f k args may start placed sb h =
    let c : Calendar = s.facilities.calendar in
    let t : State B = make_process g k args s in
    let d : Calendar = t.facilities.calendar in
    let p : ProcId = record { 0 = (next_event c).0 } in
    let z : ProcessOf B = record { id = p; body = g.start k args p; target = next_event (make kind.Process c) } in
    let P : ProcessOf B → Type 0 = IsBodyWell tell sound c s.control in
    let Q : ProcessOf B → Type 0 = IsBodyWell tell sound d s.control in
    let old : OldStay c d = old_process c in
    let stays : (x : ProcessOf B) → P x → Q x = λ x w. record { body = w.body; own = w.own; places = places_grown c d (grown_old c d old) (tell.places x.body) w.places; told = told_stays tell c d x.id x.body s.control old w.told } in
    let waits : waits_or_new tell z.body ≡ true = ap (λ (o : Option Op). elim o [ None ↦ true | Some a ↦ may_wait a ]) start.last in
    bodies_lawful tell sound t (All-push Q s.processes z (All-weaker P Q stays s.processes (bodies_well tell sound s h.bodies)) (record {
      body = sb;
      own = start.own;
      places = places_grown c d (grown_old c d old) (tell.places z.body) placed;
      told = new_waits tell d p z.body s.control (λ q active. new_not_active g.setup.events s q p h.processes refl active) waits;
    }))
