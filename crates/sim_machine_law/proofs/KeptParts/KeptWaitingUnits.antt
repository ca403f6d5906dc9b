-- Each unit keeps what waits lawful.
use Rattle.std.proofs.Common.{◌≡◌, ℕ, ℤ, pos, Bool, true, false, List, [], ◌∷◌, ◌++◌, length, refl, sym, ap, ◌∙◌, if◌then◌else◌, arith, Some, All, filter, map}
use Rattle.std.specs.Prelude.{IsTrue, nat_lt, nat_le, ◌==◌, ◌&&◌, ◌+◌, not, is_none, slice_index_or}
use Rattle.std.proofs.lemmas.Bool.{false≢true, ltb-true, eqb-true, ne_eqb, or_left}
use Rattle.std.proofs.lemmas.List.Folds.{list_any-append}
use Rattle.std.proofs.lemmas.List.Elements.{All-nil, All-head, All-tail, All-push, All-weaker}
use Rattle.sim_types.specs.declared.event.EventId.{EventId}
use Rattle.sim_types.specs.declared.event.ProcId.{ProcId}
use Rattle.sim_types.specs.declared.event.Outcome.{Outcome}
use Rattle.sim_types.specs.declared.event.EventKind.{EventKind}
use Rattle.sim_types.specs.declared.event.Signal.{Signal}
use Rattle.sim_types.specs.declared.event.Entry.{Entry}
use Rattle.sim_types.specs.declared.event.Callback.{Callback}
use Rattle.sim_types.specs.declared.event.EventKind.TheVariants as kind
use Rattle.sim_types.specs.declared.event.Callback.TheVariants as callback
use Rattle.sim_types.specs.declared.event.Signal.TheVariants as signal
use Rattle.sim_types.specs.declared.line.End.TheVariants as end
use Rattle.sim_types.specs.declared.setup.Until.{Until}
use Rattle.sim_machine.specs.State.{EventOf, Calendar, Waiter, OpenScope, ProcessOf, Control, Idle, Calling, Active, Over, State, Plan}
use Rattle.sim_machine.specs.Events.{is_process, event_at, is_pending, is_processed, next_event, callbacks_of}
use Rattle.sim_machine.specs.Agenda.{due, popped}
use Rattle.sim_machine.specs.Triggering.{make, normal, trigger}
use Rattle.sim_machine.specs.Scopes.{on_events}
use Rattle.sim_machine.specs.Processes.{process_at, is_alive, with_body, event_of, told_more, rest, make_process, make_events_of_process, end_process, defuse_failed}
use Rattle.sim_machine.specs.Effect.{calendar, raise}
use Rattle.sim_machine.specs.Steps.{pop_entry, resume, call, settle, signal_by, is_crash, line_of, end_at}
use Rattle.sim_machine.specs.Runs.{blank_state, set_stop}
use Rattle.sim_machine.specs.Tellings.{Telling, CodeFacts}
use Rattle.sim_machine.specs.MayFollow.{is_enter}
use Rattle.sim_machine.specs.BodyLaw.{IsLawfulStart, may_start, scopes_told}
use Rattle.sim_machine.specs.Setups.{FitsCode, until_fits}
use Rattle.sim_machine.specs.Standing.{was_made, kind_at}
use Rattle.sim_machine.specs.LawfulProcesses.{LawfulProcesses, is_process_kind, is_living_well}
use Rattle.sim_machine.specs.LawfulWaiting.{waits_well, may_wait_kind, is_scope_well, request_has_scope, has_scope, entered_by, requests_of, KnowsItsScopes}
use Rattle.sim_machine_law.proofs.Events.EventLaws.{change_event-other}
use Rattle.sim_machine_law.proofs.KeptParts.KeptConditionsPop.{popped-keeps}
use Rattle.sim_machine_law.proofs.KeptParts.KeptBodies.{four_parts, find_has, find_passes, by_is_resumption}
use Rattle.sim_machine_law.proofs.KeptParts.KeptBodiesEvents.{OldStay, grown_itself, grown_old, grown_failed_defused, grown_popped, grown_scheduled, old_process, old_stop}
use Rattle.sim_machine_law.proofs.KeptParts.KeptBodiesUnits.{alive_made}
use Rattle.sim_machine_law.proofs.KeptParts.KeptWaiting.{moved, waiting_moved, waits_pending, scope_alive}
use Rattle.sim_machine_law.proofs.KeptParts.KeptWaitingPolls.{IsWaitingPoll, waiting_unpolled, waiting_polled, waiting_ended, entered_resumed, pending_failed_defused, knows_moved, holds_of_all}
use Rattle.sim_machine_law.proofs.KeptParts.LawfulBasis.{AreNamedPending, LawfulBasis, WaitingBasis}
use Rattle.sim_machine_law.proofs.Processes.ToldScopes.{entered_not}

-- no request is told of, where none was told of before
none_entered : (k l : Control) → k ≡ l → ((q : ProcId) (v : Bool) → entered_by l q v ≡ []) → (q : ProcId) (v : Bool) → [] ≡ entered_by k q v
none_entered k l is none q v = sym (ap (λ (j : Control). entered_by j q v) is ∙ none q v)

pub waiting-popped : {B : Type 0} (g : Plan B) (tell : Telling B) (sound : B → Type 0) (s : State B) (x : Entry)
    → s.control ≡ Idle → due (calendar s).agenda ≡ Some x → LawfulBasis g tell sound s → WaitingBasis g tell (pop_entry x s)
waiting-popped g tell sound s x idle is_due h =
    let c : Calendar = s.facilities.calendar in
    waiting_unpolled g tell s (popped x c) (Calling x.event (callbacks_of x.event c)) (s.processed + 1) s.drawn (s.lines ++ line_of x c ∷ []) (grown_popped x c) (λ w waits. popped-keeps (λ y. is_none y.outcome) x c w.event (λ y. refl) ∙ waits_pending c w waits)
    (none_entered s.control Idle idle (λ q v. refl)) h.waiting

pub waiting-resumed : {B : Type 0} (g : Plan B) (tell : Telling B) (sound : B → Type 0) (s : State B) (e : EventId)
    (left : List Callback) (p : ProcId) → s.control ≡ Calling e (callback.Resume p ∷ left) → LawfulBasis g tell sound s
    → WaitingBasis g tell (resume e left p s)
waiting-resumed g tell sound s e left p calling h =
    let c : Calendar = s.facilities.calendar in
    let x : Signal = signal_by (event_at c e).kind (event_at c e).outcome in
    waiting_unpolled g tell s (defuse_failed e c) (Active e left p x) s.processed s.drawn s.lines (grown_failed_defused e c) (λ w waits. pending_failed_defused e c w.event ∙ waits_pending c w waits)
    (λ q v. entered_resumed e left p x q v (by_is_resumption (event_at c e).kind (event_at c e).outcome) ∙ none_entered s.control (Calling e (callback.Resume p ∷ left)) calling (λ r w. refl) q v) h.waiting

pub waiting-stopped : {B : Type 0} (g : Plan B) (tell : Telling B) (sound : B → Type 0) (s : State B) (e : EventId)
    (left : List Callback) → s.control ≡ Calling e (callback.Stop ∷ left) → LawfulBasis g tell sound s
    → WaitingBasis g tell (call g e callback.Stop left s)
waiting-stopped g tell sound s e left calling h =
    let c : Calendar = s.facilities.calendar in
    waiting_unpolled g tell s c (Over (end_at e s) e left) s.processed s.drawn s.lines (grown_itself c) (waits_pending c) (none_entered s.control (Calling e (callback.Stop ∷ left)) calling (λ q v. refl)) h.waiting

settled_enters : (e : EventId) (b : Bool) (q : ProcId) (v : Bool) → entered_by (if b then Over end.Crash e [] else Idle) q v ≡ []
settled_enters e true q v = refl
settled_enters e false q v = refl

pub waiting-settled : {B : Type 0} (g : Plan B) (tell : Telling B) (sound : B → Type 0) (s : State B) (e : EventId)
    → s.control ≡ Calling e [] → LawfulBasis g tell sound s → WaitingBasis g tell (settle e s)
waiting-settled g tell sound s e calling h =
    let c : Calendar = s.facilities.calendar in
    waiting_unpolled g tell s c (if is_crash e s then Over end.Crash e [] else Idle) s.processed s.drawn s.lines (grown_itself c) (waits_pending c)
    (λ q v. settled_enters e (is_crash e s) q v ∙ none_entered s.control (Calling e []) calling (λ r w. refl) q v) h.waiting

-- ---- polls

-- an operation is refused
pub waiting_raise : {B : Type 0} (g : Plan B) (tell : Telling B) (s : State B) (e : EventId) (left : List Callback)
    (p : ProcId) (x : Signal) (y : ProcessOf B) (b : B) (n : ℕ) → IsWaitingPoll g tell s e left p x y b
    → WaitingBasis g tell (raise n (with_body p b s))
waiting_raise g tell s e left p x y b n h =
    let c : Calendar = s.facilities.calendar in
    waiting_polled g tell s e left p x y b c (told_more (signal.Raised n) s.control) s.processed s.drawn s.lines h (grown_itself c) (waits_pending c) (λ q v. ap (λ (k : Control). entered_by (told_more (signal.Raised n) k) q v) h.active)

-- what waits is pending still, where old events stay as they were
pub old_pending : (c d : Calendar) → OldStay c d → (w : Waiter) → waits_well c w ≡ true → is_pending d w.event ≡ true
old_pending c d old w h =
    let made : was_made c w.event ≡ true = (four_parts (was_made c w.event) (is_pending c w.event) (not (event_at c w.event).cancelled) (may_wait_kind (kind_at c w.event)) h).0 in
    ap (λ (x : EventOf). is_none x.outcome) (old.same w.event (ltb-true w.event.0 (length c.events) made)) ∙ waits_pending c w h

kinds_apart : (k : EventKind) → is_process_kind k ≡ true → may_wait_kind k ≡ true → ⊥
kinds_apart kind.Process h w = false≢true w
kinds_apart _ h w = false≢true h

-- the event of a live process is no waiter's
waits_elsewhere : (c : Calendar) (p : ProcId) (w : Waiter) → is_process_kind (kind_at c (event_of p)) ≡ true → waits_well c w ≡ true → w.event.0 ≡ p.0 → ⊥
waits_elsewhere c p w h waits same =
    let wait_kind : may_wait_kind (kind_at c w.event) ≡ true = (four_parts (was_made c w.event) (is_pending c w.event) (not (event_at c w.event).cancelled) (may_wait_kind (kind_at c w.event)) waits).3 in
    let P : ℕ → EventId = λ n. record { 0 = n } in
    kinds_apart (kind_at c (event_of p)) h (ap (λ (n : ℕ). may_wait_kind (kind_at c (P n))) (sym same) ∙ wait_kind)

no_length : (es : List EventId) → (length es == 0) ≡ true → es ≡ []
no_length [] h = refl
no_length (e ∷ es) h = absurd (omega (arith, eqb-true (length (e ∷ es)) 0 h))

pub waiting-polled_end : {B : Type 0} (g : Plan B) (tell : Telling B) (sound : B → Type 0) (s : State B) (f : CodeFacts)
    (e : EventId) (left : List Callback) (p : ProcId) (x : Signal) (y : ProcessOf B) (b : B) (o : Outcome)
    → s.control ≡ Active e left p x → process_at p s ≡ Some y → sound b → LawfulBasis g tell sound s
    → IsTrue (length (scopes_told (tell.scopes y.body) (tell.last y.body) x) == 0)
    → WaitingBasis g tell (rest (end_process p o (with_body p b s)))
waiting-polled_end {B} g tell sound s f e left p x y b o active found sb h no_scopes =
    let c : Calendar = s.facilities.calendar in
    let d : Calendar = trigger (event_of p) o c in
    let living : is_living_well s y ≡ true = find_has (λ z. is_living_well s z ≡ true) (λ z. is_process z.id p) s.processes y found h.processes.living in
    let own_kind : is_process_kind (kind_at c (event_of y.id)) ≡ true = (four_parts (was_made c y.target) (was_made c (event_of y.id)) (is_pending c (event_of y.id)) (is_process_kind (kind_at c (event_of y.id))) living).3 in
    let same : y.id.0 ≡ p.0 = eqb-true y.id.0 p.0 (find_passes (λ z. is_process z.id p) s.processes y found) in
    let P : ℕ → EventId = λ n. record { 0 = n } in
    let its_kind : is_process_kind (kind_at c (event_of p)) ≡ true = ap (λ (n : ℕ). is_process_kind (kind_at c (P n))) (sym same) ∙ own_kind in
    waiting_ended g tell s e left p x y b d s.processed s.drawn s.lines active found (no_length (scopes_told (tell.scopes y.body) (tell.last y.body) x) no_scopes) (grown_scheduled (event_of p) o normal (pos 0) c)
    (λ w waits. ap (λ (z : EventOf). is_none z.outcome) (change_event-other (event_of p) w.event (λ z. record z { outcome = Some o }) c (waits_elsewhere c p w its_kind waits)) ∙ waits_pending c w waits) h.waiting

-- ---- the opening

pub waiting-blank : {B : Type 0} (g : Plan B) (tell : Telling B) (sound : B → Type 0) (f : CodeFacts) → FitsCode f g.setup → WaitingBasis g tell (blank_state g)
waiting-blank g tell sound f fits =
    let s = blank_state g in
    record {
      waiters = All-nil (λ w. waits_well s.facilities.calendar w ≡ true);
      once = λ i j d before below. absurd (omega (arith, below));
      requests = All-nil (λ w. request_has_scope [] w w.want ≡ true);
      using = λ res. All-nil (λ u. has_scope [] u.request u.process res ≡ true);
      scopes = All-nil (λ x. is_scope_well g.setup.resources s x ≡ true);
      bodies = All-nil (KnowsItsScopes tell s);
    }

pub waiting-set_stop : {B : Type 0} (g : Plan B) (tell : Telling B) (sound : B → Type 0) (s : State B) (until : Until)
    → IsTrue (until_fits g.setup.events until)
    → AreNamedPending g s
    → (calendar s).time ≡ pos 0 → s.control ≡ Idle → LawfulBasis g tell sound s
    → WaitingBasis g tell (on_events (set_stop until) s)
waiting-set_stop g tell sound s until fits named start idle h =
    let c : Calendar = s.facilities.calendar in
    waiting_unpolled g tell s (set_stop until c) s.control s.processed s.drawn s.lines (grown_old c (set_stop until c) (old_stop until c)) (old_pending c (set_stop until c) (old_stop until c)) (λ q v. refl) h.waiting

pub none_found : {X : Type 0} (test : X → Bool) (xs : List X) → All (λ x. test x ≡ false) xs → filter test xs ≡ []
none_found test [] h = refl
none_found test (x ∷ xs) h = rw (All-head (λ z. test z ≡ false) x xs h) (none_found test xs (All-tail (λ z. test z ≡ false) x xs h))

-- no scope is open of a process that is to be made
no_scopes_of_new : {B : Type 0} (named : ℕ) (g : Plan B) (tell : Telling B) (s : State B) (p : ProcId)
    → p.0 ≡ length s.facilities.calendar.events → LawfulProcesses named s → WaitingBasis g tell s → requests_of p s ≡ []
no_scopes_of_new named g tell s p new ps h =
    let apart : (x : OpenScope) → is_scope_well g.setup.resources s x ≡ true → is_process x.process p ≡ false = λ x w.
    let alive : is_alive x.process s ≡ true = scope_alive g.setup.resources s x w in
    ne_eqb x.process.0 p.0 (λ same. omega (arith, same, new, alive_made named s x.process ps alive))
    in
    ap (map (λ (x : OpenScope). x.request)) (none_found (λ x. is_process x.process p) s.scopes (All-weaker (λ x. is_scope_well g.setup.resources s x ≡ true) (λ x. is_process x.process p ≡ false) apart s.scopes h.scopes))

pub waiting-made_process : {B : Type 0} (g : Plan B) (tell : Telling B) (sound : B → Type 0) (s : State B) (f : CodeFacts)
    (k : ℕ) (args : List ℤ) → IsTrue (nat_lt k (length f.params) && may_start (slice_index_or f.params k []) args)
    → IsLawfulStart f tell k args (record { 0 = (next_event (calendar s)).0 })
    (g.start k args (record { 0 = (next_event (calendar s)).0 }))
    → sound (g.start k args (record { 0 = (next_event (calendar s)).0 })) → LawfulBasis g tell sound s
    → WaitingBasis g tell (make_process g k args s)
waiting-made_process {B} g tell sound s f k args may start sb h =
    let c : Calendar = s.facilities.calendar in
    let d : Calendar = make_events_of_process c in
    let p : ProcId = record { 0 = (next_event c).0 } in
    let b : B = g.start k args p in
    let z : ProcessOf B = record { id = p; body = b; target = next_event (make kind.Process c) } in
    let ps : List (ProcessOf B) = s.processes ++ z ∷ [] in
    let t : State B = moved s d ps s.control s.processed s.drawn s.lines in
    let none : requests_of p s ≡ [] = no_scopes_of_new g.setup.events g tell s p refl h.processes h.waiting in
    let asked : is_enter (tell.last b) ≡ false = ap is_enter start.last in
    let entered : entered_by s.control p (is_enter (tell.last b)) ≡ [] = ap (entered_by s.control p) asked ∙ entered_not s.control p in
    let known : tell.scopes b ++ entered_by s.control p (is_enter (tell.last b)) ≡ [] = ap (λ (es : List EventId). es ++ entered_by s.control p (is_enter (tell.last b))) start.scopes ∙ entered in
    let few : length (requests_of p s) ≡ 0 = ap length none in
    waiting_moved g tell s d ps s.control s.processed s.drawn s.lines (grown_old c d (old_process c)) (old_pending c d (old_process c))
    (holds_of_all (λ x. is_alive x.process s ≡ true → is_alive x.process t ≡ true) s.scopes (λ x w. list_any-append (λ y. is_process y.id x.process) s.processes (z ∷ []) ∙ or_left (is_alive x.process s) _ w))
    (All-push (KnowsItsScopes tell t) s.processes z (All-weaker (KnowsItsScopes tell s) (KnowsItsScopes tell t) (λ y w. knows_moved tell s t y refl (λ q v. refl) w) s.processes h.waiting.bodies) (none ∙ sym known, omega (arith, few))) h.waiting
