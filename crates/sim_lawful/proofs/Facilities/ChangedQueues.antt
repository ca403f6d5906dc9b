-- A lawful state stays so where a waiter leaves its queue or joins one, an event is triggered or cancelled that nothing
-- waits for at a resource, and a deed is written that keeps to the capacities.
use Rattle.std.proofs.Common.{◌≡◌, ◌≢◌, ℕ, ◌<◌, pos, Bool, true, false, ◌&&◌, not, List, [], ◌∷◌, ◌++◌, length, Some, refl, ap, ◌∙◌, filter, All, AllPairs}
use Rattle.std.specs.Prelude.{nat_lt, is_none, slice_index_or}
use Rattle.std.specs.List.{AllPass}
use Rattle.std.proofs.lemmas.Bool.{both_ways}
use Rattle.std.proofs.lemmas.List.Elements.{All-filter, All-push}
use Rattle.std.proofs.lemmas.List.Kept.{AllPairs-filter}
use Rattle.std.proofs.lemmas.List.Quantifiers.{all_pairs_push}
use Rattle.sim_types.specs.declared.event.EventId.{EventId}
use Rattle.sim_types.specs.declared.event.Outcome.{Outcome}
use Rattle.sim_types.specs.declared.setup.Resource.{Resource}
use Rattle.sim_machine.specs.State.{EventOf, Calendar, Waiter, Deed, Facilities, State, Plan}
use Rattle.sim_machine.specs.Events.{is_same, is_pending, is_processed, cancel_event}
use Rattle.sim_machine.specs.Triggering.{normal, trigger}
use Rattle.sim_machine.specs.Users.{resource_at, users}
use Rattle.sim_machine.specs.Trying.{write_deed, unqueue}
use Rattle.sim_machine.specs.Scopes.{on_facilities, on_events}
use Rattle.sim_machine.specs.Effect.{calendar}
use Rattle.sim_machine.specs.Tellings.{Telling}
use Rattle.sim_machine.specs.Standing.{kind_at}
use Rattle.sim_machine.specs.LawfulProcesses.{is_process_kind}
use Rattle.sim_machine.specs.LawfulInterruptions.{is_interrupt_kind}
use Rattle.sim_machine.specs.LawfulWaiting.{waits_well, request_has_scope, has_scope}
use Rattle.sim_machine.specs.LawfulCapacities.{LawfulCapacities, waits_for_fitting}
use Rattle.sim_machine_law.proofs.Events.EventLaws.{change_event-keeps}
use Rattle.sim_machine_law.proofs.Events.TimeLaws.{events_changed}
use Rattle.sim_machine_law.proofs.KeptParts.KeptTimes.{times_triggered}
use Rattle.sim_machine_law.proofs.KeptParts.KeptRegistrationsCalendar.{Calm, calm_self, calm_changed, calm_scheduled, pending_unprocessed}
use Rattle.sim_machine_law.proofs.KeptParts.KeptRegistrations.{registrations_calm, registrations_scheduled}
use Rattle.sim_machine_law.proofs.KeptParts.KeptProcessesParts.{living-same, living-changed, living-scheduled, resumes-same}
use Rattle.sim_machine_law.proofs.KeptParts.KeptInterruptionsParts.{KeepsHearing, hearing-same, hearing-changed, hearing-scheduled, interruptions-strikes, strikes-kept}
use Rattle.sim_machine_law.proofs.KeptParts.KeptCapacities.{capacities_later}
use Rattle.sim_machine_law.proofs.KeptParts.KeptConditionsEvents.{conditions_event_changed, conditions_scheduled}
use Rattle.sim_machine_law.proofs.KeptParts.KeptChains.{chains_later, chains_scheduled}
use Rattle.sim_lawful.proofs.Facilities.ChangedFacilities.{MayBecome, lawful_becomes, waits_elsewhere}
use Rattle.sim_machine_law.proofs.Events.ScheduledOnce.{outcomes_changed}
use Rattle.sim_machine_law.proofs.KeptParts.LawfulBasis.{LawfulBasis}

-- ---- the calendar stays

-- other waiters and another ledger
pub lawful_same_calendar : {B : Type 0} (g : Plan B) (tell : Telling B) (sound : B → Type 0) (s : State B) (ws : List Waiter)
    (ledger : List Deed) → LawfulBasis g tell sound s → AllPass (waits_well (calendar s)) ws
    → AllPairs (λ w v. w.event ≢ v.event) ws → AllPass (λ w. request_has_scope s.scopes w w.want) ws
    → ((res : ℕ) → AllPass (λ u. has_scope s.scopes u.request u.process res) (users res ledger))
    → LawfulCapacities g.setup.resources (record s.facilities { waiters = ws; ledger = ledger })
    → LawfulBasis g tell sound (record s { facilities = record s.facilities { waiters = ws; ledger = ledger } })
lawful_same_calendar {B} g tell sound s ws ledger l waiters once requests using capacities =
    let c : Calendar = calendar s in
    let f : Facilities = record s.facilities { waiters = ws; ledger = ledger } in
    let k : MayBecome g s f = record {
      times = l.times;
      registrations = l.registrations;
      living = living-same c;
      resumes = resumes-same c s.control c s.control refl refl (λ e. refl) (λ p. refl);
      hearing = hearing-same c;
      strikes = interruptions-strikes s l.interruptions;
      calm = calm_self c c refl;
      waiters = waiters;
      once = once;
      requests = requests;
      using = using;
      capacities = capacities;
      conditions = l.conditions;
      chains = l.chains;
    } in
    lawful_becomes g tell sound s f l k

pub capacities_of_queue : (rs : List Resource) (f : Facilities) (ws : List Waiter)
    → AllPass (λ w. nat_lt w.res (length rs) && waits_for_fitting f.calendar (resource_at rs w.res) w w.want) ws
    → LawfulCapacities rs f → LawfulCapacities rs (record f { waiters = ws })
capacities_of_queue rs f ws waiting h =
    record { slots = h.slots; in_use = h.in_use; level_low = h.level_low; level_high = h.level_high; room = h.room; waiting = waiting }

-- what waits for e waits no longer
pub lawful_unqueued : {B : Type 0} (g : Plan B) (tell : Telling B) (sound : B → Type 0) (s : State B) (e : EventId)
    → LawfulBasis g tell sound s → LawfulBasis g tell sound (on_facilities (unqueue e) s)
lawful_unqueued g tell sound s e l =
    let rs : List Resource = g.setup.resources in
    let c : Calendar = calendar s in
    let test : Waiter → Bool = λ w. not (is_same w.event e) in
    let ws : List Waiter = s.facilities.waiters in
    lawful_same_calendar g tell sound s (filter test ws) s.facilities.ledger l
    (All-filter test (λ w. waits_well c w ≡ true) ws l.waiting.waiters)
    (AllPairs-filter (λ w v. w.event ≢ v.event) test ws l.waiting.once)
    (All-filter test (λ w. request_has_scope s.scopes w w.want ≡ true) ws l.waiting.requests)
    l.waiting.using
    (capacities_of_queue rs s.facilities (filter test ws) (All-filter test (λ w. (nat_lt w.res (length rs) && waits_for_fitting c (resource_at rs w.res) w w.want) ≡ true) ws l.capacities.waiting) l.capacities)

-- one waits more, for an event that nothing waits for
pub lawful_joins : {B : Type 0} (g : Plan B) (tell : Telling B) (sound : B → Type 0) (s : State B) (w : Waiter)
    → LawfulBasis g tell sound s → waits_well (calendar s) w ≡ true → All (λ v. v.event ≢ w.event) s.facilities.waiters
    → request_has_scope s.scopes w w.want ≡ true
    → (nat_lt w.res (length g.setup.resources) && waits_for_fitting (calendar s) (resource_at g.setup.resources w.res) w w.want)
    ≡ true
    → LawfulBasis g tell sound (record s { facilities = record s.facilities { waiters = s.facilities.waiters ++ w ∷ [] } })
lawful_joins g tell sound s w l waits others scope fits =
    let rs : List Resource = g.setup.resources in
    let c : Calendar = calendar s in
    let ws : List Waiter = s.facilities.waiters in
    lawful_same_calendar g tell sound s (ws ++ w ∷ []) s.facilities.ledger l
    (All-push (λ v. waits_well c v ≡ true) ws w l.waiting.waiters waits)
    (all_pairs_push (λ w v. w.event ≢ v.event) ws w l.waiting.once others)
    (All-push (λ v. request_has_scope s.scopes v v.want ≡ true) ws w l.waiting.requests scope)
    l.waiting.using
    (capacities_of_queue rs s.facilities (ws ++ w ∷ []) (All-push (λ v. (nat_lt v.res (length rs) && waits_for_fitting c (resource_at rs v.res) v v.want) ≡ true) ws w l.capacities.waiting fits) l.capacities)

-- a deed more is written, with which all users stand in scopes and no capacity is exceeded
pub lawful_deed : {B : Type 0} (g : Plan B) (tell : Telling B) (sound : B → Type 0) (s : State B) (d : Deed)
    → LawfulBasis g tell sound s
    → ((res : ℕ) → AllPass (λ u. has_scope s.scopes u.request u.process res) (users res (s.facilities.ledger ++ d ∷ [])))
    → LawfulCapacities g.setup.resources (write_deed d s.facilities)
    → LawfulBasis g tell sound (on_facilities (write_deed d) s)
lawful_deed g tell sound s d l using capacities =
    lawful_same_calendar g tell sound s s.facilities.waiters (s.facilities.ledger ++ d ∷ []) l l.waiting.waiters l.waiting.once l.waiting.requests using capacities

-- ---- an event is changed that nothing waits for

-- event 0 is processed
pub processed_zero : {B : Type 0} (g : Plan B) (tell : Telling B) (sound : B → Type 0) (s : State B) (e : EventId)
    → LawfulBasis g tell sound s → is_processed (calendar s) e ≡ false → e.0 ≢ 0
processed_zero g tell sound s e l unprocessed zero =
    both_ways (is_processed (calendar s) e) unprocessed (ap (λ (n : ℕ). is_processed (calendar s) (record { 0 = n })) zero ∙ l.processes.zero_processed)

-- it is triggered
pub lawful_triggered : {B : Type 0} (g : Plan B) (tell : Telling B) (sound : B → Type 0) (s : State B) (e : EventId)
    (x : Outcome) → LawfulBasis g tell sound s → e.0 < length (calendar s).events → is_pending (calendar s) e ≡ true
    → is_process_kind (kind_at (calendar s) e) ≡ false → is_interrupt_kind (kind_at (calendar s) e) ≡ false
    → All (λ w. w.event.0 ≢ e.0) s.facilities.waiters → LawfulBasis g tell sound (on_events (trigger e x) s)
lawful_triggered g tell sound s e x l made pending no_process no_interrupt apart =
    let c : Calendar = calendar s in
    let d : Calendar = trigger e x c in
    let before : Calendar = record d { events = c.events } in
    let change : EventOf → EventOf = λ y. record y { outcome = Some x } in
    let calm : Calm c d = calm_scheduled e x normal (pos 0) c in
    let unprocessed : is_processed c e ≡ false = pending_unprocessed c e l.registrations.outcomes pending in
    let hearing : KeepsHearing c d = hearing-scheduled e x normal (pos 0) c (rw no_interrupt refl) in
    lawful_becomes g tell sound s (record s.facilities { calendar = d }) l (record {
      times = times_triggered e x c made pending unprocessed l.times;
      registrations = registrations_scheduled e x normal (pos 0) c s.control l.registrations;
      living = living-scheduled e x normal (pos 0) c no_process (processed_zero g tell sound s e l unprocessed);
      resumes = resumes-same c s.control d s.control refl refl (λ f. refl) (λ p. refl);
      hearing = hearing;
      strikes = strikes-kept c s.control d s.control hearing (λ f. refl) (interruptions-strikes s l.interruptions);
      calm = calm;
      waiters = λ n w below. waits_elsewhere e change before (slice_index_or s.facilities.waiters n w) (apart n w below) ∙ l.waiting.waiters n w below;
      once = l.waiting.once;
      requests = l.waiting.requests;
      using = l.waiting.using;
      capacities = capacities_later g.setup.resources s.facilities d calm.later l.capacities;
      conditions = conditions_scheduled e x normal (pos 0) c s.control l.conditions;
      chains = chains_scheduled e x normal (pos 0) c s.control l.registrations l.chains;
    })

-- it is cancelled
pub lawful_cancels : {B : Type 0} (g : Plan B) (tell : Telling B) (sound : B → Type 0) (s : State B) (e : EventId)
    → LawfulBasis g tell sound s → All (λ w. w.event.0 ≢ e.0) s.facilities.waiters
    → LawfulBasis g tell sound (on_events (cancel_event e) s)
lawful_cancels g tell sound s e l apart =
    let c : Calendar = calendar s in
    let d : Calendar = cancel_event e c in
    let change : EventOf → EventOf = λ y. record y { cancelled = true } in
    let calm : Calm c d = calm_changed e change c (λ y. refl) (λ y. refl) (λ y h. h) in
    let hearing : KeepsHearing c d = hearing-changed e change c (λ y. refl) (λ y. refl) (λ y h. h) in
    lawful_becomes g tell sound s (record s.facilities { calendar = d }) l (record {
      times = events_changed c d.events (λ f. change_event-keeps (λ y. not (is_none y.outcome) && not y.processed) e f change c (λ y. refl)) (outcomes_changed e change c (λ y. refl)) l.times;
      registrations = registrations_calm c d s.control calm refl l.registrations;
      living = living-changed e change c (λ y. refl) (λ y. refl) (λ y h. h);
      resumes = resumes-same c s.control d s.control refl refl (λ f. refl) (λ p. refl);
      hearing = hearing;
      strikes = strikes-kept c s.control d s.control hearing (λ f. refl) (interruptions-strikes s l.interruptions);
      calm = calm;
      waiters = λ n w below. waits_elsewhere e change c (slice_index_or s.facilities.waiters n w) (apart n w below) ∙ l.waiting.waiters n w below;
      once = l.waiting.once;
      requests = l.waiting.requests;
      using = l.waiting.using;
      capacities = capacities_later g.setup.resources s.facilities d calm.later l.capacities;
      conditions = conditions_event_changed e change c s.control (λ y. refl) (λ y. refl) (λ y h. h) l.conditions;
      chains = chains_later c d s.control calm.later refl l.registrations l.chains;
    })
