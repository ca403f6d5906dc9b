-- A waiter that is served leaves its queue, its event succeeds, and a deed is written; a user that is preempted is
-- interrupted. Both leave a lawful state, and all others wait on.
use Rattle.std.proofs.Common.{◌≡◌, ◌≢◌, ℕ, ◌<◌, ℤ, pos, Bool, true, false, ◌&&◌, not, List, [], length, Some, refl, sym, subst, ap, ◌∙◌, arith, filter, All}
use Rattle.std.specs.Prelude.{◌==◌, is_none}
use Rattle.std.proofs.lemmas.Bool.{false≢true, and_from, both_ways, ne_eqb, not-true}
use Rattle.std.proofs.lemmas.Bool.Decides.{nat_tests}
use Rattle.std.proofs.lemmas.List.Elements.{All-nil, All-weaker, filter_passes}
use Rattle.sim_types.specs.declared.event.EventId.{EventId}
use Rattle.sim_types.specs.declared.event.ProcId.{ProcId}
use Rattle.sim_types.specs.declared.event.Throw.{Throw}
use Rattle.sim_types.specs.declared.event.EventKind.{EventKind}
use Rattle.sim_types.specs.declared.event.EventKind.TheVariants as kind
use Rattle.sim_types.specs.declared.event.Outcome.TheVariants as outcome
use Rattle.sim_types.specs.declared.event.Callback.TheVariants as callback
use Rattle.sim_types.specs.declared.setup.Resource.{Resource}
use Rattle.sim_machine.specs.State.{EventOf, Calendar, Waiter, User, Deed, Preempted, Facilities, State, Plan}
use Rattle.sim_machine.specs.Events.{is_same, event_at, is_pending, next_event, defuse, register}
use Rattle.sim_machine.specs.Triggering.{urgent, normal, make, trigger, make_interruption}
use Rattle.sim_machine.specs.Users.{user_by}
use Rattle.sim_machine.specs.Trying.{unqueue, write_deed, serve, preempt}
use Rattle.sim_machine.specs.Scopes.{on_facilities, on_events}
use Rattle.sim_machine.specs.Effect.{calendar}
use Rattle.sim_machine.specs.Tellings.{Telling}
use Rattle.sim_machine.specs.Standing.{was_made, kind_at}
use Rattle.sim_machine.specs.LawfulProcesses.{is_process_kind}
use Rattle.sim_machine.specs.LawfulInterruptions.{is_interrupt_kind}
use Rattle.sim_machine.specs.LawfulWaiting.{waits_well, may_wait_kind, has_scope}
use Rattle.sim_machine.specs.LawfulCapacities.{is_in_use}
use Rattle.sim_machine_law.proofs.KeptParts.LawfulBasis.{LawfulBasis}
use Rattle.sim_machine_law.proofs.Events.EventLaws.{same_event, change_event-same, change_event-length}
use Rattle.sim_machine_law.proofs.KeptParts.KeptRegistrationsCalendar.{Calm, below_made, made_below, calm_self, calm_then, calm_made, calm_defused, calm_scheduled}
use Rattle.sim_machine_law.proofs.KeptParts.KeptBodies.{four_parts}
use Rattle.sim_machine_law.proofs.Processes.MadeInterruption.{replace_interrupted}
use Rattle.sim_lawful.proofs.Facilities.ChangedFacilities.{lawful_on_events}
use Rattle.sim_lawful.proofs.Facilities.ChangedQueues.{lawful_unqueued, lawful_triggered, lawful_deed}
use Rattle.sim_machine_law.proofs.Ledger.LedgerSteps.{users_after}
use Rattle.sim_lawful.proofs.Ledger.LedgerLaws.{FitsLedger, capacities_deed, plain_fits}
use Rattle.sim_machine_law.proofs.Ledger.TriedQueues.{IsOneOf, one_has, one_filtered}

-- ---- events that may wait

pub waiter_no_process : (k : EventKind) → may_wait_kind k ≡ true → is_process_kind k ≡ false
waiter_no_process kind.Process h = absurd (false≢true h)
waiter_no_process _ h = refl

pub waiter_no_interrupt : (k : EventKind) → may_wait_kind k ≡ true → is_interrupt_kind k ≡ false
waiter_no_interrupt kind.Interrupt h = absurd (false≢true h)
waiter_no_interrupt _ h = refl

-- what is left of a queue waits for other events
pub unqueued_apart : (e : EventId) (ws : List Waiter) → All (λ w. w.event.0 ≢ e.0) (filter (λ w. not (is_same w.event e)) ws)
unqueued_apart e ws =
    All-weaker (λ w. not (is_same w.event e) ≡ true) (λ w. w.event.0 ≢ e.0) (λ w h same. both_ways (is_same w.event e) (not-true (is_same w.event e) h) (ap (λ (n : ℕ). n == e.0) same ∙ itself e.0)) (filter (λ w. not (is_same w.event e)) ws) (filter_passes (λ w. not (is_same w.event e)) ws)
  where
    itself : (n : ℕ) → (n == n) ≡ true
    itself n = grind (arith, nat_tests)

-- ---- what is left of a lawful state

-- facilities that leave the state lawful, where all that wait for another event than w's wait on
pub record IsServedWell {B : Type 0} (g : Plan B) (tell : Telling B) (sound : B → Type 0) (s : State B) (w : Waiter) (f : Facilities) : Type 0 where
  pub lawful : LawfulBasis g tell sound (record s { facilities = f })
  pub calm : Calm s.facilities.calendar f.calendar
  pub others : (v : Waiter) → v.event ≢ w.event → IsOneOf s.facilities.waiters v → IsOneOf f.waiters v

pub served_none : {B : Type 0} (g : Plan B) (tell : Telling B) (sound : B → Type 0) (s : State B) (w : Waiter)
    → LawfulBasis g tell sound s → IsServedWell g tell sound s w s.facilities
served_none g tell sound s w l = record { lawful = l; calm = calm_self s.facilities.calendar s.facilities.calendar refl; others = λ v differ one. one }

-- ---- one is served

-- a user that a deed makes is of the request of the waiter, and stands in its scope
abbrev pub IsUserOf : {B : Type 0} → State B → Waiter → ℕ → User → Type 0
IsUserOf s w res u = (u.request ≡ w.event) × (has_scope s.scopes u.request u.process res ≡ true)

pub lawful_served : {B : Type 0} (g : Plan B) (tell : Telling B) (sound : B → Type 0) (s : State B) (w : Waiter) (value : ℤ)
    (deed : Deed) → LawfulBasis g tell sound s → IsOneOf s.facilities.waiters w
    → FitsLedger g.setup.resources s.facilities.ledger deed → ((res : ℕ) → All (IsUserOf s w res) (user_by res deed []))
    → IsServedWell g tell sound s w (serve w value deed s.facilities)
lawful_served {B} g tell sound s w value deed l one fits new =
    let rs : List Resource = g.setup.resources in
    let c : Calendar = calendar s in
    let e : EventId = w.event in
    let test : Waiter → Bool = λ v. not (is_same v.event e) in
    let waits : waits_well c w ≡ true = one_has (λ v. waits_well c v ≡ true) s.facilities.waiters w l.waiting.waiters one in
    let parts = four_parts (was_made c e) (is_pending c e) (not (event_at c e).cancelled) (may_wait_kind (kind_at c e)) waits in
    let made : e.0 < length c.events = made_below c e parts.0 in
    let r : State B = on_facilities (unqueue e) s in
    let d : Calendar = trigger e (outcome.Ok value) c in
    let t : State B = on_events (trigger e (outcome.Ok value)) r in
    let left : LawfulBasis g tell sound r = lawful_unqueued g tell sound s e l in
    let turned : LawfulBasis g tell sound t = lawful_triggered g tell sound r e (outcome.Ok value) left made parts.1 (waiter_no_process (kind_at c e) parts.3) (waiter_no_interrupt (kind_at c e) parts.3) (unqueued_apart e s.facilities.waiters) in
    let using : (res : ℕ) → All (λ (u : User). is_in_use d u ≡ true) (user_by res deed []) = λ res. All-weaker (IsUserOf s w res) (λ (u : User). is_in_use d u ≡ true) (λ u h. subst (λ (n : EventId). (was_made d n && not (is_pending d n)) ≡ true) (sym h.0) (granted made)) (user_by res deed []) (new res) in
    let all : LawfulBasis g tell sound (on_facilities (write_deed deed) t) = lawful_deed g tell sound t deed turned
    (λ res. users_after (λ (u : User). has_scope s.scopes u.request u.process res ≡ true) res deed s.facilities.ledger (l.waiting.using res) (All-weaker (IsUserOf s w res) (λ (u : User). has_scope s.scopes u.request u.process res ≡ true) (λ u h. h.1) (user_by res deed []) (new res)))
    (capacities_deed rs t.facilities deed fits using turned.capacities) in
    record {
      lawful = all;
      calm = calm_scheduled e (outcome.Ok value) normal (pos 0) c;
      others = λ v differ at. one_filtered test s.facilities.waiters v (ap not (ne_eqb v.event.0 e.0 (λ same. differ (same_event v.event e same)))) at;
    }
  where
    granted : w.event.0 < length (calendar s).events
        → (was_made (trigger w.event (outcome.Ok value) (calendar s)) w.event && not (is_pending (trigger w.event (outcome.Ok value) (calendar s)) w.event))
        ≡ true
    granted made =
        let c : Calendar = calendar s in
        let d : Calendar = trigger w.event (outcome.Ok value) c in
        let change : EventOf → EventOf = λ y. record y { outcome = Some (outcome.Ok value) } in
        let before : Calendar = record d { events = c.events } in
        let same : event_at d w.event ≡ change (event_at c w.event) = change_event-same w.event change before made in
        let longer : length d.events ≡ length c.events = change_event-length w.event change before in
        and_from (was_made d w.event) (not (is_pending d w.event)) (below_made d w.event (omega (arith, made, longer))) (ap (λ (y : EventOf). not (is_none y.outcome)) same)

-- ---- one is preempted

pub calm_interrupted : (p : ProcId) (t : Throw) (c : Calendar) → Calm c (make_interruption p t c)
calm_interrupted p t c =
    let e : EventId = next_event c in
    let a : Calendar = make kind.Interrupt c in
    let b : Calendar = register e (callback.Strike p) a in
    let d : Calendar = defuse e b in
    calm_then c a (make_interruption p t c) (calm_made kind.Interrupt c) (calm_then a b (make_interruption p t c) (calm_self a b refl) (calm_then b d (make_interruption p t c) (calm_defused e b) (calm_scheduled e (outcome.Fail t) urgent (pos 0) d)))

module _ {B : Type 0} (g : Plan B) (tell : Telling B) (sound : B → Type 0) where
  pub lawful_preempted : (s : State B) (w : Waiter) (res : ℕ) (u : User) → LawfulBasis g tell sound s
      → IsServedWell g tell sound s w (preempt res u s.facilities)
  lawful_preempted s w res u l =
      let rs : List Resource = g.setup.resources in
      let deed : Deed = Preempted res u.request in
      let thrown : Throw = record { kind = 2; value = u.since } in
      let t : State B = on_facilities (write_deed deed) s in
      let written : LawfulBasis g tell sound t = lawful_deed g tell sound s deed l
      (λ n. users_after (λ (v : User). has_scope s.scopes v.request v.process n ≡ true) n deed s.facilities.ledger (l.waiting.using n) (All-nil (λ (v : User). has_scope s.scopes v.request v.process n ≡ true)))
      (capacities_deed rs s.facilities deed (plain_fits rs s.facilities deed (λ n. refl) (λ n. refl) (λ n. refl) l.capacities) (λ n. All-nil (λ (v : User). is_in_use (calendar s) v ≡ true)) l.capacities) in
      record {
        lawful = lawful_on_events g tell sound t (make_interruption u.process thrown) written (replace_interrupted g tell sound t u.process thrown written) (calm_interrupted u.process thrown (calendar s));
        calm = calm_interrupted u.process thrown (calendar s);
        others = λ v differ one. one;
      }
