-- Scopes are left: requests that wait are cancelled, and releases are made. What this does to the calendar keeps all parts of
-- the law that are about calendars, whatever stands in the control.
use Rattle.std.proofs.Common.{◌≡◌, ℕ, ◌<◌, ℤ, ◌≤ℤ◌, ◌^◌, pos, true, false, ◌&&◌, not, List, [], ◌∷◌, length, Some, refl, sym, subst, ap, ◌∙◌, arith}
use Rattle.std.specs.Prelude.{is_none, fold}
use Rattle.std.proofs.lemmas.Int.{ints}
use Rattle.sim_types.specs.declared.event.EventId.{EventId}
use Rattle.sim_types.specs.declared.event.ProcId.{ProcId}
use Rattle.sim_types.specs.declared.event.EventKind.{EventKind}
use Rattle.sim_types.specs.declared.event.Outcome.{Outcome}
use Rattle.sim_types.specs.declared.event.Callback.{Callback}
use Rattle.sim_types.specs.declared.event.EventKind.TheVariants as kind
use Rattle.sim_types.specs.declared.event.Outcome.TheVariants as outcome
use Rattle.sim_types.specs.declared.event.Callback.TheVariants as callback
use Rattle.sim_machine.specs.State.{EventOf, Calendar, Control, Facilities, OpenScope, State, Released}
use Rattle.sim_machine.specs.Events.{next_event, cancel_event, register}
use Rattle.sim_machine.specs.Triggering.{normal, make, succeed}
use Rattle.sim_machine.specs.Trying.{on_calendar, write_deed, unqueue}
use Rattle.sim_machine.specs.Requests.{cancel, waits, end_use, is_user, leave}
use Rattle.sim_machine.specs.Scopes.{close_scope}
use Rattle.sim_machine.specs.Effect.{calendar}
use Rattle.sim_machine.specs.LawfulTimes.{LawfulTimes}
use Rattle.sim_machine.specs.LawfulRegistrations.{LawfulRegistrations}
use Rattle.sim_machine.specs.LawfulProcesses.{is_process_kind}
use Rattle.sim_machine.specs.LawfulInterruptions.{is_strike, is_interrupt_kind, is_failed_interruption}
use Rattle.sim_machine.specs.LawfulChains.{LawfulChains, chains_well}
use Rattle.sim_machine.specs.Events.{is_resume_of}
use Rattle.sim_machine_law.proofs.Events.EventLaws.{change_event-keeps, make-new}
use Rattle.sim_machine_law.proofs.Events.TimeLaws.{events_changed}
use Rattle.sim_machine_law.proofs.KeptParts.KeptTimes.{new_scheduled}
use Rattle.sim_machine_law.proofs.KeptParts.KeptTimesCases.{if_cases}
use Rattle.sim_machine_law.proofs.KeptParts.KeptRegistrationsCalendar.{Calm, calm_changed, calm_made, calm_scheduled, calm_self, calm_then}
use Rattle.sim_machine_law.proofs.KeptParts.KeptRegistrations.{registrations_calm, registrations_new}
use Rattle.sim_machine_law.proofs.KeptParts.KeptProcessesParts.{KeepsLiving, KeepsResumes, living-changed, living-events, living-made, living-same, living-scheduled, living-trans, resumes-registered, resumes-same}
use Rattle.sim_machine_law.proofs.KeptParts.KeptInterruptionsParts.{KeepsHearing, StrikesAlone, hearing-changed, hearing-events, hearing-made, hearing-same, hearing-scheduled, hearing-trans, strikes-kept, strikes-registered}
use Rattle.sim_machine_law.proofs.KeptParts.KeptConditions.{IsNoConditions, conditions_registered}
use Rattle.sim_machine_law.proofs.KeptParts.KeptConditionsEvents.{conditions_event_changed, conditions_made, conditions_scheduled}
use Rattle.sim_machine_law.proofs.KeptParts.KeptChains.{chains_later, chains_new}
use Rattle.sim_machine_law.proofs.Events.ScheduledOnce.{outcomes_changed}
use Rattle.sim_machine_law.proofs.KeptParts.LawfulBasis.{ConditionsBasis}

-- ---- what is lawful in a calendar stays so

pub record Proceeds (k : Control) (c d : Calendar) : Type 0 where
  pub calm : Calm c d
  pub times : LawfulTimes c → LawfulTimes d
  pub registrations : LawfulRegistrations c k → LawfulRegistrations d k
  pub living : 0 < length c.events → KeepsLiving c d
  pub resumes : KeepsResumes c k d k
  pub hearing : KeepsHearing c d
  pub strikes : StrikesAlone c k → StrikesAlone d k
  pub conditions : ConditionsBasis c k → ConditionsBasis d k
  pub chains : LawfulRegistrations c k → LawfulChains c k → LawfulChains d k

pub proceeds-same : (k : Control) (c : Calendar) → Proceeds k c c
proceeds-same k c =
    record {
      calm = calm_self c c refl;
      times = λ h. h;
      registrations = λ h. h;
      living = λ some. living-same c;
      resumes = resumes-same c k c k refl refl (λ f. refl) (λ p. refl);
      hearing = hearing-same c;
      strikes = λ h. h;
      conditions = λ h. h;
      chains = λ at h. h;
    }

pub proceeds-then : (k : Control) (a b c : Calendar) → Proceeds k a b → Proceeds k b c → Proceeds k a c
proceeds-then k a b c h i =
    record {
      calm = calm_then a b c h.calm i.calm;
      times = λ l. i.times (h.times l);
      registrations = λ l. i.registrations (h.registrations l);
      living = λ some. living-trans a b c (h.living some) (i.living (omega (arith, some, h.calm.later.longer)));
      resumes = record { active = λ p. i.resumes.active p ∙ h.resumes.active p; in_all = λ p. i.resumes.in_all p ∙ h.resumes.in_all p; at = λ p f. i.resumes.at p f ∙ h.resumes.at p f };
      hearing = hearing-trans a b c h.hearing i.hearing;
      strikes = λ l. i.strikes (h.strikes l);
      conditions = λ l. i.conditions (h.conditions l);
      chains = λ at l. i.chains (h.registrations at) (h.chains at l);
    }

-- an event is marked as cancelled
pub proceeds-cancelled : (k : Control) (e : EventId) (c : Calendar) → Proceeds k c (cancel_event e c)
proceeds-cancelled k e c =
    let change : EventOf → EventOf = λ x. record x { cancelled = true } in
    let d : Calendar = cancel_event e c in
    let calm : Calm c d = calm_changed e change c (λ x. refl) (λ x. refl) (λ x h. h) in
    let hearing : KeepsHearing c d = hearing-changed e change c (λ x. refl) (λ x. refl) (λ x h. h) in
    record {
      calm = calm;
      times = λ h. events_changed c d.events (λ f. change_event-keeps (λ x. not (is_none x.outcome) && not x.processed) e f change c (λ x. refl)) (outcomes_changed e change c (λ x. refl)) h;
      registrations = λ h. registrations_calm c d k calm refl h;
      living = λ some. living-changed e change c (λ x. refl) (λ x. refl) (λ x h. h);
      resumes = resumes-same c k d k refl refl (λ f. refl) (λ p. refl);
      hearing = hearing;
      strikes = λ h. strikes-kept c k d k hearing (λ f. refl) h;
      conditions = λ h. conditions_event_changed e change c k (λ x. refl) (λ x. refl) (λ x w. w) h;
      chains = λ at h. chains_later c d k calm.later refl at h;
    }

-- a callback that resumes nobody, strikes nobody, passes nothing on and is no condition's
pub record IsPlainCallback (y : Callback) : Type 0 where
  pub resumes : (p : ProcId) → is_resume_of p y ≡ false
  pub strikes : is_strike y ≡ false
  pub conditions : IsNoConditions y
  pub chains : (d : Calendar) (e : EventId) → chains_well d e y ≡ true

-- an event is made that is to call it, and it succeeds now
pub proceeds-new : (k : Control) (x : EventKind) (y : Callback) (value : ℤ) (c : Calendar) → is_interrupt_kind x ≡ false
    → is_process_kind x ≡ false → IsPlainCallback y
    → Proceeds k c (succeed (next_event c) value (register (next_event c) y (make x c)))
proceeds-new k x y value c no_interrupt no_process plain =
    let e : EventId = next_event c in
    let o : Outcome = outcome.Ok value in
    let a : Calendar = make x c in
    let b : Calendar = register e y a in
    let d : Calendar = succeed e value b in
    let kinds = ap (λ (z : EventOf). z.kind) (make-new x c) in
    let made : KeepsHearing c a = hearing-made x c no_interrupt in
    let scheduled : KeepsHearing b d = hearing-scheduled e o normal (pos 0) b (ap (λ (z : EventOf). is_failed_interruption (record z { outcome = Some o })) (make-new x c) ∙ rw no_interrupt refl) in
    let r : KeepsResumes c k (register e y c) k = resumes-registered e y c k plain.resumes in
    record {
      calm = calm_then c a d (calm_made x c) (calm_then a b d (calm_self a b refl) (calm_scheduled e o normal (pos 0) b));
      times = λ h. let high : c.time ≤ℤ pos (2 ^ 62) = h.in_limit in new_scheduled x b.registered o normal (pos 0) c (omega (arith, ints)) (omega (arith, ints, high)) h;
      registrations = λ h. registrations_new x y o normal (pos 0) c k h;
      living = λ some. living-trans c b d (living-events c a b refl (living-made x c)) (living-scheduled e o normal (pos 0) b (ap is_process_kind kinds ∙ no_process) (λ z. omega (arith, z, some)));
      resumes = record { active = r.active; in_all = r.in_all; at = r.at };
      hearing = hearing-trans c b d (hearing-events c a b refl made) scheduled;
      strikes = λ h. strikes-kept b k d k scheduled (λ f. refl) (strikes-registered e y a k plain.strikes (ap is_interrupt_kind kinds ∙ no_interrupt) (strikes-kept c k a k made (λ f. refl) h));
      conditions = λ h. conditions_scheduled e o normal (pos 0) b k (conditions_registered e y a k plain.conditions (conditions_made x c k h));
      chains = λ at h. chains_new x y o normal (pos 0) c k plain.chains at h;
    }

-- ---- a scope is left

tries_puts : (res : ℕ) → IsPlainCallback (callback.TryPut res)
tries_puts res = record { resumes = λ p. refl; strikes = refl; conditions = record { no_check = λ cond. refl; no_build = λ cond. refl }; chains = λ d e. refl }

pub end_use-calendar : (res : ℕ) (request : EventId) (f : Facilities) → (end_use res request f).calendar ≡ f.calendar
end_use-calendar res request f = if_cases (λ u. u.calendar ≡ f.calendar) (is_user res request f) (write_deed (Released res request) f) f (λ a. refl) (λ a. refl)

pub proceeds-left : (k : Control) (res : ℕ) (request : EventId) (f : Facilities) → Proceeds k f.calendar (leave res request f).calendar
proceeds-left k res request f =
    let gone : Facilities = cancel request f in
    let c : Calendar = gone.calendar in
    let e : EventId = next_event c in
    let cancelled : Proceeds k f.calendar c = if_cases (λ u. Proceeds k f.calendar u.calendar) (waits request f) (on_calendar (cancel_event request) (unqueue request f)) f (λ a. proceeds-cancelled k request f.calendar) (λ a. proceeds-same k f.calendar) in
    let made : Facilities = on_calendar (λ d. register e (callback.TryPut res) (make kind.Release d)) gone in
    let released : Proceeds k c (succeed e (pos 0) made.calendar) = proceeds-new k kind.Release (callback.TryPut res) (pos 0) c refl refl (tries_puts res) in
    proceeds-then k f.calendar c (leave res request f).calendar cancelled (subst (λ d. Proceeds k c (succeed e (pos 0) d)) (sym (end_use-calendar res request made)) released)

-- what leaving scopes changes of a state, besides the facilities and the scopes
pub record LeavesScopes {B : Type 0} (k : Control) (s t : State B) : Type 0 where
  pub processes : t.processes ≡ s.processes
  pub control : t.control ≡ s.control
  pub proceeds : Proceeds k (calendar s) (calendar t)

pub leaves-all : {B : Type 0} (k : Control) (xs : List OpenScope) (s : State B) → LeavesScopes k s (fold close_scope s xs)
leaves-all k [] s = record { processes = refl; control = refl; proceeds = proceeds-same k (calendar s) }
leaves-all {B} k (x ∷ xs) s =
    let t : State B = close_scope s x in
    let later : LeavesScopes k t (fold close_scope t xs) = leaves-all k xs t in
    record { processes = later.processes; control = later.control; proceeds = proceeds-then k (calendar s) (calendar t) (calendar (fold close_scope t xs)) (proceeds-left k x.res x.request s.facilities) later.proceeds }
