-- An interruption is made: an event more, which has failed, is defused, and has one callback that strikes a process. All other
-- events stay as they were, and the state stays lawful.
use Rattle.std.proofs.Common.{◌≡◌, ◌≢◌, ℕ, ◌+◌, ◌<◌, ◌≤◌, ◌≤ℤ◌, ◌^◌, pos, true, false, ◌&&◌, not, List, [], ◌∷◌, ◌++◌, map, filter, length, length-append, Some, refl, sym, subst, ap, ◌∙◌, arith, ⊎_elim, All}
use Rattle.std.specs.Prelude.{is_none, count_by, if◌then◌else◌}
use Rattle.std.proofs.lemmas.Bool.{cases_Bool, cases_eq, cases_lt, both_ways, ne_eqb, and_parts}
use Rattle.std.proofs.lemmas.Int.{ints}
use Rattle.std.proofs.lemmas.List.Elements.{All-weaker, All-head, All-tail}
use Rattle.sim_types.specs.declared.event.EventId.{EventId}
use Rattle.sim_types.specs.declared.event.ProcId.{ProcId}
use Rattle.sim_types.specs.declared.event.Throw.{Throw}
use Rattle.sim_types.specs.declared.event.Callback.{Callback}
use Rattle.sim_types.specs.declared.event.EventKind.TheVariants as kind
use Rattle.sim_types.specs.declared.event.Outcome.TheVariants as outcome
use Rattle.sim_types.specs.declared.event.Callback.TheVariants as callback
use Rattle.sim_machine.specs.State.{EventOf, Registration, Calendar, Control, State, Plan}
use Rattle.sim_machine.specs.Events.{is_same, event_at, is_processed, pending_event, next_event, callbacks_of, defuse, register}
use Rattle.sim_machine.specs.Triggering.{urgent, make, make_interruption}
use Rattle.sim_machine.specs.Effect.{calendar}
use Rattle.sim_machine.specs.Tellings.{Telling}
use Rattle.sim_machine.specs.Standing.{was_made, left_of, is_event_of, all_callbacks_of}
use Rattle.sim_machine.specs.LawfulTimes.{LawfulTimes}
use Rattle.sim_machine.specs.LawfulRegistrations.{LawfulRegistrations, awaits_processing}
use Rattle.sim_machine.specs.LawfulProcesses.{is_process_kind}
use Rattle.sim_machine.specs.LawfulInterruptions.{is_strike, is_interrupt_kind, is_failed_interruption, strikes_alone}
use Rattle.sim_machine.specs.LawfulChains.{LawfulChains}
use Rattle.sim_machine_law.proofs.Events.EventLaws.{change_event-same, change_event-other, change_event-keeps, change_event-length, make-length, make-old, make-new, make-keeps, is_same-self, is_same-yes}
use Rattle.sim_machine_law.proofs.Events.CallbackLaws.{callbacks_of-register_same, all_callbacks_of-register_other}
use Rattle.sim_machine_law.proofs.Events.TimeLaws.{schedule_lawful, events_changed, make_lawful}
use Rattle.sim_machine_law.proofs.KeptParts.KeptTimes.{times_registered}
use Rattle.sim_machine_law.proofs.KeptParts.KeptRegistrationsCalendar.{Later, calm_defused, calm_scheduled, later_made, later_self, later_then, processed_made, made_below}
use Rattle.sim_machine_law.proofs.KeptParts.KeptRegistrations.{registrations_calm, registrations_made, registrations_register, registrations_scheduled}
use Rattle.sim_machine_law.proofs.KeptParts.KeptProcessesParts.{KeepsLiving, KeepsResumes, living-changed, living-events, living-made, living-scheduled, living-trans, resumes-registered, unmade_at}
use Rattle.sim_machine_law.proofs.KeptParts.KeptInterruptionsParts.{StrikesAlone, KeepsHearing, alone_from, alone_parts, interruptions-strikes}
use Rattle.sim_machine_law.proofs.KeptParts.KeptConditions.{IsNoConditions, conditions_registered}
use Rattle.sim_machine_law.proofs.KeptParts.KeptConditionsEvents.{conditions_made, conditions_defused, conditions_scheduled}
use Rattle.sim_machine_law.proofs.KeptParts.KeptChains.{chains_later, chains_made, chains_register, chains_scheduled}
use Rattle.sim_machine_law.proofs.KeptParts.KeptBodiesEvents.{OldStay, grown_old}
use Rattle.sim_machine_law.proofs.Events.ChangedCalendars.{MayReplace}
use Rattle.sim_machine_law.proofs.Events.ScheduledOnce.{outcomes_changed}
use Rattle.sim_machine_law.proofs.KeptParts.LawfulBasis.{ConditionsBasis, LawfulBasis}
use Rattle.sim_machine_law.proofs.KeptParts.KeptWaitingUnits.{old_pending}

-- the new event is to strike, and then it is defused
abbrev with_strike : ProcId → Calendar → Calendar
with_strike p c = register (next_event c) (callback.Strike p) (make kind.Interrupt c)

abbrev with_defused : ProcId → Calendar → Calendar
with_defused p c = defuse (next_event c) (with_strike p c)

-- ---- the events

abbrev defused_event : EventOf
defused_event = record (pending_event kind.Interrupt) { defused = true }

length_defused : (p : ProcId) (c : Calendar) → length (with_defused p c).events ≡ length c.events + 1
length_defused p c = change_event-length (next_event c) (λ x. record x { defused = true }) (with_strike p c) ∙ make-length kind.Interrupt c

pub length-interrupted : (p : ProcId) (t : Throw) (c : Calendar) → length (make_interruption p t c).events ≡ length c.events + 1
length-interrupted p t c = change_event-length (next_event c) (λ x. record x { outcome = Some (outcome.Fail t) }) (with_defused p c) ∙ length_defused p c

new_defused : (p : ProcId) (c : Calendar) → event_at (with_defused p c) (next_event c) ≡ defused_event
new_defused p c =
    change_event-same (next_event c) (λ x. record x { defused = true }) (with_strike p c) (omega (arith, make-length kind.Interrupt c)) ∙ ap (λ (x : EventOf). record x { defused = true }) (make-new kind.Interrupt c)

-- the event of the interruption
pub new-interrupted : (p : ProcId) (t : Throw) (c : Calendar)
    → event_at (make_interruption p t c) (next_event c) ≡ record defused_event { outcome = Some (outcome.Fail t) }
new-interrupted p t c =
    change_event-same (next_event c) (λ x. record x { outcome = Some (outcome.Fail t) }) (with_defused p c) (omega (arith, length_defused p c)) ∙ ap (λ (x : EventOf). record x { outcome = Some (outcome.Fail t) }) (new_defused p c)

made_other : (c : Calendar) (f : EventId) → f.0 ≢ (next_event c).0 → event_at (make kind.Interrupt c) f ≡ event_at c f
made_other c f differ =
    ⊎_elim (λ made. make-old kind.Interrupt c f made) (λ unmade. unmade_at (make kind.Interrupt c) f (omega (arith, unmade, differ, make-length kind.Interrupt c)) ∙ sym (unmade_at c f unmade)) (cases_lt f.0 (length c.events))

-- all others stay
pub other-interrupted : (p : ProcId) (t : Throw) (c : Calendar) (f : EventId) → f.0 ≢ (next_event c).0 → event_at (make_interruption p t c) f ≡ event_at c f
other-interrupted p t c f differ =
    change_event-other (next_event c) f (λ x. record x { outcome = Some (outcome.Fail t) }) (with_defused p c) differ
    ∙ (change_event-other (next_event c) f (λ x. record x { defused = true }) (with_strike p c) differ ∙ made_other c f differ)

pub old_interrupted : (p : ProcId) (t : Throw) (c : Calendar) → OldStay c (make_interruption p t c)
old_interrupted p t c =
    record {
      longer = omega (arith, length-interrupted p t c);
      same = λ f made. other-interrupted p t c f (λ same. omega (arith, same, made));
      cancelled = λ f.
          change_event-keeps (λ x. x.cancelled) (next_event c) f (λ x. record x { outcome = Some (outcome.Fail t) }) (with_defused p c) (λ x. refl)
          ∙ (change_event-keeps (λ x. x.cancelled) (next_event c) f (λ x. record x { defused = true }) (with_strike p c) (λ x. refl) ∙ make-keeps (λ x. x.cancelled) kind.Interrupt c f refl);
    }

-- ---- times, registrations, chains, conditions

pub times_interrupted : (p : ProcId) (t : Throw) (c : Calendar) → LawfulTimes c → LawfulTimes (make_interruption p t c)
times_interrupted p t c h =
    let e : EventId = next_event c in
    let d : Calendar = with_strike p c in
    let high : c.time ≤ℤ pos (2 ^ 62) = h.in_limit in
    let made : LawfulTimes d = times_registered d.registered (make kind.Interrupt c) (make_lawful kind.Interrupt c h) in
    let defused : LawfulTimes (with_defused p c) = events_changed d (with_defused p c).events (λ f. change_event-keeps (λ x. not (is_none x.outcome) && not x.processed) e f (λ x. record x { defused = true }) d (λ x. refl)) (outcomes_changed e (λ x. record x { defused = true }) d (λ x. refl)) made in
    schedule_lawful e (outcome.Fail t) urgent (pos 0) (with_defused p c) (omega (arith, length_defused p c)) (ap (λ (x : EventOf). is_none x.outcome) (new_defused p c)) (ap (λ (x : EventOf). x.processed) (new_defused p c)) (omega (arith, ints)) (omega (arith, ints, high)) defused

registrations_struck : (p : ProcId) (c : Calendar) (k : Control) → LawfulRegistrations c k → LawfulRegistrations (with_strike p c) k
registrations_struck p c k h =
    registrations_register (next_event c) (callback.Strike p) (make kind.Interrupt c) k (omega (arith, make-length kind.Interrupt c)) (ap (λ (x : EventOf). x.processed) (make-new kind.Interrupt c)) (registrations_made kind.Interrupt c k h)

registrations_defused : (p : ProcId) (c : Calendar) (k : Control) → LawfulRegistrations c k → LawfulRegistrations (with_defused p c) k
registrations_defused p c k h = registrations_calm (with_strike p c) (with_defused p c) k (calm_defused (next_event c) (with_strike p c)) refl (registrations_struck p c k h)

pub registrations_interrupted : (p : ProcId) (t : Throw) (c : Calendar) (k : Control) → LawfulRegistrations c k
    → LawfulRegistrations (make_interruption p t c) k
registrations_interrupted p t c k h = registrations_scheduled (next_event c) (outcome.Fail t) urgent (pos 0) (with_defused p c) k (registrations_defused p c k h)

pub chains_interrupted : (p : ProcId) (t : Throw) (c : Calendar) (k : Control) → LawfulRegistrations c k → LawfulChains c k
    → LawfulChains (make_interruption p t c) k
chains_interrupted p t c k at h =
    let e : EventId = next_event c in
    let struck : LawfulChains (with_strike p c) k = chains_register e (callback.Strike p) (make kind.Interrupt c) k refl (chains_made kind.Interrupt c k at h) in
    let defused : LawfulChains (with_defused p c) k = chains_later (with_strike p c) (with_defused p c) k (calm_defused e (with_strike p c)).later refl (registrations_struck p c k at) struck in
    chains_scheduled e (outcome.Fail t) urgent (pos 0) (with_defused p c) k (registrations_defused p c k at) defused

pub conditions_interrupted : (p : ProcId) (t : Throw) (c : Calendar) (k : Control) → ConditionsBasis c k → ConditionsBasis (make_interruption p t c) k
conditions_interrupted p t c k h =
    let e : EventId = next_event c in
    let no : IsNoConditions (callback.Strike p) = record { no_check = λ cond. refl; no_build = λ cond. refl } in
    conditions_scheduled e (outcome.Fail t) urgent (pos 0) (with_defused p c) k (conditions_defused e (with_strike p c) k (conditions_registered e (callback.Strike p) (make kind.Interrupt c) k no (conditions_made kind.Interrupt c k h)))

pub later_interrupted : (p : ProcId) (t : Throw) (c : Calendar) → Later c (make_interruption p t c)
later_interrupted p t c =
    let a : Calendar = make kind.Interrupt c in
    let b : Calendar = with_strike p c in
    let d : Calendar = with_defused p c in
    let e : EventId = next_event c in
    later_then c a (make_interruption p t c) (later_made kind.Interrupt c) (later_then a b (make_interruption p t c) (later_self a b refl) (later_then b d (make_interruption p t c) (calm_defused e b).later (calm_scheduled e (outcome.Fail t) urgent (pos 0) d).later))

-- ---- processes

pub living_interrupted : (p : ProcId) (t : Throw) (c : Calendar) → 0 < length c.events → KeepsLiving c (make_interruption p t c)
living_interrupted p t c some =
    let e : EventId = next_event c in
    let a : Calendar = make kind.Interrupt c in
    let b : Calendar = with_strike p c in
    let d : Calendar = with_defused p c in
    let struck : KeepsLiving c b = living-events c a b refl (living-made kind.Interrupt c) in
    let defused : KeepsLiving c d = living-trans c b d struck (living-changed e (λ x. record x { defused = true }) b (λ x. refl) (λ x. refl) (λ x w. w)) in
    living-trans c d (make_interruption p t c) defused (living-scheduled e (outcome.Fail t) urgent (pos 0) d (ap (λ (x : EventOf). is_process_kind x.kind) (new_defused p c)) (λ z. omega (arith, z, some)))

pub resumes_interrupted : (p : ProcId) (t : Throw) (c : Calendar) (k : Control) → KeepsResumes c k (make_interruption p t c) k
resumes_interrupted p t c k =
    let r : KeepsResumes c k (register (next_event c) (callback.Strike p) c) k = resumes-registered (next_event c) (callback.Strike p) c k (λ q. refl) in
    record { active = r.active; in_all = r.in_all; at = r.at }

-- ---- interruptions

pub hearing_interrupted : (p : ProcId) (t : Throw) (c : Calendar) → KeepsHearing c (make_interruption p t c)
hearing_interrupted p t c =
    let d : Calendar = make_interruption p t c in
    let e : EventId = next_event c in
    let new : (f : EventId) → f.0 ≡ e.0 → event_at d f ≡ record defused_event { outcome = Some (outcome.Fail t) } = λ f same. ap (λ (n : ℕ). event_at d (record { 0 = n })) same ∙ new-interrupted p t c in
    record {
      longer = omega (arith, length-interrupted p t c);
      kinds = λ f made. ap (λ (x : EventOf). x.kind) ((old_interrupted p t c).same f made);
      conditions = λ f. ⊎_elim (λ same. ap (λ (x : EventOf). x.condition) (new f same) ∙ sym (ap (λ (x : EventOf). x.condition) (unmade_at c f (omega (arith, same)))))
          (λ differ. ap (λ (x : EventOf). x.condition) (other-interrupted p t c f differ)) (cases_eq f.0 e.0);
      failed = λ f h. ⊎_elim (λ same. ap is_failed_interruption (new f same)) (λ differ. ap is_failed_interruption (other-interrupted p t c f differ) ∙ h) (cases_eq f.0 e.0);
    }

none_at : (e : EventId) (rs : List Registration) → All (λ r. is_same r.event e ≡ false) rs → filter (λ (r : Registration). is_same r.event e) rs ≡ []
none_at e [] h = refl
none_at e (r ∷ rs) h = rw (All-head (λ (q : Registration). is_same q.event e ≡ false) r rs h) (none_at e rs (All-tail (λ (q : Registration). is_same q.event e ≡ false) r rs h))

-- nothing is called by an event that was not made
pub unmade_calls : (c : Calendar) (k : Control) (e : EventId) → length c.events ≤ e.0 → LawfulRegistrations c k → all_callbacks_of c k e ≡ []
unmade_calls c k e unmade h =
    let apart : All (λ (r : Registration). is_same r.event e ≡ false) c.registered =
    All-weaker (λ r. awaits_processing c r ≡ true) (λ (r : Registration). is_same r.event e ≡ false) (λ r w. ne_eqb r.event.0 e.0 (λ same. below r w same)) c.registered h.unprocessed in
    let of : is_event_of k e ≡ false = ⊎_elim (λ yes. absurd (omega (arith, unmade, processed_made c e (h.processing e yes)))) (λ no. no) (cases_Bool (is_event_of k e)) in
    ap (λ (rs : List Registration). map (λ (r : Registration). r.callback) rs ++ (if is_event_of k e then left_of k else [])) (none_at e c.registered apart) ∙ rw of refl
  where
    below : (r : Registration) → awaits_processing c r ≡ true → r.event.0 ≡ e.0 → ⊥
    below r w same =
        let made : r.event.0 < length c.events = made_below c r.event (and_parts (was_made c r.event) (not (is_processed c r.event)) w).0 in
        omega (arith, same, made, unmade)

pub strikes_interrupted : (p : ProcId) (t : Throw) (c : Calendar) (k : Control) → LawfulRegistrations c k → StrikesAlone c k
    → StrikesAlone (make_interruption p t c) k
strikes_interrupted p t c k at h =
    let d : Calendar = make_interruption p t c in
    let e : EventId = next_event c in
    let none : all_callbacks_of c k e ≡ [] = unmade_calls c k e (omega arith) at in
    record {
      alone = λ f counted. ⊎_elim
          (λ same. subst (λ (g : EventId). strikes_alone d k g ≡ true) (is_same-yes e f same) (alone_from d k e (ap (λ (x : EventOf). is_interrupt_kind x.kind) (new-interrupted p t c)) (one_call p c k none)))
          (λ differ.
          let others : all_callbacks_of d k f ≡ all_callbacks_of c k f = all_callbacks_of-register_other e f (callback.Strike p) c k differ in
          let before = alone_parts c k f (h.alone f (subst (λ (xs : List Callback). 0 < count_by is_strike xs) others counted)) in
          let here : f.0 ≢ e.0 = λ same. both_ways (is_same e f) differ (ap (λ (n : ℕ). is_same e (record { 0 = n })) same ∙ is_same-self e) in
          alone_from d k f (ap (λ (x : EventOf). is_interrupt_kind x.kind) (other-interrupted p t c f here) ∙ before.0) (ap (λ (xs : List Callback). length xs) others ∙ before.1))
          (cases_Bool (is_same e f));
    }
  where
    one_call : (p : ProcId) (c : Calendar) (k : Control) → all_callbacks_of c k (next_event c) ≡ []
        → length (all_callbacks_of (with_strike p c) k (next_event c)) ≡ 1
    one_call p c k none =
        let e : EventId = next_event c in
        let called : List Callback = if is_event_of k e then left_of k else [] in
        let before : length (callbacks_of e c) + length called ≡ 0 = sym (length-append (callbacks_of e c) called) ∙ ap (λ (xs : List Callback). length xs) none in
        ap (λ (xs : List Callback). length (xs ++ called)) (callbacks_of-register_same e (callback.Strike p) c)
        ∙ (length-append (callbacks_of e c ++ callback.Strike p ∷ []) called ∙ omega (arith, before, length-append (callbacks_of e c) (callback.Strike p ∷ [])))

-- ---- all parts

-- an interruption of a process may be made, be the process alive or not
pub replace_interrupted : {B : Type 0} (g : Plan B) (tell : Telling B) (sound : B → Type 0) (s : State B) (p : ProcId)
    (t : Throw) → LawfulBasis g tell sound s → MayReplace s (make_interruption p t (calendar s))
replace_interrupted g tell sound s p t l =
    let c : Calendar = calendar s in
    let d : Calendar = make_interruption p t c in
    let old : OldStay c d = old_interrupted p t c in
    record {
      times = times_interrupted p t c l.times;
      registrations = registrations_interrupted p t c s.control l.registrations;
      living = living_interrupted p t c (omega (arith, l.processes.named_made));
      resumes = resumes_interrupted p t c s.control;
      hearing = hearing_interrupted p t c;
      strikes = strikes_interrupted p t c s.control l.registrations (interruptions-strikes s l.interruptions);
      grown = grown_old c d old;
      pending = old_pending c d old;
      later = later_interrupted p t c;
      conditions = conditions_interrupted p t c s.control l.conditions;
      chains = chains_interrupted p t c s.control l.registrations l.chains;
    }
