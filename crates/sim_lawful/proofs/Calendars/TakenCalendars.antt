-- Which calendars may take the place of that of a lawful state, but for conditions: what each other part of the law needs.
-- Of conditions they may have others, as long as nobody waits there for what nobody may wait for.
use Rattle.std.proofs.Common.{◌≡◌, Bool, true, false, not, List, ◌∷◌, get_or, Option, Some, None, refl, sym, ap, subst, ◌∙◌}
use Rattle.std.specs.List.{list_all}
use Rattle.std.proofs.lemmas.List.Elements.{All-tail, All-from_get_or}
use Rattle.sim_types.specs.declared.event.EventId.{EventId}
use Rattle.sim_types.specs.declared.event.ProcId.{ProcId}
use Rattle.sim_types.specs.declared.event.Callback.{Callback}
use Rattle.sim_types.specs.declared.event.Signal.{Signal}
use Rattle.sim_types.specs.declared.event.EventKind.TheVariants as kind
use Rattle.sim_types.specs.declared.op.Op.{Op}
use Rattle.sim_machine.specs.State.{ConditionOf, EventOf, Calendar, Waiter, ProcessOf, Control, Calling, State, Plan}
use Rattle.sim_machine.specs.Events.{event_at, is_pending, is_resume_of, pending_event}
use Rattle.sim_machine.specs.Conditions.{condition_of, members_of}
use Rattle.sim_machine.specs.Scopes.{on_events}
use Rattle.sim_machine.specs.Processes.{with_body, tell as told}
use Rattle.sim_machine.specs.Effect.{calendar}
use Rattle.sim_machine.specs.Steps.{control_to}
use Rattle.sim_machine.specs.Tellings.{Telling, CodeFacts}
use Rattle.sim_machine.specs.MayFollow.{is_enter}
use Rattle.sim_machine.specs.Standing.{kind_at}
use Rattle.sim_machine.specs.LawfulTimes.{LawfulTimes}
use Rattle.sim_machine.specs.LawfulRegistrations.{LawfulRegistrations}
use Rattle.sim_machine.specs.LawfulInterruptions.{LawfulInterruptions, is_unheard_kind, is_failed_interruption, has_heard_members}
use Rattle.sim_machine.specs.LawfulWaiting.{waits_well, entered_by}
use Rattle.sim_machine.specs.LawfulChains.{LawfulChains, chains_well}
use Rattle.sim_machine.specs.LawfulBodies.{told_fits, is_told_well}
use Rattle.sim_machine_law.proofs.KeptParts.KeptRegistrationsCalendar.{Later}
use Rattle.sim_machine_law.proofs.KeptParts.KeptRegistrations.{registrations_told, registrations_control}
use Rattle.sim_machine_law.proofs.KeptParts.KeptProcessesParts.{KeepsLiving, KeepsResumes, resumes-called}
use Rattle.sim_machine_law.proofs.KeptParts.KeptProcesses.{processes-events, processes-control}
use Rattle.sim_machine_law.proofs.KeptParts.KeptProcessesChanges.{processes-bodies, processes-told}
use Rattle.sim_machine_law.proofs.KeptParts.KeptInterruptionsParts.{StrikesAlone, AllMade, all_made, interruptions-registered, interruptions-calling, failed_after, members_after, passes_at}
use Rattle.sim_machine_law.proofs.KeptParts.KeptInterruptions.{interruptions-called}
use Rattle.sim_machine_law.proofs.KeptParts.KeptInterruptionsChanges.{interruptions-bodies, interruptions-told}
use Rattle.sim_machine_law.proofs.KeptParts.KeptWaitingPolls.{waiting_unpolled}
use Rattle.sim_machine_law.proofs.KeptParts.KeptCapacities.{capacities_later}
use Rattle.sim_machine_law.proofs.KeptParts.KeptConditions.{conditions_told}
use Rattle.sim_machine_law.proofs.KeptParts.KeptBodiesEvents.{Grown}
use Rattle.sim_machine_law.proofs.KeptParts.KeptBodiesPolls.{bodies_moved, bodies_going_on}
use Rattle.sim_machine_law.proofs.KeptParts.KeptChains.{chains_told, chains_control}
use Rattle.sim_machine_law.proofs.Processes.ToldScopes.{waiting_told}
use Rattle.sim_machine_law.proofs.Events.ChangedCalendars.{MayReplace, HasAsked, body_asked, scopes_asked_for}
use Rattle.sim_machine_law.proofs.KeptParts.LawfulBasis.{ConditionsBasis, LawfulBasis}

-- whether this is an event that one may wait for
abbrev pub hears : Calendar → EventId → Bool
hears c e = not (is_unheard_kind (kind_at c e))

-- what a calendar d has that may take the place of the state's, for each part of the law but conditions
pub record MayTake {B : Type 0} (s : State B) (d : Calendar) : Type 0 where
  pub times : LawfulTimes d
  pub registrations : LawfulRegistrations d s.control
  pub living : KeepsLiving s.facilities.calendar d
  pub resumes : KeepsResumes s.facilities.calendar s.control d s.control
  pub failed : (e : EventId) → is_failed_interruption (event_at d e) ≡ true
  pub heard : (e : EventId) → list_all (hears d) (members_of d e) ≡ true
  pub strikes : StrikesAlone d s.control
  pub grown : Grown s.facilities.calendar d
  pub pending : (w : Waiter) → waits_well s.facilities.calendar w ≡ true → is_pending d w.event ≡ true
  pub later : Later s.facilities.calendar d
  pub chains : LawfulChains d s.control

-- ---- the members of events

heard_of : (c : Calendar) (o : Option ConditionOf) (x : EventOf)
    → has_heard_members c (record x { condition = o }) ≡ list_all (hears c) (condition_of o).members
heard_of c None x = refl
heard_of c (Some y) x = refl

pub heard_members : (c : Calendar) (x : EventOf) → has_heard_members c x ≡ list_all (hears c) (condition_of x.condition).members
heard_members c x = heard_of c x.condition x

-- a calendar that may replace the state's may take its place
pub take_replaced : {B : Type 0} (g : Plan B) (tell : Telling B) (sound : B → Type 0) (s : State B) (d : Calendar)
    → LawfulBasis g tell sound s → MayReplace s d → MayTake s d
take_replaced g tell sound s d l k =
    let c : Calendar = calendar s in
    record {
      times = k.times;
      registrations = k.registrations;
      living = k.living;
      resumes = k.resumes;
      failed = λ e. passes_at is_failed_interruption d e refl (failed_after c d k.hearing l.interruptions.failed);
      heard = λ e. sym (heard_members d (event_at d e)) ∙ passes_at (has_heard_members d) d e refl (members_after c d k.hearing (all_made g tell sound s l).members l.interruptions.members);
      strikes = k.strikes;
      grown = k.grown;
      pending = k.pending;
      later = k.later;
      chains = k.chains;
    }

-- ---- the state with that calendar

interruptions_taken : {B : Type 0} (g : Plan B) (tell : Telling B) (sound : B → Type 0) (s : State B) (d : Calendar)
    → LawfulBasis g tell sound s → MayTake s d → LawfulInterruptions (on_events (λ c. d) s)
interruptions_taken g tell sound s d l k =
    let c : Calendar = calendar s in
    let made : AllMade s = all_made g tell sound s l in
    record {
      registered = interruptions-registered (on_events (λ c. d) s) k.strikes;
      calling = interruptions-calling (on_events (λ c. d) s) k.strikes;
      failed = All-from_get_or (λ x. is_failed_interruption x ≡ true) d.events (pending_event kind.Plain) (λ i below. k.failed (record { 0 = i }));
      targets = λ i x below. ap (λ z. not (is_unheard_kind z)) (k.grown.kinds (get_or s.processes i x).target (made.targets i x below)) ∙ l.interruptions.targets i x below;
      members = All-from_get_or (λ x. has_heard_members d x ≡ true) d.events (pending_event kind.Plain) (λ i below. let e : EventId = record { 0 = i } in heard_members d (event_at d e) ∙ k.heard e);
    }

-- the process goes on and is told n, and the calendar is changed so
pub lawful_taken_told : {B : Type 0} (g : Plan B) (tell : Telling B) (sound : B → Type 0) (s : State B) (f : CodeFacts)
    (e : EventId) (left : List Callback) (p : ProcId) (x : Signal) (y : ProcessOf B) (b : B) (o : Op) (n : Signal)
    (change : Calendar → Calendar) → HasAsked g tell sound s f e left p x y b o → MayTake s (change (calendar s))
    → ConditionsBasis (change (calendar s)) s.control → is_enter (tell.last b) ≡ false
    → told_fits tell (change (calendar s)) b n ≡ true
    → LawfulBasis g tell sound (told n (on_events change (with_body p b s)))
lawful_taken_told {B} g tell sound s f e left p x y b o n change h k conditions not_enters fits =
    let d : Calendar = change (calendar s) in
    let r : State B = with_body p b s in
    let t : State B = on_events change r in
    let l : LawfulBasis g tell sound s = h.lawful in
    record {
      times = k.times;
      registrations = registrations_told n d s.control k.registrations;
      processes = processes-told g.setup.events t n (processes-events g.setup.events r change k.living k.resumes (processes-bodies g.setup.events s p b l.processes));
      interruptions = interruptions-told t n (interruptions-bodies (on_events (λ c. d) s) p b (interruptions_taken g tell sound s d l k));
      waiting = waiting_told g tell s e left p x n y b d s.processed s.drawn s.lines (scopes_asked_for g tell sound s f e left p x y b o h) not_enters k.grown k.pending;
      capacities = capacities_later g.setup.resources s.facilities d k.later l.capacities;
      conditions = conditions_told n d s.control conditions;
      bodies = bodies_going_on tell sound s (told n t) e left p x y b n (body_asked g tell sound s f e left p x y b o h) refl k.grown refl fits;
      chains = chains_told n d s.control k.chains;
    }

-- a callback of e was called that resumes nobody, and the calendar is changed so
pub lawful_taken_called : {B : Type 0} (g : Plan B) (tell : Telling B) (sound : B → Type 0) (s : State B) (e : EventId)
    (x : Callback) (left : List Callback) (change : Calendar → Calendar) → s.control ≡ Calling e (x ∷ left)
    → ((p : ProcId) → is_resume_of p x ≡ false) → LawfulBasis g tell sound s → MayTake s (change (calendar s))
    → ConditionsBasis (change (calendar s)) (Calling e left)
    → LawfulBasis g tell sound (control_to (Calling e left) (on_events change s))
lawful_taken_called {B} g tell sound s e x left change calling others l k conditions =
    let d : Calendar = change (calendar s) in
    let t : State B = on_events change s in
    let before : Control = Calling e (x ∷ left) in
    let after : Control = Calling e left in
    record {
      times = k.times;
      registrations = registrations_control d before after (λ f w. w) (subst (λ c. LawfulRegistrations d c) calling k.registrations);
      processes = processes-control g.setup.events t after (resumes-called d s.control after x (rw calling refl) (λ f. rw calling refl) (λ p. rw calling refl) others) (processes-events g.setup.events s change k.living k.resumes l.processes);
      interruptions = interruptions-called t after x (rw calling refl) (λ f. rw calling refl) (interruptions_taken g tell sound s d l k);
      waiting = waiting_unpolled g tell s d after s.processed s.drawn s.lines k.grown k.pending (λ q v. sym (ap (λ (c : Control). entered_by c q v) calling)) l.waiting;
      capacities = capacities_later g.setup.resources s.facilities d k.later l.capacities;
      conditions = conditions;
      bodies = bodies_moved tell sound s (control_to after t) refl k.grown (λ q b w. ap (is_told_well tell (calendar s) q b) (sym calling) ∙ w) l.bodies;
      chains = chains_control d before after (λ f w. w) (λ f w. All-tail (λ z. chains_well d f z ≡ true) x left w) (subst (λ c. LawfulChains d c) calling k.chains);
    }
