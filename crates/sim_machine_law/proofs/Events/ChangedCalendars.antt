-- Which calendars may take the place of that of a lawful state, where a process goes on or a callback was called.
use Rattle.std.proofs.Common.{◌≡◌, true, false, List, ◌∷◌, Some, refl, sym, ap, subst, ◌∙◌}
use Rattle.std.proofs.lemmas.List.Elements.{All-tail}
use Rattle.sim_types.specs.declared.event.EventId.{EventId}
use Rattle.sim_types.specs.declared.event.ProcId.{ProcId}
use Rattle.sim_types.specs.declared.event.Callback.{Callback}
use Rattle.sim_types.specs.declared.event.Signal.{Signal}
use Rattle.sim_types.specs.declared.op.Op.{Op}
use Rattle.sim_machine.specs.State.{Calendar, Waiter, ProcessOf, Control, Calling, Active, State, Plan}
use Rattle.sim_machine.specs.Events.{is_pending, is_resume_of}
use Rattle.sim_machine.specs.Scopes.{on_events}
use Rattle.sim_machine.specs.Processes.{process_at, with_body, tell as told}
use Rattle.sim_machine.specs.Effect.{calendar}
use Rattle.sim_machine.specs.Steps.{control_to}
use Rattle.sim_machine.specs.Tellings.{Telling, CodeFacts}
use Rattle.sim_machine.specs.MayFollow.{is_enter}
use Rattle.sim_machine.specs.BodyLaw.{IsLawfulPoll, scopes_told}
use Rattle.sim_machine.specs.LawfulTimes.{LawfulTimes}
use Rattle.sim_machine.specs.LawfulRegistrations.{LawfulRegistrations}
use Rattle.sim_machine.specs.LawfulWaiting.{waits_well, entered_by}
use Rattle.sim_machine.specs.LawfulChains.{LawfulChains, chains_well}
use Rattle.sim_machine.specs.LawfulBodies.{told_fits, is_told_well}
use Rattle.sim_machine_law.proofs.KeptParts.KeptRegistrationsCalendar.{Later}
use Rattle.sim_machine_law.proofs.KeptParts.KeptRegistrations.{registrations_told, registrations_control}
use Rattle.sim_machine_law.proofs.KeptParts.KeptProcessesParts.{KeepsLiving, KeepsResumes, resumes-called}
use Rattle.sim_machine_law.proofs.KeptParts.KeptProcesses.{processes-events, processes-control}
use Rattle.sim_machine_law.proofs.KeptParts.KeptProcessesChanges.{processes-bodies, processes-told}
use Rattle.sim_machine_law.proofs.KeptParts.KeptInterruptionsParts.{KeepsHearing, StrikesAlone, all_made, interruptions-kept}
use Rattle.sim_machine_law.proofs.KeptParts.KeptInterruptions.{interruptions-called}
use Rattle.sim_machine_law.proofs.KeptParts.KeptInterruptionsChanges.{interruptions-bodies, all_made-bodies, interruptions-told}
use Rattle.sim_machine_law.proofs.KeptParts.KeptWaitingPolls.{IsWaitingPoll, waiting_unpolled}
use Rattle.sim_machine_law.proofs.KeptParts.KeptCapacities.{capacities_later}
use Rattle.sim_machine_law.proofs.KeptParts.KeptConditions.{IsNoConditions, conditions_told, conditions_controlled, calls_less}
use Rattle.sim_machine_law.proofs.KeptParts.KeptBodiesEvents.{Grown}
use Rattle.sim_machine_law.proofs.KeptParts.KeptBodiesPolls.{IsBodyPoll, bodies_moved, bodies_going_on}
use Rattle.sim_machine_law.proofs.KeptParts.KeptChains.{chains_told, chains_control}
use Rattle.sim_machine_law.proofs.Processes.ToldScopes.{waiting_told}
use Rattle.sim_machine_law.proofs.KeptParts.LawfulBasis.{ConditionsBasis, LawfulBasis}

-- what a calendar d has that may take the place of the state's, for each part of the law
pub record MayReplace {B : Type 0} (s : State B) (d : Calendar) : Type 0 where
  pub times : LawfulTimes d
  pub registrations : LawfulRegistrations d s.control
  pub living : KeepsLiving s.facilities.calendar d
  pub resumes : KeepsResumes s.facilities.calendar s.control d s.control
  pub hearing : KeepsHearing s.facilities.calendar d
  pub strikes : StrikesAlone d s.control
  pub grown : Grown s.facilities.calendar d
  pub pending : (w : Waiter) → waits_well s.facilities.calendar w ≡ true → is_pending d w.event ≡ true
  pub later : Later s.facilities.calendar d
  pub conditions : ConditionsBasis d s.control
  pub chains : LawfulChains d s.control

-- the active process p, whose body was y's and is b now, asks for o in a lawful state
pub record AsksFor {B : Type 0} (g : Plan B) (tell : Telling B) (sound : B → Type 0) (s : State B) (f : CodeFacts) (e : EventId) (left : List Callback) (p : ProcId) (x : Signal) (y : ProcessOf B) (b : B) (o : Op) : Type 0 where
  pub active : s.control ≡ Active e left p x
  pub found : process_at p s ≡ Some y
  pub is_sound : sound b
  pub lawful : LawfulBasis g tell sound s
  pub poll : IsLawfulPoll f tell y.body x o b

-- the active process p, whose body was y's, asked for o in a lawful state, and its body is b now; o is not to leave a
-- scope
pub record HasAsked {B : Type 0} (g : Plan B) (tell : Telling B) (sound : B → Type 0) (s : State B) (f : CodeFacts) (e : EventId) (left : List Callback) (p : ProcId) (x : Signal) (y : ProcessOf B) (b : B) (o : Op) : Type 0 where
  pub active : s.control ≡ Active e left p x
  pub found : process_at p s ≡ Some y
  pub is_sound : sound b
  pub lawful : LawfulBasis g tell sound s
  pub poll : IsLawfulPoll f tell y.body x o b
  pub scopes : tell.scopes b ≡ scopes_told (tell.scopes y.body) (tell.last y.body) x

pub body_asked : {B : Type 0} (g : Plan B) (tell : Telling B) (sound : B → Type 0) (s : State B) (f : CodeFacts)
    (e : EventId) (left : List Callback) (p : ProcId) (x : Signal) (y : ProcessOf B) (b : B) (o : Op)
    → HasAsked g tell sound s f e left p x y b o → IsBodyPoll tell sound s e left p x y b
body_asked g tell sound s f e left p x y b o h = record { active = h.active; found = h.found; is_sound = h.is_sound; own = h.poll.own; places = h.poll.places; lawful = h.lawful.bodies }

pub scopes_asked_for : {B : Type 0} (g : Plan B) (tell : Telling B) (sound : B → Type 0) (s : State B) (f : CodeFacts)
    (e : EventId) (left : List Callback) (p : ProcId) (x : Signal) (y : ProcessOf B) (b : B) (o : Op)
    → HasAsked g tell sound s f e left p x y b o → IsWaitingPoll g tell s e left p x y b
scopes_asked_for g tell sound s f e left p x y b o h = record { active = h.active; found = h.found; scopes = h.scopes; lawful = h.lawful.waiting }

-- the process goes on and is told n, and the calendar is changed so
pub lawful_told : {B : Type 0} (g : Plan B) (tell : Telling B) (sound : B → Type 0) (s : State B) (f : CodeFacts)
    (e : EventId) (left : List Callback) (p : ProcId) (x : Signal) (y : ProcessOf B) (b : B) (o : Op) (n : Signal)
    (change : Calendar → Calendar) → HasAsked g tell sound s f e left p x y b o → MayReplace s (change (calendar s))
    → is_enter (tell.last b) ≡ false → told_fits tell (change (calendar s)) b n ≡ true
    → LawfulBasis g tell sound (told n (on_events change (with_body p b s)))
lawful_told {B} g tell sound s f e left p x y b o n change h k not_enters fits =
    let d : Calendar = change (calendar s) in
    let r : State B = with_body p b s in
    let t : State B = on_events change r in
    let l : LawfulBasis g tell sound s = h.lawful in
    record {
      times = k.times;
      registrations = registrations_told n d s.control k.registrations;
      processes = processes-told g.setup.events t n (processes-events g.setup.events r change k.living k.resumes (processes-bodies g.setup.events s p b l.processes));
      interruptions = interruptions-told t n (interruptions-kept r t refl (all_made-bodies s p b (all_made g tell sound s l)) k.hearing k.strikes (interruptions-bodies s p b l.interruptions));
      waiting = waiting_told g tell s e left p x n y b d s.processed s.drawn s.lines (scopes_asked_for g tell sound s f e left p x y b o h) not_enters k.grown k.pending;
      capacities = capacities_later g.setup.resources s.facilities d k.later l.capacities;
      conditions = conditions_told n d s.control k.conditions;
      bodies = bodies_going_on tell sound s (told n t) e left p x y b n (body_asked g tell sound s f e left p x y b o h) refl k.grown refl fits;
      chains = chains_told n d s.control k.chains;
    }

-- a callback of e was called that resumes nobody and is no condition's, and the calendar is changed so
pub lawful_called : {B : Type 0} (g : Plan B) (tell : Telling B) (sound : B → Type 0) (s : State B) (e : EventId)
    (x : Callback) (left : List Callback) (change : Calendar → Calendar) → s.control ≡ Calling e (x ∷ left)
    → ((p : ProcId) → is_resume_of p x ≡ false) → IsNoConditions x → LawfulBasis g tell sound s
    → MayReplace s (change (calendar s)) → LawfulBasis g tell sound (control_to (Calling e left) (on_events change s))
lawful_called {B} g tell sound s e x left change calling others no_condition l k =
    let d : Calendar = change (calendar s) in
    let t : State B = on_events change s in
    let before : Control = Calling e (x ∷ left) in
    let after : Control = Calling e left in
    record {
      times = k.times;
      registrations = registrations_control d before after (λ f w. w) (subst (λ c. LawfulRegistrations d c) calling k.registrations);
      processes = processes-control g.setup.events t after (resumes-called d s.control after x (rw calling refl) (λ f. rw calling refl) (λ p. rw calling refl) others) (processes-events g.setup.events s change k.living k.resumes l.processes);
      interruptions = interruptions-called t after x (rw calling refl) (λ f. rw calling refl) (interruptions-kept s t refl (all_made g tell sound s l) k.hearing k.strikes l.interruptions);
      waiting = waiting_unpolled g tell s d after s.processed s.drawn s.lines k.grown k.pending (λ q v. sym (ap (λ (c : Control). entered_by c q v) calling)) l.waiting;
      capacities = capacities_later g.setup.resources s.facilities d k.later l.capacities;
      conditions = conditions_controlled d before after (calls_less e x left after (λ f. refl) refl no_condition) (subst (λ c. ConditionsBasis d c) calling k.conditions);
      bodies = bodies_moved tell sound s (control_to after t) refl k.grown (λ q b w. ap (is_told_well tell (calendar s) q b) (sym calling) ∙ w) l.bodies;
      chains = chains_control d before after (λ f w. w) (λ f w. All-tail (λ z. chains_well d f z ≡ true) x left w) (subst (λ c. LawfulChains d c) calling k.chains);
    }
