-- A process drops another: the parts of the law that are not about resources.
use Rattle.std.proofs.Common.{◌≡◌, ℕ, ℤ, pos, true, false, List, filter, Some, refl, sym, subst, ap, ◌∙◌, arith}
use Rattle.std.specs.Prelude.{count_by}
use Rattle.sim_types.specs.declared.event.EventId.{EventId}
use Rattle.sim_types.specs.declared.event.ProcId.{ProcId}
use Rattle.sim_types.specs.declared.event.Signal.{Signal}
use Rattle.sim_types.specs.declared.event.Callback.{Callback}
use Rattle.sim_types.specs.declared.event.Outcome.TheVariants as outcome
use Rattle.sim_machine.specs.State.{Calendar, ProcessOf, Control, Active, State, Plan}
use Rattle.sim_machine.specs.Events.{is_process, event_at, unregister, is_resume_of}
use Rattle.sim_machine.specs.Triggering.{normal, trigger}
use Rattle.sim_machine.specs.Scopes.{scopes_inwards, leave_all}
use Rattle.sim_machine.specs.Processes.{event_of, process_at, is_alive, target_of, stop_waiting, strip_resume, drop_process}
use Rattle.sim_machine.specs.Effect.{calendar}
use Rattle.sim_machine.specs.Tellings.{Telling}
use Rattle.sim_machine.specs.Standing.{kind_at, all_callbacks_of, callbacks_in_all}
use Rattle.sim_machine.specs.LawfulTimes.{LawfulTimes}
use Rattle.sim_machine.specs.LawfulRegistrations.{LawfulRegistrations}
use Rattle.sim_machine.specs.LawfulProcesses.{LawfulProcesses, is_active}
use Rattle.sim_machine.specs.LawfulInterruptions.{LawfulInterruptions, is_failed_interruption}
use Rattle.sim_machine.specs.LawfulChains.{LawfulChains}
use Rattle.sim_machine_law.proofs.KeptParts.KeptChains.{chains_scheduled}
use Rattle.sim_machine_law.proofs.KeptParts.KeptConditionsEvents.{conditions_scheduled}
use Rattle.sim_machine_law.proofs.KeptParts.KeptInterruptionsChanges.{all_made-fewer, interruptions-fewer, interruptions-schedules}
use Rattle.sim_machine_law.proofs.KeptParts.KeptInterruptionsParts.{AllMade, KeepsHearing, StrikesAlone, all_made, all_made-kept, hearing-events, hearing-same, hearing-trans, interruptions-kept, interruptions-strikes}
use Rattle.sim_machine_law.proofs.KeptParts.KeptProcessesChanges.{processes-same}
use Rattle.sim_machine_law.proofs.KeptParts.KeptProcessesParts.{is_process-swap, living-events, living-same, living-trans}
use Rattle.sim_machine_law.proofs.KeptParts.KeptRegistrations.{registrations_scheduled}
use Rattle.sim_machine_law.proofs.KeptParts.KeptRegistrationsCalendar.{pending_unprocessed}
use Rattle.sim_machine_law.proofs.KeptParts.KeptTimes.{times_registered, times_triggered}
use Rattle.sim_machine_law.proofs.Processes.EndedProcesses.{IsUnresumed, ended_state, is_other, lives-unresumed, processes-unresumed}
use Rattle.sim_lawful.proofs.Calendars.LeavingCalendars.{LeavesScopes, leaves-all}
use Rattle.sim_lawful.proofs.Calls.StoppedWaiting.{Resumed, found_alive, resumed_at}
use Rattle.sim_lawful.proofs.Drops.StrippedControls.{without_resume, none-dropped, others-dropped, others_at-dropped, registrations_dropped, conditions_dropped, chains_dropped, strikes_dropped}
use Rattle.sim_machine_law.proofs.KeptParts.LawfulBasis.{ConditionsBasis, LawfulBasis}
use Rattle.sim_lawful.proofs.KeptParts.KeptInterruptionsPolls.{process_no_interrupt}

-- p runs, and q is another that is alive
pub record MayDrop {B : Type 0} (s : State B) (e : EventId) (left : List Callback) (p : ProcId) (x : Signal) (q : ProcId) : Type 0 where
  pub active : s.control ≡ Active e left p x
  pub other : is_process q p ≡ false
  pub alive : is_alive q s ≡ true

-- q waits no longer, and then it has left its scopes
abbrev pub stopped_state : {B : Type 0} → ProcId → State B → State B
stopped_state q s = let t = stop_waiting q s in record t { control = strip_resume q t.control }

abbrev pub scopeless_state : {B : Type 0} → ProcId → State B → State B
scopeless_state q s = leave_all q (stopped_state q s)

-- what is known of it
pub record IsScopeless {B : Type 0} (s : State B) (e : EventId) (left : List Callback) (p : ProcId) (x : Signal) (q : ProcId) : Type 0 where
  pub leaves : LeavesScopes (without_resume e left p x q) (stopped_state q s) (scopeless_state q s)
  pub control : (scopeless_state q s).control ≡ without_resume e left p x q
  pub unresumed : IsUnresumed s q (calendar (scopeless_state q s)) (without_resume e left p x q)

pub scopeless : {B : Type 0} (named : ℕ) (s : State B) (e : EventId) (left : List Callback) (p : ProcId) (x : Signal)
    (q : ProcId) → MayDrop s e left p x q → LawfulProcesses named s → IsScopeless s e left p x q
scopeless {B} named s e left p x q may h =
    let c : Calendar = calendar s in
    let k : Control = Active e left p x in
    let l : Control = without_resume e left p x q in
    let target : EventId = target_of q (process_at q s) in
    let a : Calendar = unregister target (is_resume_of q) c in
    let d : Calendar = calendar (scopeless_state q s) in
    let leaves : LeavesScopes l (stopped_state q s) (scopeless_state q s) = leaves-all l (scopes_inwards q (stopped_state q s)) (stopped_state q s) in
    let rests : is_active s.control q ≡ false = ap (λ (j : Control). is_active j q) may.active ∙ (is_process-swap p q ∙ may.other) in
    let found = found_alive s q may.alive in
    let resumed : Resumed c k q target = subst (λ (j : Control). Resumed c j q target) may.active (resumed_at named s q found.0 found.1 rests h) in
    let resumes = leaves.proceeds.resumes in
    record {
      leaves = leaves;
      control = leaves.control ∙ ap (strip_resume q) may.active;
      unresumed = record {
        alive = may.alive;
        rests = rests;
        active = λ r. sym (ap (λ (j : Control). is_active j r) may.active);
        living = living-trans c a d (living-events c c a refl (living-same c)) (leaves.proceeds.living (omega (arith, h.named_made)));
        none = resumes.in_all q ∙ none-dropped c e left p q x target resumed;
        in_all = λ r apart. resumes.in_all r ∙ (others-dropped c e left p q r x target apart ∙ sym (ap (λ (j : Control). callbacks_in_all (is_resume_of r) c j) may.active));
        at = λ r f apart. resumes.at r f ∙ (others_at-dropped c e left p q r x target f apart ∙ sym (ap (λ (j : Control). count_by (is_resume_of r) (all_callbacks_of c j f)) may.active));
      };
    }

-- ---- the calendar without the scopes, and once the event of q is triggered

registrations_scopeless : {B : Type 0} (s : State B) (e : EventId) (left : List Callback) (p : ProcId) (x : Signal)
    (q : ProcId) → s.control ≡ Active e left p x → IsScopeless s e left p x q → LawfulRegistrations (calendar s) s.control
    → LawfulRegistrations (calendar (scopeless_state q s)) (without_resume e left p x q)
registrations_scopeless s e left p x q active k h =
    k.leaves.proceeds.registrations (registrations_dropped (calendar s) e left p q x (target_of q (process_at q s)) (subst (λ (j : Control). LawfulRegistrations (calendar s) j) active h))

pub times_dropped : {B : Type 0} (g : Plan B) (tell : Telling B) (sound : B → Type 0) (s : State B) (e : EventId)
    (left : List Callback) (p : ProcId) (x : Signal) (q : ProcId) (value : ℤ) → MayDrop s e left p x q
    → LawfulBasis g tell sound s → LawfulTimes (calendar (drop_process q value s))
times_dropped g tell sound s e left p x q value may h =
    let k : IsScopeless s e left p x q = scopeless g.setup.events s e left p x q may h.processes in
    let d : Calendar = calendar (scopeless_state q s) in
    let own = lives-unresumed g.setup.events s q d (without_resume e left p x q) k.unresumed h.processes in
    let at = registrations_scopeless s e left p x q may.active k h.registrations in
    times_triggered (event_of q) (outcome.Ok value) d own.1.made own.1.pending (pending_unprocessed d (event_of q) at.outcomes own.1.pending)
    (k.leaves.proceeds.times (times_registered (unregister (target_of q (process_at q s)) (is_resume_of q) (calendar s)).registered (calendar s) h.times))

pub registrations_dropped_process : {B : Type 0} (g : Plan B) (tell : Telling B) (sound : B → Type 0) (s : State B)
    (e : EventId) (left : List Callback) (p : ProcId) (x : Signal) (q : ProcId) (value : ℤ) → MayDrop s e left p x q
    → LawfulBasis g tell sound s → LawfulRegistrations (calendar (drop_process q value s)) (drop_process q value s).control
registrations_dropped_process g tell sound s e left p x q value may h =
    let k : IsScopeless s e left p x q = scopeless g.setup.events s e left p x q may h.processes in
    let d : Calendar = calendar (scopeless_state q s) in
    let l : Control = without_resume e left p x q in
    subst (λ (j : Control). LawfulRegistrations (trigger (event_of q) (outcome.Ok value) d) j) (sym k.control)
    (registrations_scheduled (event_of q) (outcome.Ok value) normal (pos 0) d l (registrations_scopeless s e left p x q may.active k h.registrations))

pub chains_dropped_process : {B : Type 0} (g : Plan B) (tell : Telling B) (sound : B → Type 0) (s : State B) (e : EventId)
    (left : List Callback) (p : ProcId) (x : Signal) (q : ProcId) (value : ℤ) → MayDrop s e left p x q
    → LawfulBasis g tell sound s → LawfulChains (calendar (drop_process q value s)) (drop_process q value s).control
chains_dropped_process g tell sound s e left p x q value may h =
    let k : IsScopeless s e left p x q = scopeless g.setup.events s e left p x q may h.processes in
    let c : Calendar = calendar s in
    let d : Calendar = calendar (scopeless_state q s) in
    let l : Control = without_resume e left p x q in
    let target : EventId = target_of q (process_at q s) in
    let at : LawfulRegistrations c (Active e left p x) = subst (λ (j : Control). LawfulRegistrations c j) may.active h.registrations in
    let stopped = chains_dropped c e left p q x target (subst (λ (j : Control). LawfulChains c j) may.active h.chains) in
    subst (λ (j : Control). LawfulChains (trigger (event_of q) (outcome.Ok value) d) j) (sym k.control)
    (chains_scheduled (event_of q) (outcome.Ok value) normal (pos 0) d l (registrations_scopeless s e left p x q may.active k h.registrations) (k.leaves.proceeds.chains (registrations_dropped c e left p q x target at) stopped))

pub conditions_dropped_process : {B : Type 0} (g : Plan B) (tell : Telling B) (sound : B → Type 0) (s : State B)
    (e : EventId) (left : List Callback) (p : ProcId) (x : Signal) (q : ProcId) (value : ℤ) → MayDrop s e left p x q
    → LawfulBasis g tell sound s → ConditionsBasis (calendar (drop_process q value s)) (drop_process q value s).control
conditions_dropped_process g tell sound s e left p x q value may h =
    let k : IsScopeless s e left p x q = scopeless g.setup.events s e left p x q may h.processes in
    let c : Calendar = calendar s in
    let d : Calendar = calendar (scopeless_state q s) in
    let l : Control = without_resume e left p x q in
    let stopped = conditions_dropped c e left p q x (target_of q (process_at q s)) (subst (λ (j : Control). ConditionsBasis c j) may.active h.conditions) in
    subst (λ (j : Control). ConditionsBasis (trigger (event_of q) (outcome.Ok value) d) j) (sym k.control)
    (conditions_scheduled (event_of q) (outcome.Ok value) normal (pos 0) d l (k.leaves.proceeds.conditions stopped))

-- ---- the processes

pub processes_dropped : {B : Type 0} (g : Plan B) (tell : Telling B) (sound : B → Type 0) (s : State B) (e : EventId)
    (left : List Callback) (p : ProcId) (x : Signal) (q : ProcId) (value : ℤ) → MayDrop s e left p x q
    → LawfulBasis g tell sound s → LawfulProcesses g.setup.events (drop_process q value s)
processes_dropped {B} g tell sound s e left p x q value may h =
    let k : IsScopeless s e left p x q = scopeless g.setup.events s e left p x q may h.processes in
    let d : Calendar = calendar (scopeless_state q s) in
    let l : Control = without_resume e left p x q in
    let ended : State B = ended_state s q (outcome.Ok value) d l in
    processes-same g.setup.events ended (drop_process q value s) (ap (λ (ys : List (ProcessOf B)). filter (is_other q) ys) k.leaves.processes) refl k.control (processes-unresumed g.setup.events s q (outcome.Ok value) d l k.unresumed h.processes)

pub interruptions_dropped : {B : Type 0} (g : Plan B) (tell : Telling B) (sound : B → Type 0) (s : State B) (e : EventId)
    (left : List Callback) (p : ProcId) (x : Signal) (q : ProcId) (value : ℤ) → MayDrop s e left p x q
    → LawfulBasis g tell sound s → LawfulInterruptions (drop_process q value s)
interruptions_dropped {B} g tell sound s e left p x q value may h =
    let k : IsScopeless s e left p x q = scopeless g.setup.events s e left p x q may h.processes in
    let c : Calendar = calendar s in
    let t : State B = scopeless_state q s in
    let d : Calendar = calendar t in
    let l : Control = without_resume e left p x q in
    let target : EventId = target_of q (process_at q s) in
    let a : Calendar = unregister target (is_resume_of q) c in
    let made : AllMade s = all_made g tell sound s h in
    let hearing : KeepsHearing c d = hearing-trans c a d (hearing-events c c a refl (hearing-same c)) k.leaves.proceeds.hearing in
    let stopped : StrikesAlone a l = strikes_dropped c e left p q x target (subst (λ (j : Control). StrikesAlone c j) may.active (interruptions-strikes s h.interruptions)) in
    let strikes : StrikesAlone d t.control = subst (λ (j : Control). StrikesAlone d j) (sym k.control) (k.leaves.proceeds.strikes stopped) in
    let left_scopes : LawfulInterruptions t = interruptions-kept s t k.leaves.processes made hearing strikes h.interruptions in
    let fewer : State B = record t { processes = filter (is_other q) t.processes } in
    let own = lives-unresumed g.setup.events s q d l k.unresumed h.processes in
    let fails : is_failed_interruption (record (event_at d (event_of q)) { outcome = Some (outcome.Ok value) }) ≡ true = rw (process_no_interrupt (kind_at d (event_of q)) own.1.kind) refl in
    interruptions-schedules fewer (event_of q) (outcome.Ok value) normal (pos 0) fails (all_made-fewer t (is_other q) (all_made-kept s t k.leaves.processes hearing made)) (interruptions-fewer t (is_other q) left_scopes)
