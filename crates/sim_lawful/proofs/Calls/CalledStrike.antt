-- An interruption comes: its process waits no longer and is thrown the interruption, or has ended, and then nothing happens.
use Rattle.std.proofs.Common.{◌≡◌, ℕ, ◌+◌, Bool, true, false, ◌&&◌, not, List, [], ◌∷◌, ◌++◌, length, Option, refl, sym, subst, ap, ◌∙◌, arith, ⊎_elim, length-append, if◌then◌else◌}
use Rattle.std.specs.Prelude.{count_by}
use Rattle.std.proofs.lemmas.Bool.{cases_Bool, or_cases, or_right, both_ways}
use Rattle.std.proofs.lemmas.List.Elements.{All-weaker, All-tail}
use Rattle.std.proofs.lemmas.List.Sums.{count_by-le-length}
use Rattle.sim_types.specs.declared.event.EventId.{EventId}
use Rattle.sim_types.specs.declared.event.ProcId.{ProcId}
use Rattle.sim_types.specs.declared.event.Outcome.{Outcome}
use Rattle.sim_types.specs.declared.event.Signal.{Signal}
use Rattle.sim_types.specs.declared.event.Callback.{Callback}
use Rattle.sim_types.specs.declared.event.Callback.TheVariants as callback
use Rattle.sim_machine.specs.State.{Calendar, ProcessOf, Control, Calling, Active, State, Plan}
use Rattle.sim_machine.specs.Events.{is_process, is_same, event_at, unregister, is_resume_of, callbacks_of}
use Rattle.sim_machine.specs.Processes.{process_at, is_alive, target_of, signal_of, stop_waiting}
use Rattle.sim_machine.specs.Effect.{calendar}
use Rattle.sim_machine.specs.Steps.{call, control_to}
use Rattle.sim_machine.specs.Tellings.{Telling}
use Rattle.sim_machine.specs.Standing.{one_if, all_callbacks_of, callbacks_in_all}
use Rattle.sim_machine.specs.LawfulRegistrations.{LawfulRegistrations}
use Rattle.sim_machine.specs.LawfulProcesses.{LawfulProcesses, is_active, is_waiting_well}
use Rattle.sim_machine.specs.LawfulInterruptions.{LawfulInterruptions, is_strike}
use Rattle.sim_machine.specs.LawfulWaiting.{entered_by}
use Rattle.sim_machine.specs.LawfulBodies.{is_told_well, waits_or_new}
use Rattle.sim_machine.specs.LawfulChains.{LawfulChains, chains_well}
use Rattle.sim_machine_law.proofs.Events.CallbackLaws.{callbacks_in_all-called, callbacks_at-called, count_by-append, count_by-cons}
use Rattle.sim_machine_law.proofs.Events.EventLaws.{is_same-self}
use Rattle.sim_machine_law.proofs.KeptParts.KeptTimes.{times_registered}
use Rattle.sim_machine_law.proofs.KeptParts.KeptTimesCases.{if_cases}
use Rattle.sim_machine_law.proofs.KeptParts.KeptRegistrations.{registrations_control}
use Rattle.sim_machine_law.proofs.KeptParts.KeptRegistrationsCalendar.{later_self}
use Rattle.sim_machine_law.proofs.KeptParts.KeptProcessesParts.{WaitsOnce, is_process-yes, waits_once, waiting_well, waiting_active}
use Rattle.sim_machine_law.proofs.KeptParts.KeptInterruptions.{interruptions-called}
use Rattle.sim_machine_law.proofs.KeptParts.KeptInterruptionsParts.{StrikesAlone, all_made, alone_parts, hearing-events, hearing-same, interruptions-kept, interruptions-strikes}
use Rattle.sim_machine_law.proofs.KeptParts.KeptConditions.{IsNoConditions, calls_less, conditions_controlled}
use Rattle.sim_machine_law.proofs.KeptParts.KeptChains.{chains_control}
use Rattle.sim_machine_law.proofs.KeptParts.KeptCapacities.{capacities_later}
use Rattle.sim_machine_law.proofs.KeptParts.KeptBodies.{of_is_resumption, told_resumed}
use Rattle.sim_machine_law.proofs.KeptParts.KeptBodiesEvents.{Grown}
use Rattle.sim_machine_law.proofs.KeptParts.KeptBodiesPolls.{bodies_moved}
use Rattle.sim_machine_law.proofs.KeptParts.KeptWaiting.{waits_pending}
use Rattle.sim_machine_law.proofs.KeptParts.KeptWaitingPolls.{entered_resumed, waiting_unpolled}
use Rattle.sim_machine_law.proofs.Events.ChangedCalendars.{lawful_called}
use Rattle.sim_lawful.proofs.Calendars.ReplacedCalendars.{replace_same}
use Rattle.sim_lawful.proofs.Calendars.TakenOut.{registrations_taken, chains_taken, strikes_taken, conditions_taken}
use Rattle.sim_lawful.proofs.Calls.StoppedWaiting.{Resumed, found_alive, resumed_at, none-unregister, others-unregister, others_at-unregister}
use Rattle.sim_machine_law.proofs.KeptParts.LawfulBasis.{ConditionsBasis, LawfulBasis}

strike_is_no_conditions : (p : ProcId) → IsNoConditions (callback.Strike p)
strike_is_no_conditions p = record { no_check = λ cond. refl; no_build = λ cond. refl }

-- ---- the process has ended

-- of the callbacks still to call the first one is passed over
lawful-missed : {B : Type 0} (g : Plan B) (tell : Telling B) (sound : B → Type 0) (s : State B) (e : EventId)
    (left : List Callback) (p : ProcId) → s.control ≡ Calling e (callback.Strike p ∷ left) → LawfulBasis g tell sound s
    → LawfulBasis g tell sound (control_to (Calling e left) s)
lawful-missed g tell sound s e left p calling h =
    lawful_called g tell sound s e (callback.Strike p) left (λ c. c) calling (λ q. refl) (strike_is_no_conditions p) h (replace_same g tell sound s h)

-- ---- the process is alive

same_calling : {B : Type 0} (P : Control → Type 0) (s : State B) (k : Control) → s.control ≡ k → P s.control → P k
same_calling P s k is h = subst P is h

-- an interruption has no callback but its strike, so those left resume nobody
none_left : (c : Calendar) (e : EventId) (left : List Callback) (p q : ProcId)
    → StrikesAlone c (Calling e (callback.Strike p ∷ left)) → count_by (is_resume_of q) left ≡ 0
none_left c e left p q h =
    let x : Callback = callback.Strike p in
    let k : Control = Calling e (x ∷ left) in
    let calls : all_callbacks_of c k e ≡ callbacks_of e c ++ (x ∷ left) = ap (λ (b : Bool). callbacks_of e c ++ (if b then x ∷ left else [])) (is_same-self e) in
    let one : count_by is_strike (all_callbacks_of c k e) ≡ count_by is_strike (callbacks_of e c) + count_by is_strike (x ∷ left) = ap (count_by is_strike) calls ∙ count_by-append is_strike (callbacks_of e c) (x ∷ left) in
    let all = alone_parts c k e (h.alone e (omega (arith, one, count_by-cons is_strike x left))) in
    let more : length (x ∷ left) ≡ 1 + length left = omega arith in
    let sum : length (all_callbacks_of c k e) ≡ length (callbacks_of e c) + length (x ∷ left) = ap (λ (xs : List Callback). length xs) calls ∙ length-append (callbacks_of e c) (x ∷ left) in
    omega (arith, all.1, sum, more, count_by-le-length (is_resume_of q) left)

-- the process that is struck is active, and nothing resumes it
processes-struck : {B : Type 0} (named : ℕ) (s : State B) (e : EventId) (left : List Callback) (p : ProcId) (y : Signal)
    → s.control ≡ Calling e (callback.Strike p ∷ left) → is_alive p s ≡ true → LawfulInterruptions s
    → LawfulProcesses named s → LawfulProcesses named (control_to (Active e left p y) (stop_waiting p s))
processes-struck {B} named s e left p y calling alive struck h =
    let c : Calendar = calendar s in
    let x : Callback = callback.Strike p in
    let k : Control = Calling e (x ∷ left) in
    let l : Control = Active e left p y in
    let target : EventId = target_of p (process_at p s) in
    let d : Calendar = unregister target (is_resume_of p) c in
    let t : State B = control_to l (stop_waiting p s) in
    let found = found_alive s p alive in
    let rests : (q : ProcId) → is_active s.control q ≡ false = λ q. rw calling refl in
    let once : Resumed c k p target = same_calling (λ j. Resumed c j p target) s k calling (resumed_at named s p found.0 found.1 (rests p) h) in
    let alone : StrikesAlone c k = same_calling (λ j. StrikesAlone c j) s k calling (interruptions-strikes s struck) in
    let mine : callbacks_in_all (is_resume_of p) d l ≡ 0 = omega (arith, none-unregister c k p target once (none_left c e left p p alone), callbacks_in_all-called (is_resume_of p) d k l x refl) in
    let in_all : (q : ProcId) → is_process p q ≡ false → callbacks_in_all (is_resume_of q) d l ≡ callbacks_in_all (is_resume_of q) c s.control = λ q apart.
    rw calling (omega (arith, callbacks_in_all-called (is_resume_of q) d k l x refl, others-unregister c k p q target apart)) in
    let at : (q : ProcId) (f : EventId) → is_process p q ≡ false → count_by (is_resume_of q) (all_callbacks_of d l f) ≡ count_by (is_resume_of q) (all_callbacks_of c s.control f) = λ q f apart.
    rw calling (omega (arith, callbacks_at-called (is_resume_of q) d k l x f refl refl, others_at-unregister c k p q target f apart, not_counted (is_same e f))) in
    let waits : (z : ProcessOf B) → is_waiting_well s z ≡ true → is_waiting_well t z ≡ true = λ z w.
    ⊎_elim (λ a. waiting_active t z a) (λ apart.
    let before : WaitsOnce c s.control z.id z.target = waits_once s z (rests z.id) w in
    waiting_well t z (record { in_all = in_all z.id apart ∙ before.in_all; at = at z.id z.target apart ∙ before.at })) (cases_Bool (is_process p z.id)) in
    let gone : (q : ProcId) → is_process p q ≡ false → not (is_alive q s) ≡ true → callbacks_in_all (is_resume_of q) d l ≡ 0 = λ q apart n.
    in_all q apart ∙ h.not_resumed q (or_right (is_active s.control q) (not (is_alive q s)) n) in
    record {
      distinct = h.distinct;
      active = λ q a. subst (λ (r : ProcId). is_alive r s ≡ true) (is_process-yes p q a) alive;
      waiting = All-weaker (λ z. is_waiting_well s z ≡ true) (λ z. is_waiting_well t z ≡ true) waits s.processes h.waiting;
      not_resumed = λ q n. ⊎_elim (λ a. subst (λ (r : ProcId). callbacks_in_all (is_resume_of r) d l ≡ 0) (is_process-yes p q a) mine)
          (λ apart. ⊎_elim (λ a. absurd (both_ways (is_process p q) apart a)) (λ n. gone q apart n) (or_cases (is_process p q) (not (is_alive q s)) n)) (cases_Bool (is_process p q));
      living = h.living;
      named_made = h.named_made;
      named_plain = h.named_plain;
      zero_processed = h.zero_processed;
      zero_ok = h.zero_ok;
    }
  where
    not_counted : (b : Bool) → one_if (b && false) ≡ 0
    not_counted true = refl
    not_counted false = refl

lawful-struck : {B : Type 0} (g : Plan B) (tell : Telling B) (sound : B → Type 0) (s : State B) (e : EventId)
    (left : List Callback) (p : ProcId) (o : Option Outcome) → s.control ≡ Calling e (callback.Strike p ∷ left)
    → is_alive p s ≡ true → LawfulBasis g tell sound s
    → LawfulBasis g tell sound (control_to (Active e left p (signal_of o)) (stop_waiting p s))
lawful-struck {B} g tell sound s e left p o calling alive h =
    let c : Calendar = calendar s in
    let x : Callback = callback.Strike p in
    let y : Signal = signal_of o in
    let k : Control = Calling e (x ∷ left) in
    let l : Control = Active e left p y in
    let target : EventId = target_of p (process_at p s) in
    let d : Calendar = unregister target (is_resume_of p) c in
    let r : State B = stop_waiting p s in
    let t : State B = control_to l r in
    let grown : Grown c d = record { longer = omega arith; kinds = λ f made. refl; cancelled = λ f. refl } in
    let struck : LawfulInterruptions r = interruptions-kept s r refl (all_made g tell sound s h) (hearing-events c c d refl (hearing-same c)) (strikes_taken target p c s.control (interruptions-strikes s h.interruptions)) h.interruptions in
    record {
      times = times_registered d.registered c h.times;
      registrations = registrations_control d k l (λ f w. w) (same_calling (λ j. LawfulRegistrations d j) s k calling (registrations_taken target (is_resume_of p) c s.control h.registrations));
      processes = processes-struck g.setup.events s e left p y calling alive h.interruptions h.processes;
      interruptions = interruptions-called r l x (rw calling refl) (λ f. rw calling refl) struck;
      waiting = waiting_unpolled g tell s d l s.processed s.drawn s.lines grown (λ w v. waits_pending c w v)
          (λ q v. entered_resumed e left p y q v (of_is_resumption o) ∙ sym (ap (λ (j : Control). entered_by j q v) calling)) h.waiting;
      capacities = capacities_later g.setup.resources s.facilities d (later_self c d refl) h.capacities;
      conditions = conditions_controlled d k l (calls_less e x left l (λ f. refl) refl (strike_is_no_conditions p)) (same_calling (λ j. ConditionsBasis d j) s k calling (conditions_taken target p c s.control h.conditions));
      bodies = bodies_moved tell sound s t refl grown (λ q b w.
          let waits : waits_or_new tell b ≡ true = ap (λ (j : Control). is_told_well tell c q b j) (sym calling) ∙ w in
          told_resumed tell d q b e left p y waits (of_is_resumption o)) h.bodies;
      chains = chains_control d k l (λ f w. w) (λ f w. All-tail (λ z. chains_well d f z ≡ true) x left w) (same_calling (λ j. LawfulChains d j) s k calling (chains_taken target (is_resume_of p) c s.control h.chains));
    }

pub lawful-called_strike : {B : Type 0} (g : Plan B) (tell : Telling B) (sound : B → Type 0) (s : State B) (e : EventId)
    (left : List Callback) (p : ProcId) → s.control ≡ Calling e (callback.Strike p ∷ left) → LawfulBasis g tell sound s
    → LawfulBasis g tell sound (call g e (callback.Strike p) left s)
lawful-called_strike g tell sound s e left p calling h =
    let o : Option Outcome = (event_at (calendar s) e).outcome in
    if_cases (λ u. LawfulBasis g tell sound u) (is_alive p s) (control_to (Active e left p (signal_of o)) (stop_waiting p s)) (control_to (Calling e left) s)
    (λ alive. lawful-struck g tell sound s e left p o calling alive h) (λ gone. lawful-missed g tell sound s e left p calling h)
