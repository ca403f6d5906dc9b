-- What a process does keeps the law of processes: it goes on, waits or ends.
use Rattle.std.proofs.Common.{◌≡◌, ◌≢◌, ℕ, ◌+◌, ◌<◌, ℤ, Bool, true, false, ◌&&◌, ◌||◌, not, List, [], ◌∷◌, map, length, Some, refl, sym, ap, subst, ◌∙◌, arith, ⊎_elim, get_or}
use Rattle.std.specs.Prelude.{is_none, count_by, filter, if◌then◌else◌, AllPairs}
use Rattle.std.specs.List.{list_any}
use Rattle.std.proofs.lemmas.Bool.{cases_Bool, cond_both, and_from, false_from_ne_true, or_cases, or_left, or_right, both_ways, not-true, not-false, not_from_false, eqb-false}
use Rattle.std.proofs.lemmas.List.Elements.{All-weaker, All-map, All-filter, filter_passes}
use Rattle.std.proofs.lemmas.List.Kept.{AllPairs-cons, AllPairs-filter}
use Rattle.sim_types.specs.declared.event.EventId.{EventId}
use Rattle.sim_types.specs.declared.event.ProcId.{ProcId}
use Rattle.sim_types.specs.declared.event.EventKind.{EventKind}
use Rattle.sim_types.specs.declared.event.Outcome.{Outcome}
use Rattle.sim_types.specs.declared.event.Signal.{Signal}
use Rattle.sim_types.specs.declared.event.Callback.{Callback}
use Rattle.sim_types.specs.declared.event.Callback.TheVariants as callback
use Rattle.sim_machine.specs.State.{EventOf, Calendar, ProcessOf, Control, Idle, Calling, Active, Over, State}
use Rattle.sim_machine.specs.Events.{is_same, is_process, event_at, register, is_resume_of, is_processed}
use Rattle.sim_machine.specs.Triggering.{make, schedule, trigger}
use Rattle.sim_machine.specs.Scopes.{on_events}
use Rattle.sim_machine.specs.Processes.{event_of, is_alive, change_process, with_body, told_more, not_active, tell, rest, wait, signal_of, defuse_failed, end_process}
use Rattle.sim_machine.specs.Effect.{calendar}
use Rattle.sim_machine.specs.Standing.{one_if, kind_at, all_callbacks_of, callbacks_in_all}
use Rattle.sim_machine.specs.LawfulProcesses.{is_active, is_process_kind, is_plain_kind, is_waiting_well, is_living_well, is_ok_zero, LawfulProcesses}
use Rattle.sim_machine_law.proofs.Events.EventLaws.{is_same-self, change_event-length, change_event-keeps, change_event-other}
use Rattle.sim_machine_law.proofs.Events.CallbackLaws.{counts_one, counts_none, counts_not, left_of-told, left_of-rest, is_event_of-told, is_event_of-rest, all_callbacks_of-same, callbacks_in_all-same, callbacks_in_all-register, callbacks_at-register, callbacks_at-most}
use Rattle.sim_machine_law.proofs.KeptParts.KeptProcessesParts.{first_event, is_process-yes, is_process-self, is_process-swap, LivesWell, WaitsOnce, lives_well, living_well, waits_once, waiting_well, processes-kept, living-same, living-events, living-made, living-scheduled, resumes-registered, resumes-same}
use Rattle.sim_machine_law.proofs.KeptParts.KeptProcesses.{processes-events, processes-control, processes-defused, alive_has}
use Rattle.sim_machine_law.proofs.Events.PopLaws.{AllPairs-tail, AllPairs-head}
use Rattle.sim_machine_law.proofs.Processes.EndedProcesses.{kinds_differ}

-- ---- processes that are changed and keep their numbers

pub AllPairs-map : {X Y : Type 0} (R : Y → Y → Type 0) (f : X → Y) (xs : List X) → AllPairs (λ x y. R (f x) (f y)) xs → AllPairs R (map f xs)
AllPairs-map R f [] h = λ i j d before below. absurd (omega (arith, below))
AllPairs-map R f (x ∷ xs) h =
    AllPairs-cons R (f x) (map f xs) (All-map (R (f x)) f xs (AllPairs-head (λ a b. R (f a) (f b)) x xs h)) (AllPairs-map R f xs (AllPairs-tail (λ a b. R (f a) (f b)) x xs h))

pub list_any-map : {X Y : Type 0} (p : Y → Bool) (q : X → Bool) (f : X → Y) (xs : List X) → ((x : X) → p (f x) ≡ q x) → list_any p (map f xs) ≡ list_any q xs
list_any-map p q f [] h = refl
list_any-map p q f (x ∷ xs) h = rw (h x, list_any-map p q f xs h) refl

abbrev pub KeepsNumbers : {B : Type 0} → (ProcessOf B → ProcessOf B) → Type 0
KeepsNumbers {B} f = (x : ProcessOf B) → (f x).id ≡ x.id

pub alive-mapped : {B : Type 0} (f : ProcessOf B → ProcessOf B) (p : ProcId) (xs : List (ProcessOf B)) → KeepsNumbers f
    → list_any (λ (x : ProcessOf B). is_process x.id p) (map f xs) ≡ list_any (λ (x : ProcessOf B). is_process x.id p) xs
alive-mapped {B} f p xs keeps = list_any-map (λ (x : ProcessOf B). is_process x.id p) (λ (x : ProcessOf B). is_process x.id p) f xs (λ x. ap (λ i. is_process i p) (keeps x))

pub distinct-mapped : {B : Type 0} (f : ProcessOf B → ProcessOf B) (xs : List (ProcessOf B)) → KeepsNumbers f
    → AllPairs (λ (x y : ProcessOf B). x.id ≢ y.id) xs → AllPairs (λ (x y : ProcessOf B). x.id ≢ y.id) (map f xs)
distinct-mapped {B} f xs keeps h = AllPairs-map (λ (x y : ProcessOf B). x.id ≢ y.id) f xs (λ i j d before below. λ same. h i j d before below (sym (keeps (get_or xs i d)) ∙ (same ∙ keeps (get_or xs j d))))

-- what changes neither their numbers nor what they wait for
pub processes-mapped : {B : Type 0} (named : ℕ) (s : State B) (f : ProcessOf B → ProcessOf B) → KeepsNumbers f
    → ((x : ProcessOf B) → (f x).target ≡ x.target) → LawfulProcesses named s
    → LawfulProcesses named (record s { processes = map f s.processes })
processes-mapped {B} named s f keeps targets h =
    let t : State B = record s { processes = map f s.processes } in
    record {
      distinct = distinct-mapped f s.processes keeps h.distinct;
      active = λ p a. alive-mapped f p s.processes keeps ∙ h.active p a;
      waiting = All-map (λ x. is_waiting_well t x ≡ true) f s.processes (All-weaker (λ x. is_waiting_well s x ≡ true) (λ x. is_waiting_well t (f x) ≡ true) (λ x w. rw (keeps x, targets x) w) s.processes h.waiting);
      not_resumed = λ p n. h.not_resumed p (rw (alive-mapped f p s.processes keeps) at n);
      living = All-map (λ x. is_living_well t x ≡ true) f s.processes (All-weaker (λ x. is_living_well s x ≡ true) (λ x. is_living_well t (f x) ≡ true) (λ x w. rw (keeps x, targets x) w) s.processes h.living);
      named_made = h.named_made;
      named_plain = h.named_plain;
      zero_processed = h.zero_processed;
      zero_ok = h.zero_ok;
    }

-- a body is in a new state
pub processes-bodies : {B : Type 0} (named : ℕ) (s : State B) (p : ProcId) (b : B) → LawfulProcesses named s → LawfulProcesses named (with_body p b s)
processes-bodies {B} named s p b h =
    let new : ProcessOf B → ProcessOf B = λ x. record x { body = b } in
    let f : ProcessOf B → ProcessOf B = λ x. if is_process x.id p then new x else x in
    processes-mapped named s f (λ x. cond_both (is_process x.id p) (new x) x (λ y. y.id ≡ x.id) (λ a. refl) (λ a. refl))
    (λ x. cond_both (is_process x.id p) (new x) x (λ y. y.target ≡ x.target) (λ a. refl) (λ a. refl)) h

-- ---- a process goes on

-- a state with the same events, control and processes
pub processes-same : {B : Type 0} (named : ℕ) (s t : State B) → t.processes ≡ s.processes
    → t.facilities.calendar ≡ s.facilities.calendar → t.control ≡ s.control → LawfulProcesses named s
    → LawfulProcesses named t
processes-same named s t processes events control h =
    let c = s.facilities.calendar in
    processes-kept named s t processes (rw events (living-same c)) (rw (events, control) (resumes-same c s.control c s.control refl refl (λ f. refl) (λ p. refl))) h

is_active-told : (x : Signal) (k : Control) (q : ProcId) → is_active (told_more x k) q ≡ is_active k q
is_active-told x Idle q = refl
is_active-told x (Calling e left) q = refl
is_active-told x (Active e left p y) q = refl
is_active-told x (Over why e left) q = refl

-- the active process is told something else
pub processes-told : {B : Type 0} (named : ℕ) (s : State B) (x : Signal) → LawfulProcesses named s → LawfulProcesses named (tell x s)
processes-told named s x h =
    let c = calendar s in
    processes-control named s (told_more x s.control) (resumes-same c s.control c (told_more x s.control) refl (left_of-told x s.control) (is_event_of-told x s.control) (is_active-told x s.control)) h

-- ---- an event is made, gets an outcome, or has one more callback

pub processes-makes : {B : Type 0} (named : ℕ) (s : State B) (k : EventKind) → LawfulProcesses named s → LawfulProcesses named (on_events (make k) s)
processes-makes named s k h =
    let c : Calendar = calendar s in
    processes-events named s (make k) (living-made k c) (resumes-same c s.control (make k c) s.control refl refl (λ f. refl) (λ p. refl)) h

-- one that is no process's and not event 0
pub processes-schedules : {B : Type 0} (named : ℕ) (s : State B) (e : EventId) (x : Outcome) (priority : ℕ) (delay : ℤ)
    → is_process_kind (kind_at (calendar s) e) ≡ false → e.0 ≢ 0 → LawfulProcesses named s
    → LawfulProcesses named (on_events (schedule e x priority delay) s)
processes-schedules named s e x priority delay other nonzero h =
    let c : Calendar = calendar s in
    let d : Calendar = schedule e x priority delay c in
    processes-events named s (schedule e x priority delay) (living-scheduled e x priority delay c other nonzero) (resumes-same c s.control d s.control refl refl (λ f. refl) (λ p. refl)) h

-- a callback that resumes nobody
pub processes-registers : {B : Type 0} (named : ℕ) (s : State B) (e : EventId) (x : Callback)
    → ((p : ProcId) → is_resume_of p x ≡ false) → LawfulProcesses named s
    → LawfulProcesses named (on_events (register e x) s)
processes-registers named s e x others h =
    let c : Calendar = calendar s in
    processes-events named s (register e x) (living-events c c (register e x c) refl (living-same c)) (resumes-registered e x c s.control others) h

-- ---- a process waits

is_active-rest : (k : Control) (q : ProcId) → is_active (not_active k) q ≡ false
is_active-rest Idle q = refl
is_active-rest (Calling e left) q = refl
is_active-rest (Active e left p y) q = refl
is_active-rest (Over why e left) q = refl

-- the active process now waits for this event
abbrev pub waiting_for : {B : Type 0} → EventId → ProcId → State B → State B
waiting_for e p s = rest (change_process p (λ x. record x { target = e }) (on_events (register e (callback.Resume p)) s))

-- the process that was active is resumed by what it waits for, and all others as before
pub processes-waits : {B : Type 0} (named : ℕ) (s : State B) (e : EventId) (p : ProcId)
    → ((q : ProcId) → is_active s.control q ≡ is_process p q) → e.0 < length (calendar s).events → LawfulProcesses named s
    → LawfulProcesses named (waiting_for e p s)
processes-waits {B} named s e p runs made h =
    let c : Calendar = calendar s in
    let d : Calendar = register e (callback.Resume p) c in
    let l : Control = not_active s.control in
    let t : State B = waiting_for e p s in
    let new : ProcessOf B → ProcessOf B = λ x. record x { target = e } in
    let f : ProcessOf B → ProcessOf B = λ x. if is_process x.id p then new x else x in
    let keeps : KeepsNumbers f = λ x. cond_both (is_process x.id p) (new x) x (λ y. y.id ≡ x.id) (λ a. refl) (λ a. refl) in
    let alive : (q : ProcId) → is_alive q t ≡ is_alive q s = λ q. alive-mapped f q s.processes keeps in
    let in_all : (q : ProcId) → callbacks_in_all (is_resume_of q) d l ≡ callbacks_in_all (is_resume_of q) c s.control + one_if (is_process q p) =
    λ q. callbacks_in_all-same (is_resume_of q) d s.control l (left_of-rest s.control) ∙ callbacks_in_all-register (is_resume_of q) e (callback.Resume p) c s.control in
    let at : (q : ProcId) (g : EventId) → count_by (is_resume_of q) (all_callbacks_of d l g) ≡ count_by (is_resume_of q) (all_callbacks_of c s.control g) + one_if (is_same e g && is_process q p) =
    λ q g. ap (λ xs. count_by (is_resume_of q) xs) (all_callbacks_of-same d s.control l g (left_of-rest s.control) (is_event_of-rest s.control g)) ∙ callbacks_at-register (is_resume_of q) e g (callback.Resume p) c s.control in
    let mine : (x : ProcessOf B) → is_process x.id p ≡ true → is_waiting_well t (new x) ≡ true = λ x a.
    let none : callbacks_in_all (is_resume_of x.id) c s.control ≡ 0 = h.not_resumed x.id (or_left (is_active s.control x.id) (not (is_alive x.id s)) (runs x.id ∙ (is_process-swap p x.id ∙ a))) in
    let one : one_if (is_process x.id p) ≡ 1 = counts_one (is_process x.id p) a in
    let here : one_if (is_same e e && is_process x.id p) ≡ 1 = counts_one (is_same e e && is_process x.id p) (and_from (is_same e e) (is_process x.id p) (is_same-self e) a) in
    waiting_well t (new x) (record {
      in_all = omega (arith, in_all x.id, none, one);
      at = omega (arith, at x.id e, none, here, callbacks_at-most (is_resume_of x.id) c s.control e);
    }) in
    let others : (x : ProcessOf B) → is_waiting_well s x ≡ true → is_process x.id p ≡ false → is_waiting_well t x ≡ true = λ x w b.
    let before : WaitsOnce c s.control x.id x.target = waits_once s x (runs x.id ∙ (is_process-swap p x.id ∙ b)) w in
    waiting_well t x (record {
      in_all = omega (arith, in_all x.id, before.in_all, counts_none (is_process x.id p) b);
      at = omega (arith, at x.id x.target, before.at, counts_not (is_same e x.target) (is_process x.id p) b);
    }) in
    let not_mine : (q : ProcId) → not (is_alive q s) ≡ true → is_process q p ≡ false = λ q b. false_from_ne_true (is_process q p) (λ a.
    both_ways (is_alive q s) (not-true (is_alive q s) b) (h.active q (runs q ∙ (is_process-swap p q ∙ a)))) in
    let none_after : (q : ProcId) → not (is_alive q s) ≡ true → callbacks_in_all (is_resume_of q) d l ≡ 0 = λ q b.
    omega (arith, in_all q, h.not_resumed q (or_right (is_active s.control q) (not (is_alive q s)) b), counts_none (is_process q p) (not_mine q b)) in
    let lives : (x : ProcessOf B) → is_living_well s x ≡ true → is_living_well t (f x) ≡ true = λ x w.
    let before : LivesWell c x.id x.target = lives_well s x w in
    cond_both (is_process x.id p) (new x) x (λ y. is_living_well t y ≡ true)
    (λ a. living_well t (new x) (record { waits_for = made; made = before.made; pending = before.pending; kind = before.kind }))
    (λ b. w) in
    record {
      distinct = distinct-mapped f s.processes keeps h.distinct;
      active = λ q a. absurd (both_ways (is_active l q) (is_active-rest s.control q) a);
      waiting = All-map (λ x. is_waiting_well t x ≡ true) f s.processes (All-weaker (λ x. is_waiting_well s x ≡ true) (λ x. is_waiting_well t (f x) ≡ true) (λ x w. cond_both (is_process x.id p) (new x) x (λ y. is_waiting_well t y ≡ true) (mine x) (others x w)) s.processes h.waiting);
      not_resumed = λ q n. ⊎_elim (λ a. absurd (both_ways (is_active l q) (is_active-rest s.control q) a)) (λ b. none_after q (rw (alive q) at b)) (or_cases (is_active l q) (not (is_alive q t)) n);
      living = All-map (λ x. is_living_well t x ≡ true) f s.processes (All-weaker (λ x. is_living_well s x ≡ true) (λ x. is_living_well t (f x) ≡ true) lives s.processes h.living);
      named_made = h.named_made;
      named_plain = h.named_plain;
      zero_processed = h.zero_processed;
      zero_ok = h.zero_ok;
    }

-- at an event that is processed it goes on
pub processes-wait : {B : Type 0} (named : ℕ) (s : State B) (e : EventId) (p : ProcId)
    → ((q : ProcId) → is_active s.control q ≡ is_process p q) → e.0 < length (calendar s).events → LawfulProcesses named s
    → LawfulProcesses named (wait e p s)
processes-wait {B} named s e p runs made h =
    let told : Signal = signal_of (event_at (calendar s) e).outcome in
    let s_defused : State B = on_events (defuse_failed e) s in
    cond_both (is_processed (calendar s) e) (tell told s_defused) (waiting_for e p s) (λ t. LawfulProcesses named t)
    (λ a. processes-told named s_defused told (processes-defused named s e h)) (λ b. processes-waits named s e p runs made h)

-- ---- a process ends

abbrev is_numbered : {B : Type 0} → ProcId → ProcessOf B → Bool
is_numbered q x = is_process x.id q

abbrev all_but : {B : Type 0} → ProcId → List (ProcessOf B) → List (ProcessOf B)
all_but p xs = filter (λ y. not (is_process y.id p)) xs

alive_filtered : {B : Type 0} (p q : ProcId) (xs : List (ProcessOf B)) → is_process q p ≡ false
    → list_any (is_numbered q) xs ≡ true → list_any (is_numbered q) (all_but p xs) ≡ true
alive_filtered p q [] differ h = h
alive_filtered {B} p q (x ∷ xs) differ h =
    cond_both (not (is_process x.id p)) (x ∷ all_but p xs) (all_but p xs) (λ ys. list_any (is_numbered q) ys ≡ true)
    (λ kept. ⊎_elim (λ a. or_left (is_process x.id q) (list_any (is_numbered q) (all_but p xs)) a) (λ b. or_right (is_process x.id q) (list_any (is_numbered q) (all_but p xs)) (alive_filtered p q xs differ b)) (or_cases (is_process x.id q) (list_any (is_numbered q) xs) h))
    (λ gone. ⊎_elim (λ a. absurd (both_ways (is_process q p) differ (subst (λ r. is_process r p ≡ true) (is_process-yes x.id q a) (not-false (is_process x.id p) gone)))) (λ b. alive_filtered p q xs differ b) (or_cases (is_process x.id q) (list_any (is_numbered q) xs) h))

-- the process that was active has ended, and its event is triggered
pub processes-ended : {B : Type 0} (named : ℕ) (s : State B) (p : ProcId) (o : Outcome)
    → ((q : ProcId) → is_active s.control q ≡ is_process p q) → LawfulProcesses named s
    → LawfulProcesses named (rest (end_process p o s))
processes-ended {B} named s p o runs h =
    let c : Calendar = calendar s in
    let d : Calendar = trigger (event_of p) o c in
    let l : Control = not_active s.control in
    let t : State B = rest (end_process p o s) in
    let change : EventOf → EventOf = λ y. record y { outcome = Some o } in
    let keeps : ProcessOf B → Bool = λ y. not (is_process y.id p) in
    let found = alive_has s p (λ x. is_living_well s x ≡ true) h.living (h.active p (runs p ∙ is_process-self p)) in
    let own : LivesWell c p found.0.target = subst (λ i. LivesWell c i found.0.target) found.1 (lives_well s found.0 found.2) in
    let plain : ℕ → Bool = λ n. is_plain_kind (kind_at c (event_of (record { 0 = n }))) in
    let nonzero : p.0 ≢ 0 = λ zero_is. kinds_differ (kind_at c (event_of p)) own.kind (ap plain zero_is ∙ h.named_plain 0 (omega arith)) in
    let differs : (x : ProcessOf B) → keeps x ≡ true → is_process x.id p ≡ false = λ x a. not-true (is_process x.id p) a in
    let waits : (x : ProcessOf B) → keeps x ≡ true → is_waiting_well s x ≡ true → is_waiting_well t x ≡ true = λ x a w.
    let before : WaitsOnce c s.control x.id x.target = waits_once s x (runs x.id ∙ (is_process-swap p x.id ∙ differs x a)) w in
    waiting_well t x (record {
      in_all = callbacks_in_all-same (is_resume_of x.id) c s.control l (left_of-rest s.control) ∙ before.in_all;
      at = ap (λ xs. count_by (is_resume_of x.id) xs) (all_callbacks_of-same c s.control l x.target (left_of-rest s.control) (is_event_of-rest s.control x.target)) ∙ before.at;
    }) in
    let lives : (x : ProcessOf B) → keeps x ≡ true → is_living_well s x ≡ true → is_living_well t x ≡ true = λ x a w.
    let before : LivesWell c x.id x.target = lives_well s x w in
    living_well t x (record {
      waits_for = rw (change_event-length (event_of p) change c) before.waits_for;
      made = rw (change_event-length (event_of p) change c) before.made;
      pending = ap (λ (y : EventOf). is_none y.outcome) (change_event-other (event_of p) (event_of x.id) change c (eqb-false x.id.0 p.0 (differs x a))) ∙ before.pending;
      kind = ap is_process_kind (change_event-keeps (λ y. y.kind) (event_of p) (event_of x.id) change c (λ y. refl)) ∙ before.kind;
    }) in
    let ended : (q : ProcId) → is_alive q t ≡ false → (is_active s.control q || not (is_alive q s)) ≡ true = λ q n.
    ⊎_elim (λ a. or_left (is_active s.control q) (not (is_alive q s)) (runs q ∙ (is_process-swap p q ∙ a)))
    (λ b. or_right (is_active s.control q) (not (is_alive q s)) (not_from_false (is_alive q s) (false_from_ne_true (is_alive q s) (λ a. both_ways (is_alive q t) n (alive_filtered p q s.processes b a)))))
    (cases_Bool (is_process q p)) in
    record {
      distinct = AllPairs-filter (λ x y. x.id ≢ y.id) keeps s.processes h.distinct;
      active = λ q a. absurd (both_ways (is_active l q) (is_active-rest s.control q) a);
      waiting = λ k x below. waits (get_or (all_but p s.processes) k x) (filter_passes keeps s.processes k x below) (All-filter keeps (λ y. is_waiting_well s y ≡ true) s.processes h.waiting k x below);
      not_resumed = λ q n. callbacks_in_all-same (is_resume_of q) c s.control l (left_of-rest s.control) ∙ h.not_resumed q
          (⊎_elim (λ a. absurd (both_ways (is_active l q) (is_active-rest s.control q) a)) (λ b. ended q (not-true (is_alive q t) b)) (or_cases (is_active l q) (not (is_alive q t)) n));
      living = λ k x below. lives (get_or (all_but p s.processes) k x) (filter_passes keeps s.processes k x below) (All-filter keeps (λ y. is_living_well s y ≡ true) s.processes h.living k x below);
      named_made = rw (change_event-length (event_of p) change c) h.named_made;
      named_plain = λ n low. ap is_plain_kind (change_event-keeps (λ y. y.kind) (event_of p) (record { 0 = n }) change c (λ y. refl)) ∙ h.named_plain n low;
      zero_processed = change_event-keeps (λ y. y.processed) (event_of p) first_event change c (λ y. refl) ∙ h.zero_processed;
      zero_ok = ap is_ok_zero (change_event-other (event_of p) first_event change c (λ same. nonzero (sym same))) ∙ h.zero_ok;
    }
