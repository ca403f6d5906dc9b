-- What keeps the law of processes: changes of events, of bodies and of the control.
use Rattle.std.proofs.Common.{◌≡◌, ◌≢◌, ℕ, ◌<◌, ◌≤◌, Bool, true, false, ◌&&◌, ◌||◌, [], ◌∷◌, length, refl, sym, ap, subst, ◌∙◌, arith, ◌⊎◌, inl, inr}
use Rattle.std.specs.Prelude.{◌==◌, is_none, count_by, Option, Some, ℤ}
use Rattle.std.specs.List.{list_any}
use Rattle.std.proofs.lemmas.Bool.Decides.{nat_tests}
use Rattle.std.proofs.lemmas.Bool.{cases_eq, cases_lt, and_parts, or_left, or_right, ltb-true, lt-ltb, eqb-true, ne_eqb, both_ways}
use Rattle.std.proofs.lemmas.List.{get_or_past}
use Rattle.std.proofs.lemmas.List.Elements.{All-weaker}
use Rattle.sim_types.specs.declared.event.EventId.{EventId}
use Rattle.sim_types.specs.declared.event.ProcId.{ProcId}
use Rattle.sim_types.specs.declared.event.EventKind.{EventKind}
use Rattle.sim_types.specs.declared.event.EventKind.TheVariants as kind
use Rattle.sim_types.specs.declared.event.Outcome.{Outcome}
use Rattle.sim_types.specs.declared.event.Callback.{Callback}
use Rattle.sim_machine.specs.State.{EventOf, Calendar, ProcessOf, Control, State}
use Rattle.sim_machine.specs.Events.{is_same, is_process, event_at, is_pending, is_processed, pending_event, change_event, is_resume_of, register}
use Rattle.sim_machine.specs.Triggering.{make, schedule}
use Rattle.sim_machine.specs.Processes.{event_of, is_alive}
use Rattle.sim_machine.specs.Standing.{was_made, kind_at, left_of, is_event_of, all_callbacks_of, callbacks_in_all}
use Rattle.sim_machine.specs.LawfulProcesses.{is_active, is_process_kind, is_plain_kind, is_waiting_well, is_living_well, is_ok_zero, LawfulProcesses}
use Rattle.sim_machine_law.proofs.Events.EventLaws.{same_event, change_event-same, change_event-other, change_event-length, change_event-keeps, make-length, make-old, make-keeps}
use Rattle.sim_machine_law.proofs.Events.CallbackLaws.{counts_none, counts_not, all_callbacks_of-none, callbacks_in_all-register, callbacks_at-register, callbacks_in_all-same, callbacks_in_all-called, callbacks_at-called}
use Rattle.sim_machine_law.proofs.KeptParts.KeptBodies.{four_from, four_parts}

-- ---- numbers of processes

pub same_process : (p q : ProcId) → p.0 ≡ q.0 → p ≡ q
same_process p q h =
    let P : ℕ → ProcId = λ n. record { 0 = n } in
    ap P h

pub is_process-yes : (p q : ProcId) → is_process p q ≡ true → p ≡ q
is_process-yes p q h = same_process p q (eqb-true p.0 q.0 h)

pub is_process-self : (p : ProcId) → is_process p p ≡ true
is_process-self p = grind (arith, nat_tests)

pub is_process-no : (p q : ProcId) → p.0 ≢ q.0 → is_process p q ≡ false
is_process-no p q h = ne_eqb p.0 q.0 h

pub is_process-swap : (p q : ProcId) → is_process p q ≡ is_process q p
is_process-swap p q = grind (arith, nat_tests)

-- ---- what is left of who is resumed where

-- the same process runs, and each is resumed as often as before, in all and at each event
pub record KeepsResumes (c : Calendar) (k : Control) (d : Calendar) (l : Control) : Type 0 where
  pub active : (p : ProcId) → is_active l p ≡ is_active k p
  pub in_all : (p : ProcId) → callbacks_in_all (is_resume_of p) d l ≡ callbacks_in_all (is_resume_of p) c k
  pub at : (p : ProcId) (e : EventId) → count_by (is_resume_of p) (all_callbacks_of d l e) ≡ count_by (is_resume_of p) (all_callbacks_of c k e)

-- ---- what is left of the events of processes and of event 0

abbrev pub first_event : EventId
first_event = record { 0 = 0 }

-- no event is unmade or of another kind, none of a process gets an outcome, and event 0 is as it was
pub record KeepsLiving (c d : Calendar) : Type 0 where
  pub longer : length c.events ≤ length d.events
  pub kinds : (e : EventId) → e.0 < length c.events → kind_at d e ≡ kind_at c e
  pub pending : (e : EventId) → e.0 < length c.events → is_process_kind (kind_at c e) ≡ true → is_pending c e ≡ true → is_pending d e ≡ true
  pub processed : is_processed c first_event ≡ true → is_processed d first_event ≡ true
  pub ok : is_ok_zero (event_at c first_event) ≡ true → is_ok_zero (event_at d first_event) ≡ true

-- what a live process's target and event have
pub record LivesWell (c : Calendar) (p : ProcId) (target : EventId) : Type 0 where
  pub waits_for : target.0 < length c.events
  pub made : p.0 < length c.events
  pub pending : is_pending c (event_of p) ≡ true
  pub kind : is_process_kind (kind_at c (event_of p)) ≡ true

pub lives_well : {B : Type 0} (s : State B) (x : ProcessOf B) → is_living_well s x ≡ true → LivesWell s.facilities.calendar x.id x.target
lives_well s x h =
    let c = s.facilities.calendar in
    let parts = four_parts (was_made c x.target) (was_made c (event_of x.id)) (is_pending c (event_of x.id)) (is_process_kind (kind_at c (event_of x.id))) h in
    record { waits_for = ltb-true x.target.0 (length c.events) parts.0; made = ltb-true x.id.0 (length c.events) parts.1; pending = parts.2; kind = parts.3 }

pub living_well : {B : Type 0} (s : State B) (x : ProcessOf B) → LivesWell s.facilities.calendar x.id x.target → is_living_well s x ≡ true
living_well s x h =
    let c = s.facilities.calendar in
    four_from (was_made c x.target) (was_made c (event_of x.id)) (is_pending c (event_of x.id)) (is_process_kind (kind_at c (event_of x.id)))
    (lt-ltb x.target.0 (length c.events) h.waits_for) (lt-ltb x.id.0 (length c.events) h.made) h.pending h.kind

pub lives_on : (c d : Calendar) (p : ProcId) (target : EventId) → KeepsLiving c d → LivesWell c p target → LivesWell d p target
lives_on c d p target v h =
    record {
      waits_for = omega (arith, h.waits_for, v.longer);
      made = omega (arith, h.made, v.longer);
      pending = v.pending (event_of p) h.made h.kind h.pending;
      kind = ap is_process_kind (v.kinds (event_of p) h.made) ∙ h.kind;
    }

pub named_plain_on : (named : ℕ) (c d : Calendar) → KeepsLiving c d → named < length c.events
    → ((n : ℕ) → n ≤ named → is_plain_kind (kind_at c (record { 0 = n })) ≡ true) → (n : ℕ) → n ≤ named
    → is_plain_kind (kind_at d (record { 0 = n })) ≡ true
named_plain_on named c d v made h n low =
    let e : EventId = record { 0 = n } in
    ap is_plain_kind (v.kinds e (omega (arith, made, low))) ∙ h n low

-- how often a process that waits is resumed, in all and by its target
pub record WaitsOnce (c : Calendar) (k : Control) (p : ProcId) (target : EventId) : Type 0 where
  pub in_all : callbacks_in_all (is_resume_of p) c k ≡ 1
  pub at : count_by (is_resume_of p) (all_callbacks_of c k target) ≡ 1

waits_parts : (a : Bool) (m i : ℕ) → a ≡ false → (a || (m == 1) && (i == 1)) ≡ true → (m ≡ 1) × (i ≡ 1)
waits_parts a m i p h =
    let both = and_parts (m == 1) (i == 1) (rw p at h) in
    (eqb-true m 1 both.0, eqb-true i 1 both.1)

waits_again : (a : Bool) (m i : ℕ) → m ≡ 1 → i ≡ 1 → (a || (m == 1) && (i == 1)) ≡ true
waits_again a m i p q = or_right a ((m == 1) && (i == 1)) (rw (p, q) refl)

pub waits_once : {B : Type 0} (s : State B) (x : ProcessOf B) → is_active s.control x.id ≡ false → is_waiting_well s x ≡ true
    → WaitsOnce s.facilities.calendar s.control x.id x.target
waits_once s x rests h =
    let c = s.facilities.calendar in
    let parts = waits_parts (is_active s.control x.id) (callbacks_in_all (is_resume_of x.id) c s.control) (count_by (is_resume_of x.id) (all_callbacks_of c s.control x.target)) rests h in
    record { in_all = parts.0; at = parts.1 }

pub waiting_well : {B : Type 0} (s : State B) (x : ProcessOf B) → WaitsOnce s.facilities.calendar s.control x.id x.target → is_waiting_well s x ≡ true
waiting_well s x h =
    let c = s.facilities.calendar in
    waits_again (is_active s.control x.id) (callbacks_in_all (is_resume_of x.id) c s.control) (count_by (is_resume_of x.id) (all_callbacks_of c s.control x.target)) h.in_all h.at

pub waiting_active : {B : Type 0} (s : State B) (x : ProcessOf B) → is_active s.control x.id ≡ true → is_waiting_well s x ≡ true
waiting_active s x h =
    let c = s.facilities.calendar in
    or_left (is_active s.control x.id) ((callbacks_in_all (is_resume_of x.id) c s.control == 1) && (count_by (is_resume_of x.id) (all_callbacks_of c s.control x.target) == 1)) h

waits_from : (a b : Bool) (m n i j : ℕ) → b ≡ a → n ≡ m → j ≡ i → (a || (m == 1) && (i == 1)) ≡ true → (b || (n == 1) && (j == 1)) ≡ true
waits_from a b m n i j p q r h = rw (p, q, r) h

-- a lawful state stays so, where its processes are the same ones
pub processes-kept : {B : Type 0} (named : ℕ) (s t : State B) → t.processes ≡ s.processes
    → KeepsLiving s.facilities.calendar t.facilities.calendar
    → KeepsResumes s.facilities.calendar s.control t.facilities.calendar t.control → LawfulProcesses named s
    → LawfulProcesses named t
processes-kept named s t same v r h =
    let c = s.facilities.calendar in
    let d = t.facilities.calendar in
    let alive : (p : ProcId) → is_alive p t ≡ is_alive p s = λ p. ap (λ ps. list_any (λ (x : ProcessOf _). is_process x.id p) ps) same in
    record {
      distinct = rw same h.distinct;
      active = λ p a. alive p ∙ h.active p (sym (r.active p) ∙ a);
      waiting = rw same (All-weaker (λ x. is_waiting_well s x ≡ true) (λ x. is_waiting_well t x ≡ true) (λ x w. waits_from (is_active s.control x.id) (is_active t.control x.id)
          (callbacks_in_all (is_resume_of x.id) c s.control) (callbacks_in_all (is_resume_of x.id) d t.control)
          (count_by (is_resume_of x.id) (all_callbacks_of c s.control x.target)) (count_by (is_resume_of x.id) (all_callbacks_of d t.control x.target))
          (r.active x.id) (r.in_all x.id) (r.at x.id x.target) w) s.processes h.waiting);
      not_resumed = λ p n. r.in_all p ∙ h.not_resumed p (rw (r.active p, alive p) at n);
      living = rw same (All-weaker (λ x. is_living_well s x ≡ true) (λ x. is_living_well t x ≡ true) (λ x l. living_well t x (lives_on c d x.id x.target v (lives_well s x l))) s.processes h.living);
      named_made = omega (arith, h.named_made, v.longer);
      named_plain = named_plain_on named c d v h.named_made h.named_plain;
      zero_processed = v.processed h.zero_processed;
      zero_ok = v.ok h.zero_ok;
    }

-- ---- changes of events

pub unmade_at : (c : Calendar) (f : EventId) → length c.events ≤ f.0 → event_at c f ≡ pending_event kind.Plain
unmade_at c f h = get_or_past c.events f.0 (pending_event kind.Plain) h

holds_after : (test : EventOf → Bool) (e f : EventId) (change : EventOf → EventOf) (c : Calendar)
    → ((x : EventOf) → test x ≡ true → test (change x) ≡ true) → test (event_at c f) ≡ true → (f.0 ≡ e.0) ⊎ (f.0 ≢ e.0)
    → (f.0 < length c.events) ⊎ (length c.events ≤ f.0) → test (event_at (change_event e change c) f) ≡ true
holds_after test e f change c keeps h (inr differ) made = ap test (change_event-other e f change c differ) ∙ h
holds_after test e f change c keeps h (inl same) (inl made) =
    let P : EventId → Type 0 = λ g. test (event_at c g) ≡ true in
    let there : f ≡ e = same_event f e same in
    let new : test (event_at (change_event e change c) e) ≡ true = ap test (change_event-same e change c (rw (← same) made)) ∙ keeps (event_at c e) (subst P there h) in
    rw there new
holds_after test e f change c keeps h (inl same) (inr unmade) =
    let d = change_event e change c in
    let past : length d.events ≤ f.0 = rw (change_event-length e change c) unmade in
    ap test (unmade_at d f past ∙ sym (unmade_at c f unmade)) ∙ h

-- a test that a change keeps at each event is kept at all
pub change_event-holds : (test : EventOf → Bool) (e f : EventId) (change : EventOf → EventOf) (c : Calendar)
    → ((x : EventOf) → test x ≡ true → test (change x) ≡ true) → test (event_at c f) ≡ true
    → test (event_at (change_event e change c) f) ≡ true
change_event-holds test e f change c keeps h = holds_after test e f change c keeps h (cases_eq f.0 e.0) (cases_lt f.0 (length c.events))

ok_kept : (x y : EventOf) → y.outcome ≡ x.outcome → is_ok_zero y ≡ is_ok_zero x
ok_kept x y h =
    let P : Option Outcome → Bool = λ o. is_ok_zero (record x { outcome = o }) in
    ap P h

pub living-changed : (e : EventId) (change : EventOf → EventOf) (c : Calendar) → ((x : EventOf) → (change x).kind ≡ x.kind)
    → ((x : EventOf) → (change x).outcome ≡ x.outcome) → ((x : EventOf) → x.processed ≡ true → (change x).processed ≡ true)
    → KeepsLiving c (change_event e change c)
living-changed e change c kinds outcomes processed =
    record {
      longer = rw (change_event-length e change c) (omega arith);
      kinds = λ f m. change_event-keeps (λ x. x.kind) e f change c kinds;
      pending = λ f m k h. ap is_none (change_event-keeps (λ x. x.outcome) e f change c outcomes) ∙ h;
      processed = λ h. change_event-holds (λ x. x.processed) e first_event change c processed h;
      ok = λ h. change_event-keeps is_ok_zero e first_event change c (λ x. ok_kept x (change x) (outcomes x)) ∙ h;
    }

-- only events count
pub living-events : (c d e : Calendar) → e.events ≡ d.events → KeepsLiving c d → KeepsLiving c e
living-events c d e same h =
    record {
      longer = rw same h.longer;
      kinds = λ f m. rw same (h.kinds f m);
      pending = λ f m k p. rw same (h.pending f m k p);
      processed = λ p. rw same (h.processed p);
      ok = λ p. rw same (h.ok p);
    }

pub living-same : (c : Calendar) → KeepsLiving c c
living-same c = record { longer = omega arith; kinds = λ f m. refl; pending = λ f m k p. p; processed = λ p. p; ok = λ p. p }

pub living-trans : (c d e : Calendar) → KeepsLiving c d → KeepsLiving d e → KeepsLiving c e
living-trans c d e h i =
    record {
      longer = omega (arith, h.longer, i.longer);
      kinds = λ f m. i.kinds f (omega (arith, m, h.longer)) ∙ h.kinds f m;
      pending = λ f m k p. i.pending f (omega (arith, m, h.longer)) (ap is_process_kind (h.kinds f m) ∙ k) (h.pending f m k p);
      processed = λ p. i.processed (h.processed p);
      ok = λ p. i.ok (h.ok p);
    }

pub living-made : (k : EventKind) (c : Calendar) → KeepsLiving c (make k c)
living-made k c =
    record {
      longer = rw (make-length k c) (omega arith);
      kinds = λ f m. ap (λ (x : EventOf). x.kind) (make-old k c f m);
      pending = λ f m p h. ap (λ (x : EventOf). is_none x.outcome) (make-old k c f m) ∙ h;
      processed = λ h. make-keeps (λ x. x.processed) k c first_event refl ∙ h;
      ok = λ h. make-keeps is_ok_zero k c first_event refl ∙ h;
    }

-- an event that is no process's and not event 0 may get an outcome
pub living-scheduled : (e : EventId) (x : Outcome) (priority : ℕ) (delay : ℤ) (c : Calendar)
    → is_process_kind (kind_at c e) ≡ false → e.0 ≢ 0 → KeepsLiving c (schedule e x priority delay c)
living-scheduled e x priority delay c other nonzero =
    let change : EventOf → EventOf = λ y. record y { outcome = Some x } in
    let is_process_of : EventId → Bool = λ f. is_process_kind (kind_at c f) in
    let differ : (f : EventId) → is_process_of f ≡ true → f.0 ≢ e.0 = λ f k. λ same. both_ways (is_process_of e) other (ap is_process_of (sym (same_event f e same)) ∙ k) in
    record {
      longer = rw (change_event-length e change c) (omega arith);
      kinds = λ f m. change_event-keeps (λ y. y.kind) e f change c (λ y. refl);
      pending = λ f m k h. ap (λ (y : EventOf). is_none y.outcome) (change_event-other e f change c (differ f k)) ∙ h;
      processed = λ h. change_event-keeps (λ y. y.processed) e first_event change c (λ y. refl) ∙ h;
      ok = λ h. ap is_ok_zero (change_event-other e first_event change c (λ same. nonzero (sym same))) ∙ h;
    }

-- ---- changes of registrations and of the control

pub resumes-same : (c : Calendar) (k : Control) (d : Calendar) (l : Control) → d.registered ≡ c.registered
    → left_of l ≡ left_of k → ((f : EventId) → is_event_of l f ≡ is_event_of k f)
    → ((p : ProcId) → is_active l p ≡ is_active k p) → KeepsResumes c k d l
resumes-same c k d l same left of active = record { active = active; in_all = λ p. rw (same, left) refl; at = λ p f. rw (same, left, of f) refl }

-- what is no resumption may be registered
pub resumes-registered : (e : EventId) (x : Callback) (c : Calendar) (k : Control)
    → ((p : ProcId) → is_resume_of p x ≡ false) → KeepsResumes c k (register e x c) k
resumes-registered e x c k others =
    record {
      active = λ p. refl;
      in_all = λ p. omega (arith, callbacks_in_all-register (is_resume_of p) e x c k, counts_none (is_resume_of p x) (others p));
      at = λ p f. omega (arith, callbacks_at-register (is_resume_of p) e f x c k, counts_not (is_same e f) (is_resume_of p x) (others p));
    }

-- and it may be called
pub resumes-called : (c : Calendar) (k l : Control) (x : Callback) → left_of k ≡ x ∷ left_of l
    → ((f : EventId) → is_event_of k f ≡ is_event_of l f) → ((p : ProcId) → is_active l p ≡ is_active k p)
    → ((p : ProcId) → is_resume_of p x ≡ false) → KeepsResumes c k c l
resumes-called c k l x left of active others =
    record {
      active = active;
      in_all = λ p. omega (arith, callbacks_in_all-called (is_resume_of p) c k l x left, counts_none (is_resume_of p x) (others p));
      at = λ p f. omega (arith, callbacks_at-called (is_resume_of p) c k l x f left (of f), counts_not (is_event_of l f) (is_resume_of p x) (others p));
    }

-- with no call left it does not matter whether the control speaks of an event
pub resumes-none : (c : Calendar) (k l : Control) → left_of k ≡ [] → left_of l ≡ [] → ((p : ProcId) → is_active l p ≡ is_active k p) → KeepsResumes c k c l
resumes-none c k l none still active =
    record {
      active = active;
      in_all = λ p. callbacks_in_all-same (is_resume_of p) c k l (still ∙ sym none);
      at = λ p f. ap (λ xs. count_by (is_resume_of p) xs) (all_callbacks_of-none c l f still ∙ sym (all_callbacks_of-none c k f none));
    }
