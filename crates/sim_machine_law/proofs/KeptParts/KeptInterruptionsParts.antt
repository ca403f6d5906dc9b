-- What keeps the law of interruptions: changes of events, of registrations and of the control.
use Rattle.std.proofs.Common.{◌≡◌, ◌≢◌, ℕ, ◌+◌, ◌<◌, ◌≤◌, ℤ, Bool, true, false, ◌&&◌, ◌||◌, not, List, [], ◌∷◌, map, length, Option, Some, None, refl, sym, ap, subst, ◌∙◌, arith, ◌⊎◌, inl, inr, ⊎_elim, get_or}
use Rattle.std.specs.Prelude.{◌==◌, count_by, filter, if◌then◌else◌, All, nat_lt, nat_le}
use Rattle.std.specs.List.{AllPass, list_any, list_all}
use Rattle.std.proofs.lemmas.Bool.{cases_Bool, cases_eq, cases_lt, cond_both, cond-true, cond-false, and_parts, and_from, or_cases, or_left, or_right, eqb-true, eq-eqb, ltb-true, lt-ltb, both_ways, not-true, not_from_false, false≢true}
use Rattle.std.proofs.lemmas.List.{get_or_past}
use Rattle.std.proofs.lemmas.List.Elements.{All-nil, All-cons, All-head, All-tail, All-weaker, All-from_get_or}
use Rattle.std.proofs.lemmas.List.Sums.{count_by-le-length}
use Rattle.sim_machine.specs.LawfulProcesses.{is_living_well}
use Rattle.sim_types.specs.declared.event.EventId.{EventId}
use Rattle.sim_types.specs.declared.event.EventKind.{EventKind}
use Rattle.sim_types.specs.declared.event.Outcome.{Outcome}
use Rattle.sim_types.specs.declared.event.Callback.{Callback}
use Rattle.sim_types.specs.declared.event.EventKind.TheVariants as kind
use Rattle.sim_machine.specs.State.{ConditionOf, EventOf, Registration, Calendar, Control, State, Plan}
use Rattle.sim_machine.specs.Events.{is_same, event_at, pending_event, change_event, register, callbacks_of}
use Rattle.sim_machine.specs.Triggering.{make, schedule}
use Rattle.sim_machine.specs.Conditions.{condition_of, members_of, most_weight, weight_within}
use Rattle.sim_machine.specs.Standing.{one_if, was_made, kind_at, left_of, is_event_of, all_callbacks_of}
use Rattle.sim_machine.specs.Tellings.{Telling}
use Rattle.sim_machine.specs.LawfulInterruptions.{is_strike, is_interrupt_kind, is_unheard_kind, strikes_alone, is_failed_interruption, has_heard_members, LawfulInterruptions}
use Rattle.sim_machine_law.proofs.Events.EventLaws.{same_event, change_event-same, is_same-self, is_same-yes, change_event-length, change_event-keeps, change_event-other, make-length, make-old, make-keeps}
use Rattle.sim_machine_law.proofs.KeptParts.KeptProcessesParts.{lives_well, unmade_at, change_event-holds}
use Rattle.sim_machine_law.proofs.Events.CallbackLaws.{counts_one, counts_none, counts_not, count_by-cons, count_by-append, length_counts, callbacks_at-register, callbacks_at-called, all_callbacks_of-register_other}
use Rattle.sim_machine_law.proofs.KeptParts.LawfulBasis.{LawfulBasis}

-- ---- an event with an interruption among its callbacks

-- an event that strikes is an interruption and has no other callback
pub record StrikesAlone (c : Calendar) (k : Control) : Type 0 where
  pub alone : (e : EventId) → 0 < count_by is_strike (all_callbacks_of c k e) → strikes_alone c k e ≡ true

abbrev calls_at : EventId → List Registration → List Callback
calls_at e rs = map (λ r. r.callback) (filter (λ r. is_same r.event e) rs)

pub any_counted : {X : Type 0} (p : X → Bool) (xs : List X) → 0 < count_by p xs → list_any p xs ≡ true
any_counted p [] h = absurd (omega (arith, h))
any_counted p (x ∷ xs) h =
    ⊎_elim (λ a. or_left (p x) (list_any p xs) a)
    (λ b. or_right (p x) (list_any p xs) (any_counted p xs (omega (arith, h, count_by-cons p x xs, counts_none (p x) b)))) (cases_Bool (p x))

pub counted_any : {X : Type 0} (p : X → Bool) (xs : List X) → list_any p xs ≡ true → 0 < count_by p xs
counted_any p [] h = absurd (false≢true h)
counted_any p (x ∷ xs) h =
    ⊎_elim (λ a. omega (arith, count_by-cons p x xs, counts_one (p x) a)) (λ b. omega (arith, count_by-cons p x xs, counted_any p xs b)) (or_cases (p x) (list_any p xs) h)

more_calls : (test : Callback → Bool) (e : EventId) (r : Registration) (rs : List Registration)
    → count_by test (calls_at e rs) ≤ count_by test (calls_at e (r ∷ rs))
more_calls test e r rs =
    let others : List Registration = filter (λ q. is_same q.event e) rs in
    cond_both (is_same r.event e) (r ∷ others) others (λ xs. count_by test (calls_at e rs) ≤ count_by test (map (λ (q : Registration). q.callback) xs))
    (λ a. omega (arith, count_by-cons test r.callback (calls_at e rs))) (λ a. omega arith)

first_call : (test : Callback → Bool) (r : Registration) (rs : List Registration) → test r.callback ≡ true → 0 < count_by test (calls_at r.event (r ∷ rs))
first_call test r rs h =
    let others : List Callback = calls_at r.event rs in
    rw (is_same-self r.event) (omega (arith, count_by-cons test r.callback others, counts_one (test r.callback) h))

-- each callback counts among those of its event
pub each_counts : (test : Callback → Bool) (rs : List Registration) → All (λ r. test r.callback ≡ true → 0 < count_by test (calls_at r.event rs)) rs
each_counts test [] = All-nil (λ r. test r.callback ≡ true → 0 < count_by test (calls_at r.event []))
each_counts test (r ∷ rs) =
    All-cons (λ q. test q.callback ≡ true → 0 < count_by test (calls_at q.event (r ∷ rs))) r rs (first_call test r rs)
    (All-weaker (λ q. test q.callback ≡ true → 0 < count_by test (calls_at q.event rs)) (λ q. test q.callback ≡ true → 0 < count_by test (calls_at q.event (r ∷ rs)))
    (λ q f h. let before : 0 < count_by test (calls_at q.event rs) = f h in omega (arith, before, more_calls test q.event r rs)) rs (each_counts test rs))

-- what the events of such callbacks have, an event has that has one
good_at : (test : Callback → Bool) (good : EventId → Bool) (e : EventId) (rs : List Registration)
    → AllPass (λ r. not (test r.callback) || good r.event) rs → 0 < count_by test (calls_at e rs) → good e ≡ true
good_at test good e [] h counted = absurd (omega (arith, counted))
good_at test good e (r ∷ rs) h counted =
    let fits : Registration → Type 0 = λ q. (not (test q.callback) || good q.event) ≡ true in
    let others : List Registration = filter (λ q. is_same q.event e) rs in
    let later : 0 < count_by test (calls_at e rs) → good e ≡ true = good_at test good e rs (All-tail fits r rs h) in
    cond_both (is_same r.event e) (r ∷ others) others (λ xs. 0 < count_by test (map (λ (q : Registration). q.callback) xs) → good e ≡ true)
    (λ same n. ⊎_elim
    (λ a. ⊎_elim (λ b. absurd (both_ways (test r.callback) (not-true (test r.callback) b) a)) (λ b. subst (λ f. good f ≡ true) (is_same-yes r.event e same) b) (or_cases (not (test r.callback)) (good r.event) (All-head fits r rs h)))
    (λ b. later (omega (arith, n, count_by-cons test r.callback (calls_at e rs), counts_none (test r.callback) b)))
    (cases_Bool (test r.callback)))
    (λ differ n. later n) counted

struck : {B : Type 0} (s : State B) → LawfulInterruptions s → (e : EventId)
    → 0 < count_by is_strike (all_callbacks_of s.facilities.calendar s.control e)
    → strikes_alone s.facilities.calendar s.control e ≡ true
struck s h e counted =
    let c : Calendar = s.facilities.calendar in
    let k : Control = s.control in
    let called : List Callback = if is_event_of k e then left_of k else [] in
    let sum = count_by-append is_strike (callbacks_of e c) called in
    ⊎_elim (λ a. good_at is_strike (strikes_alone c k) e c.registered h.registered a)
    (λ b. ⊎_elim
    (λ of. let some : 0 < count_by is_strike (left_of k) = omega (arith, counted, b, sum, ap (λ xs. count_by is_strike xs) (cond-true (is_event_of k e) (left_of k) [] of)) in
    ⊎_elim (λ no_strike. absurd (both_ways (list_any is_strike (left_of k)) (not-true (list_any is_strike (left_of k)) no_strike) (any_counted is_strike (left_of k) some))) (λ yes. yes)
    (or_cases (not (list_any is_strike (left_of k))) (strikes_alone c k e) (h.calling e of)))
    (λ not_of. absurd (omega (arith, counted, b, sum, ap (λ xs. count_by is_strike xs) (cond-false (is_event_of k e) (left_of k) [] not_of))))
    (cases_Bool (is_event_of k e)))
    (cases_lt 0 (count_by is_strike (callbacks_of e c)))

pub interruptions-strikes : {B : Type 0} (s : State B) → LawfulInterruptions s → StrikesAlone s.facilities.calendar s.control
interruptions-strikes s h = record { alone = λ e counted. struck s h e counted }

pub interruptions-registered : {B : Type 0} (s : State B) → StrikesAlone s.facilities.calendar s.control
    → AllPass (λ r. not (is_strike r.callback) || strikes_alone s.facilities.calendar s.control r.event) s.facilities.calendar.registered
interruptions-registered s h = λ i r below.
    let c : Calendar = s.facilities.calendar in
    let k : Control = s.control in
    let q : Registration = get_or c.registered i r in
    let sum = count_by-append is_strike (callbacks_of q.event c) (if is_event_of k q.event then left_of k else []) in
    ⊎_elim
    (λ a. let some : 0 < count_by is_strike (callbacks_of q.event c) = each_counts is_strike c.registered i r below a in
    or_right (not (is_strike q.callback)) (strikes_alone c k q.event) (h.alone q.event (omega (arith, some, sum))))
    (λ b. or_left (not (is_strike q.callback)) (strikes_alone c k q.event) (not_from_false (is_strike q.callback) b))
    (cases_Bool (is_strike q.callback))

pub interruptions-calling : {B : Type 0} (s : State B) → StrikesAlone s.facilities.calendar s.control → (e : EventId)
    → is_event_of s.control e ≡ true
    → (not (list_any is_strike (left_of s.control)) || strikes_alone s.facilities.calendar s.control e) ≡ true
interruptions-calling s h e of =
    let c : Calendar = s.facilities.calendar in
    let k : Control = s.control in
    let any : Bool = list_any is_strike (left_of k) in
    let sum = count_by-append is_strike (callbacks_of e c) (if is_event_of k e then left_of k else []) in
    ⊎_elim
    (λ a. let some : 0 < count_by is_strike (left_of k) = counted_any is_strike (left_of k) a in
    or_right (not any) (strikes_alone c k e) (h.alone e (omega (arith, some, sum, ap (λ xs. count_by is_strike xs) (cond-true (is_event_of k e) (left_of k) [] of)))))
    (λ b. or_left (not any) (strikes_alone c k e) (not_from_false any b))
    (cases_Bool any)

-- ---- what is left of the events

-- no event is unmade, of another kind or another condition, and none becomes an interruption that has not failed
pub record KeepsHearing (c d : Calendar) : Type 0 where
  pub longer : length c.events ≤ length d.events
  pub kinds : (e : EventId) → e.0 < length c.events → kind_at d e ≡ kind_at c e
  pub conditions : (e : EventId) → (event_at d e).condition ≡ (event_at c e).condition
  pub failed : (e : EventId) → is_failed_interruption (event_at c e) ≡ true → is_failed_interruption (event_at d e) ≡ true

-- what processes wait for and conditions have as members was made
pub record AllMade {B : Type 0} (s : State B) : Type 0 where
  pub targets : All (λ x. x.target.0 < length s.facilities.calendar.events) s.processes
  pub members : (e : EventId) → list_all (was_made s.facilities.calendar) (members_of s.facilities.calendar e) ≡ true

passes_after : (test : EventOf → Bool) (e f : EventId) (change : EventOf → EventOf) (c : Calendar)
    → test (change (event_at c e)) ≡ true → test (event_at c f) ≡ true → (f.0 ≡ e.0) ⊎ (f.0 ≢ e.0)
    → (f.0 < length c.events) ⊎ (length c.events ≤ f.0) → test (event_at (change_event e change c) f) ≡ true
passes_after test e f change c new h (inr differ) made = ap test (change_event-other e f change c differ) ∙ h
passes_after test e f change c new h (inl same) (inl made) = rw (same_event f e same) (ap test (change_event-same e change c (rw (← same) made)) ∙ new)
passes_after test e f change c new h (inl same) (inr unmade) =
    let d = change_event e change c in
    let past : length d.events ≤ f.0 = rw (change_event-length e change c) unmade in
    ap test (unmade_at d f past ∙ sym (unmade_at c f unmade)) ∙ h

-- a test that a change keeps at one event is kept at all
pub change_event-passes : (test : EventOf → Bool) (e f : EventId) (change : EventOf → EventOf) (c : Calendar)
    → test (change (event_at c e)) ≡ true → test (event_at c f) ≡ true → test (event_at (change_event e change c) f) ≡ true
change_event-passes test e f change c new h = passes_after test e f change c new h (cases_eq f.0 e.0) (cases_lt f.0 (length c.events))

-- what all events have an event has that may not be made
pub passes_at : (test : EventOf → Bool) (c : Calendar) (e : EventId) → test (pending_event kind.Plain) ≡ true
    → AllPass test c.events → test (event_at c e) ≡ true
passes_at test c e plain h =
    ⊎_elim (λ made. h e.0 (pending_event kind.Plain) made) (λ unmade. ap test (get_or_past c.events e.0 (pending_event kind.Plain) unmade) ∙ plain) (cases_lt e.0 (length c.events))

pub list_all-both : {X : Type 0} (p q r : X → Bool) (xs : List X) → ((x : X) → p x ≡ true → q x ≡ true → r x ≡ true)
    → list_all p xs ≡ true → list_all q xs ≡ true → list_all r xs ≡ true
list_all-both p q r [] both h i = refl
list_all-both p q r (x ∷ xs) both h i =
    let a = and_parts (p x) (list_all p xs) h in
    let b = and_parts (q x) (list_all q xs) i in
    and_from (r x) (list_all r xs) (both x a.0 b.0) (list_all-both p q r xs both a.1 b.1)

pub list_all-weaker : {X : Type 0} (p q : X → Bool) (xs : List X) → ((x : X) → p x ≡ true → q x ≡ true) → list_all p xs ≡ true → list_all q xs ≡ true
list_all-weaker p q xs weaker h = list_all-both p p q xs (λ x a b. weaker x a) h h

pub hearing-same : (c : Calendar) → KeepsHearing c c
hearing-same c = record { longer = omega arith; kinds = λ f m. refl; conditions = λ f. refl; failed = λ f h. h }

-- only events count
pub hearing-events : (c d e : Calendar) → e.events ≡ d.events → KeepsHearing c d → KeepsHearing c e
hearing-events c d e same h =
    record {
      longer = rw same h.longer;
      kinds = λ f m. rw same (h.kinds f m);
      conditions = λ f. rw same (h.conditions f);
      failed = λ f p. rw same (h.failed f p);
    }

pub hearing-trans : (c d e : Calendar) → KeepsHearing c d → KeepsHearing d e → KeepsHearing c e
hearing-trans c d e h i =
    record {
      longer = omega (arith, h.longer, i.longer);
      kinds = λ f m. i.kinds f (omega (arith, m, h.longer)) ∙ h.kinds f m;
      conditions = λ f. i.conditions f ∙ h.conditions f;
      failed = λ f p. i.failed f (h.failed f p);
    }

-- an event is made that is no interruption
pub hearing-made : (k : EventKind) (c : Calendar) → is_interrupt_kind k ≡ false → KeepsHearing c (make k c)
hearing-made k c other =
    record {
      longer = rw (make-length k c) (omega arith);
      kinds = λ f m. ap (λ (x : EventOf). x.kind) (make-old k c f m);
      conditions = λ f. make-keeps (λ x. x.condition) k c f refl;
      failed = λ f h. make-keeps is_failed_interruption k c f (rw other refl) ∙ h;
    }

pub hearing-changed : (e : EventId) (change : EventOf → EventOf) (c : Calendar) → ((x : EventOf) → (change x).kind ≡ x.kind)
    → ((x : EventOf) → (change x).condition ≡ x.condition)
    → ((x : EventOf) → is_failed_interruption x ≡ true → is_failed_interruption (change x) ≡ true)
    → KeepsHearing c (change_event e change c)
hearing-changed e change c kinds conditions failed =
    record {
      longer = rw (change_event-length e change c) (omega arith);
      kinds = λ f m. change_event-keeps (λ x. x.kind) e f change c kinds;
      conditions = λ f. change_event-keeps (λ x. x.condition) e f change c conditions;
      failed = λ f h. change_event-holds is_failed_interruption e f change c failed h;
    }

-- an event gets an outcome, and where it is an interruption it fails
pub hearing-scheduled : (e : EventId) (x : Outcome) (priority : ℕ) (delay : ℤ) (c : Calendar)
    → is_failed_interruption (record (event_at c e) { outcome = Some x }) ≡ true
    → KeepsHearing c (schedule e x priority delay c)
hearing-scheduled e x priority delay c fails =
    let change : EventOf → EventOf = λ y. record y { outcome = Some x } in
    record {
      longer = rw (change_event-length e change c) (omega arith);
      kinds = λ f m. change_event-keeps (λ y. y.kind) e f change c (λ y. refl);
      conditions = λ f. change_event-keeps (λ y. y.condition) e f change c (λ y. refl);
      failed = λ f h. change_event-passes is_failed_interruption e f change c fails h;
    }

-- ---- what was made

pub all_made : {B : Type 0} (g : Plan B) (tell : Telling B) (sound : B → Type 0) (s : State B) → LawfulBasis g tell sound s → AllMade s
all_made g tell sound s h =
    let c : Calendar = s.facilities.calendar in
    let older : (e : EventId) → e.0 < length c.events → list_all (was_made c) (members_of c e) ≡ true = λ e made.
    let first = and_parts (list_all (λ (f : EventId). nat_lt f.0 e.0) (members_of c e)) (nat_le (weight_within (most_weight + 1) c e) most_weight) (h.conditions.members e (lt-ltb e.0 (length c.events) made)) in
    list_all-weaker (λ (f : EventId). nat_lt f.0 e.0) (was_made c) (members_of c e) (λ f below. let less : f.0 < e.0 = ltb-true f.0 e.0 below in lt-ltb f.0 (length c.events) (omega (arith, less, made))) first.0 in
    record {
      targets = All-weaker (λ x. is_living_well s x ≡ true) (λ x. x.target.0 < length c.events) (λ x l. (lives_well s x l).waits_for) s.processes h.processes.living;
      members = λ e. ⊎_elim (λ made. older e made) (λ unmade. ap (λ (x : EventOf). list_all (was_made c) (condition_of x.condition).members) (unmade_at c e unmade)) (cases_lt e.0 (length c.events));
    }

pub all_made-kept : {B : Type 0} (s t : State B) → t.processes ≡ s.processes → KeepsHearing s.facilities.calendar t.facilities.calendar → AllMade s → AllMade t
all_made-kept s t same v h =
    let c : Calendar = s.facilities.calendar in
    let d : Calendar = t.facilities.calendar in
    let still : (f : EventId) → was_made c f ≡ true → was_made d f ≡ true = λ f m. let made : f.0 < length c.events = ltb-true f.0 (length c.events) m in lt-ltb f.0 (length d.events) (omega (arith, made, v.longer)) in
    record {
      targets = rw same (All-weaker (λ x. x.target.0 < length c.events) (λ x. x.target.0 < length d.events) (λ x m. omega (arith, m, v.longer)) s.processes h.targets);
      members = λ e. ap (λ o. list_all (was_made d) (condition_of o).members) (v.conditions e) ∙ list_all-weaker (was_made c) (was_made d) (members_of c e) still (h.members e);
    }

-- ---- strikes

made_interrupt : (c : Calendar) (e : EventId) → is_interrupt_kind (kind_at c e) ≡ true → e.0 < length c.events
made_interrupt c e h =
    ⊎_elim (λ made. made) (λ unmade. absurd (both_ways (is_interrupt_kind (kind_at c e)) (ap (λ (x : EventOf). is_interrupt_kind x.kind) (unmade_at c e unmade)) h)) (cases_lt e.0 (length c.events))

pub alone_parts : (c : Calendar) (k : Control) (e : EventId) → strikes_alone c k e ≡ true
    → (is_interrupt_kind (kind_at c e) ≡ true) × (length (all_callbacks_of c k e) ≡ 1)
alone_parts c k e h =
    let parts = and_parts (is_interrupt_kind (kind_at c e)) (length (all_callbacks_of c k e) == 1) h in
    (parts.0, eqb-true (length (all_callbacks_of c k e)) 1 parts.1)

pub alone_from : (c : Calendar) (k : Control) (e : EventId) → is_interrupt_kind (kind_at c e) ≡ true
    → length (all_callbacks_of c k e) ≡ 1 → strikes_alone c k e ≡ true
alone_from c k e kinds one = and_from (is_interrupt_kind (kind_at c e)) (length (all_callbacks_of c k e) == 1) kinds (eq-eqb (length (all_callbacks_of c k e)) 1 one)

-- the same callbacks
pub strikes-kept : (c : Calendar) (k : Control) (d : Calendar) (l : Control) → KeepsHearing c d
    → ((e : EventId) → all_callbacks_of d l e ≡ all_callbacks_of c k e) → StrikesAlone c k → StrikesAlone d l
strikes-kept c k d l v same h = record {
  alone = λ e counted.
      let before = alone_parts c k e (h.alone e (rw (same e) at counted)) in
      alone_from d l e (ap is_interrupt_kind (v.kinds e (made_interrupt c e before.0)) ∙ before.0) (ap (λ xs. length xs) (same e) ∙ before.1);
}

-- one that does not strike is registered, at an event that is no interruption
pub strikes-registered : (e : EventId) (x : Callback) (c : Calendar) (k : Control) → is_strike x ≡ false
    → is_interrupt_kind (kind_at c e) ≡ false → StrikesAlone c k → StrikesAlone (register e x c) k
strikes-registered e x c k other kinds h =
    let d : Calendar = register e x c in
    let here : (f : EventId) → is_same e f ≡ true → 0 < count_by is_strike (all_callbacks_of d k f) → ⊥ = λ f same counted.
    let sum = callbacks_at-register is_strike e f x c k in
    let before = alone_parts c k f (h.alone f (omega (arith, counted, sum, counts_not (is_same e f) (is_strike x) other))) in
    both_ways (is_interrupt_kind (kind_at c e)) kinds (subst (λ g. is_interrupt_kind (kind_at c g) ≡ true) (sym (is_same-yes e f same)) before.0) in
    let there : (f : EventId) → is_same e f ≡ false → 0 < count_by is_strike (all_callbacks_of d k f) → strikes_alone d k f ≡ true = λ f differ counted.
    let same : all_callbacks_of d k f ≡ all_callbacks_of c k f = all_callbacks_of-register_other e f x c k differ in
    let before = alone_parts c k f (h.alone f (rw same at counted)) in
    alone_from d k f before.0 (ap (λ xs. length xs) same ∙ before.1) in
    record { alone = λ f counted. ⊎_elim (λ same. absurd (here f same counted)) (λ differ. there f differ counted) (cases_Bool (is_same e f)) }

-- a callback less is left to call
pub strikes-called : (c : Calendar) (k l : Control) (x : Callback) → left_of k ≡ x ∷ left_of l
    → ((f : EventId) → is_event_of k f ≡ is_event_of l f) → StrikesAlone c k → StrikesAlone c l
strikes-called c k l x left of h =
    let every : Callback → Bool = λ y. true in
    let sum : (f : EventId) → length (all_callbacks_of c k f) ≡ one_if (is_event_of l f && true) + length (all_callbacks_of c l f) = λ f.
    omega (arith, length_counts (all_callbacks_of c k f), length_counts (all_callbacks_of c l f), callbacks_at-called every c k l x f left (of f)) in
    let before : (f : EventId) → 0 < count_by is_strike (all_callbacks_of c l f) → (is_interrupt_kind (kind_at c f) ≡ true) × (length (all_callbacks_of c k f) ≡ 1) = λ f counted.
    alone_parts c k f (h.alone f (omega (arith, counted, callbacks_at-called is_strike c k l x f left (of f)))) in
    record {
      alone = λ f counted. let b = before f counted in
          alone_from c l f b.0 (⊎_elim
          (λ a. absurd (omega (arith, counted, sum f, b.1, counts_one (is_event_of l f && true) (rw a refl), count_by-le-length is_strike (all_callbacks_of c l f))))
          (λ a. omega (arith, sum f, b.1, counts_none (is_event_of l f && true) (rw a refl)))
          (cases_Bool (is_event_of l f)));
    }

-- ---- a lawful state stays so

pub failed_after : (c d : Calendar) → KeepsHearing c d → AllPass is_failed_interruption c.events → AllPass is_failed_interruption d.events
failed_after c d v h =
    All-from_get_or (λ x. is_failed_interruption x ≡ true) d.events (pending_event kind.Plain) (λ i below. let e : EventId = record { 0 = i } in v.failed e (passes_at is_failed_interruption c e refl h))

heard_after : (c d : Calendar) → KeepsHearing c d → (o : Option ConditionOf) (x : EventOf)
    → list_all (was_made c) (condition_of o).members ≡ true → has_heard_members c (record x { condition = o }) ≡ true
    → has_heard_members d (record x { condition = o }) ≡ true
heard_after c d v None x made h = refl
heard_after c d v (Some y) x made h =
    list_all-both (was_made c) (λ e. not (is_unheard_kind (kind_at c e))) (λ e. not (is_unheard_kind (kind_at d e))) y.members
    (λ e m n. ap (λ k. not (is_unheard_kind k)) (v.kinds e (ltb-true e.0 (length c.events) m)) ∙ n) made h

pub members_after : (c d : Calendar) → KeepsHearing c d → ((e : EventId) → list_all (was_made c) (members_of c e) ≡ true)
    → AllPass (has_heard_members c) c.events → AllPass (has_heard_members d) d.events
members_after c d v made h =
    All-from_get_or (λ x. has_heard_members d x ≡ true) d.events (pending_event kind.Plain) (λ i below.
    let e : EventId = record { 0 = i } in
    let P : Option ConditionOf → Bool = λ o. has_heard_members d (record (event_at d e) { condition = o }) in
    ap P (v.conditions e) ∙ heard_after c d v (event_at c e).condition (event_at d e) (made e) (passes_at (has_heard_members c) c e refl h))

pub interruptions-kept : {B : Type 0} (s t : State B) → t.processes ≡ s.processes → AllMade s
    → KeepsHearing s.facilities.calendar t.facilities.calendar → StrikesAlone t.facilities.calendar t.control
    → LawfulInterruptions s → LawfulInterruptions t
interruptions-kept s t same made v strikes h =
    let c : Calendar = s.facilities.calendar in
    let d : Calendar = t.facilities.calendar in
    record {
      registered = interruptions-registered t strikes;
      calling = interruptions-calling t strikes;
      failed = failed_after c d v h.failed;
      targets = rw same (λ i x below. ap (λ k. not (is_unheard_kind k)) (v.kinds (get_or s.processes i x).target (made.targets i x below)) ∙ h.targets i x below);
      members = members_after c d v made.members h.members;
    }
