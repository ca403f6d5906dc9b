-- Each unit keeps lawful times.
use Rattle.std.proofs.Common.{◌≡◌, ℕ, ◌+◌, ◌<◌, ◌≤◌, ◌^◌, ℤ, pos, ◌≤ℤ◌, ◌+ℤ◌, Bool, true, false, ◌&&◌, not, length, List, [], ◌∷◌, Some, refl, ap, subst, arith, inl, inr, zero, suc, get_or}
use Rattle.std.specs.Prelude.{All, is_none, ◌==◌, nat_lt, nat_le, slice_index_or, int_le, count_by, cond, replicate}
use Rattle.std.specs.Bool.{IsTrue}
use Rattle.std.proofs.lemmas.Int.{ints}
use Rattle.std.proofs.lemmas.Bool.{and_parts}
use Rattle.std.proofs.lemmas.List.Elements.{All-cons, All-nil, All-weaker}
use Rattle.std.proofs.lemmas.List.Sums.{sum_by-cons}
use Rattle.sim_types.specs.declared.event.EventId.{EventId}
use Rattle.sim_types.specs.declared.event.ProcId.{ProcId}
use Rattle.sim_types.specs.declared.event.Entry.{Entry}
use Rattle.sim_types.specs.declared.event.Callback.{Callback}
use Rattle.sim_types.specs.declared.event.Outcome.{Outcome}
use Rattle.sim_types.specs.declared.event.Signal.{Signal}
use Rattle.sim_types.specs.declared.event.EventKind.{EventKind}
use Rattle.sim_types.specs.declared.event.EventKind.TheVariants as kind
use Rattle.sim_types.specs.declared.event.Outcome.TheVariants as outcome
use Rattle.sim_types.specs.declared.event.Callback.TheVariants as callback
use Rattle.sim_types.specs.declared.setup.Until.{Until}
use Rattle.sim_types.specs.declared.setup.Until.TheVariants as until
use Rattle.sim_machine.specs.State.{EventOf, Registration, Calendar, State, ProcessOf, Plan, Idle, Calling, Active}
use Rattle.sim_machine.specs.Events.{is_same, is_process, event_at, is_pending, is_processed, is_triggered, is_fail, pending_event, next_event, defuse, register}
use Rattle.sim_machine.specs.Agenda.{due}
use Rattle.sim_machine.specs.Triggering.{urgent, normal, make, schedule, trigger}
use Rattle.sim_machine.specs.Scopes.{on_events}
use Rattle.sim_machine.specs.Processes.{event_of, process_at, with_body, rest, defuse_failed, wait, make_events_of_process, make_process, end_process}
use Rattle.sim_machine.specs.Effect.{calendar}
use Rattle.sim_machine.specs.Steps.{pop_entry, resume, call, settle}
use Rattle.sim_machine.specs.Runs.{first_calendar, blank_state, set_stop}
use Rattle.sim_machine.specs.Tellings.{Telling, CodeFacts}
use Rattle.sim_machine.specs.BodyLaw.{IsLawfulStart, scopes_told, may_start}
use Rattle.sim_machine.specs.Setups.{FitsCode, until_fits}
use Rattle.sim_machine.specs.Standing.{one_if, was_made, kind_at}
use Rattle.sim_machine.specs.LawfulTimes.{LawfulTimes}
use Rattle.sim_machine.specs.LawfulProcesses.{is_process_kind, is_living_well}
use Rattle.sim_machine_law.proofs.Events.AgendaLaws.{Among, due_among}
use Rattle.sim_machine_law.proofs.Events.PopLaws.{popped_lawful}
use Rattle.sim_machine_law.proofs.Events.TimeLaws.{schedule_lawful, events_changed, make_lawful}
use Rattle.sim_machine_law.proofs.Events.EventLaws.{is_same-self, change_event-keeps, make-length, make-new}
use Rattle.sim_machine_law.proofs.KeptParts.KeptRegistrationsCalendar.{turned_made, made_below, pending_unprocessed}
use Rattle.sim_machine_law.proofs.KeptParts.KeptTimesCases.{if_cases, wait_cases, found_has}
use Rattle.sim_machine_law.proofs.Events.ScheduledOnce.{outcomes_changed, outcomes_first}
use Rattle.sim_machine_law.proofs.KeptParts.LawfulBasis.{AreNamedPending, LawfulBasis}
use Rattle.sim_machine_law.proofs.KeptParts.KeptConditionsPop.{one_if_yes}
use Rattle.sim_machine_law.proofs.KeptParts.KeptProcessesParts.{is_process-yes}

-- ---- what is due is triggered

counts_itself : (x : Entry) → cond {A = ℕ} (is_same x.event x.event) 1 0 ≡ 1
counts_itself x = rw (is_same-self x.event) refl

among_counts : (x : Entry) (es : List Entry) → Among es x → 1 ≤ count_by (λ y. is_same y.event x.event) es
among_counts x [] h = absurd h
among_counts x (y ∷ ys) (inl same) =
    let P : Entry → Type 0 = λ z. 1 ≤ count_by (λ y. is_same y.event x.event) (z ∷ ys) in
    subst P same (rw (sum_by-cons (λ y. cond (is_same y.event x.event) 1 0) x ys) (omega (arith, counts_itself x)))
among_counts x (y ∷ ys) (inr h) =
    rw (sum_by-cons (λ y. cond (is_same y.event x.event) 1 0) y ys) (omega (arith, among_counts x ys h))

-- the event of an entry is triggered
among_triggered : (x : Entry) (c : Calendar) → Among c.agenda x → LawfulTimes c → is_triggered c x.event ≡ true
among_triggered x c here l = one_if_yes (is_triggered c x.event) (subst (λ n. 1 ≤ n) (l.triggered x.event) (among_counts x c.agenda here))

-- and so it was made
among_made : (x : Entry) (c : Calendar) → Among c.agenda x → LawfulTimes c → x.event.0 < length c.events
among_made x c here l = turned_made c x.event (and_parts (not (is_pending c x.event)) (not (is_processed c x.event)) (among_triggered x c here l)).0

pub due_triggered : (x : Entry) (c : Calendar) → due c.agenda ≡ Some x → LawfulTimes c → is_triggered c x.event ≡ true
due_triggered x c h l = among_triggered x c (due_among c.agenda x h) l

pub due_made : (x : Entry) (c : Calendar) → due c.agenda ≡ Some x → LawfulTimes c → x.event.0 < length c.events
due_made x c h l = among_made x c (due_among c.agenda x h) l

all_among : (es : List Entry) → All (Among es) es
all_among [] = All-nil (Among [])
all_among (x ∷ es) = All-cons (Among (x ∷ es)) x es (inl refl) (All-weaker (Among es) (Among (x ∷ es)) (λ y here. inr here) es (all_among es))

-- the events of all entries are triggered
pub agenda_triggered : (c : Calendar) → LawfulTimes c → All (λ x. is_triggered c x.event ≡ true) c.agenda
agenda_triggered c l = All-weaker (Among c.agenda) (λ x. is_triggered c x.event ≡ true) (λ x here. among_triggered x c here l) c.agenda (all_among c.agenda)

-- and so they were made
pub agenda_made : (c : Calendar) → LawfulTimes c → All (λ x. x.event.0 < length c.events) c.agenda
agenda_made c l = All-weaker (Among c.agenda) (λ x. x.event.0 < length c.events) (λ x here. among_made x c here l) c.agenda (all_among c.agenda)

-- ---- what is changed besides the agenda

pub times_registered : (rs : List Registration) (c : Calendar) → LawfulTimes c → LawfulTimes (record c { registered = rs })
times_registered rs c h =
    record {
      not_negative = h.not_negative;
      in_limit = h.in_limit;
      distinct = h.distinct;
      numbers = h.numbers;
      later = h.later;
      in_time = h.in_time;
      triggered = h.triggered;
      scheduled = h.scheduled;
    }

pub times_defuse_failed : (e : EventId) (c : Calendar) → LawfulTimes c → LawfulTimes (defuse_failed e c)
times_defuse_failed e c h =
    let defused : LawfulTimes (defuse e c) = events_changed c (defuse e c).events (λ f. change_event-keeps (λ x. not (is_none x.outcome) && not x.processed) e f (λ x. record x { defused = true }) c (λ x. refl)) (outcomes_changed e (λ x. record x { defused = true }) c (λ x. refl)) h in
    if_cases LawfulTimes (is_fail (event_at c e).outcome) (defuse e c) c (λ k. defused) (λ k. h)

pub times_wait : {B : Type 0} (e : EventId) (p : ProcId) (s : State B) → LawfulTimes (calendar s) → LawfulTimes (calendar (wait e p s))
times_wait e p s h =
    wait_cases (λ t. LawfulTimes (calendar t)) e p s (λ k. times_defuse_failed e (calendar s) h) (λ k. times_registered (register e (callback.Resume p) (calendar s)).registered (calendar s) h)

-- an event of which nothing is known but that it was just made, and is then scheduled
pub new_scheduled : (k : EventKind) (rs : List Registration) (x : Outcome) (priority : ℕ) (delay : ℤ) (c : Calendar)
    → pos 0 ≤ℤ delay → (c.time +ℤ delay) ≤ℤ pos (2 ^ 62) → LawfulTimes c
    → LawfulTimes (schedule (next_event c) x priority delay (record (make k c) { registered = rs }))
new_scheduled k rs x priority delay c low high h =
    let d : Calendar = record (make k c) { registered = rs } in
    let more : length (make k c).events ≡ length c.events + 1 = make-length k c in
    schedule_lawful (next_event c) x priority delay d (omega (arith, more)) (ap (λ (y : EventOf). is_none y.outcome) (make-new k c)) (ap (λ (y : EventOf). y.processed) (make-new k c)) low high (times_registered rs (make k c) (make_lawful k c h))

pub times_of_process : (c : Calendar) → LawfulTimes c → LawfulTimes (make_events_of_process c)
times_of_process c h =
    let d : Calendar = make kind.Process c in
    let p : ProcId = record { 0 = (next_event c).0 } in
    let high : c.time ≤ℤ pos (2 ^ 62) = h.in_limit in
    new_scheduled kind.Init (register (next_event d) (callback.Resume p) (make kind.Init d)).registered (outcome.Ok (pos 0)) urgent (pos 0) d (omega (arith, ints)) (omega (arith, ints, high)) (make_lawful kind.Process c h)

four_parts : (a b c d : Bool) → (a && b && c && d) ≡ true → (b ≡ true) × (c ≡ true) × (d ≡ true)
four_parts a b c d h = (grind arith, grind arith, grind arith)

-- the event of a process that is found was made, is of the kind of processes, and is neither triggered nor processed
pub found_pending : {B : Type 0} (g : Plan B) (tell : Telling B) (sound : B → Type 0) (s : State B) (p : ProcId)
    (y : ProcessOf B) → process_at p s ≡ Some y → LawfulBasis g tell sound s
    → ((event_of p).0 < length (calendar s).events) × (is_pending (calendar s) (event_of p) ≡ true)
    × (is_processed (calendar s) (event_of p) ≡ false) × (is_process_kind (kind_at (calendar s) (event_of p)) ≡ true)
found_pending {B} g tell sound s p y found l =
    let c : Calendar = calendar s in
    let here : (is_living_well s y ≡ true) × (is_process y.id p ≡ true) = found_has (λ z. is_living_well s z ≡ true) (λ z. is_process z.id p) s.processes y found l.processes.living in
    let P : ProcId → Type 0 = λ q. (was_made c (event_of q) ≡ true) × (is_pending c (event_of q) ≡ true) × (is_process_kind (kind_at c (event_of q)) ≡ true) in
    let own : P p = subst P (is_process-yes y.id p here.1) (four_parts (was_made c y.target) (was_made c (event_of y.id)) (is_pending c (event_of y.id)) (is_process_kind (kind_at c (event_of y.id))) here.0) in
    (made_below c (event_of p) own.0, own.1, pending_unprocessed c (event_of p) l.registrations.outcomes own.1, own.2)

-- ---- the units

pub times-popped : {B : Type 0} (g : Plan B) (tell : Telling B) (sound : B → Type 0) (s : State B) (x : Entry)
    → s.control ≡ Idle → due (calendar s).agenda ≡ Some x → LawfulBasis g tell sound s
    → LawfulTimes (pop_entry x s).facilities.calendar
times-popped g tell sound s x idle h l = popped_lawful x (calendar s) h (due_made x (calendar s) h l.times) l.times

pub times-resumed : {B : Type 0} (g : Plan B) (tell : Telling B) (sound : B → Type 0) (s : State B) (e : EventId)
    (left : List Callback) (p : ProcId) → s.control ≡ Calling e (callback.Resume p ∷ left) → LawfulBasis g tell sound s
    → LawfulTimes (resume e left p s).facilities.calendar
times-resumed g tell sound s e left p at l = times_defuse_failed e (calendar s) l.times

pub times-stopped : {B : Type 0} (g : Plan B) (tell : Telling B) (sound : B → Type 0) (s : State B) (e : EventId)
    (left : List Callback) → s.control ≡ Calling e (callback.Stop ∷ left) → LawfulBasis g tell sound s
    → LawfulTimes (call g e callback.Stop left s).facilities.calendar
times-stopped g tell sound s e left at l = l.times

pub times-settled : {B : Type 0} (g : Plan B) (tell : Telling B) (sound : B → Type 0) (s : State B) (e : EventId)
    → s.control ≡ Calling e [] → LawfulBasis g tell sound s → LawfulTimes (settle e s).facilities.calendar
times-settled g tell sound s e at l = l.times

pub times_triggered : (e : EventId) (x : Outcome) (c : Calendar) → e.0 < length c.events → is_pending c e ≡ true
    → is_processed c e ≡ false → LawfulTimes c → LawfulTimes (trigger e x c)
times_triggered e x c made pending unprocessed h =
    let high : c.time ≤ℤ pos (2 ^ 62) = h.in_limit in
    schedule_lawful e x normal (pos 0) c made pending unprocessed (omega (arith, ints)) (omega (arith, ints, high)) h

pub times-polled_end : {B : Type 0} (g : Plan B) (tell : Telling B) (sound : B → Type 0) (s : State B) (f : CodeFacts)
    (e : EventId) (left : List Callback) (p : ProcId) (x : Signal) (y : ProcessOf B) (b : B) (o : Outcome)
    → s.control ≡ Active e left p x → process_at p s ≡ Some y → sound b → LawfulBasis g tell sound s
    → IsTrue (length (scopes_told (tell.scopes y.body) (tell.last y.body) x) == 0)
    → LawfulTimes (rest (end_process p o (with_body p b s))).facilities.calendar
times-polled_end g tell sound s f e left p x y b o at found keeps l closed =
    let own = found_pending g tell sound s p y found l in
    times_triggered (event_of p) o (calendar s) own.0 own.1 own.2 l.times

pub times-made_process : {B : Type 0} (g : Plan B) (tell : Telling B) (sound : B → Type 0) (s : State B) (f : CodeFacts)
    (k : ℕ) (args : List ℤ) → IsTrue (nat_lt k (length f.params) && may_start (slice_index_or f.params k []) args)
    → IsLawfulStart f tell k args (record { 0 = (next_event (calendar s)).0 })
    (g.start k args (record { 0 = (next_event (calendar s)).0 }))
    → sound (g.start k args (record { 0 = (next_event (calendar s)).0 })) → LawfulBasis g tell sound s
    → LawfulTimes (make_process g k args s).facilities.calendar
times-made_process g tell sound s f k args fits start keeps l = times_of_process (calendar s) l.times

all_pending : (m n : ℕ) → get_or (replicate m (pending_event kind.Plain)) n (pending_event kind.Plain) ≡ pending_event kind.Plain
all_pending zero n = refl
all_pending (suc m) zero = refl
all_pending (suc m) (suc n) = all_pending m n

blank_untriggered : (m n : ℕ) → 0 ≡ one_if (is_triggered (first_calendar m) (record { 0 = n }))
blank_untriggered m zero = refl
blank_untriggered m (suc n) = rw (all_pending m n) refl

pub times-blank : {B : Type 0} (g : Plan B) (tell : Telling B) (sound : B → Type 0) (f : CodeFacts) → FitsCode f g.setup
    → LawfulTimes (blank_state g).facilities.calendar
times-blank g tell sound f fits =
    record {
      not_negative = omega (arith, ints);
      in_limit = omega (arith, ints);
      distinct = λ i j d before below. absurd (omega (arith, below));
      numbers = λ i d below. absurd (omega (arith, below));
      later = λ i d below. absurd (omega (arith, below));
      in_time = λ i d below. absurd (omega (arith, below));
      triggered = λ e. blank_untriggered g.setup.events e.0;
      scheduled = outcomes_first g.setup.events;
    }

within : (time : ℤ) → (int_le (pos 1) time && int_le time (pos (2 ^ 62))) ≡ true → (pos 1 ≤ℤ time) × (time ≤ℤ pos (2 ^ 62))
within time h = (grind (arith, ints), grind (arith, ints))

pub times-set_stop : {B : Type 0} (g : Plan B) (tell : Telling B) (sound : B → Type 0) (s : State B) (until : Until)
    → IsTrue (until_fits g.setup.events until)
    → AreNamedPending g s
    → (calendar s).time ≡ pos 0 → s.control ≡ Idle → LawfulBasis g tell sound s
    → LawfulTimes (on_events (set_stop until) s).facilities.calendar
times-set_stop g tell sound s until.Never fits named zero_time idle l = l.times
times-set_stop g tell sound s (until.At time) fits named zero_time idle l =
    let c : Calendar = calendar s in
    let range : (pos 1 ≤ℤ time) × (time ≤ℤ pos (2 ^ 62)) = within time fits in
    let low : pos 1 ≤ℤ time = range.0 in
    let high : time ≤ℤ pos (2 ^ 62) = range.1 in
    new_scheduled kind.Stop (register (next_event c) callback.Stop (make kind.Stop c)).registered (outcome.Ok (pos 0)) urgent time c (omega (arith, ints, low)) (rw zero_time (omega (arith, ints, high))) l.times
times-set_stop g tell sound s (until.Event e) fits named zero_time idle l = times_registered (register e callback.Stop (calendar s)).registered (calendar s) l.times
