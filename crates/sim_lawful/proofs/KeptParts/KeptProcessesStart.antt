-- The opening keeps the law of processes: a process is made, and what is to stop the run.
use Rattle.std.proofs.Common.{◌≡◌, ◌≢◌, ℕ, ◌+◌, ℤ, pos, true, false, ◌&&◌, ◌||◌, not, List, [], ◌∷◌, ◌++◌, length, Some, refl, sym, ap, subst, ◌∙◌, arith, ⊎_elim, get_or, zero, suc}
use Rattle.std.specs.Prelude.{is_none, IsTrue, count_by, nat_lt, nat_le, slice_index_or, replicate}
use Rattle.std.proofs.lemmas.Bool.{cases_Bool, and_from, or_cases, or_left, or_right, both_ways, not-true, not_from_false, false_from_ne_true, or_parts, false≢true}
use Rattle.std.proofs.lemmas.List.{length-replicate}
use Rattle.std.proofs.lemmas.List.Elements.{All-nil, All-push}
use Rattle.std.proofs.lemmas.List.Folds.{list_any-append}
use Rattle.std.proofs.lemmas.List.Quantifiers.{all_pairs_push}
use Rattle.sim_types.specs.declared.event.EventId.{EventId}
use Rattle.sim_types.specs.declared.event.ProcId.{ProcId}
use Rattle.sim_types.specs.declared.setup.Until.{Until}
use Rattle.sim_types.specs.declared.event.EventKind.TheVariants as kind
use Rattle.sim_types.specs.declared.event.Outcome.TheVariants as outcome
use Rattle.sim_types.specs.declared.event.Callback.TheVariants as callback
use Rattle.sim_types.specs.declared.setup.Until.TheVariants as until
use Rattle.sim_machine.specs.State.{EventOf, Calendar, ProcessOf, State, Plan, Idle}
use Rattle.sim_machine.specs.Events.{is_same, is_process, event_at, is_pending, is_processed, pending_event, next_event, register, is_resume_of}
use Rattle.sim_machine.specs.Triggering.{urgent, make}
use Rattle.sim_machine.specs.Scopes.{on_events}
use Rattle.sim_machine.specs.Processes.{is_alive, make_events_of_process, make_process}
use Rattle.sim_machine.specs.Effect.{calendar}
use Rattle.sim_machine.specs.Runs.{first_calendar, blank_state, set_stop}
use Rattle.sim_machine.specs.Tellings.{Telling, CodeFacts}
use Rattle.sim_machine.specs.BodyLaw.{IsLawfulStart, may_start}
use Rattle.sim_machine.specs.Setups.{until_fits, FitsCode}
use Rattle.sim_machine.specs.Standing.{one_if, kind_at, all_callbacks_of, callbacks_in_all}
use Rattle.sim_machine.specs.LawfulProcesses.{is_active, is_process_kind, is_plain_kind, is_waiting_well, is_living_well, LawfulProcesses}
use Rattle.sim_machine_law.proofs.Events.EventLaws.{is_same-self, make-new, make-old, make-length, change_event-length, change_event-other}
use Rattle.sim_machine_law.proofs.Events.CallbackLaws.{counts_one, counts_none, counts_not, callbacks_in_all-register, callbacks_at-register, callbacks_at-most}
use Rattle.sim_machine_law.proofs.KeptParts.KeptProcessesParts.{same_process, is_process-yes, is_process-no, is_process-self, is_process-swap, KeepsLiving, LivesWell, WaitsOnce, lives_well, living_well, lives_on, named_plain_on, waits_once, waiting_well, waiting_active, living-events, living-made, living-scheduled, living-trans}
use Rattle.sim_machine_law.proofs.KeptParts.KeptProcesses.{alive_has}
use Rattle.sim_machine_law.proofs.KeptParts.KeptProcessesChanges.{processes-makes, processes-schedules, processes-registers, processes-same}
use Rattle.sim_machine_law.proofs.KeptParts.LawfulBasis.{AreNamedPending, LawfulBasis}

-- ---- a process is made

abbrev pub init_of : Calendar → EventId
init_of c = next_event (make kind.Process c)

-- before the init event is triggered
abbrev pub with_init : Calendar → Calendar
with_init c = register (init_of c) (callback.Resume (record { 0 = (next_event c).0 })) (make kind.Init (make kind.Process c))

abbrev triggered : EventOf → EventOf
triggered x = record x { outcome = Some (outcome.Ok (pos 0)) }

init_is : (c : Calendar) → (init_of c).0 ≡ length c.events + 1
init_is c = make-length kind.Process c

pub length-joined : (c : Calendar) → length (make_events_of_process c).events ≡ length c.events + 2
length-joined c = change_event-length (init_of c) triggered (with_init c) ∙ (make-length kind.Init (make kind.Process c) ∙ omega (arith, make-length kind.Process c))

pub living-joined : (c : Calendar) → KeepsLiving c (make_events_of_process c)
living-joined c =
    let d : Calendar = make kind.Process c in
    let e : Calendar = with_init c in
    let made : KeepsLiving c e = living-trans c d e (living-made kind.Process c) (living-events d (make kind.Init d) e refl (living-made kind.Init d)) in
    let kinds = ap (λ (x : EventOf). is_process_kind x.kind) (make-new kind.Init d) in
    living-trans c e (make_events_of_process c) made (living-scheduled (init_of c) (outcome.Ok (pos 0)) urgent (pos 0) e kinds (λ z. omega (arith, z, init_is c)))

-- the event of the new process is pending
pub event-joined : (c : Calendar) → event_at (make_events_of_process c) (next_event c) ≡ pending_event kind.Process
event-joined c =
    let d : Calendar = make kind.Process c in
    let p : EventId = next_event c in
    change_event-other (init_of c) p triggered (with_init c) (λ same. omega (arith, same, init_is c)) ∙ (make-old kind.Init d p (omega (arith, init_is c)) ∙ make-new kind.Process c)

-- a process more, which its init event is to resume
pub processes-joined : {B : Type 0} (named : ℕ) (s : State B) (b : B) → LawfulProcesses named s
    → LawfulProcesses named (on_events make_events_of_process
    (record s {
      processes = s.processes
          ++ record { id = record { 0 = (next_event (calendar s)).0 }; body = b; target = next_event (make kind.Process (calendar s)) } ∷ [];
    }))
processes-joined {B} named s b h =
    let c : Calendar = calendar s in
    let d : Calendar = make_events_of_process c in
    let p : ProcId = record { 0 = (next_event c).0 } in
    let init : EventId = next_event (make kind.Process c) in
    let new : ProcessOf B = record { id = p; body = b; target = init } in
    let t : State B = on_events make_events_of_process (record s { processes = s.processes ++ new ∷ [] }) in
    let v : KeepsLiving c d = living-joined c in
    let in_all : (q : ProcId) → callbacks_in_all (is_resume_of q) d s.control ≡ callbacks_in_all (is_resume_of q) c s.control + one_if (is_process q p) = λ q. callbacks_in_all-register (is_resume_of q) init (callback.Resume p) c s.control in
    let at : (q : ProcId) (f : EventId) → count_by (is_resume_of q) (all_callbacks_of d s.control f) ≡ count_by (is_resume_of q) (all_callbacks_of c s.control f) + one_if (is_same init f && is_process q p) =
    λ q f. callbacks_at-register (is_resume_of q) init f (callback.Resume p) c s.control in
    let differs : (x : ProcessOf B) → is_living_well s x ≡ true → x.id ≢ p = λ x l. λ same.
    let before : LivesWell c x.id x.target = lives_well s x l in
    let number : x.id.0 ≡ p.0 = ap (λ (q : ProcId). q.0) same in
    omega (arith, before.made, number) in
    let unborn : is_alive p s ≡ false = false_from_ne_true (is_alive p s) (λ a.
    let found = alive_has s p (λ x. is_living_well s x ≡ true) h.living a in
    differs found.0 found.2 found.1) in
    let others : (q : ProcId) → is_alive q s ≡ true → is_process q p ≡ false = λ q a. false_from_ne_true (is_process q p) (λ b. both_ways (is_alive p s) unborn (subst (λ r. is_alive r s ≡ true) (is_process-yes q p b) a)) in
    let alive : (q : ProcId) → is_alive q t ≡ (is_alive q s || (is_process p q || false)) = λ q. list_any-append (λ (x : ProcessOf B). is_process x.id q) s.processes (new ∷ []) in
    let fresh : callbacks_in_all (is_resume_of p) c s.control ≡ 0 = h.not_resumed p (or_right (is_active s.control p) (not (is_alive p s)) (not_from_false (is_alive p s) unborn)) in
    let waits : (x : ProcessOf B) → is_living_well s x ≡ true → is_waiting_well s x ≡ true → is_waiting_well t x ≡ true = λ x l w.
    let other : is_process x.id p ≡ false = is_process-no x.id p (λ same. differs x l (same_process x.id p same)) in
    ⊎_elim (λ a. waiting_active t x a) (λ b.
    let before : WaitsOnce c s.control x.id x.target = waits_once s x b w in
    waiting_well t x (record {
      in_all = omega (arith, in_all x.id, before.in_all, counts_none (is_process x.id p) other);
      at = omega (arith, at x.id x.target, before.at, counts_not (is_same init x.target) (is_process x.id p) other);
    })) (cases_Bool (is_active s.control x.id)) in
    let new_waits : is_waiting_well t new ≡ true =
    let one : one_if (is_process p p) ≡ 1 = counts_one (is_process p p) (is_process-self p) in
    let here : one_if (is_same init init && is_process p p) ≡ 1 = counts_one (is_same init init && is_process p p) (and_from (is_same init init) (is_process p p) (is_same-self init) (is_process-self p)) in
    waiting_well t new (record {
      in_all = omega (arith, in_all p, fresh, one);
      at = omega (arith, at p init, fresh, here, callbacks_at-most (is_resume_of p) c s.control init);
    }) in
    let new_lives : is_living_well t new ≡ true = living_well t new (record {
      waits_for = omega (arith, length-joined c, init_is c);
      made = omega (arith, length-joined c);
      pending = ap (λ (x : EventOf). is_none x.outcome) (event-joined c);
      kind = ap (λ (x : EventOf). is_process_kind x.kind) (event-joined c);
    }) in
    let none : (q : ProcId) → is_process q p ≡ false → (is_active s.control q || not (is_alive q s)) ≡ true → callbacks_in_all (is_resume_of q) d s.control ≡ 0 = λ q b n.
    omega (arith, in_all q, h.not_resumed q n, counts_none (is_process q p) b) in
    record {
      distinct = all_pairs_push (λ x y. x.id ≢ y.id) s.processes new h.distinct (λ k x below. differs (get_or s.processes k x) (h.living k x below));
      active = λ q a. alive q ∙ or_left (is_alive q s) (is_process p q || false) (h.active q a);
      waiting = All-push (λ x. is_waiting_well t x ≡ true) s.processes new (λ k x below. waits (get_or s.processes k x) (h.living k x below) (h.waiting k x below)) new_waits;
      not_resumed = λ q n. ⊎_elim (λ a. none q (others q (h.active q a)) (or_left (is_active s.control q) (not (is_alive q s)) a))
          (λ b. let gone = or_parts (is_alive q s) (is_process p q || false) (sym (alive q) ∙ not-true (is_alive q t) b) in
          none q (is_process-swap q p ∙ (or_parts (is_process p q) false gone.1).0) (or_right (is_active s.control q) (not (is_alive q s)) (not_from_false (is_alive q s) gone.0)))
          (or_cases (is_active s.control q) (not (is_alive q t)) n);
      living = All-push (λ x. is_living_well t x ≡ true) s.processes new (λ k x below. let y = get_or s.processes k x in living_well t y (lives_on c d y.id y.target v (lives_well s y (h.living k x below)))) new_lives;
      named_made = omega (arith, h.named_made, v.longer);
      named_plain = named_plain_on named c d v h.named_made h.named_plain;
      zero_processed = v.processed h.zero_processed;
      zero_ok = v.ok h.zero_ok;
    }

pub processes-made_process : {B : Type 0} (g : Plan B) (tell : Telling B) (sound : B → Type 0) (s : State B) (f : CodeFacts)
    (k : ℕ) (args : List ℤ) → IsTrue (nat_lt k (length f.params) && may_start (slice_index_or f.params k []) args)
    → IsLawfulStart f tell k args (record { 0 = (next_event (calendar s)).0 })
    (g.start k args (record { 0 = (next_event (calendar s)).0 }))
    → sound (g.start k args (record { 0 = (next_event (calendar s)).0 })) → LawfulBasis g tell sound s
    → LawfulProcesses g.setup.events (make_process g k args s)
processes-made_process g tell sound s f k args fits law fine h = processes-joined g.setup.events s (g.start k args (record { 0 = (next_event (calendar s)).0 })) h.processes

-- ---- the state before any process is made

replicate_at : (m n : ℕ) (x : EventOf) → get_or (replicate m x) n x ≡ x
replicate_at zero n x = refl
replicate_at (suc m) zero x = refl
replicate_at (suc m) (suc n) x = replicate_at m n x

plain_first : (named n : ℕ) → is_plain_kind (kind_at (first_calendar named) (record { 0 = n })) ≡ true
plain_first named zero = refl
plain_first named (suc n) = ap (λ (x : EventOf). is_plain_kind x.kind) (replicate_at named n (pending_event kind.Plain))

pub processes-blank : {B : Type 0} (g : Plan B) (tell : Telling B) (sound : B → Type 0) (f : CodeFacts) → FitsCode f g.setup
    → LawfulProcesses g.setup.events (blank_state g)
processes-blank g tell sound f fits = record {
  distinct = λ i j d before below. absurd (omega (arith, below));
  active = λ p a. absurd (false≢true a);
  waiting = All-nil (λ x. is_waiting_well (blank_state g) x ≡ true);
  not_resumed = λ p n. refl;
  living = All-nil (λ x. is_living_well (blank_state g) x ≡ true);
  named_made = rw (length-replicate g.setup.events (pending_event kind.Plain)) (omega arith);
  named_plain = λ n low. plain_first g.setup.events n;
  zero_processed = refl;
  zero_ok = refl;
}

-- ---- what is to stop the run

stop_set : {B : Type 0} (named : ℕ) (s : State B) (until : Until) → LawfulProcesses named s → LawfulProcesses named (on_events (set_stop until) s)
stop_set named s until.Never h = processes-same named s s refl refl refl h
stop_set {B} named s (until.At time) h =
    let c : Calendar = calendar s in
    let e : EventId = next_event c in
    let made : State B = on_events (make kind.Stop) s in
    let registers : State B = on_events (register e callback.Stop) made in
    let kinds = ap (λ (x : EventOf). is_process_kind x.kind) (make-new kind.Stop c) in
    processes-schedules named registers e (outcome.Ok (pos 0)) urgent time kinds (λ z. omega (arith, z, h.named_made)) (processes-registers named made e callback.Stop (λ p. refl) (processes-makes named s kind.Stop h))
stop_set named s (until.Event e) h = processes-registers named s e callback.Stop (λ p. refl) h

pub processes-set_stop : {B : Type 0} (g : Plan B) (tell : Telling B) (sound : B → Type 0) (s : State B) (until : Until)
    → IsTrue (until_fits g.setup.events until)
    → AreNamedPending g s
    → (calendar s).time ≡ pos 0 → s.control ≡ Idle → LawfulBasis g tell sound s
    → LawfulProcesses g.setup.events (on_events (set_stop until) s)
processes-set_stop g tell sound s until fits waits begins idle h = stop_set g.setup.events s until h.processes
