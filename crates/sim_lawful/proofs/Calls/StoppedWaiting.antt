-- A process waits no longer: its only resumption is taken out, and who else is resumed stays.
use Rattle.std.proofs.Common.{◌≡◌, ℕ, ◌<◌, Bool, true, false, List, [], ◌∷◌, Option, Some, refl, sym, subst, ap, ◌∙◌, arith, ⊎_elim, if◌then◌else◌}
use Rattle.std.specs.Prelude.{count_by, find}
use Rattle.std.specs.List.{list_any}
use Rattle.std.proofs.lemmas.Bool.{cases_Bool, and_parts, false≢true}
use Rattle.sim_types.specs.declared.event.EventId.{EventId}
use Rattle.sim_types.specs.declared.event.ProcId.{ProcId}
use Rattle.sim_types.specs.declared.event.Callback.{Callback}
use Rattle.sim_types.specs.declared.event.Callback.TheVariants as callback
use Rattle.sim_machine.specs.State.{Registration, Calendar, ProcessOf, Control, State}
use Rattle.sim_machine.specs.Events.{is_process, is_same, unregister, is_resume_of, callbacks_of}
use Rattle.sim_machine.specs.Processes.{process_at, is_alive, target_of}
use Rattle.sim_machine.specs.Effect.{calendar}
use Rattle.sim_machine.specs.Standing.{left_of, is_event_of, all_callbacks_of, callbacks_in_all}
use Rattle.sim_machine.specs.LawfulProcesses.{LawfulProcesses, is_active, is_waiting_well}
use Rattle.sim_machine_law.proofs.Events.CallbackLaws.{count_by-append}
use Rattle.sim_machine_law.proofs.KeptParts.KeptBodies.{find_has, find_passes}
use Rattle.sim_machine_law.proofs.KeptParts.KeptProcessesParts.{WaitsOnce, waits_once, is_process-yes, is_process-swap}
use Rattle.sim_lawful.proofs.Calendars.TakenOut.{bears, callbacks-counted, count-taken, at-unregister, in_all-unregister}

-- ---- a live process is found

found_or_later : {X : Type 0} (test : X → Bool) (x : X) (xs : List X) (v : Bool)
    → (v ≡ true → (y : X) × (find test (x ∷ xs) ≡ Some y)) → (v ≡ false → (y : X) × (find test (x ∷ xs) ≡ Some y))
    → (y : X) × (find test (x ∷ xs) ≡ Some y)
found_or_later test x xs true here there = here refl
found_or_later test x xs false here there = there refl

found_where_any : {X : Type 0} (test : X → Bool) (xs : List X) → list_any test xs ≡ true → (y : X) × (find test xs ≡ Some y)
found_where_any test [] h = cc
found_where_any test (x ∷ xs) h =
    found_or_later test x xs (test x) (λ a. (x, rw a refl)) (λ a. let later = found_where_any test xs (rw a at h) in (later.0, rw a later.1))

pub found_alive : {B : Type 0} (s : State B) (p : ProcId) → is_alive p s ≡ true → (y : ProcessOf B) × (process_at p s ≡ Some y)
found_alive {B} s p h = found_where_any (λ (x : ProcessOf B). is_process x.id p) s.processes h

-- ---- its resumptions

pub resumes_other : (p q : ProcId) (x : Callback) → is_process p q ≡ false → is_resume_of p x ≡ true → is_resume_of q x ≡ false
resumes_other p q (callback.Resume r) apart h = ap (λ (n : ProcId). is_process q n) (sym (is_process-yes p r h)) ∙ (is_process-swap q p ∙ apart)
resumes_other p q _ apart h = absurd (false≢true h)

-- from where a process that waits is resumed
pub record Resumed (c : Calendar) (k : Control) (p : ProcId) (target : EventId) : Type 0 where
  pub in_all : callbacks_in_all (is_resume_of p) c k ≡ 1
  pub at : count_by (is_resume_of p) (all_callbacks_of c k target) ≡ 1

pub resumed_at : {B : Type 0} (named : ℕ) (s : State B) (p : ProcId) (y : ProcessOf B) → process_at p s ≡ Some y
    → is_active s.control p ≡ false → LawfulProcesses named s
    → Resumed (calendar s) s.control p (target_of p (process_at p s))
resumed_at {B} named s p y found rests h =
    let same : y.id ≡ p = is_process-yes y.id p (find_passes (λ z. is_process z.id p) s.processes y found) in
    let waits : is_waiting_well s y ≡ true = find_has (λ z. is_waiting_well s z ≡ true) (λ z. is_process z.id p) s.processes y found h.waiting in
    let once : WaitsOnce (calendar s) s.control y.id y.target = waits_once s y (subst (λ (q : ProcId). is_active s.control q ≡ false) (sym same) rests) waits in
    let P : ProcId → EventId → Type 0 = λ q n. Resumed (calendar s) s.control q n in
    let here : Resumed (calendar s) s.control y.id y.target = record { in_all = once.in_all; at = once.at } in
    subst (λ (o : Option (ProcessOf B)). P p (target_of p o)) (sym found) (subst (λ (q : ProcId). P q y.target) same here)

-- where the callbacks still to call do not resume it, nothing does
pub none-unregister : (c : Calendar) (k : Control) (p : ProcId) (target : EventId) → Resumed c k p target
    → count_by (is_resume_of p) (left_of k) ≡ 0
    → callbacks_in_all (is_resume_of p) (unregister target (is_resume_of p) c) k ≡ 0
none-unregister c k p target h none =
    let called : List Callback = if is_event_of k target then left_of k else [] in
    let u : Registration → Bool = bears target (is_resume_of p) in
    let in_called : count_by (is_resume_of p) called ≡ 0 = ⊎_elim (λ a. rw a none) (λ a. rw a refl) (cases_Bool (is_event_of k target)) in
    let some : 0 < count_by u c.registered = omega (arith, h.at, in_called, count_by-append (is_resume_of p) (callbacks_of target c) called, callbacks-counted (is_resume_of p) target c) in
    let passes : (r : Registration) → u r ≡ true → is_resume_of p r.callback ≡ true = λ r w. (and_parts (is_same r.event target) (is_resume_of p r.callback) w).1 in
    omega (arith, h.in_all, none, count-taken (λ r. is_resume_of p r.callback) u passes c.registered some)

-- and all others are resumed as before
pub others-unregister : (c : Calendar) (k : Control) (p q : ProcId) (target : EventId) → is_process p q ≡ false
    → callbacks_in_all (is_resume_of q) (unregister target (is_resume_of p) c) k ≡ callbacks_in_all (is_resume_of q) c k
others-unregister c k p q target apart = in_all-unregister (is_resume_of q) (is_resume_of p) target c k (λ x w. resumes_other p q x apart w)

pub others_at-unregister : (c : Calendar) (k : Control) (p q : ProcId) (target f : EventId) → is_process p q ≡ false
    → count_by (is_resume_of q) (all_callbacks_of (unregister target (is_resume_of p) c) k f) ≡ count_by (is_resume_of q)
    (all_callbacks_of c k f)
others_at-unregister c k p q target f apart = at-unregister (is_resume_of q) (is_resume_of p) target f c k (λ x w. resumes_other p q x apart w)
