-- A process that does not run ends, while nothing resumes it: it is no longer alive, and its event is triggered.
use Rattle.std.proofs.Common.{◌≡◌, ◌≢◌, ℕ, ◌≤◌, Bool, true, false, not, List, filter, get_or, Some, refl, sym, subst, ap, ◌∙◌, arith, ⊎_elim}
use Rattle.std.specs.Prelude.{is_none, count_by}
use Rattle.std.specs.List.{list_any}
use Rattle.std.proofs.lemmas.Bool.{cases_Bool, both_ways, eqb-false, false≢true, not-true, not_from_false, or_cases, or_left, or_right}
use Rattle.std.proofs.lemmas.List.Elements.{All-filter, filter_passes}
use Rattle.std.proofs.lemmas.Map.Views.{any-filter_same}
use Rattle.std.proofs.lemmas.List.Kept.{AllPairs-filter}
use Rattle.sim_types.specs.declared.event.EventId.{EventId}
use Rattle.sim_types.specs.declared.event.ProcId.{ProcId}
use Rattle.sim_types.specs.declared.event.EventKind.{EventKind}
use Rattle.sim_types.specs.declared.event.Outcome.{Outcome}
use Rattle.sim_types.specs.declared.event.EventKind.TheVariants as kind
use Rattle.sim_machine.specs.State.{EventOf, Calendar, ProcessOf, Control, State}
use Rattle.sim_machine.specs.Events.{is_process, is_resume_of}
use Rattle.sim_machine.specs.Triggering.{trigger}
use Rattle.sim_machine.specs.Processes.{event_of, is_alive}
use Rattle.sim_machine.specs.Effect.{calendar}
use Rattle.sim_machine.specs.Standing.{kind_at, all_callbacks_of, callbacks_in_all}
use Rattle.sim_machine.specs.LawfulProcesses.{LawfulProcesses, is_active, is_living_well, is_ok_zero, is_plain_kind, is_process_kind, is_waiting_well}
use Rattle.sim_machine_law.proofs.Events.EventLaws.{change_event-keeps, change_event-length, change_event-other}
use Rattle.sim_machine_law.proofs.KeptParts.KeptProcesses.{alive_has}
use Rattle.sim_machine_law.proofs.KeptParts.KeptProcessesParts.{KeepsLiving, LivesWell, WaitsOnce, is_process-swap, is_process-yes, lives_on, lives_well, living_well, named_plain_on, waiting_active, waiting_well, waits_once}

pub kinds_differ : (k : EventKind) → is_process_kind k ≡ true → is_plain_kind k ≡ true → ⊥
kinds_differ kind.Process a b = false≢true b
kinds_differ _ a b = false≢true a

abbrev pub is_other : {B : Type 0} → ProcId → ProcessOf B → Bool
is_other q x = not (is_process x.id q)

other_numbered : {B : Type 0} (q r : ProcId) (x : ProcessOf B) → is_process q r ≡ false → is_process x.id r ≡ true → is_other q x ≡ true
other_numbered q r x apart is = not_from_false (is_process x.id q) (ap (λ (n : ProcId). is_process n q) (is_process-yes x.id r is) ∙ (is_process-swap r q ∙ apart))

-- who is another stays alive
pub alive-other : {B : Type 0} (q r : ProcId) (xs : List (ProcessOf B)) → is_process q r ≡ false
    → list_any (λ (x : ProcessOf B). is_process x.id r) (filter (is_other q) xs)
    ≡ list_any (λ (x : ProcessOf B). is_process x.id r) xs
alive-other {B} q r xs apart = any-filter_same (λ (x : ProcessOf B). is_process x.id r) (is_other q) true (λ x is. other_numbered q r x apart is) xs

-- what is known of the resumptions and of the control that the end of q finds
pub record IsUnresumed {B : Type 0} (s : State B) (q : ProcId) (d : Calendar) (l : Control) : Type 0 where
  pub alive : is_alive q s ≡ true
  pub rests : is_active s.control q ≡ false
  pub active : (r : ProcId) → is_active l r ≡ is_active s.control r
  pub living : KeepsLiving s.facilities.calendar d
  pub none : callbacks_in_all (is_resume_of q) d l ≡ 0
  pub in_all : (r : ProcId) → is_process q r ≡ false → callbacks_in_all (is_resume_of r) d l ≡ callbacks_in_all (is_resume_of r) s.facilities.calendar s.control
  pub at : (r : ProcId) (f : EventId) → is_process q r ≡ false
      → count_by (is_resume_of r) (all_callbacks_of d l f) ≡ count_by (is_resume_of r) (all_callbacks_of s.facilities.calendar s.control f)

-- the event of q was made, is pending, and is of a process
pub lives-unresumed : {B : Type 0} (named : ℕ) (s : State B) (q : ProcId) (d : Calendar) (l : Control) → IsUnresumed s q d l
    → LawfulProcesses named s → (target : EventId) × LivesWell d q target
lives-unresumed named s q d l u h =
    let found = alive_has s q (λ x. is_living_well s x ≡ true) h.living u.alive in
    let target : EventId = found.0.target in
    (target, lives_on (calendar s) d q target u.living (subst (λ i. LivesWell (calendar s) i target) found.1 (lives_well s found.0 found.2)))

abbrev pub ended_state : {B : Type 0} → State B → ProcId → Outcome → Calendar → Control → State B
ended_state s q o d l = record s { facilities = record s.facilities { calendar = trigger (event_of q) o d }; processes = filter (is_other q) s.processes; control = l }

pub processes-unresumed : {B : Type 0} (named : ℕ) (s : State B) (q : ProcId) (o : Outcome) (d : Calendar) (l : Control)
    → IsUnresumed s q d l → LawfulProcesses named s → LawfulProcesses named (ended_state s q o d l)
processes-unresumed {B} named s q o d l u h =
    let c : Calendar = calendar s in
    let t : State B = ended_state s q o d l in
    let e : EventId = event_of q in
    let first_event : EventId = record { 0 = 0 } in
    let change : EventOf → EventOf = λ y. record y { outcome = Some o } in
    let keeps : ProcessOf B → Bool = is_other q in
    let own = lives-unresumed named s q d l u h in
    let plain : (n : ℕ) → n ≤ named → is_plain_kind (kind_at d (record { 0 = n })) ≡ true = named_plain_on named c d u.living h.named_made h.named_plain in
    let at : ℕ → Bool = λ n. is_plain_kind (kind_at d (event_of (record { 0 = n }))) in
    let nonzero : q.0 ≢ 0 = λ zero_is. kinds_differ (kind_at d e) own.1.kind (ap at zero_is ∙ plain 0 (omega arith)) in
    let apart : (x : ProcessOf B) → keeps x ≡ true → is_process q x.id ≡ false = λ x a. is_process-swap q x.id ∙ not-true (is_process x.id q) a in
    let waits : (x : ProcessOf B) → keeps x ≡ true → is_waiting_well s x ≡ true → is_waiting_well t x ≡ true = λ x a w.
    ⊎_elim (λ runs. waiting_active t x (u.active x.id ∙ runs)) (λ rests.
    let before : WaitsOnce c s.control x.id x.target = waits_once s x rests w in
    waiting_well t x (record { in_all = u.in_all x.id (apart x a) ∙ before.in_all; at = u.at x.id x.target (apart x a) ∙ before.at })) (cases_Bool (is_active s.control x.id)) in
    let lives : (x : ProcessOf B) → keeps x ≡ true → is_living_well s x ≡ true → is_living_well t x ≡ true = λ x a w.
    let before : LivesWell d x.id x.target = lives_on c d x.id x.target u.living (lives_well s x w) in
    living_well t x (record {
      waits_for = rw (change_event-length e change d) before.waits_for;
      made = rw (change_event-length e change d) before.made;
      pending = ap (λ (y : EventOf). is_none y.outcome) (change_event-other e (event_of x.id) change d (eqb-false x.id.0 q.0 (not-true (is_process x.id q) a))) ∙ before.pending;
      kind = ap is_process_kind (change_event-keeps (λ y. y.kind) e (event_of x.id) change d (λ y. refl)) ∙ before.kind;
    }) in
    record {
      distinct = AllPairs-filter (λ x y. x.id ≢ y.id) keeps s.processes h.distinct;
      active = λ r a.
          let before : is_active s.control r ≡ true = sym (u.active r) ∙ a in
          ⊎_elim (λ same. absurd (both_ways (is_active s.control q) u.rests (subst (λ (n : ProcId). is_active s.control n ≡ true) (sym (is_process-yes q r same)) before))) (λ differ. alive-other q r s.processes differ ∙ h.active r before) (cases_Bool (is_process q r));
      waiting = λ k x below. waits (get_or (filter keeps s.processes) k x) (filter_passes keeps s.processes k x below) (All-filter keeps (λ y. is_waiting_well s y ≡ true) s.processes h.waiting k x below);
      not_resumed = λ r n. ⊎_elim (λ same. subst (λ (m : ProcId). callbacks_in_all (is_resume_of m) d l ≡ 0) (is_process-yes q r same) u.none)
          (λ differ. u.in_all r differ ∙ h.not_resumed r (⊎_elim (λ a. or_left (is_active s.control r) (not (is_alive r s)) (sym (u.active r) ∙ a))
          (λ b. or_right (is_active s.control r) (not (is_alive r s)) (ap not (sym (alive-other q r s.processes differ)) ∙ b)) (or_cases (is_active l r) (not (is_alive r t)) n)))
          (cases_Bool (is_process q r));
      living = λ k x below. lives (get_or (filter keeps s.processes) k x) (filter_passes keeps s.processes k x below) (All-filter keeps (λ y. is_living_well s y ≡ true) s.processes h.living k x below);
      named_made = omega (arith, change_event-length e change d, h.named_made, u.living.longer);
      named_plain = λ n low. ap is_plain_kind (change_event-keeps (λ y. y.kind) e (record { 0 = n }) change d (λ y. refl)) ∙ plain n low;
      zero_processed = change_event-keeps (λ y. y.processed) e first_event change d (λ y. refl) ∙ u.living.processed h.zero_processed;
      zero_ok = ap is_ok_zero (change_event-other e first_event change d (λ same. nonzero (sym same))) ∙ u.living.ok h.zero_ok;
    }
