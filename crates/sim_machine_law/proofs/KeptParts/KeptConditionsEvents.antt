-- Conditions stay lawful where events are made, scheduled, waited for or defused.
use Rattle.std.proofs.Common.{◌≡◌, ℕ, ℤ, pos, Bool, true, false, List, [], ◌∷◌, refl, sym, ◌∙◌, if◌then◌else◌, zero, suc, Option, Some}
use Rattle.std.specs.Prelude.{is_none, slice_index_or, slice_set}
use Rattle.sim_types.specs.declared.event.EventId.{EventId}
use Rattle.sim_types.specs.declared.event.ProcId.{ProcId}
use Rattle.sim_types.specs.declared.event.Outcome.{Outcome}
use Rattle.sim_types.specs.declared.event.EventKind.{EventKind}
use Rattle.sim_types.specs.declared.event.EventKind.TheVariants as kind
use Rattle.sim_types.specs.declared.event.Outcome.TheVariants as outcome
use Rattle.sim_types.specs.declared.event.Callback.TheVariants as callback
use Rattle.sim_types.specs.declared.setup.Until.{Until}
use Rattle.sim_types.specs.declared.setup.Until.TheVariants as until
use Rattle.sim_machine.specs.State.{EventOf, Calendar, Control, State}
use Rattle.sim_machine.specs.Events.{event_at, is_pending, is_fail, is_processed, pending_event, next_event, change_event, defuse, register}
use Rattle.sim_machine.specs.Triggering.{make, schedule, urgent}
use Rattle.sim_machine.specs.Scopes.{on_events}
use Rattle.sim_machine.specs.Processes.{tell, rest, signal_of, defuse_failed, wait, change_process, make_events_of_process}
use Rattle.sim_machine.specs.Runs.{set_stop}
use Rattle.sim_machine_law.proofs.Events.EventLaws.{change_event-keeps, make-keeps}
use Rattle.sim_machine_law.proofs.KeptParts.KeptConditions.{IsNoConditions, conditions_changed, conditions_registered, conditions_told, conditions_rested}
use Rattle.sim_machine_law.proofs.KeptParts.LawfulBasis.{ConditionsBasis}

still_pending : (xs : List EventOf) (n m : ℕ) (x d : EventOf)
    → (is_none x.outcome ≡ true → is_none (slice_index_or xs n d).outcome ≡ true)
    → is_none (slice_index_or (slice_set xs n x) m d).outcome ≡ true → is_none (slice_index_or xs m d).outcome ≡ true
still_pending [] n m x d h w = w
still_pending (y ∷ xs) zero zero x d h w = h w
still_pending (y ∷ xs) zero (suc m) x d h w = w
still_pending (y ∷ xs) (suc n) zero x d h w = w
still_pending (y ∷ xs) (suc n) (suc m) x d h w = still_pending xs n m x d h w

-- a change of one event that makes nothing pending makes no event pending
pub pending_changed : (e f : EventId) (change : EventOf → EventOf) (c : Calendar)
    → ((x : EventOf) → is_none (change x).outcome ≡ true → is_none x.outcome ≡ true)
    → is_pending (change_event e change c) f ≡ true → is_pending c f ≡ true
pending_changed e f change c h w = still_pending c.events e.0 f.0 (change (event_at c e)) (pending_event kind.Plain) (h (event_at c e)) w

-- one event may change, where it stays the same condition, as far as it is processed, and is not pending again
pub conditions_event_changed : (e : EventId) (change : EventOf → EventOf) (c : Calendar) (k : Control)
    → ((x : EventOf) → (change x).condition ≡ x.condition) → ((x : EventOf) → (change x).processed ≡ x.processed)
    → ((x : EventOf) → is_none (change x).outcome ≡ true → is_none x.outcome ≡ true) → ConditionsBasis c k
    → ConditionsBasis (change_event e change c) k
conditions_event_changed e change c k same processed pending h =
    conditions_changed c (change_event e change c) k (record {
      conditions = λ f. change_event-keeps (λ x. x.condition) e f change c same;
      processed = λ f. change_event-keeps (λ x. x.processed) e f change c processed;
      pending = λ f. pending_changed e f change c pending;
    }) refl h

pub conditions_made : (x : EventKind) (c : Calendar) (k : Control) → ConditionsBasis c k → ConditionsBasis (make x c) k
conditions_made x c k h =
    conditions_changed c (make x c) k (record {
      conditions = λ f. make-keeps (λ y. y.condition) x c f refl;
      processed = λ f. make-keeps (λ y. y.processed) x c f refl;
      pending = λ f w. sym (make-keeps (λ y. is_none y.outcome) x c f refl) ∙ w;
    }) refl h

none_is_not : (x : Outcome) (y : Option Outcome) → is_none (Some x) ≡ true → is_none y ≡ true
none_is_not x y h = cc

pub conditions_scheduled : (e : EventId) (x : Outcome) (priority : ℕ) (delay : ℤ) (c : Calendar) (k : Control)
    → ConditionsBasis c k → ConditionsBasis (schedule e x priority delay c) k
conditions_scheduled e x priority delay c k h =
    conditions_changed c (schedule e x priority delay c) k (record {
      conditions = λ f. change_event-keeps (λ y. y.condition) e f (λ y. record y { outcome = Some x }) c (λ y. refl);
      processed = λ f. change_event-keeps (λ y. y.processed) e f (λ y. record y { outcome = Some x }) c (λ y. refl);
      pending = λ f. pending_changed e f (λ y. record y { outcome = Some x }) c (λ y. none_is_not x y.outcome);
    }) refl h

pub conditions_defused : (e : EventId) (c : Calendar) (k : Control) → ConditionsBasis c k → ConditionsBasis (defuse e c) k
conditions_defused e c k h = conditions_event_changed e (λ x. record x { defused = true }) c k (λ x. refl) (λ x. refl) (λ x w. w) h

if_conditions : (b : Bool) (c d : Calendar) (k : Control) → ConditionsBasis c k → ConditionsBasis d k → ConditionsBasis (if b then c else d) k
if_conditions true c d k h w = h
if_conditions false c d k h w = w

pub conditions_failed_defused : (e : EventId) (c : Calendar) (k : Control) → ConditionsBasis c k → ConditionsBasis (defuse_failed e c) k
conditions_failed_defused e c k h = if_conditions (is_fail (event_at c e).outcome) (defuse e c) c k (conditions_defused e c k h) h

pub resume_is_no_conditions : (p : ProcId) → IsNoConditions (callback.Resume p)
resume_is_no_conditions p = record { no_check = λ cond. refl; no_build = λ cond. refl }

pub stop_is_no_conditions : IsNoConditions callback.Stop
stop_is_no_conditions = record { no_check = λ cond. refl; no_build = λ cond. refl }

pub conditions_process_made : (c : Calendar) (k : Control) → ConditionsBasis c k → ConditionsBasis (make_events_of_process c) k
conditions_process_made c k h =
    let p : ProcId = record { 0 = (next_event c).0 } in
    let d : Calendar = make kind.Process c in
    let init : EventId = next_event d in
    conditions_scheduled init (outcome.Ok (pos 0)) urgent (pos 0) (register init (callback.Resume p) (make kind.Init d)) k
    (conditions_registered init (callback.Resume p) (make kind.Init d) k (resume_is_no_conditions p) (conditions_made kind.Init d k (conditions_made kind.Process c k h)))

pub conditions_stop_set : (x : Until) (c : Calendar) (k : Control) → ConditionsBasis c k → ConditionsBasis (set_stop x c) k
conditions_stop_set until.Never c k h = h
conditions_stop_set (until.At time) c k h =
    let e : EventId = next_event c in
    let d : Calendar = make kind.Stop c in
    conditions_scheduled e (outcome.Ok (pos 0)) urgent time (register e callback.Stop d) k (conditions_registered e callback.Stop d k stop_is_no_conditions (conditions_made kind.Stop c k h))
conditions_stop_set (until.Event e) c k h = conditions_registered e callback.Stop c k stop_is_no_conditions h

-- ---- what a process asks for

-- the conditions of a state are lawful
abbrev pub HasConditions : {B : Type 0} → State B → Type 0
HasConditions s = ConditionsBasis s.facilities.calendar s.control

pub if_has : {B : Type 0} (b : Bool) (s t : State B) → HasConditions s → HasConditions t → HasConditions (if b then s else t)
if_has true s t h w = h
if_has false s t h w = w

pub conditions_wait : {B : Type 0} (e : EventId) (p : ProcId) (s : State B) → HasConditions s → HasConditions (wait e p s)
conditions_wait {B} e p s h =
    let c : Calendar = s.facilities.calendar in
    let on : State B = tell (signal_of (event_at c e).outcome) (on_events (defuse_failed e) s) in
    let off : State B = rest (change_process p (λ x. record x { target = e }) (on_events (register e (callback.Resume p)) s)) in
    if_has (is_processed c e) on off (conditions_told (signal_of (event_at c e).outcome) (defuse_failed e c) s.control (conditions_failed_defused e c s.control h))
    (conditions_rested (register e (callback.Resume p) c) s.control (conditions_registered e (callback.Resume p) c s.control (resume_is_no_conditions p) h))
