-- Which calendars keep the events that were made: no kind changes, and nothing is cancelled.
use Rattle.std.proofs.Common.{◌≡◌, ℕ, ◌<◌, ◌≤◌, ℤ, pos, Bool, true, false, length, Some, refl, ap, ◌∙◌, if◌then◌else◌, arith}
use Rattle.sim_types.specs.declared.event.EventId.{EventId}
use Rattle.sim_types.specs.declared.event.ProcId.{ProcId}
use Rattle.sim_types.specs.declared.event.Entry.{Entry}
use Rattle.sim_types.specs.declared.event.EventKind.{EventKind}
use Rattle.sim_types.specs.declared.event.Callback.{Callback}
use Rattle.sim_types.specs.declared.event.Outcome.{Outcome}
use Rattle.sim_types.specs.declared.event.EventKind.TheVariants as kind
use Rattle.sim_types.specs.declared.event.Outcome.TheVariants as outcome
use Rattle.sim_types.specs.declared.event.Callback.TheVariants as callback
use Rattle.sim_types.specs.declared.setup.Until.{Until}
use Rattle.sim_types.specs.declared.setup.Until.TheVariants as until
use Rattle.sim_machine.specs.State.{EventOf, Calendar}
use Rattle.sim_machine.specs.Events.{event_at, is_fail, next_event, change_event, defuse, register}
use Rattle.sim_machine.specs.Agenda.{popped}
use Rattle.sim_machine.specs.Triggering.{make, schedule, urgent, normal, make_timeout}
use Rattle.sim_machine.specs.Processes.{defuse_failed, make_events_of_process}
use Rattle.sim_machine.specs.Runs.{set_stop}
use Rattle.sim_machine.specs.Standing.{kind_at}
use Rattle.sim_machine_law.proofs.Events.EventLaws.{change_event-keeps, change_event-other, change_event-length, make-length, make-old, make-keeps}
use Rattle.sim_machine_law.proofs.KeptParts.KeptConditionsPop.{popped-keeps}

-- no event changes its kind, and none is cancelled; more may be made
pub record Grown (c d : Calendar) : Type 0 where
  pub longer : length c.events ≤ length d.events
  pub kinds : (e : EventId) → e.0 < length c.events → kind_at d e ≡ kind_at c e
  pub cancelled : (e : EventId) → (event_at d e).cancelled ≡ (event_at c e).cancelled

-- all events that were made stay as they were; more may be made, and none is cancelled
pub record OldStay (c d : Calendar) : Type 0 where
  pub longer : length c.events ≤ length d.events
  pub same : (e : EventId) → e.0 < length c.events → event_at d e ≡ event_at c e
  pub cancelled : (e : EventId) → (event_at d e).cancelled ≡ (event_at c e).cancelled

pub grown_old : (c d : Calendar) → OldStay c d → Grown c d
grown_old c d h =
    record {
      longer = h.longer;
      kinds = λ e made. ap (λ (x : EventOf). x.kind) (h.same e made);
      cancelled = h.cancelled;
    }

pub grown_itself : (c : Calendar) → Grown c c
grown_itself c = record { longer = omega arith; kinds = λ e made. refl; cancelled = λ e. refl }

pub grown_joined : (c d f : Calendar) → Grown c d → Grown d f → Grown c f
grown_joined c d f g h =
    record {
      longer = omega (arith, g.longer, h.longer);
      kinds = λ e made. h.kinds e (omega (arith, made, g.longer)) ∙ g.kinds e made;
      cancelled = λ e. h.cancelled e ∙ g.cancelled e;
    }

-- one event may change, where it keeps its kind and is not cancelled
pub grown_changed : (e : EventId) (change : EventOf → EventOf) (c : Calendar) → ((x : EventOf) → (change x).kind ≡ x.kind)
    → ((x : EventOf) → (change x).cancelled ≡ x.cancelled) → Grown c (change_event e change c)
grown_changed e change c kinds cancelled =
    record {
      longer = omega (arith, change_event-length e change c);
      kinds = λ f made. change_event-keeps (λ x. x.kind) e f change c kinds;
      cancelled = λ f. change_event-keeps (λ x. x.cancelled) e f change c cancelled;
    }

pub grown_scheduled : (e : EventId) (x : Outcome) (priority : ℕ) (delay : ℤ) (c : Calendar) → Grown c (schedule e x priority delay c)
grown_scheduled e x priority delay c =
    record {
      longer = omega (arith, change_event-length e (λ y. record y { outcome = Some x }) c);
      kinds = λ f made. change_event-keeps (λ y. y.kind) e f (λ y. record y { outcome = Some x }) c (λ y. refl);
      cancelled = λ f. change_event-keeps (λ y. y.cancelled) e f (λ y. record y { outcome = Some x }) c (λ y. refl);
    }

if_grown : (b : Bool) (c d : Calendar) → Grown c d → Grown c (if b then d else c)
if_grown true c d h = h
if_grown false c d h = grown_itself c

pub grown_failed_defused : (e : EventId) (c : Calendar) → Grown c (defuse_failed e c)
grown_failed_defused e c = if_grown (is_fail (event_at c e).outcome) c (defuse e c) (grown_changed e (λ x. record x { defused = true }) c (λ x. refl) (λ x. refl))

pub grown_popped : (x : Entry) (c : Calendar) → Grown c (popped x c)
grown_popped x c =
    record {
      longer = omega (arith, change_event-length x.event (λ y. record y { processed = true }) c);
      kinds = λ f made. popped-keeps (λ y. y.kind) x c f (λ y. refl);
      cancelled = λ f. popped-keeps (λ y. y.cancelled) x c f (λ y. refl);
    }

-- ---- events are made, and only these are changed

pub old_itself : (c : Calendar) → OldStay c c
old_itself c = record { longer = omega arith; same = λ e made. refl; cancelled = λ e. refl }

pub old_made : (k : EventKind) (c d : Calendar) → OldStay c d → OldStay c (make k d)
old_made k c d h =
    record {
      longer = omega (arith, make-length k d, h.longer);
      same = λ e made. make-old k d e (omega (arith, made, h.longer)) ∙ h.same e made;
      cancelled = λ e. make-keeps (λ x. x.cancelled) k d e refl ∙ h.cancelled e;
    }

pub old_registered : (e : EventId) (x : Callback) (c d : Calendar) → OldStay c d → OldStay c (register e x d)
old_registered e x c d h = record { longer = h.longer; same = h.same; cancelled = h.cancelled }

-- an event that is new may be scheduled
pub old_scheduled : (e : EventId) (x : Outcome) (priority : ℕ) (delay : ℤ) (c d : Calendar) → length c.events ≤ e.0
    → OldStay c d → OldStay c (schedule e x priority delay d)
old_scheduled e x priority delay c d new h =
    record {
      longer = omega (arith, change_event-length e (λ y. record y { outcome = Some x }) d, h.longer);
      same = λ f made. change_event-other e f (λ y. record y { outcome = Some x }) d (λ s. omega (arith, s, made, new)) ∙ h.same f made;
      cancelled = λ f. change_event-keeps (λ y. y.cancelled) e f (λ y. record y { outcome = Some x }) d (λ y. refl) ∙ h.cancelled f;
    }

pub old_timeout : (delay value : ℤ) (c : Calendar) → OldStay c (make_timeout delay value c)
old_timeout delay value c = old_scheduled (next_event c) (outcome.Ok value) normal delay c (make kind.Timeout c) (omega arith) (old_made kind.Timeout c c (old_itself c))

pub old_process : (c : Calendar) → OldStay c (make_events_of_process c)
old_process c =
    let p : ProcId = record { 0 = (next_event c).0 } in
    let d : Calendar = make kind.Process c in
    let init : EventId = next_event d in
    old_scheduled init (outcome.Ok (pos 0)) urgent (pos 0) c (register init (callback.Resume p) (make kind.Init d)) (omega (arith, make-length kind.Process c))
    (old_registered init (callback.Resume p) c (make kind.Init d) (old_made kind.Init c d (old_made kind.Process c c (old_itself c))))

pub old_stop : (x : Until) (c : Calendar) → OldStay c (set_stop x c)
old_stop until.Never c = old_itself c
old_stop (until.At time) c =
    let e : EventId = next_event c in
    old_scheduled e (outcome.Ok (pos 0)) urgent time c (register e callback.Stop (make kind.Stop c)) (omega arith) (old_registered e callback.Stop c (make kind.Stop c) (old_made kind.Stop c c (old_itself c)))
old_stop (until.Event e) c = old_registered e callback.Stop c c (old_itself c)
