-- What is made where a kernel is opened is what the machine makes.
use Rattle.std.proofs.Common.{◌≡◌, ℕ, ◌+◌, ◌^◌, ℤ, pos, ◌+ℤ◌, ◌<ℤ◌, ◌≤ℤ◌, List, [], ◌∷◌, length, refl, sym, ap, subst, ◌∙◌, arith}
use Rattle.std.proofs.lemmas.Int.{ints}
use Rattle.std.proofs.lemmas.List.{length-replicate, replicate-append-replicate}
use Rattle.sim_types.specs.declared.event.EventId.{EventId}
use Rattle.sim_types.specs.declared.event.EventKind.{EventKind}
use Rattle.sim_types.specs.declared.event.EventKind.TheVariants as kind
use Rattle.sim_types.specs.declared.event.Callback.{Callback}
use Rattle.sim_types.specs.declared.event.Callback.TheVariants as callback
use Rattle.sim_types.specs.declared.event.Outcome.TheVariants as outcome
use Rattle.sim_types.specs.declared.setup.Until.TheVariants as until
use Rattle.sim_machine.specs.State.{EventOf, Calendar, Facilities}
use Rattle.sim_machine.specs.Events.{next_event, pending_event, register}
use Rattle.sim_machine.specs.Triggering.{urgent, make, schedule}
use Rattle.sim_machine.specs.Processes.{make_events_of_process}
use Rattle.sim_machine.specs.Runs.{event_zero, first_calendar}
use Rattle.sim_happen_model.specs.HappenOf.{HappenOf, IsOpen, as_before, unheld_event}
use Rattle.sim_happen_model.specs.Shows.{Shows, Turns, Follows}
use Rattle.sim_happen_law.proofs.Changes.Following.{turns_then, turns_as, time_then}
use Rattle.sim_happen_law.proofs.Changes.NewEvents.{IsNew, is_new, new_registered, next_is}
use Rattle.sim_shared_model.specs.SharedOf.{SharedOf}
use Rattle.sim_shared_model.specs.ShowsAll.{ShowsAll}
use Rattle.sim_steps_model.specs.Opening.{two_unheld, SetsStop}
use Rattle.sim_steps_law.proofs.Kernels.Becoming.{shown_with}

-- an event that was just made may get its outcome
pub new_is_open : (x : Callback) (a m b : HappenOf) (k : EventKind) (e : EventId) → Turns (make k) unheld_event a m → e.0 ≡ length a.events →
    Follows (register e x) m b → IsOpen b e
new_is_open x a m b k e made same follows =
    let new : IsNew b e = new_registered x m b e follows (is_new k a m e made same) in
    record { kept = new.kept; pending = new.pending; not_cancelled = new.uncancelled }

-- ---- times

-- now is the time as before
pub same_time : (x : Callback) (a m b : HappenOf) (k : EventKind) (e : EventId) → Turns (make k) unheld_event a m → Follows (register e x) m b →
    b.time ≡ a.time
same_time x a m b k e made follows = time_then (register e x) as_before m b follows ∙ time_then (make k) unheld_event a m made

pub not_beyond : (t u delay : ℤ) → u ≡ t → (t +ℤ delay) ≤ℤ pos (2 ^ 62) → pos (2 ^ 62) <ℤ (u +ℤ delay) → ⊥
not_beyond t u delay same h k = let late : pos (2 ^ 62) <ℤ (t +ℤ delay) = subst (λ v. pos (2 ^ 62) <ℤ (v +ℤ delay)) same k in grind (arith, ints)

pub at_now : (t : ℤ) → t ≤ℤ pos (2 ^ 62) → (t +ℤ pos 0) ≤ℤ pos (2 ^ 62)
at_now t h = grind (arith, ints)

pub from_start : (t delay : ℤ) → t ≡ pos 0 → delay ≤ℤ pos (2 ^ 62) → (t +ℤ delay) ≤ℤ pos (2 ^ 62)
from_start t delay same h = rw same (grind (arith, ints))

-- ---- a process

-- the events of a process, step by step
abbrev steps_of_process : EventId → EventId → Calendar → Calendar
steps_of_process event init c =
    schedule init (outcome.Ok (pos 0)) urgent (pos 0)
    (register init (callback.Resume (record { 0 = event.0 })) (make kind.Init (make kind.Process c)))

same_steps : (a m : HappenOf) (event init : EventId) (c : Calendar) → event.0 ≡ length a.events → init.0 ≡ length m.events → Shows a c →
    Shows m (make kind.Process c) → steps_of_process event init c ≡ make_events_of_process c
same_steps a m event init c is is_init s t =
    let process : next_event c ≡ event = next_is a c event is s in
    let begins : next_event (make kind.Process c) ≡ init = next_is m (make kind.Process c) init is_init t in
    rw (← process, ← begins) refl

pub turns_process : (a m i r b : HappenOf) (event init : EventId) → Turns (make kind.Process) unheld_event a m → event.0 ≡ length a.events →
    Turns (make kind.Init) unheld_event m i → init.0 ≡ length m.events → Follows (register init (callback.Resume (record { 0 = event.0 }))) i r →
    Follows (schedule init (outcome.Ok (pos 0)) urgent (pos 0)) r b → Turns make_events_of_process two_unheld a b
turns_process a m i r b event init made is begun is_init registered scheduled =
    let resume : Callback = callback.Resume (record { 0 = event.0 }) in
    let two : Calendar → Calendar = λ c. make kind.Init (make kind.Process c) in
    let both : Turns two two_unheld a i = turns_then (make kind.Process) (make kind.Init) unheld_event unheld_event a m i made begun in
    let three : Turns (λ c. register init resume (two c)) two_unheld a r =
    turns_then two (register init resume) two_unheld as_before a i r both registered in
    turns_as (steps_of_process event init) make_events_of_process two_unheld a b
    (λ c s. same_steps a m event init c is is_init s (made.each c s))
    (turns_then (λ c. register init resume (two c)) (schedule init (outcome.Ok (pos 0)) urgent (pos 0)) two_unheld as_before a r b three scheduled)

-- ---- what stops a run

abbrev steps_of_stop : EventId → ℤ → Calendar → Calendar
steps_of_stop e time c = schedule e (outcome.Ok (pos 0)) urgent time (register e callback.Stop (make kind.Stop c))

-- at a time one event is made
pub sets_stop : (time : ℤ) (a m r b : HappenOf) (e : EventId) → Turns (make kind.Stop) unheld_event a m → e.0 ≡ length a.events →
    Follows (register e callback.Stop) m r → Follows (schedule e (outcome.Ok (pos 0)) urgent time) r b → SetsStop (until.At time) a b
sets_stop time a m r b e made is registered scheduled =
    let two : Turns (λ c. register e callback.Stop (make kind.Stop c)) unheld_event a r =
    turns_then (make kind.Stop) (register e callback.Stop) unheld_event as_before a m r made registered in
    let all : Turns (steps_of_stop e time) unheld_event a b =
    turns_then (λ c. register e callback.Stop (make kind.Stop c))
    (schedule e (outcome.Ok (pos 0)) urgent time) unheld_event as_before a r b two scheduled in
    record {
      made = 1;
      turns = record {
        each = λ c s. subst (λ f. Shows b (steps_of_stop f time c)) (sym (next_is a c e is s)) (all.each c s);
        held = all.held;
        left = all.left;
      };
    }

-- ---- named events

-- one of them more
pub named_more : (n : ℕ) → make kind.Plain (first_calendar n) ≡ first_calendar (n + 1)
named_more n =
    ap (λ (es : List EventOf). let c : Calendar = record { time = pos 0; scheduled = 0; agenda = []; events = event_zero ∷ es; registered = [] } in c)
    (replicate-append-replicate n 1 (pending_event kind.Plain))

pub events_named : (n : ℕ) → length (first_calendar n).events ≡ n + 1
events_named n = omega (arith, length-replicate n (pending_event kind.Plain))

pub named_shown : (n : ℕ) (a b : HappenOf) → Turns (make kind.Plain) unheld_event a b → Shows a (first_calendar n) → Shows b (first_calendar (n + 1))
named_shown n a b t s = subst (Shows b) (named_more n) (t.each (first_calendar n) s)

-- the resources as they open stay so while named events are made
pub named_all : (n : ℕ) (a b : SharedOf) → b ≡ record a { happen = b.happen } →
    ShowsAll a (record { calendar = first_calendar 0; waiters = []; ledger = [] }) →
    Shows b.happen (first_calendar n) → ShowsAll b (record { calendar = first_calendar n; waiters = []; ledger = [] })
named_all n a b is h s =
    let f : Facilities = record { calendar = first_calendar 0; waiters = []; ledger = [] } in
    rw is (shown_with a b.happen f (first_calendar n) (omega (arith, h.calendar.made, s.made, events_named n, events_named 0)) s h)
