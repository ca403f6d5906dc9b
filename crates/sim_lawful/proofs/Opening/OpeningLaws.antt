-- The state that a run begins with: before it is said what stops the run, no process has begun and nothing named has happened.
use Rattle.std.proofs.Common.{◌≡◌, ℕ, ◌+◌, ◌<◌, ◌≤◌, ℤ, pos, negsuc, true, ◌&&◌, not, length, List, [], ◌∷◌, refl, ap, ◌∙◌, arith, zero, suc, get_or}
use Rattle.std.specs.Prelude.{is_none, nat_lt, nat_le, slice_index_or, replicate, fold, Some}
use Rattle.std.specs.Bool.{IsTrue}
use Rattle.std.proofs.lemmas.Bool.{and_parts, and_from, false≢true}
use Rattle.std.proofs.lemmas.List.{length-replicate}
use Rattle.sim_types.specs.declared.event.EventId.{EventId}
use Rattle.sim_types.specs.declared.event.EventKind.TheVariants as kind
use Rattle.sim_types.specs.declared.event.Outcome.TheVariants as outcome
use Rattle.sim_types.specs.declared.setup.Class.{Class}
use Rattle.sim_types.specs.declared.setup.Class.TheVariants as class
use Rattle.sim_types.specs.declared.setup.Start.{Start}
use Rattle.sim_machine.specs.State.{EventOf, Calendar, State, Plan, Idle}
use Rattle.sim_machine.specs.Events.{event_at, is_pending, is_processed, pending_event, next_event}
use Rattle.sim_machine.specs.Triggering.{make}
use Rattle.sim_machine.specs.Processes.{make_events_of_process}
use Rattle.sim_machine.specs.Effect.{calendar}
use Rattle.sim_machine.specs.Runs.{first_calendar, blank_state, start_process}
use Rattle.sim_machine.specs.Tellings.{CodeFacts, is_class}
use Rattle.sim_machine.specs.BodyLaw.{may_start}
use Rattle.sim_machine.specs.Setups.{start_argument_fits, start_arguments_fit, start_fits, takes_one_number, port_fits}
use Rattle.sim_machine_law.proofs.Events.EventLaws.{change_event-other, make-length, make-old}
use Rattle.sim_machine_law.proofs.KeptParts.KeptRegistrations.{named_within}
use Rattle.sim_machine_law.proofs.KeptParts.KeptCapacities.{later_of_process}

-- the machine is idle at time 0, and each named event is there, pending and unprocessed
pub record Opens {B : Type 0} (g : Plan B) (s : State B) : Type 0 where
  pub time : (calendar s).time ≡ pos 0
  pub idle : s.control ≡ Idle
  pub named_made : g.setup.events < length (calendar s).events
  pub named : (h : EventId) → IsTrue (nat_lt 0 h.0 && nat_le h.0 g.setup.events) → IsTrue (is_pending (calendar s) h && not (is_processed (calendar s) h))

-- ---- no process was made

named_pending : (m n : ℕ) → (nat_lt 0 n && nat_le n m) ≡ true
    → (is_pending (first_calendar m) (record { 0 = n }) && not (is_processed (first_calendar m) (record { 0 = n }))) ≡ true
named_pending m zero h = absurd (false≢true h)
named_pending m (suc n) h = at m n
  where
    at : (m n : ℕ)
        → (is_none (get_or (replicate m (pending_event kind.Plain)) n (pending_event kind.Plain)).outcome
        && not (get_or (replicate m (pending_event kind.Plain)) n (pending_event kind.Plain)).processed)
        ≡ true
    at zero n = refl
    at (suc m) zero = refl
    at (suc m) (suc n) = at m n

pub blank_opens : {B : Type 0} (g : Plan B) → Opens g (blank_state g)
blank_opens g =
    let named : length (replicate g.setup.events (pending_event kind.Plain)) ≡ g.setup.events = length-replicate g.setup.events (pending_event kind.Plain) in
    record { time = refl; idle = refl; named_made = omega (arith, named); named = λ h k. named_pending g.setup.events h.0 k }

-- ---- a process is made

-- the events of a process that is made leave all others as they were
pub of_process_old : (c : Calendar) (f : EventId) → f.0 < length c.events → event_at (make_events_of_process c) f ≡ event_at c f
of_process_old c f h =
    let d : Calendar = make kind.Process c in
    let init : EventId = next_event d in
    let more : length d.events ≡ length c.events + 1 = make-length kind.Process c in
    change_event-other init f (λ y. record y { outcome = Some (outcome.Ok (pos 0)) }) (make kind.Init d) (λ same. omega (arith, h, more, same)) ∙ (make-old kind.Init d f (omega (arith, h, more)) ∙ make-old kind.Process c f h)

pub of_process_longer : (c : Calendar) → length c.events ≤ length (make_events_of_process c).events
of_process_longer c = (later_of_process c).longer

pub started_opens : {B : Type 0} (g : Plan B) (s : State B) (x : Start) → Opens g s → Opens g (start_process g s x)
started_opens g s x o =
    let c : Calendar = calendar s in
    let all_named : g.setup.events < length c.events = o.named_made in
    record {
      time = o.time;
      idle = o.idle;
      named_made = omega (arith, all_named, of_process_longer c);
      named = λ h k. ap (λ (y : EventOf). is_none y.outcome && not y.processed) (of_process_old c h (omega (arith, all_named, named_within h.0 g.setup.events k))) ∙ o.named h k;
    }

-- ---- any number of processes are made

pub all_started_opens : {B : Type 0} (g : Plan B) (xs : List Start) (s : State B) → Opens g s → Opens g (fold (start_process g) s xs)
all_started_opens g [] s o = o
all_started_opens g (x ∷ xs) s o = all_started_opens g xs (start_process g s x) (started_opens g s x o)

-- once all that run from the start are made, what is to stop the run may be set
pub starts_open : {B : Type 0} (g : Plan B) → Opens g (fold (start_process g) (blank_state g) g.setup.starts)
starts_open g = all_started_opens g g.setup.starts (blank_state g) (blank_opens g)

-- ---- what fits at the start may be started

negative_fits : (named : ℕ) (c : Class) (n : ℕ) → start_argument_fits named c (negsuc n) ≡ true → is_class c class.Number ≡ true
negative_fits named class.Number n h = refl
negative_fits named class.Event n h = h
negative_fits named class.Cond n h = h
negative_fits named class.Proc n h = h
negative_fits named class.Request n h = h
negative_fits named class.Move n h = h

arguments_may_start : (named : ℕ) (cs : List Class) (vs : List ℤ) → start_arguments_fit named cs vs ≡ true → may_start cs vs ≡ true
arguments_may_start named [] [] h = refl
arguments_may_start named [] (v ∷ vs) h = absurd (false≢true h)
arguments_may_start named (c ∷ cs) [] h = absurd (false≢true h)
arguments_may_start named (c ∷ cs) (pos n ∷ vs) h = arguments_may_start named cs vs (and_parts _ _ h).1
arguments_may_start named (c ∷ cs) (negsuc n ∷ vs) h = and_from _ _ (negative_fits named c n (and_parts _ _ h).0) (arguments_may_start named cs vs (and_parts _ _ h).1)

-- a process that runs from the start may be made
pub start_fits_starts : (f : CodeFacts) (x : Start) → IsTrue (start_fits f x)
    → IsTrue (nat_lt x.kind (length f.params) && may_start (slice_index_or f.params x.kind []) x.args)
start_fits_starts f x h = and_from _ _ (and_parts _ _ h).0 (arguments_may_start f.named (slice_index_or f.params x.kind []) x.args (and_parts _ _ h).1)

one_number_starts : (cs : List Class) (v : ℤ) → takes_one_number cs ≡ true → may_start cs (v ∷ []) ≡ true
one_number_starts [] v h = absurd (false≢true h)
one_number_starts (c ∷ []) (pos n) h = refl
one_number_starts (c ∷ []) (negsuc n) h = and_from _ _ h refl
one_number_starts (c ∷ d ∷ cs) v h = absurd (false≢true h)

-- and so may one that a port starts with a value
pub port_fits_starts : (f : CodeFacts) (k : ℕ) (value : ℤ) → IsTrue (port_fits f k)
    → IsTrue (nat_lt k (length f.params) && may_start (slice_index_or f.params k []) (value ∷ []))
port_fits_starts f k value h = and_from _ _ (and_parts _ _ h).0 (one_number_starts (slice_index_or f.params k []) value (and_parts _ _ h).1)
