-- What is known where a process is to be started.
use Rattle.std.proofs.Common.{◌≡◌, ℕ, ◌+◌, ◌<◌, ◌≤◌, ℤ, pos, negsuc, true, false, ◌||◌, List, [], ◌∷◌, length, refl, arith, Some, None, map}
use Rattle.std.specs.Prelude.{All, ◌==◌, IsTrue, int_lt, nat_le, slice_index_or}
use Rattle.std.proofs.lemmas.Bool.{false≢true, and_parts, and_from}
use Rattle.std.proofs.lemmas.Bool.Decides.{nat_tests}
use Rattle.std.proofs.lemmas.Int.{ints}
use Rattle.std.proofs.lemmas.List.Elements.{All-cons, All-head, All-tail, All-nil}
use Rattle.std.proofs.lemmas.List.Sorted.{IsPermutation-refl}
use Rattle.sim_types.specs.declared.event.EventId.{EventId}
use Rattle.sim_types.specs.declared.event.ProcId.{ProcId}
use Rattle.sim_types.specs.declared.event.EventKind.TheVariants as kind
use Rattle.sim_types.specs.declared.event.Outcome.TheVariants as outcome
use Rattle.sim_types.specs.declared.setup.Class.{Class}
use Rattle.sim_types.specs.declared.setup.Class.TheVariants as class
use Rattle.sim_types.specs.declared.setup.Start.{Start}
use Rattle.sim_types.specs.declared.setup.Setup.{Setup}
use Rattle.sim_machine.specs.Tellings.{CodeFacts, is_class}
use Rattle.sim_machine.specs.NumberBounds.{most_events, arguments_within_bound}
use Rattle.sim_machine.specs.Setups.{FitsCode, start_argument_fits, start_arguments_fit, start_fits}
use Rattle.sim_machine.specs.State.{Calendar, ProcessOf, Idle}
use Rattle.sim_machine.specs.Events.{next_event}
use Rattle.sim_machine.specs.Triggering.{make}
use Rattle.sim_machine.specs.Processes.{make_events_of_process}
use Rattle.sim_machine.specs.Runs.{blank_state}
use Rattle.sim_machine.specs.RandomWords.{generator_of}
use Rattle.sim_machine_law.specs.NamedEvents.{arguments_name}
use Rattle.sim_machine_law.proofs.Events.EventLaws.{change_event-length, make-length}
use Rattle.sim_machine_law.proofs.KeptParts.KeptRegistrations.{named_within}
use Rattle.sim_lawful.proofs.Opening.OpeningLaws.{start_fits_starts}
use Rattle.sim_happen_model.specs.TableOf.{IsKept}
use Rattle.sim_procs.specs.Premises.{CanBegin}
use Rattle.sim_procs.specs.RecordOf.{RecordOf, record_of}
use Rattle.sim_shared_model.specs.ShowsAll.{ShowsAll}
use Rattle.sim_machine.specs.Bodies.{BodyOf}
use Rattle.sim_steps_model.specs.PartsOf.{PartsOf, plan_of}
use Rattle.sim_steps_model.specs.StandsFor.{StandsFor, process_of, scopes_of}
use Rattle.sim_steps_model.specs.Becoming.{IsOwing}
use Rattle.sim_steps_model.specs.Opening.{AreArgumentsKept, next_process, IsOpening}
use Rattle.sim_steps_law.proofs.Holders.CountedHolders.{owing_named, owing_zero}

-- ---- what is given at the start is within the bounds

below_most : (n : ℕ) → n ≤ 1024 → int_lt (pos n) (pos most_events) ≡ true
below_most n h = grind (arith, ints, nat_tests)

argument_within : (named : ℕ) (c : Class) (v : ℤ) → named ≤ 1024 → start_argument_fits named c v ≡ true →
    (is_class c class.Number || int_lt v (pos most_events)) ≡ true
argument_within named class.Number v few h = refl
argument_within named class.Event (pos n) few h = below_most n (omega (arith, few, named_within n named h))
argument_within named class.Event (negsuc n) few h = absurd (false≢true h)
argument_within named _ v few h = absurd (false≢true h)

arguments_within : (named : ℕ) (cs : List Class) (vs : List ℤ) → named ≤ 1024 → start_arguments_fit named cs vs ≡ true →
    arguments_within_bound cs vs ≡ true
arguments_within named [] vs few h = refl
arguments_within named (c ∷ cs) [] few h = refl
arguments_within named (c ∷ cs) (v ∷ vs) few h =
    and_from _ _ (argument_within named c v few (and_parts _ _ h).0) (arguments_within named cs vs few (and_parts _ _ h).1)

pub start_can_begin : (f : CodeFacts) (setup : Setup) (x : Start) → FitsCode f setup → IsTrue (start_fits f x) → CanBegin f x.kind x.args
start_can_begin f setup x fits h =
    let few : f.named ≤ 1024 = omega (arith, fits.events, fits.few_events) in
    record { fits = start_fits_starts f x h; bound = arguments_within f.named (slice_index_or f.params x.kind []) x.args few (and_parts _ _ h).1 }

-- what is given at the start names events that the setup names
start_names : (P : EventId → Type 0) (named : ℕ) (cs : List Class) (vs : List ℤ) → ((e : EventId) → e.0 ≤ named → P e) →
    start_arguments_fit named cs vs ≡ true →
    All P (arguments_name cs vs)
start_names P named [] vs each h = All-nil P
start_names P named (class.Number ∷ cs) [] each h = All-nil P
start_names P named (c ∷ cs) [] each h = All-nil P
start_names P named (class.Number ∷ cs) (v ∷ vs) each h = start_names P named cs vs each
    (and_parts (start_argument_fits named class.Number v) (start_arguments_fit named cs vs) h).1
start_names P named (class.Event ∷ cs) (pos n ∷ vs) each h =
    let parts = and_parts (start_argument_fits named class.Event (pos n)) (start_arguments_fit named cs vs) h in
    All-cons P (record { 0 = n }) (arguments_name cs vs)
    (each (record { 0 = n }) (named_within n named parts.0)) (start_names P named cs vs each parts.1)
start_names P named (c ∷ cs) (v ∷ vs) each h = absurd (false≢true h)

pub start_kept : {B Code : Type 0} {body : BodyOf B Code} (f : CodeFacts) (parts : PartsOf B Code) (x : Start) → FitsCode f parts.setup →
    IsTrue (start_fits f x) → IsOwing body [] parts →
    AreArgumentsKept f x.kind x.args parts.shared.happen.events
start_kept f parts x fits h owing =
    record {
      zero = owing_zero [] parts owing;
      named = start_names (IsKept parts.shared.happen.events) f.named (slice_index_or f.params x.kind []) x.args
          (λ e few. owing_named [] parts e (within e few fits.events) owing) (and_parts _ _ h).1;
    }
  where
    within : (e : EventId) → e.0 ≤ f.named → parts.setup.events ≡ f.named → nat_le e.0 parts.setup.events ≡ true
    within e few same = grind (arith, nat_tests)

-- ---- the process that is made next is not alive

pub none_of : {B : Type 0} (p : ProcId) (live : List (RecordOf B)) → All (λ x. x.id.0 < p.0) (map process_of live) → record_of p live ≡ None
none_of p [] h = refl
none_of {B} p (r ∷ live) h =
    let P : ProcessOf B → Type 0 = λ x. x.id.0 < p.0 in
    let here : r.id.0 < p.0 = All-head P (process_of r) (map process_of live) h in
    let other : (r.id.0 == p.0) ≡ false = grind (arith, nat_tests) in
    rw other (none_of p live (All-tail P (process_of r) (map process_of live) h))

pub next_not_alive : {B Code : Type 0} {body : BodyOf B Code} (parts : PartsOf B Code) → IsOpening body parts →
    record_of (next_process parts.shared.happen) parts.live ≡ None
next_not_alive parts h = none_of (next_process parts.shared.happen) parts.live h.older

-- ---- before any process is made

-- what a kernel has before any process is made stands for the blank state
pub blank_stands : {B Code : Type 0} (body : BodyOf B Code) (parts : PartsOf B Code) →
    ShowsAll parts.shared (blank_state (plan_of body parts)).facilities →
    parts.processed ≡ 0 → parts.generator ≡ generator_of parts.seed → parts.live ≡ [] → parts.control ≡ Idle →
    StandsFor parts (blank_state (plan_of body parts))
blank_stands body parts shown processed generator none idle =
    record {
      facilities = shown;
      processed = processed;
      generator = generator;
      processes = rw none (IsPermutation-refl []);
      scopes = rw none (All-nil (λ r. r.scopes ≡ scopes_of r.id (blank_state (plan_of body parts))));
      control = idle;
    }

-- ---- how many events are made

pub of_process_events : (c : Calendar) → length (make_events_of_process c).events ≡ length c.events + 2
of_process_events c =
    let d : Calendar = make kind.Process c in
    omega (
      arith,
      change_event-length (next_event d) (λ y. record y { outcome = Some (outcome.Ok (pos 0)) }) (make kind.Init d),
      make-length kind.Init d,
      make-length kind.Process c,
    )
