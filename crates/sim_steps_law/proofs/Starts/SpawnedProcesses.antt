-- A process that another one makes is the one that the machine makes.
use Rattle.std.proofs.Common.{◌≡◌, ℕ, ℤ, ◌<◌, ◌≤◌, ◌^◌, pos, negsuc, ◌≤ℤ◌, Bool, true, false, List, [], ◌∷◌, length, refl, sym, ap, subst, ◌∙◌, map, Some, None, cond, arith}
use Rattle.std.specs.Prelude.{All, if◌then◌else◌, ◌==◌, nat_lt, int_lt, slice_index_or}
use Rattle.std.proofs.lemmas.Bool.{and_from, and_parts}
use Rattle.std.proofs.lemmas.Bool.Decides.{nat_tests}
use Rattle.std.proofs.lemmas.Int.{ints}
use Rattle.std.proofs.lemmas.List.Elements.{All-head, All-tail, All-weaker}
use Rattle.std.proofs.lemmas.List.Sorted.{All-permutation}
use Rattle.sim_types.specs.declared.event.EventId.{EventId}
use Rattle.sim_types.specs.declared.event.ProcId.{ProcId}
use Rattle.sim_types.specs.declared.event.Signal.{Signal}
use Rattle.sim_types.specs.declared.event.Signal.TheVariants as signal
use Rattle.sim_types.specs.declared.setup.Class.{Class}
use Rattle.sim_types.specs.declared.setup.Class.TheVariants as class
use Rattle.sim_types.specs.declared.op.Op.{Op}
use Rattle.sim_types.specs.declared.op.Op.TheVariants as op
use Rattle.sim_machine.specs.State.{ProcessOf, State, Plan}
use Rattle.sim_machine.specs.Processes.{make_process, tell, told_more}
use Rattle.sim_machine.specs.Effect.{calendar, effect}
use Rattle.sim_machine.specs.Bodies.{BodyOf}
use Rattle.sim_machine.specs.BodyLaw.{may_start}
use Rattle.sim_machine.specs.MayAsk.{arguments_fit}
use Rattle.sim_machine.specs.NumberBounds.{most_events, arguments_within_bound}
use Rattle.sim_machine.specs.Setups.{FitsCode}
use Rattle.sim_machine_law.specs.NamedEvents.{arguments_name}
use Rattle.sim_lawful.proofs.Polls.SpawnedPlaces.{spawned_starts}
use Rattle.sim_machine.specs.LawfulProcesses.{is_living_well}
use Rattle.sim_machine_law.proofs.KeptParts.KeptProcessesParts.{lives_well}
use Rattle.sim_procs.specs.Premises.{CanBegin}
use Rattle.sim_procs.specs.RecordOf.{RecordOf, record_of, change_record}
use Rattle.sim_happen_model.specs.TableOf.{AreNeeded, IsKept}
use Rattle.sim_happen_law.proofs.Shown.KeptPlaces.{kept_made}
use Rattle.sim_happen_law.proofs.Changes.NewEvents.{next_is}
use Rattle.sim_steps_model.specs.PartsOf.{PartsOf, IsRunning, plan_of}
use Rattle.sim_steps_model.specs.StandsFor.{StandsForSome, process_of}
use Rattle.sim_steps_model.specs.Becoming.{BecomesWith}
use Rattle.sim_steps_model.specs.Polling.{Asks, NamesKept}
use Rattle.sim_steps_model.specs.Opening.{AreArgumentsKept, most_begun, next_process}
use Rattle.sim_steps_law.proofs.Kernels.Becoming.{becomes_then, becomes_as, becomes_told}
use Rattle.sim_steps_law.proofs.Kernels.KeptNames.{named_kept}
use Rattle.sim_steps_law.proofs.Starts.Starting.{none_of}
use Rattle.sim_steps_law.proofs.Kernels.Running.{KeepsLaw}
use Rattle.sim_steps_law.proofs.Polls.Naming.{asked_by}

-- ---- a process is made

-- and the one that made it is told its event
pub spawned_becomes : {B Code : Type 0} (body : BodyOf B Code) (a m n : PartsOf B Code) (p : ProcId) (k : ℕ) (args : List ℤ) (e : EventId) →
    BecomesWith body most_begun (make_process (plan_of body a) k args) a m → e.0 ≡ length a.shared.happen.events →
    n ≡ record m { control = told_more (signal.Made e) m.control } →
    BecomesWith body most_begun (effect (plan_of body a) p (op.Spawn k args)) a n
spawned_becomes {B} {Code} body a m n p k args e begins same is =
    let g : Plan B = plan_of body a in
    let makes : State B → State B = make_process g k args in
    subst (BecomesWith body most_begun (effect g p (op.Spawn k args)) a) (sym is)
    (becomes_as (λ s. tell (signal.Made e) (makes s)) (effect g p (op.Spawn k args)) a _
    (λ s h. ap (λ f. tell (signal.Made f) (makes s)) (sym (next_is a.shared.happen (calendar s) e same h.stands.facilities.calendar)))
    (becomes_then makes (tell (signal.Made e)) a m _ begins (becomes_told (signal.Made e) m)))

-- ---- the number of the process that is made next

-- no live process has it
pub next_is_none : {B Code : Type 0} (body : BodyOf B Code) (parts : PartsOf B Code) → StandsForSome body parts →
    record_of (next_process parts.shared.happen) parts.live ≡ None
next_is_none {B} body parts h =
    let s = h.state in
    let n = length parts.shared.happen.events in
    let P : ProcessOf B → Type 0 = λ x. x.id.0 < n in
    let older : All P s.processes =
    All-weaker (λ x. is_living_well s x ≡ true) P
    (λ x well. subst (λ m. x.id.0 < m) (sym h.stands.facilities.calendar.made) (lives_well s x well).made)
    s.processes h.lawful.processes.living in
    none_of (next_process parts.shared.happen) parts.live (All-permutation P s.processes (map process_of parts.live) h.stands.processes older)

-- nor has one of those whose records are changed
pub none_changed : {B : Type 0} (p q : ProcId) (change : RecordOf B → RecordOf B) → ((r : RecordOf B) → (change r).id ≡ r.id) →
    (live : List (RecordOf B)) → record_of q live ≡ None → record_of q (change_record p change live) ≡ None
none_changed p q change ids [] h = refl
none_changed {B} p q change ids (r ∷ live) h = at (r.id.0 == q.0) (r.id.0 == p.0) refl h (none_changed p q change ids live)
  where
    same : (b : Bool) → (if b then change r else r).id ≡ r.id
    same true = ids r
    same false = refl

    at : (b c : Bool) → (r.id.0 == q.0) ≡ b → cond b (Some r) (record_of q live) ≡ None →
        (record_of q live ≡ None → record_of q (change_record p change live) ≡ None) →
        cond ((if c then change r else r).id.0 == q.0) (Some (if c then change r else r)) (record_of q (change_record p change live)) ≡ None
    at true c is none later = absurd (cc)
    at false c is none later = rw (same c, is) (later none)

-- ---- what is known of a process that a polled one asks for

-- events that were made are within the bound of events
within_bound : (n : ℕ) → n ≤ 2 ^ 62 → (cs : List Class) (vs : List ℤ) → All (λ e. e.0 < n) (arguments_name cs vs) →
    arguments_within_bound cs vs ≡ true
within_bound n few [] vs h = refl
within_bound n few (class.Number ∷ cs) [] h = refl
within_bound n few (class.Number ∷ cs) (v ∷ vs) h = within_bound n few cs vs h
within_bound n few (c ∷ cs) [] h = refl
within_bound n few (c ∷ cs) (pos m ∷ vs) h =
    let e : EventId = record { 0 = m } in
    let P : EventId → Type 0 = λ f. f.0 < n in
    let here : m < n = All-head P e (arguments_name cs vs) h in
    and_from (int_lt (pos m) (pos most_events)) (arguments_within_bound cs vs)
    (below m (omega (arith, here, few))) (within_bound n few cs vs (All-tail P e (arguments_name cs vs) h))
  where
    below : (k : ℕ) → k < 2 ^ 62 → int_lt (pos k) (pos most_events) ≡ true
    below k h = grind (arith, ints, nat_tests)
within_bound n few (c ∷ cs) (negsuc m ∷ vs) h = within_bound n few cs vs h

module _ {B Code : Type 0} (body : BodyOf B Code) (old mid : PartsOf B Code) (p : ProcId) (told : Signal) (asked : Op) where
  -- the number of the process that is made next is that of none
  pub spawned_none : StandsForSome body old → Asks body p told old asked mid → record_of (next_process mid.shared.happen) mid.live ≡ None
  spawned_none h a =
      let next : next_process mid.shared.happen ≡ next_process old.shared.happen =
      ap (λ (n : ℕ). let q : ProcId = record { 0 = n } in q) a.takes.made in
      ap (λ q. record_of q mid.live) next
      ∙ (ap (λ (k : PartsOf B Code). record_of (next_process old.shared.happen) k.live) a.others
      ∙ none_changed p (next_process old.shared.happen) (λ r. record r { body = a.later }) (λ r. refl) old.live (next_is_none body old h))

  -- it is a time of the machine
  pub polled_time : StandsForSome body old → Asks body p told old asked mid → mid.shared.happen.time ≤ℤ pos (2 ^ 62)
  polled_time h a = rw (a.takes.time, h.stands.facilities.calendar.time) h.lawful.times.in_limit

-- a process of this kind may begin with these arguments
pub spawned_can_begin : {B Code : Type 0} (body : BodyOf B Code) (old mid : PartsOf B Code) (event : EventId) (p : ProcId) (told : Signal)
    (k : ℕ) (args : List ℤ) → StandsForSome body old → AreNeeded old.shared.happen.events → FitsCode (body.facts old.code) old.setup →
    KeepsLaw body old.code → length old.shared.happen.events < 2 ^ 62 → IsRunning event p told old.control →
    Asks body p told old (op.Spawn k args) mid →
    NamesKept (body.facts old.code) (op.Spawn k args) mid → CanBegin (body.facts old.code) k args
spawned_can_begin body old mid event p told k args h needed fits law few running a names =
    let f = body.facts old.code in
    let cs : List Class = slice_index_or f.params k [] in
    let y = asked_by body old h needed event p told fits law few running mid (op.Spawn k args) a in
    let own = (body.tell old.code).own y.2 in
    let places = (body.tell old.code).places y.2 in
    let asks = and_parts (nat_lt k (length f.params)) (arguments_fit f own places cs args) y.3.asks in
    let n : ℕ = length mid.shared.happen.events in
    record {
      fits = and_from (nat_lt k (length f.params)) (may_start cs args) asks.0 (spawned_starts f own places cs args asks.1);
      bound = within_bound n (omega (arith, few, a.takes.made)) cs args
          (All-weaker (IsKept mid.shared.happen.events) (λ e. e.0 < n)
          (λ e kept. kept_made mid.shared.happen.events e kept) (arguments_name cs args) names.kept);
    }

-- what they name is kept
pub spawned_kept : {B Code : Type 0} (body : BodyOf B Code) (old mid : PartsOf B Code) (p : ProcId) (told : Signal) (k : ℕ) (args : List ℤ) →
    StandsForSome body old →
    AreNeeded old.shared.happen.events → Asks body p told old (op.Spawn k args) mid → NamesKept (body.facts old.code) (op.Spawn k args) mid →
    AreArgumentsKept (body.facts old.code) k args mid.shared.happen.events
spawned_kept body old mid p told k args h needed a names =
    record { zero = a.takes.kept (record { 0 = 0 }) (named_kept body old h needed (record { 0 = 0 }) (omega arith)); named = names.kept }
