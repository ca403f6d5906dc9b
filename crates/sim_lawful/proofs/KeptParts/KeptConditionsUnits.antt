-- Each unit keeps conditions lawful.
use Rattle.std.proofs.Common.{◌≡◌, ℕ, ℤ, pos, Bool, true, false, List, [], ◌∷◌, length, refl, sym, subst, if◌then◌else◌, arith, zero, suc, Option, Some, None, ap}
use Rattle.std.specs.Prelude.{IsTrue, nat_lt, nat_le, ◌==◌, ◌&&◌, ◌||◌, is_some, not, replicate, slice_index_or}
use Rattle.std.proofs.lemmas.Bool.{false≢true}
use Rattle.sim_types.specs.declared.event.EventId.{EventId}
use Rattle.sim_types.specs.declared.event.ProcId.{ProcId}
use Rattle.sim_types.specs.declared.event.Outcome.{Outcome}
use Rattle.sim_types.specs.declared.event.Signal.{Signal}
use Rattle.sim_types.specs.declared.event.Entry.{Entry}
use Rattle.sim_types.specs.declared.event.Callback.{Callback}
use Rattle.sim_types.specs.declared.event.EventKind.TheVariants as kind
use Rattle.sim_types.specs.declared.event.Callback.TheVariants as callback
use Rattle.sim_types.specs.declared.line.End.TheVariants as end
use Rattle.sim_types.specs.declared.setup.Until.{Until}
use Rattle.sim_machine.specs.State.{ConditionOf, Calendar, ProcessOf, Control, Idle, Calling, Active, Over, State, Plan}
use Rattle.sim_machine.specs.Events.{event_at, is_pending, is_processed, next_event, pending_event}
use Rattle.sim_machine.specs.Agenda.{due}
use Rattle.sim_machine.specs.Triggering.{normal}
use Rattle.sim_machine.specs.Scopes.{on_events}
use Rattle.sim_machine.specs.Processes.{process_at, with_body, event_of, rest, make_process, end_process}
use Rattle.sim_machine.specs.Effect.{calendar}
use Rattle.sim_machine.specs.Steps.{pop_entry, resume, call, settle, signal_by, end_at, is_crash}
use Rattle.sim_machine.specs.Runs.{blank_state, set_stop, first_calendar, event_zero}
use Rattle.sim_machine.specs.Tellings.{Telling, CodeFacts}
use Rattle.sim_machine.specs.BodyLaw.{IsLawfulStart, may_start, scopes_told}
use Rattle.sim_machine.specs.Setups.{FitsCode, until_fits}
use Rattle.sim_machine.specs.Conditions.{condition_of}
use Rattle.sim_machine.specs.Standing.{left_of, one_if}
use Rattle.sim_machine.specs.LawfulConditions.{is_below_all, is_empty, needs_build}
use Rattle.sim_machine_law.proofs.KeptParts.KeptConditions.{calls_less, calls_none, conditions_controlled, conditions_rested, older_alone}
use Rattle.sim_machine_law.proofs.KeptParts.KeptConditionsEvents.{HasConditions, conditions_failed_defused, resume_is_no_conditions, stop_is_no_conditions, conditions_process_made, conditions_stop_set, conditions_scheduled}
use Rattle.sim_machine_law.proofs.KeptParts.KeptConditionsPop.{conditions_popped}
use Rattle.sim_machine_law.proofs.KeptParts.LawfulBasis.{AreNamedPending, ConditionsBasis, LawfulBasis}

-- the conditions of a state whose control is known
at_control : {B : Type 0} (s : State B) (k : Control) → s.control ≡ k → HasConditions s → ConditionsBasis s.facilities.calendar k
at_control s k is h =
    let P : Control → Type 0 = λ j. ConditionsBasis s.facilities.calendar j in
    subst P is h

pub conditions-popped : {B : Type 0} (g : Plan B) (tell : Telling B) (sound : B → Type 0) (s : State B) (x : Entry)
    → s.control ≡ Idle → due (calendar s).agenda ≡ Some x → LawfulBasis g tell sound s → HasConditions (pop_entry x s)
conditions-popped g tell sound s x idle is_due h = conditions_popped x s.facilities.calendar is_due h.times (at_control s Idle idle h.conditions)

pub conditions-resumed : {B : Type 0} (g : Plan B) (tell : Telling B) (sound : B → Type 0) (s : State B) (e : EventId)
    (left : List Callback) (p : ProcId) → s.control ≡ Calling e (callback.Resume p ∷ left) → LawfulBasis g tell sound s
    → HasConditions (resume e left p s)
conditions-resumed g tell sound s e left p calling h =
    let c : Calendar = s.facilities.calendar in
    let x : Signal = signal_by (event_at c e).kind (event_at c e).outcome in
    conditions_failed_defused e c (Active e left p x) (conditions_controlled c (Calling e (callback.Resume p ∷ left)) (Active e left p x) (calls_less e (callback.Resume p) left (Active e left p x) (λ f. refl) refl (resume_is_no_conditions p)) (at_control s _ calling h.conditions))

pub conditions-stopped : {B : Type 0} (g : Plan B) (tell : Telling B) (sound : B → Type 0) (s : State B) (e : EventId)
    (left : List Callback) → s.control ≡ Calling e (callback.Stop ∷ left) → LawfulBasis g tell sound s
    → HasConditions (call g e callback.Stop left s)
conditions-stopped g tell sound s e left calling h =
    let over : Control = Over (end_at e s) e left in
    conditions_controlled s.facilities.calendar (Calling e (callback.Stop ∷ left)) over (calls_less e callback.Stop left over (λ f. refl) refl stop_is_no_conditions) (at_control s _ calling h.conditions)

none_after : (e : EventId) (b : Bool) → left_of (if b then Over end.Crash e [] else Idle) ≡ []
none_after e true = refl
none_after e false = refl

pub conditions-settled : {B : Type 0} (g : Plan B) (tell : Telling B) (sound : B → Type 0) (s : State B) (e : EventId)
    → s.control ≡ Calling e [] → LawfulBasis g tell sound s → HasConditions (settle e s)
conditions-settled g tell sound s e calling h =
    let after : Control = if is_crash e s then Over end.Crash e [] else Idle in
    conditions_controlled s.facilities.calendar (Calling e []) after (calls_none (Calling e []) after refl (none_after e (is_crash e s))) (at_control s _ calling h.conditions)

pub conditions-polled_end : {B : Type 0} (g : Plan B) (tell : Telling B) (sound : B → Type 0) (s : State B) (f : CodeFacts)
    (e : EventId) (left : List Callback) (p : ProcId) (x : Signal) (y : ProcessOf B) (b : B) (o : Outcome)
    → s.control ≡ Active e left p x → process_at p s ≡ Some y → sound b → LawfulBasis g tell sound s
    → IsTrue (length (scopes_told (tell.scopes y.body) (tell.last y.body) x) == 0)
    → HasConditions (rest (end_process p o (with_body p b s)))
conditions-polled_end g tell sound s f e left p x y b o active found sb h no_scopes =
    let c : Calendar = s.facilities.calendar in
    conditions_rested _ s.control (conditions_scheduled (event_of p) o normal (pos 0) c s.control h.conditions)

pub conditions-made_process : {B : Type 0} (g : Plan B) (tell : Telling B) (sound : B → Type 0) (s : State B) (f : CodeFacts)
    (k : ℕ) (args : List ℤ) → IsTrue (nat_lt k (length f.params) && may_start (slice_index_or f.params k []) args)
    → IsLawfulStart f tell k args (record { 0 = (next_event (calendar s)).0 })
    (g.start k args (record { 0 = (next_event (calendar s)).0 }))
    → sound (g.start k args (record { 0 = (next_event (calendar s)).0 })) → LawfulBasis g tell sound s
    → HasConditions (make_process g k args s)
conditions-made_process g tell sound s f k args may start sb h = conditions_process_made s.facilities.calendar s.control h.conditions

-- none of the first events is a condition
first_are_none : (n m : ℕ) → (slice_index_or (replicate n (pending_event kind.Plain)) m (pending_event kind.Plain)).condition ≡ None
first_are_none zero m = refl
first_are_none (suc n) zero = refl
first_are_none (suc n) (suc m) = first_are_none n m

first_is_none : (named m : ℕ) → (slice_index_or (event_zero ∷ replicate named (pending_event kind.Plain)) m (pending_event kind.Plain)).condition ≡ None
first_is_none named zero = refl
first_is_none named (suc m) = first_are_none named m

none_needs_build : (c : Calendar) (e : EventId) → (event_at c e).condition ≡ None → needs_build c e ≡ false
none_needs_build c e h = ap (λ (o : Option ConditionOf). is_some o && not (is_processed c e) && not (is_empty (condition_of o).members)) h

pub conditions-blank : {B : Type 0} (g : Plan B) (tell : Telling B) (sound : B → Type 0) (f : CodeFacts) → FitsCode f g.setup → HasConditions (blank_state g)
conditions-blank g tell sound f fits =
    let c : Calendar = first_calendar g.setup.events in
    let none : (e : EventId) → (event_at c e).condition ≡ None = λ e. first_is_none g.setup.events e.0 in
    record {
      members = λ e made. older_alone c e (ap (λ (o : Option ConditionOf). (condition_of o).members) (none e));
      counts = λ e. ap (λ (o : Option ConditionOf). not (is_some o && is_pending c e) || is_below_all (condition_of o)) (none e);
      checks = λ cond e. omega arith;
      unbuilt = λ cond e some. absurd (false≢true some);
      builds = λ cond. sym (ap one_if (none_needs_build c cond (none cond)));
      first = λ cond. ap (λ (b : Bool). not b || false) (none_needs_build c cond (none cond));
      left = λ cond. refl;
    }

pub conditions-set_stop : {B : Type 0} (g : Plan B) (tell : Telling B) (sound : B → Type 0) (s : State B) (until : Until)
    → IsTrue (until_fits g.setup.events until)
    → AreNamedPending g s
    → (calendar s).time ≡ pos 0 → s.control ≡ Idle → LawfulBasis g tell sound s
    → HasConditions (on_events (set_stop until) s)
conditions-set_stop g tell sound s until fits named start idle h = conditions_stop_set until s.facilities.calendar s.control h.conditions
