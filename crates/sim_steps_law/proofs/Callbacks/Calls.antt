-- Pops, calls of callbacks and the settling of an event are those of the machine.
use Rattle.std.proofs.Common.{◌≡◌, ◌≢◌, ℕ, ◌+◌, ◌<◌, ◌≤◌, Bool, true, false, arith, List, [], ◌∷◌, ◌++◌, length, refl, sym, ap, subst, ◌∙◌, Option, Some, None, if◌then◌else◌}
use Rattle.std.specs.Prelude.{◌&&◌, ◌||◌, ◌==◌, not, All, IsSome, slice_index_or}
use Rattle.std.proofs.lemmas.Bool.{and_parts, both_ways, eqb-false, eqb-true, false≢true, not-true}
use Rattle.std.proofs.lemmas.List.{append-nil}
use Rattle.sim_types.specs.declared.event.EventId.{EventId}
use Rattle.sim_types.specs.declared.event.Entry.{Entry}
use Rattle.sim_types.specs.declared.event.Callback.{Callback}
use Rattle.sim_types.specs.declared.event.Callback.TheVariants as callback
use Rattle.sim_types.specs.declared.line.Line.{Line}
use Rattle.sim_types.specs.declared.line.Line.TheVariants as line
use Rattle.sim_machine.specs.State.{EventOf, Calendar, Control, Idle, Calling, Active, Over, State, Plan}
use Rattle.sim_machine.specs.Agenda.{due, popped}
use Rattle.sim_machine.specs.Bodies.{BodyOf}
use Rattle.sim_machine.specs.Standing.{left_of, one_if}
use Rattle.sim_machine.specs.Events.{is_same}
use Rattle.sim_machine.specs.Processes.{defuse_failed}
use Rattle.sim_machine_law.proofs.Events.CallbackLaws.{count_by-one}
use Rattle.sim_types.specs.declared.event.ProcId.{ProcId}
use Rattle.sim_types.specs.declared.event.Signal.{Signal}
use Rattle.sim_types.specs.declared.line.End.{End}
use Rattle.sim_machine.specs.Events.{event_at, is_fail, is_pending, is_processed}
use Rattle.sim_machine.specs.Scopes.{on_events}
use Rattle.sim_machine.specs.Effect.{calendar, pass_on}
use Rattle.sim_machine.specs.Steps.{Turn, IsStepAt, IsStep, pop_entry, control_to, call, call_or_settle, is_crash, settle, signal_by}
use Rattle.sim_machine_law.proofs.RunLaws.WrittenLines.{call_writes}
use Rattle.sim_machine_law.proofs.Events.EventLaws.{same_event}
use Rattle.sim_machine_law.proofs.KeptParts.KeptInterruptionsParts.{passes_at}
use Rattle.sim_machine_law.proofs.KeptParts.KeptTimes.{due_made, due_triggered}
use Rattle.sim_machine.specs.LawfulWaiting.{is_cancelled_well, may_wait_kind}
use Rattle.sim_machine.specs.KeptEvents.{is_closed}
use Rattle.sim_types.specs.declared.line.End.TheVariants as end
use Rattle.sim_happen_model.specs.HappenOf.{HappenOf, one_more}
use Rattle.sim_happen_model.specs.Shows.{Shows, Follows, PopsEntry}
use Rattle.sim_happen_model.specs.TableOf.{Kept, IsKept, kept_at}
use Rattle.sim_happen_law.proofs.Changes.Following.{read_is}
use Rattle.sim_happen_model.specs.Seen.{seen}
use Rattle.sim_happen_law.proofs.Shown.SeenShown.{shows_seen}
use Rattle.sim_steps_model.specs.declared.mode.Unit.TheVariants as unit
use Rattle.sim_steps_model.specs.PartsOf.{PartsOf, IsCalling, plan_of, with_happen}
use Rattle.sim_steps_model.specs.StandsFor.{StandsFor, LawfulOf}
use Rattle.sim_steps_model.specs.Becoming.{Stands, Becomes, BecomesOwing, BecomesWith, IsOwing, Moves, most_held}
use Rattle.sim_procs.specs.RecordOf.{RecordOf, record_of}
use Rattle.sim_steps_model.specs.Calling.{called, events_left, target_in, CallsKept, TakesCallback}
use Rattle.sim_happen_model.specs.Holders.{HasOwnHolder, PassesOn, unheld}
use Rattle.sim_happen_model.specs.Accounts.{Balanced, AreGoneClosed}
use Rattle.sim_happen_model.specs.HolderChanges.{StatesTrade}
use Rattle.sim_happen_model.specs.Naming.{but_zero, held_alone, triggered_by}
use Rattle.sim_accounts.proofs.Balancing.{held_balanced, held_gone, trades_balanced}
use Rattle.sim_accounts.proofs.CalendarChanges.{after_popped, none_popped, plainly_defused_failed, plainly_passed}
use Rattle.sim_accounts.proofs.Counts.{is_same-swap}
use Rattle.sim_accounts.proofs.Quiet.{called_trade, settled_trade}
use Rattle.sim_accounts.proofs.StateChanges.{popped_trade, processed_trade}
use Rattle.sim_steps_model.specs.StandsFor.{Balances}
use Rattle.sim_steps_law.proofs.Kernels.Keeping.{adds_one_more, none_is_few, few_by, few_same, few_more}
use Rattle.sim_steps_law.proofs.Kernels.Accounting.{other_is, owing_after, owing_holder, owing_besides, owing_by, stay_stated, zero_is}
use Rattle.sim_steps_law.proofs.Kernels.Becoming.{lawful_stands, becomes_then, becomes_as, becomes_followed, becomes_none, no_fewer, owing_controlled, shown_with}
use Rattle.sim_steps_law.proofs.Holders.Holding.{returning_any, returning_owes}

-- what comes next is what the control says
pub at_control : {B : Type 0} (g : Plan B) (turn : Turn B) (s t : State B) (c : Control) → c ≡ s.control → IsStepAt g turn s t c → IsStep g turn s t
at_control g turn s t c h step = subst (λ d. IsStepAt g turn s t d) h step

-- ---- the pop

-- the event of the entry that is due is kept: it is not closed. It is not event 0, which is processed
record IsDueOpen (c : Calendar) (e : EventId) : Type 0 where
  unclosed : is_closed c e ≡ false
  made : e.0 < length c.events
  other : e.0 ≢ 0

due_open : {B Code : Type 0} (body : BodyOf B Code) (a : PartsOf B Code) (s : State B) (x : Entry) → LawfulOf body a s →
    due (calendar s).agenda ≡ Some x →
    IsDueOpen (calendar s) x.event
due_open body a s x h is =
    let c : Calendar = calendar s in
    let e : EventId = x.event in
    let parts = and_parts (not (is_pending c e)) (not (is_processed c e)) (due_triggered x c is h.times) in
    let unprocessed : is_processed c e ≡ false = not-true (is_processed c e) parts.1 in
    let uncancelled : (event_at c e).cancelled ≡ false =
    never (event_at c e).cancelled (may_wait_kind (event_at c e).kind) (is_pending c e)
    (passes_at is_cancelled_well c e refl h.waiting.cancelled) (not-true (is_pending c e) parts.0) in
    record {
      unclosed = rw (unprocessed, uncancelled) refl;
      made = due_made x c is h.times;
      other = λ none.
          let same : e ≡ record { 0 = 0 } = same_event e (record { 0 = 0 }) none in
          both_ways (is_processed c e) unprocessed (subst (λ f. is_processed c f ≡ true) (sym same) h.processes.zero_processed);
    }
  where
    never : (cancelled waits pending : Bool) → (not cancelled || waits && pending) ≡ true → pending ≡ false → cancelled ≡ false
    never false waits pending h k = refl
    never true waits pending h k = absurd (both_ways pending k (and_parts waits pending h).1)

unclosed_kept : (es : List (Option Kept)) (c : Calendar) (e : EventId) → AreGoneClosed es c → e.0 < length es → is_closed c e ≡ false → IsKept es e
unclosed_kept es c e gone made unclosed = go (slice_index_or es e.0 None) refl
  where
    go : (o : Option Kept) → slice_index_or es e.0 None ≡ o → IsSome o
    go None is = absurd (false≢true (sym unclosed ∙ gone.each e made is))
    go (Some k) is = refl

module _ {B Code : Type 0} (body : BodyOf B Code) (a n : PartsOf B Code) (x : Entry) (l : Line) (y : HappenOf) (idle : a.control ≡ Idle)
    (p : PopsEntry x l a.shared.happen y) (is : n ≡ record (with_happen y a) { processed = a.processed + 1; control = Calling x.event y.left }) where
  abbrev m : PartsOf B Code
  m = record (with_happen y a) { processed = a.processed + 1; control = Calling x.event y.left }

  popped_stands : (s : State B) → StandsFor a s → StandsFor m (pop_entry x s)
  popped_stands s st = record {
    facilities = shown_with a.shared y s.facilities (popped x (calendar s))
        (no_fewer 1 (one_more x.event) a.shared.happen y (adds_one_more x.event) p.held) (p.each (calendar s) st.facilities.calendar) st.facilities;
    processed = ap (λ n. n + 1) st.processed;
    generator = st.generator;
    processes = st.processes;
    scopes = st.scopes;
    control = ap (λ left. Calling x.event left) (p.calls (calendar s) st.facilities.calendar);
  }

  -- the event is held from then on
  popped_accounts : (s : State B) → LawfulOf body a s → StandsFor a s → Balances body [] a s → Balances body [] m (pop_entry x s)
  popped_accounts s h st k =
      let c : Calendar = calendar s in
      let d : Calendar = popped x c in
      let old : Shows a.shared.happen c = st.facilities.calendar in
      let new : Shows y d = p.each c old in
      let first = due_open body a s x h (p.due c old) in
      let kept : IsKept a.shared.happen.events x.event =
      unclosed_kept a.shared.happen.events c x.event k.gone (omega (arith, first.made, old.made)) first.unclosed in
      let was : EventId → ℕ = held_alone a.setup.events (body.tell a.code) s in
      let is_now : EventId → ℕ = held_alone a.setup.events (body.tell a.code) (pop_entry x s) in
      let table : Balanced was (x.event ∷ []) y.events =
      held_balanced a.shared.happen y c d old new (after_popped x c) (none_popped x c) x.event kept p.held was [] k.holders in
      let trade : StatesTrade a.setup.events (body.tell a.code) (but_zero (x.event ∷ [])) [] s (pop_entry x s) =
      popped_trade a.setup.events (body.tell a.code) s x (sym st.control ∙ idle) in
      record {
        holders = trades_balanced (x.event ∷ []) [] [] was is_now y.events
            (subst (λ gained. StatesTrade a.setup.events (body.tell a.code) gained [] s (pop_entry x s)) (other_is x.event first.other) trade) table;
        gone = held_gone a.shared.happen y c d old new (after_popped x c) (none_popped x c) x.event kept p.held k.gone;
      }

  pub popped_moves : Moves body a (unit.Line l) n
  popped_moves =
      subst (λ (n : PartsOf B Code). Moves body a (unit.Line l) n) (sym is)
      (record {
        each = λ s h st. record {
          state = pop_entry x s;
          stepped = at_control (plan_of body a) (body.turn a.code) s (pop_entry x s) Idle (sym idle ∙ st.control)
              (record { entry = x; is_due = p.due (calendar s) st.facilities.calendar; then_is = refl });
          stands = popped_stands s st;
          accounts = popped_accounts s h st;
          lines = ap (λ m. s.lines ++ m ∷ []) (sym (p.line (calendar s) st.facilities.calendar));
        };
        opened = record { code = refl; setup = refl; seed = refl };
        few = few_more 1 most_held a m (omega arith) (few_by 1 (one_more x.event) a m (adds_one_more x.event) p.held);
      })

-- the event that a line tells of, if it does
abbrev told_event : Line → EventId
told_event (line.Event time number e o priority k) = e
told_event _ = record { 0 = 0 }

-- the line of an entry tells its event
pub told_of : (x : Entry) (l m : Line) (a y : HappenOf) → PopsEntry x l a y → l ≡ m → told_event m ≡ x.event
told_of x l m a y p same = ap told_event (sym same) ∙ ap told_event (p.line (seen a) (shows_seen a))

-- ---- the calls

pub called_moves : {B Code : Type 0} (body : BodyOf B Code) (more : ℕ) (a n : PartsOf B Code) (event : EventId) (left : List Callback) →
    a.control ≡ Calling event left →
    more ≤ most_held → BecomesWith body more (call_or_settle (plan_of body a) event left) a n → Moves body a unit.Quiet n
called_moves body more a n event left is few b =
    record {
      each = λ s h st. record {
        state = call_or_settle (plan_of body a) event left s;
        stepped = at_control (plan_of body a) (body.turn a.code) s
            (call_or_settle (plan_of body a) event left s) (Calling event left) (sym is ∙ st.control) refl;
        stands = (b.each s (lawful_stands body a s h st)).stands;
        accounts = b.accounts [] s (lawful_stands body a s h st);
        lines = call_writes (plan_of body a) event left s ∙ sym (append-nil s.lines);
      };
      opened = b.opened;
      few = few_more more most_held a n few b.few;
    }

-- the callback is taken out of those that are left to call, and what it passes an outcome on to is to be given back
pub becomes_taken : {B Code : Type 0} {body : BodyOf B Code} (a m : PartsOf B Code) (event : EventId) (x : Callback) → TakesCallback event x a m →
    BecomesOwing body [] (triggered_by x) 0 (control_to (Calling event m.shared.happen.left)) a m
becomes_taken {B} {Code} {body} a m event x t =
    let d : Control = Calling event m.shared.happen.left in
    let y : HappenOf = record a.shared.happen { left = m.shared.happen.left; spare = m.shared.happen.spare } in
    let b : PartsOf B Code = record (with_happen y a) { control = d } in
    let is : m ≡ b = t.others ∙ ap (λ (z : HappenOf). let c : PartsOf B Code = record (with_happen z a) { control = d } in c) t.happen in
    subst (BecomesOwing body [] (triggered_by x) 0 (control_to d) a) (sym is)
    (owing_by [] (triggered_by x) 0 (control_to d) a b
    (λ s h.
    let shows : Shows y (calendar s) = fewer_shows a.shared.happen y (calendar s) h.stands.facilities.calendar in
    record {
      stands = record {
        facilities = shown_with a.shared y s.facilities (calendar s) (omega arith) shows h.stands.facilities;
        processed = h.stands.processed;
        generator = h.stands.generator;
        processes = h.stands.processes;
        scopes = h.stands.scopes;
        control = refl;
      };
      distinct = h.distinct;
      owned = h.owned;
      apart = h.apart;
      entered = h.entered;
    })
    (record { code = refl; setup = refl; seed = refl }) (few_same a b refl)
    (λ s h. stay_stated a b s (control_to d s) refl refl)
    (λ s h. called_trade a.setup.events (body.tell a.code) s event x m.shared.happen.left (sym h.stands.control ∙ t.before)))
  where
    fewer_shows : (h y : HappenOf) (c : Calendar) → Shows h c → Shows (record h { left = y.left; spare = y.spare }) c
    fewer_shows h y c s =
        record { time = s.time; scheduled = s.scheduled; agenda = s.agenda; made = s.made; kept = s.kept; unmade = s.unmade }

-- what it names is kept as before
pub taken_names : {B Code : Type 0} (a m : PartsOf B Code) (event : EventId) (x : Callback) → TakesCallback event x a m → CallsKept x a →
    CallsKept x m
taken_names {B} {Code} a m event x t k =
    let live : m.live ≡ a.live = ap (λ (n : PartsOf B Code). n.live) t.others in
    record {
      kept = rw t.happen k.kept;
      left = subst (All (IsKept m.shared.happen.events)) (sym (same x live)) (rw t.happen k.left);
      not_cancelled = rw t.happen k.not_cancelled;
    }
  where
    same : (y : Callback) → m.live ≡ a.live → events_left y m ≡ events_left y a
    same (callback.Strike p) h = ap (λ (live : List (RecordOf B)). target_in (record_of p live)) h
    same _ h = refl

-- what a callback does is the same once it was taken out
call_after : {B : Type 0} (g : Plan B) (e : EventId) (x : Callback) (left : List Callback) (s : State B) →
    called g e x (control_to (Calling e left) s) ≡ call g e x left s
call_after g e (callback.Resume p) left s = refl
call_after g e (callback.Strike p) left s = refl
call_after g e (callback.Check cond) left s = refl
call_after g e (callback.Build cond) left s = refl
call_after g e (callback.TryPut res) left s = refl
call_after g e (callback.TryGet res) left s = refl
call_after g e callback.Stop left s = refl
call_after g e (callback.Trigger y) left s = refl

-- the first that is left is called
pub taken_moves : {B Code : Type 0} (body : BodyOf B Code) (a m n : PartsOf B Code) (event : EventId) (x : Callback) → TakesCallback event x a m →
    BecomesOwing body (triggered_by x) [] 0 (called (plan_of body m) event x) m n → Moves body a unit.Quiet n
taken_moves {B} {Code} body a m n event x t does =
    let g : Plan B = plan_of body a in
    let left : List Callback = m.shared.happen.left in
    let opened : plan_of body m ≡ g = rw t.others refl in
    let calls : BecomesOwing body (triggered_by x) [] 0 (called g event x) m n =
    subst (λ h. BecomesOwing body (triggered_by x) [] 0 (called h event x) m n) opened does in
    called_moves body 0 a n event (x ∷ left) t.before none_is_few
    (becomes_as (λ s. called g event x (control_to (Calling event left) s))
    (call_or_settle g event (x ∷ left)) a n (λ s h. call_after g event x left s)
    (becomes_then (control_to (Calling event left)) (called g event x) a m n (becomes_taken a m event x t) calls))

-- its callbacks are being called
pub calling_now : {B Code : Type 0} (a : PartsOf B Code) (event : EventId) (s : State B) → IsCalling event a.control → Stands a s →
    s.control ≡ Calling event (left_of s.control)
calling_now a event s calling h = called_is s.control event (subst (IsCalling event) h.stands.control calling)
  where
    called_is : (c : Control) (e : EventId) → IsCalling e c → c ≡ Calling e (left_of c)
    called_is Idle e h = absurd h
    called_is (Calling f left) e h = rw h refl
    called_is (Active f left p x) e h = absurd h
    called_is (Over why f left) e h = absurd h

-- a callback after which the event is still called
pub stays_calling : {B Code : Type 0} (g : Plan B) (a : PartsOf B Code) (event : EventId) (s : State B) → IsCalling event a.control → Stands a s →
    control_to (Calling event (left_of s.control)) s ≡ s
stays_calling g a event s calling h = ap (λ c. control_to c s) (sym (calling_now a event s calling h))

-- the event's outcome is passed on to another, which was held for this and is given back then
pub trigger_called : {B Code : Type 0} {body : BodyOf B Code} (g : Plan B) (a n : PartsOf B Code) (x : HappenOf) (event y : EventId) →
    IsCalling event a.control →
    IsKept a.shared.happen.events event → IsOwing body (y ∷ []) a →
    PassesOn (kept_at a.shared.happen.events event).event.outcome y a.shared.happen x →
    n ≡ with_happen x a → BecomesOwing body (y ∷ []) [] 0 (called g event (callback.Trigger y)) a n
trigger_called {B} {Code} {body} g a n x event y calling kept owing passes is =
    let o = (kept_at a.shared.happen.events event).event.outcome in
    let passed : State B → State B = on_events (pass_on o y) in
    let mid : PartsOf B Code = with_happen passes.passed a in
    let first : Becomes body passed a mid = becomes_followed (pass_on o y) a passes.passed (plainly_passed o y) passes.follows in
    let held_still : BecomesOwing body (y ∷ []) (y ∷ []) 0 passed a mid = owing_besides (y ∷ []) passed a mid first in
    subst (BecomesOwing body (y ∷ []) [] 0 (called g event (callback.Trigger y)) a) (sym is)
    (becomes_as passed (called g event (callback.Trigger y)) a (with_happen x a)
    (λ s h.
    let read : event_at (calendar s) event ≡ (kept_at a.shared.happen.events event).event =
    sym (read_is a.shared.happen (calendar s) event kept h.stands.facilities.calendar) in
    ap passed (sym (stays_calling g a event s calling h))
    ∙ ap (λ (z : EventOf). on_events (pass_on z.outcome y) (control_to (Calling event (left_of s.control)) s)) (sym read))
    (becomes_then passed (λ s. s) a mid (with_happen x a) held_still
    (returning_any y mid x (owing_after passed a mid held_still owing) passes.events passes.rest)))

-- ---- the event is settled, stops the run, or resumes a process

-- the event as the kernel keeps it
abbrev kept_now : {B Code : Type 0} → PartsOf B Code → EventId → EventOf
kept_now a event = (kept_at a.shared.happen.events event).event

event_now : {B Code : Type 0} (a : PartsOf B Code) (event : EventId) → IsKept a.shared.happen.events event → (s : State B) → Stands a s →
    event_at (calendar s) event ≡ kept_now a event
event_now a event kept s h = sym (read_is a.shared.happen (calendar s) event kept h.stands.facilities.calendar)

module _ {B Code : Type 0} {body : BodyOf B Code} (a n : PartsOf B Code) (event : EventId) (kept : IsKept a.shared.happen.events event) where
  -- all its callbacks were called
  pub settled_owes : (unhandled : Bool) → a.control ≡ Calling event [] →
      unhandled ≡ (is_fail (kept_now a event).outcome && not (kept_now a event).defused) →
      n ≡ record a { control = if unhandled then Over end.Crash event [] else Idle } →
      BecomesOwing body [] (but_zero (event ∷ [])) 0 (settle event) a n
  settled_owes unhandled done read is =
      let c : Control = if unhandled then Over end.Crash event [] else Idle in
      let ends : State B → State B = λ s. record s { control = c } in
      subst (BecomesOwing body [] (but_zero (event ∷ [])) 0 (settle event) a) (sym is)
      (becomes_as ends (settle event) a (record a { control = c }) (λ s h. ap (λ k. control_to k s) (crashed s h))
      (owing_controlled (but_zero (event ∷ [])) (λ k. c) a
      (λ s h. subst (StatesTrade a.setup.events (body.tell a.code) [] (but_zero (event ∷ [])) s) (sym (ap (λ k. control_to k s) (crashed s h)))
      (settled_trade a.setup.events (body.tell a.code) s event (sym h.stands.control ∙ done)))))
    where
      crashed : (s : State B) → Stands a s →
          (if unhandled then Over end.Crash event [] else Idle) ≡ (if is_crash event s then Over end.Crash event [] else Idle)
      crashed s h = ap (λ (b : Bool). if b then Over end.Crash event [] else Idle)
          (read ∙ ap (λ (y : EventOf). is_fail y.outcome && not y.defused) (sym (event_now a event kept s h)))

  -- it stops the run
  pub stopped_owes : (g : Plan B) (failed : Bool) → IsCalling event a.control → failed ≡ is_fail (kept_now a event).outcome →
      n ≡ record a { control = Over (if failed then end.Crash else end.Until) event (left_of a.control) } →
      BecomesOwing body [] (but_zero (event ∷ [])) 0 (called g event callback.Stop) a n
  stopped_owes g failed calling read is =
      let why : End = if failed then end.Crash else end.Until in
      let over : Control → Control = λ k. Over why event (left_of k) in
      let ends : State B → State B = λ s. record s { control = over s.control } in
      subst (BecomesOwing body [] (but_zero (event ∷ [])) 0 (called g event callback.Stop) a) (sym is)
      (becomes_as ends (called g event callback.Stop) a (record a { control = over a.control })
      (λ s h. ap (λ (b : Bool). control_to (Over (if b then end.Crash else end.Until) event (left_of s.control)) s)
      (read ∙ ap (λ (y : EventOf). is_fail y.outcome) (sym (event_now a event kept s h))))
      (owing_controlled (but_zero (event ∷ [])) over a (λ s h. over_trade s (calling_now a event s calling h) why)))
    where
      over_trade : (s : State B) → s.control ≡ Calling event (left_of s.control) → (why : End) →
          StatesTrade a.setup.events (body.tell a.code) [] (but_zero (event ∷ [])) s (record s { control = Over why event (left_of s.control) })
      over_trade s calling why =
          processed_trade a.setup.events (body.tell a.code) s (Over why event (left_of s.control)) [] (event ∷ [])
          (λ f. rw calling (omega (arith, count_by-one (is_same f) event, ap one_if (is_same-swap f event)))) (λ f. omega arith)

-- all its callbacks were called
module _ {B Code : Type 0} {body : BodyOf B Code} (a : PartsOf B Code) (event : EventId) (unhandled : Bool) (kept : IsKept a.shared.happen.events event)
    (done : a.control ≡ Calling event []) (read : unhandled ≡ (is_fail (kept_now a event).outcome && not (kept_now a event).defused)) (owing : IsOwing body [] a) where
  -- the event is not processed any more, and its holder still to be given back
  abbrev finished : PartsOf B Code
  finished = record a { control = if unhandled then Over end.Crash event [] else Idle }

  finished_owes : BecomesOwing body [] (but_zero (event ∷ [])) 0 (settle event) a finished
  finished_owes = settled_owes a finished event kept unhandled done read refl

  finished_owing : IsOwing body (but_zero (event ∷ [])) finished
  finished_owing = owing_after (settle event) a finished finished_owes owing

  pub settled_held : event.0 ≢ 0 → HasOwnHolder a.shared.happen.events event
  settled_held other = owing_holder event finished (subst (λ xs. IsOwing body xs finished) (other_is event other) finished_owing)

  -- it is, and its holder is given back
  pub settled_becomes : (m n : PartsOf B Code) → (event.0 ≡ 0 → m ≡ a) → (event.0 ≢ 0 → m.shared.happen.events ≡ unheld event a.shared.happen.events) →
      m ≡ with_happen (record a.shared.happen { events = m.shared.happen.events; spare = m.shared.happen.spare }) a →
      n ≡ record m { control = finished.control } → Becomes body (settle event) a n
  settled_becomes m n zero events rest is =
      becomes_then (settle event) (λ s. s) a finished n finished_owes
      (subst (λ (x : PartsOf B Code). BecomesOwing body (but_zero (event ∷ [])) [] 0 (λ s. s) finished x) (sym now) (go (event.0 == 0) refl))
    where
      x : HappenOf
      x = m.shared.happen

      others : x ≡ record a.shared.happen { events = x.events; spare = x.spare }
      others = ap (λ (y : PartsOf B Code). y.shared.happen) rest

      now : n ≡ with_happen x finished
      now = is ∙ ap (λ (y : PartsOf B Code). record y { control = finished.control }) rest ∙ ap (λ (y : HappenOf). with_happen y finished) (sym others)

      go : (b : Bool) → (event.0 == 0) ≡ b → BecomesOwing body (but_zero (event ∷ [])) [] 0 (λ s. s) finished (with_happen x finished)
      go true at =
          let none = eqb-true event.0 0 at in
          rw (zero_is event none, ap (λ (y : PartsOf B Code). y.shared.happen) (zero none)) (becomes_none finished)
      go false at =
          let other = eqb-false event.0 0 at in
          returning_owes event finished x other finished_owing (events other) others

-- a process that it resumes runs, and a failure that it is told of ends no run by itself
pub resumed_becomes : {B Code : Type 0} {body : BodyOf B Code} (g : Plan B)
    (a n : PartsOf B Code) (x : HappenOf) (event : EventId) (p : ProcId) (told : Signal) →
    IsCalling event a.control → IsKept a.shared.happen.events event →
    (let y = (kept_at a.shared.happen.events event).event in told ≡ signal_by y.kind y.outcome) → Follows (defuse_failed event) a.shared.happen x →
    n ≡ record (with_happen x a) { control = Active event (left_of a.control) p told } → Becomes body (called g event (callback.Resume p)) a n
resumed_becomes {B} {Code} {body} g a n x event p told calling kept read follows is =
    let defused : State B → State B = on_events (defuse_failed event) in
    let runs : Control → Control = λ k. Active event (left_of k) p told in
    subst (Becomes body (called g event (callback.Resume p)) a) (sym is)
    (becomes_as (λ s. let t : State B = defused s in record t { control = runs t.control }) (called g event (callback.Resume p)) a _
    (λ s h.
    let same : event_at (calendar s) event ≡ (kept_at a.shared.happen.events event).event =
    sym (read_is a.shared.happen (calendar s) event kept h.stands.facilities.calendar) in
    ap (λ (y : Signal). control_to (Active event (left_of s.control) p y) (defused s))
    (read ∙ ap (λ (y : EventOf). signal_by y.kind y.outcome) (sym same)))
    (becomes_then defused (λ t. record t { control = runs t.control }) a (with_happen x a) _
    (becomes_followed (defuse_failed event) a x (plainly_defused_failed event) follows)
    (owing_controlled [] runs (with_happen x a) (λ s h. still_processed s (calling_now (with_happen x a) event s calling h)))))
  where
    still_processed : (s : State B) → s.control ≡ Calling event (left_of s.control) →
        StatesTrade a.setup.events (body.tell a.code) [] [] s (record s { control = Active event (left_of s.control) p told })
    still_processed s is_calling =
        processed_trade a.setup.events (body.tell a.code) s (Active event (left_of s.control) p told)
        [] [] (λ f. rw is_calling (omega arith)) (λ f. omega arith)
