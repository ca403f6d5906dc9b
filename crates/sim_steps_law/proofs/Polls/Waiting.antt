-- A process waits for an event, or for a timeout that is made, as the machine has it.
use Rattle.std.proofs.Common.{◌≡◌, ◌≢◌, ◌+◌, ℤ, pos, ◌+ℤ◌, ◌^◌, List, [], ◌∷◌, Some, true, false}
use Rattle.std.proofs.Common.{refl, sym, ap, subst, ◌∙◌, arith}
use Rattle.std.specs.Option.{option_map}
use Rattle.std.specs.Prelude.{int_lt, length}
use Rattle.sim_types.specs.declared.event.EventId.{EventId}
use Rattle.sim_types.specs.declared.event.ProcId.{ProcId}
use Rattle.sim_types.specs.declared.event.EventKind.TheVariants as kind
use Rattle.sim_types.specs.declared.event.Callback.TheVariants as callback
use Rattle.sim_types.specs.declared.event.Outcome.TheVariants as outcome
use Rattle.sim_types.specs.declared.event.Signal.TheVariants as signal
use Rattle.sim_machine.specs.State.{EventOf, Calendar, State}
use Rattle.sim_machine.specs.Events.{event_at, is_processed, next_event, register}
use Rattle.sim_machine.specs.Triggering.{normal, make, make_timeout}
use Rattle.sim_machine.specs.Scopes.{on_events}
use Rattle.sim_machine.specs.Processes.{change_process, tell, rest, told_more, not_active, signal_of, defuse_failed, wait}
use Rattle.sim_machine.specs.Effect.{calendar, with_timeout}
use Rattle.sim_machine_law.proofs.Events.EventLaws.{change_event-keeps, make-new}
use Rattle.sim_procs.specs.RecordOf.{RecordOf, change_record, record_of}
use Rattle.sim_happen_model.specs.Naming.{but_zero}
use Rattle.sim_happen_model.specs.HolderChanges.{IsOnlyProcess}
use Rattle.sim_accounts.proofs.CalendarChanges.{plainly_defused_failed, plainly_registered, plainly_timeout}
use Rattle.sim_accounts.proofs.StateChanges.{waits_trade}
use Rattle.sim_happen_model.specs.TableOf.{IsKept, kept_at}
use Rattle.sim_happen_model.specs.HappenOf.{HappenOf, unheld_event, with_one_more}
use Rattle.sim_happen_model.specs.Shows.{Turns, Follows}
use Rattle.sim_happen_model.specs.Seen.{seen}
use Rattle.sim_happen_law.proofs.Changes.Following.{read_is, event_then, turns_held}
use Rattle.sim_happen_law.proofs.Changes.NewEvents.{kept_last, next_is}
use Rattle.sim_happen_law.proofs.Shown.SeenShown.{shows_seen}
use Rattle.sim_steps_model.specs.PartsOf.{PartsOf, KeepsButHappen, with_happen}
use Rattle.sim_steps_model.specs.Becoming.{Stands, Becomes, BecomesOwing}
use Rattle.sim_steps_model.specs.StandsFor.{process_of}
use Rattle.sim_steps_model.specs.Waiting.{MakesTimeout, RefusesTimeout}
use Rattle.sim_steps_law.proofs.Kernels.Accounting.{owing_besides, zero_is}
use Rattle.sim_steps_law.proofs.Kernels.Becoming.{becomes_then, becomes_as, becomes_followed, becomes_made, becomes_rested, becomes_told, becomes_within, owing_changed}
use Rattle.sim_steps_law.proofs.Holders.Holding.{holding_owes}
use Rattle.sim_steps_law.proofs.Kernels.Running.{process_found}
use Rattle.sim_machine.specs.Bodies.{BodyOf}

-- ---- to wait

-- the event is to resume the process
abbrev resumes : EventId → ProcId → Calendar → Calendar
resumes e p = register e (callback.Resume p)

-- it is held, too
module _ {B Code : Type 0} {body : BodyOf B Code} (a n : PartsOf B Code) (x : HappenOf) (e : EventId) (p : ProcId) (is : n ≡ with_happen x a) where
  pub registered_held_owes : e.0 ≢ 0 → IsKept a.shared.happen.events e → Follows (resumes e p) (with_one_more e a.shared.happen) x →
      BecomesOwing body [] (but_zero (e ∷ [])) 1 (on_events (resumes e p)) a n
  registered_held_owes other kept follows =
      let held : HappenOf = with_one_more e a.shared.happen in
      let b : PartsOf B Code = with_happen held a in
      subst (λ (m : PartsOf B Code). BecomesOwing body [] (but_zero (e ∷ [])) 1 (on_events (resumes e p)) a m) (sym is)
      (becomes_then (λ s. s) (on_events (resumes e p)) a b (with_happen x a)
      (holding_owes e a held other kept (turns_held a.shared.happen held e kept (record { time = refl; scheduled = refl; agenda = refl; left = refl }) refl))
      (owing_besides (but_zero (e ∷ [])) (on_events (resumes e p)) b (with_happen x a)
      (becomes_followed (resumes e p) b x (λ k. plainly_registered e (callback.Resume p) k refl) follows)))

  -- event 0 is not held
  pub registered_zero_owes : e.0 ≡ 0 → Follows (resumes e p) a.shared.happen x →
      BecomesOwing body [] (but_zero (e ∷ [])) 1 (on_events (resumes e p)) a n
  registered_zero_owes zero follows =
      subst (λ (m : PartsOf B Code). BecomesOwing body [] (but_zero (e ∷ [])) 1 (on_events (resumes e p)) a m) (sym is)
      (subst (λ xs. BecomesOwing body [] xs 1 (on_events (resumes e p)) a (with_happen x a)) (sym (zero_is e zero))
      (becomes_within 0 1 (on_events (resumes e p)) a (with_happen x a) (omega arith)
      (becomes_followed (resumes e p) a x (λ k. plainly_registered e (callback.Resume p) k refl) follows)))

-- a process waits for an event that is not processed: that is held and resumes it, and what it waited for is to be given back
pub waited_owes : {B Code : Type 0} {body : BodyOf B Code} (a b n : PartsOf B Code) (e : EventId) (p : ProcId) (r : RecordOf B)
    (left : EventId) → record_of p b.live ≡ Some r → r.target ≡ left →
    IsKept a.shared.happen.events e → (kept_at a.shared.happen.events e).event.processed ≡ false →
    BecomesOwing body [] (but_zero (e ∷ [])) 1 (on_events (resumes e p)) a b →
    n ≡ record b { live = change_record p (λ y. record y { target = e }) b.live; control = not_active b.control } →
    BecomesOwing body [] (but_zero (left ∷ [])) 1 (wait e p) a n
waited_owes {B} {Code} {body} a b n e p r left alive target kept unprocessed registers is =
    let gained : List EventId = but_zero (e ∷ []) in
    let lost : List EventId = but_zero (r.target ∷ []) in
    let registered : State B → State B = on_events (resumes e p) in
    let targeted : State B → State B = change_process p (λ y. record y { target = e }) in
    let c : PartsOf B Code = record b { live = change_record p (λ y. record y { target = e }) b.live } in
    let d : PartsOf B Code = record c { control = not_active c.control } in
    let found : (s : State B) → Stands b s → IsOnlyProcess p (process_of r) s = λ s h.
    record { found = process_found b s p h.distinct h.stands ∙ ap (λ o. option_map process_of o) alive; distinct = h.distinct } in
    let then_waits : BecomesOwing body gained lost 0 targeted b c =
    owing_changed gained lost p (λ y. record y { target = e }) (λ y. record y { target = e }) b (λ y. refl) (λ y. refl) (λ y. refl) (λ y. refl)
    (λ s h. waits_trade b.setup.events (body.tell b.code) s p (process_of r) e (found s h)) in
    let all : BecomesOwing body [] lost 1 (λ s. rest (targeted (registered s))) a d =
    becomes_then (λ s. targeted (registered s)) rest a c d (becomes_then registered targeted a b c registers then_waits)
    (owing_besides lost rest c d (becomes_rested c)) in
    let processed : (s : State B) → Stands a s → is_processed (calendar s) e ≡ false = λ s h.
    ap (λ (y : EventOf). y.processed) (sym (read_is a.shared.happen (calendar s) e kept h.stands.facilities.calendar)) ∙ unprocessed in
    subst (λ (t : EventId). BecomesOwing body [] (but_zero (t ∷ [])) 1 (wait e p) a n) target
    (subst (BecomesOwing body [] lost 1 (wait e p) a) (sym is)
    (becomes_as (λ s. rest (targeted (registered s))) (wait e p) a d (λ s h. rw (processed s h) refl) all))

-- a process is told at once of an event that is processed
pub told_at_once : {B Code : Type 0} {body : BodyOf B Code} (a n : PartsOf B Code) (x : HappenOf) (e : EventId) (p : ProcId) →
    IsKept a.shared.happen.events e →
    (kept_at a.shared.happen.events e).event.processed ≡ true → Follows (defuse_failed e) a.shared.happen x →
    n ≡ record (with_happen x a) { control = told_more (signal_of (kept_at a.shared.happen.events e).event.outcome) a.control } →
    Becomes body (wait e p) a n
told_at_once {B} {Code} {body} a n x e p kept processed follows is =
    let y : EventOf = (kept_at a.shared.happen.events e).event in
    let defused : State B → State B = on_events (defuse_failed e) in
    let b : PartsOf B Code = with_happen x a in
    let read : (s : State B) → Stands a s → event_at (calendar s) e ≡ y =
    λ s h. sym (read_is a.shared.happen (calendar s) e kept h.stands.facilities.calendar) in
    subst (Becomes body (wait e p) a) (sym is)
    (becomes_as (λ s. tell (signal_of y.outcome) (defused s)) (wait e p) a _
    (λ s h. rw (ap (λ (z : EventOf). z.processed) (read s h) ∙ processed, ap (λ (z : EventOf). z.outcome) (read s h)) refl)
    (becomes_then defused (tell (signal_of y.outcome)) a b _
    (becomes_followed (defuse_failed e) a x (plainly_defused_failed e) follows) (becomes_told (signal_of y.outcome) b)))

-- ---- to make a timeout

-- a timeout is not processed as soon as it is made
timeout_unprocessed : (delay value : ℤ) (c : Calendar) → is_processed (make_timeout delay value c) (next_event c) ≡ false
timeout_unprocessed delay value c =
    let d : Calendar = record (make kind.Timeout c) {
      scheduled = c.scheduled + 1;
      agenda = record { key = record { time = c.time +ℤ delay; priority = normal; number = c.scheduled }; event = next_event c } ∷ c.agenda;
    } in
    change_event-keeps (λ x. x.processed) (next_event c) (next_event c) (λ y. record y { outcome = Some (outcome.Ok value) }) d (λ x. refl)
    ∙ ap (λ (x : EventOf). x.processed) (make-new kind.Timeout c)

-- it is kept, and not processed
pub timeout_made : (a x : HappenOf) (e : EventId) (delay value : ℤ) → Turns (make_timeout delay value) unheld_event a x → e.0 ≡ length a.events →
    (kept_at x.events e).event.processed ≡ false
timeout_made a x e delay value t same =
    let kept : IsKept x.events e = kept_last a x e t.held same in
    let new : is_processed (make_timeout delay value (seen a)) e ≡ false =
    subst (λ f. is_processed (make_timeout delay value (seen a)) f ≡ false)
    (next_is a (seen a) e same (shows_seen a)) (timeout_unprocessed delay value (seen a)) in
    ap (λ (y : EventOf). y.processed) (event_then (make_timeout delay value) unheld_event a x e t kept) ∙ new

-- whether the delay is negative, or leads beyond the last time
in_time : {B : Type 0} (delay value : ℤ) (after : EventId → State B → State B) (s : State B) → int_lt delay (pos 0) ≡ false →
    int_lt (pos (2 ^ 62)) ((calendar s).time +ℤ delay) ≡ false →
    with_timeout delay value after s ≡ after (next_event (calendar s)) (on_events (make_timeout delay value) s)
in_time delay value after s h k = rw (h, k) refl

module _ {B Code : Type 0} {body : BodyOf B Code} (a : PartsOf B Code) (delay value : ℤ) where
  pub timeout_makes : (m : PartsOf B Code) (e : EventId) → int_lt delay (pos 0) ≡ false →
      int_lt (pos (2 ^ 62)) (a.shared.happen.time +ℤ delay) ≡ false →
      Turns (make_timeout delay value) unheld_event a.shared.happen m.shared.happen → e.0 ≡ length a.shared.happen.events →
      KeepsButHappen a m → MakesTimeout body delay value e a m
  timeout_makes m e positive soon made same is =
      let makes : State B → State B = on_events (make_timeout delay value) in
      let makes_it : Becomes body makes a m =
      subst (Becomes body makes a) (sym is) (becomes_made (make_timeout delay value) a m.shared.happen (plainly_timeout delay value) made) in
      record {
        each = λ more after last does.
            becomes_as (λ s. after e (makes s)) (with_timeout delay value after) a last
            (λ s h.
            let soon_too : int_lt (pos (2 ^ 62)) ((calendar s).time +ℤ delay) ≡ false =
            subst (λ t. int_lt (pos (2 ^ 62)) (t +ℤ delay) ≡ false) h.stands.facilities.calendar.time soon in
            ap (λ f. after f (makes s)) (sym (next_is a.shared.happen (calendar s) e same h.stands.facilities.calendar))
            ∙ sym (in_time delay value after s positive soon_too))
            (becomes_within (0 + more) more (λ s. after e (makes s)) a last (omega arith) (becomes_then makes (after e) a m last makes_it does));
        itself = makes_it;
        kept = kept_last a.shared.happen m.shared.happen e made.held same;
        unprocessed = timeout_made a.shared.happen m.shared.happen e delay value made same;
        others = is;
      }

  pub negative_refuses : (n : PartsOf B Code) → int_lt delay (pos 0) ≡ true → n ≡ record a { control = told_more (signal.Raised 1) a.control } →
      RefusesTimeout body delay value a n
  negative_refuses n negative is =
      record {
        each = λ after.
            subst (Becomes body (with_timeout delay value after) a) (sym is)
            (becomes_as (tell (signal.Raised 1)) (with_timeout delay value after) a _ (λ s h. rw negative refl) (becomes_told (signal.Raised 1) a));
      }

  pub late_refuses : (n : PartsOf B Code) → int_lt delay (pos 0) ≡ false → int_lt (pos (2 ^ 62)) (a.shared.happen.time +ℤ delay) ≡ true →
      n ≡ record a { control = told_more (signal.Raised 9) a.control } → RefusesTimeout body delay value a n
  late_refuses n positive late is =
      record {
        each = λ after.
            subst (Becomes body (with_timeout delay value after) a) (sym is)
            (becomes_as (tell (signal.Raised 9)) (with_timeout delay value after) a _
            (λ s h.
            let late_too : int_lt (pos (2 ^ 62)) ((calendar s).time +ℤ delay) ≡ true =
            subst (λ t. int_lt (pos (2 ^ 62)) (t +ℤ delay) ≡ true) h.stands.facilities.calendar.time late in
            rw (positive, late_too) refl)
            (becomes_told (signal.Raised 9) a));
      }
