-- What no change of the calendar undoes: an event keeps its kind, and is a condition exactly where it is one by its kind; what
-- was cancelled is pending, what is to wait at a resource waits, and only what may stop the run does.
use Rattle.std.proofs.Common.{◌≡◌, ◌≢◌, ◌<◌, ◌≤◌, ◌+◌, ℕ, ℤ, pos, true, false, List, [], ◌∷◌, length, Option, Some, None, refl, sym, subst, ap, ◌∙◌, ⊎_elim, arith}
use Rattle.std.specs.Prelude.{fold, is_some}
use Rattle.std.proofs.lemmas.Bool.{and_from, and_parts, both_ways, cases_eq, cases_lt, eqb-true, false≢true, ne_eqb, not_from_false, or_left, or_right}
use Rattle.sim_types.specs.declared.event.EventId.{EventId}
use Rattle.sim_types.specs.declared.event.ProcId.{ProcId}
use Rattle.sim_types.specs.declared.event.Entry.{Entry}
use Rattle.sim_types.specs.declared.event.EventKind.{EventKind}
use Rattle.sim_types.specs.declared.event.EventKind.TheVariants as kind
use Rattle.sim_types.specs.declared.event.Outcome.{Outcome}
use Rattle.sim_types.specs.declared.event.Outcome.TheVariants as outcome
use Rattle.sim_types.specs.declared.event.Throw.{Throw}
use Rattle.sim_types.specs.declared.event.Callback.{Callback}
use Rattle.sim_types.specs.declared.event.Callback.TheVariants as callback
use Rattle.sim_machine.specs.State.{AllOrAny, ConditionOf, EventOf, Calendar}
use Rattle.sim_machine.specs.Events.{cancel_event, event_at, is_fail, is_pending, is_processed, pending_event, next_event, change_event, defuse, register, unregister}
use Rattle.sim_machine.specs.Agenda.{popped}
use Rattle.sim_machine.specs.Triggering.{urgent, normal, make, schedule, trigger, make_timeout, make_interruption}
use Rattle.sim_machine.specs.Conditions.{condition_of, is_condition, change_condition, most_weight, count_member, check, join_member, make_condition, take_checks_within, value_of, fix_value, build}
use Rattle.sim_machine.specs.Processes.{defuse_failed, make_events_of_process}
use Rattle.sim_machine.specs.Effect.{pass_on}
use Rattle.sim_machine.specs.Standing.{kind_at}
use Rattle.sim_machine.specs.LawfulConditions.{IsConditionByKind, builds_condition, is_condition_kind}
use Rattle.sim_machine_law.proofs.Events.EventLaws.{change_event-keeps, change_event-length, change_event-other, make-keeps, make-length, make-new, make-old, same_event}
use Rattle.sim_machine_law.proofs.KeptParts.KeptInterruptionsParts.{change_event-passes}
use Rattle.sim_machine_law.proofs.KeptParts.KeptTimesCases.{if_cases}
use Rattle.sim_machine_law.proofs.KeptParts.KeptConditions.{unmade_event}
use Rattle.sim_lawful.proofs.ConditionLaws.CalledBuild.{checks_taken}
use Rattle.sim_lawful.proofs.ConditionLaws.CheckedConditions.{check_cases}
use Rattle.sim_lawful.proofs.ConditionLaws.NewConditions.{fresh, fresh_event, fresh_length, with_fresh}
use Rattle.std.proofs.Common.{◌&&◌, ◌||◌, ◌++◌, not, Bool, filter, slice_index_or}
use Rattle.std.specs.Prelude.{is_none}
use Rattle.std.specs.List.{AllPass, list_any}
use Rattle.std.proofs.lemmas.List.Elements.{All-push, All-filter}
use Rattle.std.proofs.lemmas.List.Folds.{list_any-append}
use Rattle.sim_machine.specs.State.{Waiter}
use Rattle.sim_machine.specs.Events.{is_check_of, is_same}
use Rattle.sim_machine.specs.Triggering.{succeed}
use Rattle.sim_machine.specs.LawfulWaiting.{is_cancelled_well, may_wait_kind, must_wait}
use Rattle.sim_machine.specs.LawfulStops.{is_stop}
use Rattle.sim_machine_law.proofs.Events.EventLaws.{change_event-same, is_same-self}
use Rattle.sim_machine_law.proofs.Processes.LeftScopes.{any_filtered}
use Rattle.sim_lawful.proofs.Calendars.TakenChanges.{cond_no_waiter}
use Rattle.sim_lawful.proofs.Calendars.TakenOut.{All-without_first}

-- what a calendar is compared with: one that it comes of, and which events may stop the run
pub record Origin : Type 0 where
  pub calendar : Calendar
  pub stops : EventId → Bool

-- whether a callback of e, if it stops the run, is one of an event that may
abbrev pub stops_only : (EventId → Bool) → EventId → Callback → Bool
stops_only test e x = not (is_stop x) || test e

-- the calendar c comes of an origin by changes that the machine makes, and these events wait for something at a resource
pub record Follows (ws : List Waiter) (o : Origin) (c : Calendar) : Type 0 where
  pub longer : length o.calendar.events ≤ length c.events
  pub kinds : (e : EventId) → e.0 < length o.calendar.events → kind_at c e ≡ kind_at o.calendar e
  pub conditions : (e : EventId) → is_condition o.calendar e ≡ true → is_condition c e ≡ true
  pub by_kind : (e : EventId) → IsConditionByKind (event_at c e)
  pub cancelled : (e : EventId) → is_cancelled_well (event_at c e) ≡ true
  pub queued : (e : EventId) → must_wait (event_at c e) ≡ true → list_any (λ w. is_same w.event e) ws ≡ true
  pub stops : AllPass (λ r. stops_only o.stops r.event r.callback) c.registered

-- ---- what it tells

uncancelled_by : (a b p : Bool) → (not a || b && p) ≡ true → b ≡ false → a ≡ false
uncancelled_by a b p h w = grind arith

-- an event of a kind that waits nowhere was not cancelled
pub uncancelled_kind : (x : EventOf) → is_cancelled_well x ≡ true → may_wait_kind x.kind ≡ false → x.cancelled ≡ false
uncancelled_kind x h w = uncancelled_by x.cancelled (may_wait_kind x.kind) (is_none x.outcome) h w

pub builds_follow : (ws : List Waiter) (o : Origin) (d : Calendar) (x : Callback) → Follows ws o d → builds_condition o.calendar x ≡ true →
    builds_condition d x ≡ true
builds_follow ws o d (callback.Build e) v h = v.conditions e h
builds_follow ws o d _ v h = refl

-- the same with itself for the origin
again : (ws : List Waiter) (o : Origin) (c : Calendar) → Follows ws o c → Follows ws (record o { calendar = c }) c
again ws o c h = record { longer = omega arith; kinds = λ e made. refl; conditions = λ e is. is; by_kind = h.by_kind; cancelled = h.cancelled; queued = h.queued; stops = h.stops }

-- ---- one event is changed or made

-- what holds of the changed event, of all others and of one that is not made holds of all
at_changed : (P : EventOf → Type 0) (e f : EventId) (change : EventOf → EventOf) (c : Calendar)
    → (f ≡ e → P (change (event_at c e))) → (f.0 ≢ e.0 → P (event_at c f))
    → (length c.events ≤ f.0 → P (pending_event kind.Plain)) → P (event_at (change_event e change c) f)
at_changed P e f change c changed others unmade =
    let d : Calendar = change_event e change c in
    ⊎_elim
    (λ same. ⊎_elim (λ made. let is : f ≡ e = same_event f e same in subst (λ n. P (event_at d n)) (sym is) (subst P (sym (change_event-same e change c (omega (arith, same, made)))) (changed is)))
    (λ above. subst P (sym (unmade_event d f (omega (arith, above, change_event-length e change c)))) (unmade above)) (cases_lt f.0 (length c.events)))
    (λ differ. subst P (sym (change_event-other e f change c differ)) (others differ)) (cases_eq f.0 e.0)

-- what holds of an event that is not made, of the new one and of all before holds of all
at_made : (P : EventOf → Type 0) (c d : Calendar) (e : EventId) → length d.events ≡ length c.events + 1 →
    P (event_at d (next_event c)) → P (pending_event kind.Plain) → (e.0 < length c.events → P (event_at d e)) → P (event_at d e)
at_made P c d e more new unmade old =
    ⊎_elim old (λ above. ⊎_elim (λ same. subst (λ f. P (event_at d f)) (sym (same_event e (next_event c) same)) new)
    (λ differ. subst P (sym (unmade_event d e (omega (arith, more, above, differ)))) unmade) (cases_eq e.0 (length c.events))) (cases_lt e.0 (length c.events))

-- a change of an event that keeps its kind and whether it is a condition, leaves it well cancelled or not, and has it wait
-- only where it waited
pub record IsFollowed (change : EventOf → EventOf) (x : EventOf) : Type 0 where
  pub part : is_some (change x).condition ≡ is_some x.condition
  pub cancelled : is_cancelled_well x ≡ true → is_cancelled_well (change x) ≡ true
  pub waits : must_wait (change x) ≡ true → must_wait x ≡ true

same_kinds : (x y : EventOf) → x.kind ≡ y.kind → is_some x.condition ≡ is_some y.condition → IsConditionByKind y → IsConditionByKind x
same_kinds x y kinds parts h = parts ∙ (h ∙ ap is_condition_kind (sym kinds))

with_outcome : (x : EventOf) (o : Outcome) → x.cancelled ≡ false → IsFollowed (λ y. record y { outcome = Some o }) x
with_outcome x o h = record { part = refl; cancelled = λ w. rw h refl; waits = λ w. absurd (no_wait (may_wait_kind x.kind) (not x.cancelled) w) }
  where
    no_wait : (a b : Bool) → (a && false && b) ≡ true → ⊥
    no_wait true b w = false≢true w
    no_wait false b w = false≢true w

-- all that follows is said of what comes of one origin, while the same events wait
module _ (ws : List Waiter) (o : Origin) where
  pub follows_registered : (e : EventId) (x : Callback) (c : Calendar) → stops_only o.stops e x ≡ true → Follows ws o c → Follows ws o (register e x c)
  follows_registered e x c stops h =
      record {
        longer = h.longer;
        kinds = h.kinds;
        conditions = h.conditions;
        by_kind = h.by_kind;
        cancelled = h.cancelled;
        queued = h.queued;
        stops = All-push (λ r. stops_only o.stops r.event r.callback ≡ true) c.registered (record { event = e; callback = x }) h.stops stops;
      }

  -- no event is changed, and of the registrations some stay
  follows_events : (c d : Calendar) → d.events ≡ c.events → AllPass (λ r. stops_only o.stops r.event r.callback) d.registered → Follows ws o c → Follows ws o d
  follows_events c d same stops h =
      let at : (e : EventId) → event_at c e ≡ event_at d e = λ e. ap (λ es. slice_index_or es e.0 (pending_event kind.Plain)) (sym same) in
      record {
        longer = rw same h.longer;
        kinds = λ e made. ap (λ (x : EventOf). x.kind) (sym (at e)) ∙ h.kinds e made;
        conditions = λ e is. ap (λ (x : EventOf). is_some x.condition) (sym (at e)) ∙ h.conditions e is;
        by_kind = λ e. subst IsConditionByKind (at e) (h.by_kind e);
        cancelled = λ e. subst (λ x. is_cancelled_well x ≡ true) (at e) (h.cancelled e);
        queued = λ e must. h.queued e (ap must_wait (at e) ∙ must);
        stops = stops;
      }

  pub follows_unregistered : (e : EventId) (test : Callback → Bool) (c : Calendar) → Follows ws o c → Follows ws o (unregister e test c)
  follows_unregistered e test c h =
      follows_events c (unregister e test c) refl (All-without_first (λ r. stops_only o.stops r.event r.callback ≡ true) (λ r. is_same r.event e && test r.callback) c.registered h.stops) h

  pub follows_changed : (e : EventId) (change : EventOf → EventOf) (c : Calendar) →
      ((x : EventOf) → (change x).kind ≡ x.kind) → IsFollowed change (event_at c e) → Follows ws o c → Follows ws o (change_event e change c)
  follows_changed e change c kinds v h =
      let d : Calendar = change_event e change c in
      let kind_stays : (f : EventId) → kind_at d f ≡ kind_at c f = λ f. change_event-keeps (λ x. x.kind) e f change c kinds in
      record {
        longer = omega (arith, h.longer, change_event-length e change c);
        kinds = λ f made. kind_stays f ∙ h.kinds f made;
        conditions = λ f is. at_changed (λ x. is_some x.condition ≡ true) e f change c (λ same. v.part ∙ subst (λ n. is_condition c n ≡ true) same (h.conditions f is)) (λ differ. h.conditions f is)
            (λ above. ap (λ (x : EventOf). is_some x.condition) (sym (unmade_event c f above)) ∙ h.conditions f is);
        by_kind = λ f. at_changed IsConditionByKind e f change c (λ same. same_kinds (change (event_at c e)) (event_at c e) (kinds (event_at c e)) v.part (h.by_kind e)) (λ differ. h.by_kind f) (λ above. refl);
        cancelled = λ f. at_changed (λ x. is_cancelled_well x ≡ true) e f change c (λ same. v.cancelled (h.cancelled e)) (λ differ. h.cancelled f) (λ above. refl);
        queued = λ f. at_changed (λ x. must_wait x ≡ true → list_any (λ w. is_same w.event f) ws ≡ true) e f change c
            (λ same must. subst (λ n. list_any (λ w. is_same w.event n) ws ≡ true) (sym same) (h.queued e (v.waits must))) (λ differ. h.queued f) (λ above must. absurd (false≢true must));
        stops = h.stops;
      }

  -- an event is made that is no condition and waits nowhere
  pub follows_made : (k : EventKind) (c : Calendar) → is_condition_kind k ≡ false → may_wait_kind k ≡ false → Follows ws o c → Follows ws o (make k c)
  follows_made k c none waits_not h =
      let d : Calendar = make k c in
      let old : (P : EventOf → Type 0) (f : EventId) → P (event_at c f) → f.0 < length c.events → P (event_at d f) = λ P f w below. subst P (sym (make-old k c f below)) w in
      let waits : EventId → EventOf → Type 0 = λ f x. must_wait x ≡ true → list_any (λ w. is_same w.event f) ws ≡ true in
      record {
        longer = omega (arith, h.longer, make-length k c);
        kinds = λ f made. ap (λ (x : EventOf). x.kind) (make-old k c f (omega (arith, made, h.longer))) ∙ h.kinds f made;
        conditions = λ f is. make-keeps (λ x. is_some x.condition) k c f refl ∙ h.conditions f is;
        by_kind = λ f. at_made IsConditionByKind c d f (make-length k c) (subst IsConditionByKind (sym (make-new k c)) (sym none)) refl (old IsConditionByKind f (h.by_kind f));
        cancelled = λ f. at_made (λ x. is_cancelled_well x ≡ true) c d f (make-length k c) (subst (λ x. is_cancelled_well x ≡ true) (sym (make-new k c)) refl) refl (old (λ x. is_cancelled_well x ≡ true) f (h.cancelled f));
        queued = λ f. at_made (waits f) c d f (make-length k c) (subst (waits f) (sym (make-new k c)) (λ must. absurd (both_ways (may_wait_kind k) waits_not (and_parts (may_wait_kind k) true (and_parts (may_wait_kind k && true) true must).0).0)))
            (λ must. absurd (false≢true must)) (old (waits f) f (h.queued f));
        stops = h.stops;
      }

  -- a condition is made, and no member has joined it
  pub follows_fresh : (sort : AllOrAny) (ms : List EventId) (c : Calendar) → Follows ws o c → Follows ws o (with_fresh sort ms c)
  follows_fresh sort ms c h =
      let d : Calendar = with_fresh sort ms c in
      let n : EventId = next_event c in
      let with_part : EventOf → EventOf = λ x. record x { condition = Some (fresh sort ms) } in
      let before : (f : EventId) → f.0 < length c.events → event_at d f ≡ event_at c f = λ f below.
      change_event-other n f with_part (make kind.Cond c) (λ same. omega (arith, same, below)) ∙ make-old kind.Cond c f below in
      let old : (P : EventOf → Type 0) (f : EventId) → P (event_at c f) → f.0 < length c.events → P (event_at d f) = λ P f w below. subst P (sym (before f below)) w in
      let new : (P : EventOf → Type 0) → P (record (pending_event kind.Cond) { condition = Some (fresh sort ms) }) → P (event_at d n) = λ P w. subst P (sym (fresh_event sort ms c)) w in
      let waits : EventId → EventOf → Type 0 = λ f x. must_wait x ≡ true → list_any (λ w. is_same w.event f) ws ≡ true in
      let more : length d.events ≡ length c.events + 1 = fresh_length sort ms c in
      record {
        longer = omega (arith, h.longer, more);
        kinds = λ f made. ap (λ (x : EventOf). x.kind) (before f (omega (arith, made, h.longer))) ∙ h.kinds f made;
        conditions = λ f is. change_event-passes (λ x. is_some x.condition) n f with_part (make kind.Cond c) refl (make-keeps (λ x. is_some x.condition) kind.Cond c f refl ∙ h.conditions f is);
        by_kind = λ f. at_made IsConditionByKind c d f more (new IsConditionByKind refl) refl (old IsConditionByKind f (h.by_kind f));
        cancelled = λ f. at_made (λ x. is_cancelled_well x ≡ true) c d f more (new (λ x. is_cancelled_well x ≡ true) refl) refl (old (λ x. is_cancelled_well x ≡ true) f (h.cancelled f));
        queued = λ f. at_made (waits f) c d f more (new (waits f) (λ must. absurd (false≢true must))) (λ must. absurd (false≢true must)) (old (waits f) f (h.queued f));
        stops = h.stops;
      }

  -- ---- outcomes

  pub follows_scheduled : (e : EventId) (x : Outcome) (priority : ℕ) (delay : ℤ) (c : Calendar) → (event_at c e).cancelled ≡ false → Follows ws o c →
      Follows ws o (schedule e x priority delay c)
  follows_scheduled e x priority delay c un h =
      follows_events (change_event e (λ y. record y { outcome = Some x }) c) (schedule e x priority delay c) refl h.stops (follows_changed e (λ y. record y { outcome = Some x }) c (λ y. refl) (with_outcome (event_at c e) x un) h)

  -- an event is made, it calls this first, and it is scheduled
  follows_new : (k : EventKind) (call : Callback) (x : Outcome) (priority : ℕ) (delay : ℤ) (c : Calendar) → is_condition_kind k ≡ false →
      may_wait_kind k ≡ false → is_stop call ≡ false → Follows ws o c →
      Follows ws o (schedule (next_event c) x priority delay (register (next_event c) call (make k c)))
  follows_new k call x priority delay c none waits_not no_stop h =
      let n : EventId = next_event c in
      follows_scheduled n x priority delay (register n call (make k c)) (ap (λ (y : EventOf). y.cancelled) (make-new k c)) (follows_registered n call (make k c) (rw no_stop refl) (follows_made k c none waits_not h))

  pub follows_popped : (x : Entry) (c : Calendar) → Follows ws o c → Follows ws o (popped x c)
  follows_popped x c h =
      let change : EventOf → EventOf = λ y. record y { processed = true } in
      follows_events (change_event x.event change c) (popped x c) refl (All-filter (λ r. not (is_same r.event x.event)) (λ r. stops_only o.stops r.event r.callback ≡ true) c.registered h.stops)
      (follows_changed x.event change c (λ y. refl) (record { part = refl; cancelled = λ w. w; waits = λ w. w }) h)

  pub follows_defused : (e : EventId) (c : Calendar) → Follows ws o c → Follows ws o (defuse e c)
  follows_defused e c h = follows_changed e (λ x. record x { defused = true }) c (λ x. refl) (record { part = refl; cancelled = λ w. w; waits = λ w. w }) h

  pub follows_defused_failed : (e : EventId) (c : Calendar) → Follows ws o c → Follows ws o (defuse_failed e c)
  follows_defused_failed e c h = if_cases (Follows ws o) (is_fail (event_at c e).outcome) (defuse e c) c (λ fails. follows_defused e c h) (λ ok. h)

  pub follows_timeout : (delay value : ℤ) (c : Calendar) → Follows ws o c → Follows ws o (make_timeout delay value c)
  follows_timeout delay value c h = follows_scheduled (next_event c) (outcome.Ok value) normal delay (make kind.Timeout c) (ap (λ (y : EventOf). y.cancelled) (make-new kind.Timeout c)) (follows_made kind.Timeout c refl refl h)

  pub follows_interruption : (p : ProcId) (t : Throw) (c : Calendar) → Follows ws o c → Follows ws o (make_interruption p t c)
  follows_interruption p t c h =
      let e : EventId = next_event c in
      let d : Calendar = register e (callback.Strike p) (make kind.Interrupt c) in
      follows_scheduled e (outcome.Fail t) urgent (pos 0) (defuse e d) (change_event-keeps (λ x. x.cancelled) e e (λ x. record x { defused = true }) d (λ x. refl) ∙ ap (λ (y : EventOf). y.cancelled) (make-new kind.Interrupt c))
      (follows_defused e d (follows_registered e (callback.Strike p) (make kind.Interrupt c) refl (follows_made kind.Interrupt c refl refl h)))

  -- an event that waits nowhere gets the outcome of another
  pub follows_passed : (x : Option Outcome) (y : EventId) (c : Calendar) → may_wait_kind (kind_at c y) ≡ false → Follows ws o c → Follows ws o (pass_on x y c)
  follows_passed None y c waits_not h = h
  follows_passed (Some x) y c waits_not h = if_cases (Follows ws o) (is_pending c y) (trigger y x c) c (λ pending. follows_scheduled y x normal (pos 0) c (uncancelled_kind (event_at c y) (h.cancelled y) waits_not) h) (λ turned. h)

  pub follows_process : (c : Calendar) → Follows ws o c → Follows ws o (make_events_of_process c)
  follows_process c h =
      follows_new kind.Init (callback.Resume (record { 0 = (next_event c).0 })) (outcome.Ok (pos 0)) urgent (pos 0) (make kind.Process c) refl refl refl (follows_made kind.Process c refl refl h)

  pub follows_release : (res : ℕ) (c : Calendar) → Follows ws o c →
      Follows ws o (succeed (next_event c) (pos 0) (register (next_event c) (callback.TryPut res) (make kind.Release c)))
  follows_release res c h = follows_new kind.Release (callback.TryPut res) (outcome.Ok (pos 0)) normal (pos 0) c refl refl refl h

  -- ---- conditions

  -- what a condition has besides is changed, where it is one
  pub follows_condition : (e : EventId) (change : ConditionOf → ConditionOf) (c : Calendar) → is_condition c e ≡ true → Follows ws o c →
      Follows ws o (change_condition e change c)
  follows_condition e change c is h = follows_changed e (λ x. record x { condition = Some (change (condition_of x.condition)) }) c (λ x. refl) (record { part = sym is; cancelled = λ w. w; waits = λ w. w }) h

  pub uncancelled_condition : (e : EventId) (c : Calendar) → is_condition c e ≡ true → Follows ws o c → (event_at c e).cancelled ≡ false
  uncancelled_condition e c is h = uncancelled_kind (event_at c e) (h.cancelled e) (cond_no_waiter (kind_at c e) (sym (h.by_kind e) ∙ is))

  pub follows_checked : (cond m : EventId) (c : Calendar) → is_condition c cond ≡ true → Follows ws o c → Follows ws o (check cond m c)
  follows_checked cond m c is h =
      let n : Calendar = count_member cond c in
      let counted : Follows ws o n = follows_condition cond (λ x. record x { count = x.count + 1 }) c is h in
      let still : is_condition n cond ≡ true = change_event-passes (λ x. is_some x.condition) cond cond (λ x. record x { condition = Some (record (condition_of x.condition) { count = (condition_of x.condition).count + 1 }) }) c refl is in
      let un : (event_at n cond).cancelled ≡ false = uncancelled_condition cond n still counted in
      check_cases (Follows ws o) cond m c
      (λ pending t. follows_scheduled cond (outcome.Fail t) normal (pos 0) (defuse m n) (change_event-keeps (λ x. x.cancelled) m cond (λ x. record x { defused = true }) n (λ x. refl) ∙ un) (follows_defused m n counted))
      (λ pending. follows_scheduled cond (outcome.Ok (pos 0)) normal (pos 0) n un counted) (λ pending not_met. counted) h

  pub follows_joined : (cond m : EventId) (c : Calendar) → is_condition c cond ≡ true → Follows ws o c → Follows ws o (join_member cond c m)
  follows_joined cond m c is h =
      if_cases (Follows ws o) (is_processed c m) (check cond m c) (register m (callback.Check cond) c) (λ processed. follows_checked cond m c is h) (λ waits. follows_registered m (callback.Check cond) c refl h)

  checks_out : (n : ℕ) (cond : EventId) (c : Calendar) → Follows ws o c → Follows ws o (take_checks_within n cond c)
  checks_out n cond c h = checks_taken (Follows ws o) (λ e x d v. follows_unregistered e (is_check_of x) d v) n cond c h

-- ---- conditions are made and built

module _ (ws : List Waiter) where
  joined_all : (o : Origin) (cond : EventId) (ms : List EventId) (c : Calendar) → is_condition c cond ≡ true → Follows ws o c →
      Follows ws o (fold (join_member cond) c ms)
  joined_all o cond [] c is h = h
  joined_all o cond (m ∷ ms) c is h =
      joined_all o cond ms (join_member cond c m) ((follows_joined ws (record o { calendar = c }) cond m c is (again ws o c h)).conditions cond is) (follows_joined ws o cond m c is h)

  pub follows_condition_made : (o : Origin) (sort : AllOrAny) (ms : List EventId) (c : Calendar) → Follows ws o c → Follows ws o (make_condition sort ms c)
  follows_condition_made o sort [] c h =
      follows_scheduled ws o (next_event c) (outcome.Ok (pos 0)) normal (pos 0) (with_fresh sort [] c) (ap (λ (x : EventOf). x.cancelled) (fresh_event sort [] c)) (follows_fresh ws o sort [] c h)
  follows_condition_made o sort (m ∷ ms) c h =
      let cond : EventId = next_event c in
      let d : Calendar = with_fresh sort (m ∷ ms) c in
      follows_registered ws o cond (callback.Build cond) (fold (join_member cond) d (m ∷ ms)) refl
      (joined_all o cond (m ∷ ms) d (ap (λ (x : EventOf). is_some x.condition) (fresh_event sort (m ∷ ms) c)) (follows_fresh ws o sort (m ∷ ms) c h))

  -- what was made is a condition
  pub condition_made : (o : Origin) (sort : AllOrAny) (ms : List EventId) (c : Calendar) → Follows ws o c →
      is_condition (make_condition sort ms c) (next_event c) ≡ true
  condition_made o sort [] c h =
      let n : EventId = next_event c in
      change_event-keeps (λ x. is_some x.condition) n n (λ x. record x { outcome = Some (outcome.Ok (pos 0)) }) (with_fresh sort [] c) (λ x. refl) ∙ ap (λ (x : EventOf). is_some x.condition) (fresh_event sort [] c)
  condition_made o sort (m ∷ ms) c h =
      let d : Calendar = with_fresh sort (m ∷ ms) c in
      let is : is_condition d (next_event c) ≡ true = ap (λ (x : EventOf). is_some x.condition) (fresh_event sort (m ∷ ms) c) in
      (joined_all (record o { calendar = d }) (next_event c) (m ∷ ms) d is (again ws o d (follows_fresh ws o sort (m ∷ ms) c h))).conditions (next_event c) is

  pub follows_built : (o : Origin) (cond : EventId) (c : Calendar) → is_condition c cond ≡ true → Follows ws o c → Follows ws o (build cond c)
  follows_built o cond c is h =
      let d : Calendar = take_checks_within (most_weight + 1) cond c in
      let taken : Follows ws o d = checks_out ws o (most_weight + 1) cond c h in
      if_cases (Follows ws o) (is_fail (event_at d cond).outcome) d (fix_value cond d) (λ fails. taken)
      (λ ok. follows_condition ws o cond (λ x. record x { value = value_of cond d }) d ((checks_out ws (record o { calendar = c }) (most_weight + 1) cond c (again ws o c h)).conditions cond is) taken)

-- ---- what waits

-- a request, put or get is made, and waits behind all others
pub follows_join : (ws : List Waiter) (o : Origin) (k : EventKind) (call : Callback) (w : Waiter) (c : Calendar) → is_condition_kind k ≡ false →
    is_stop call ≡ false → w.event ≡ next_event c → Follows ws o c →
    Follows (ws ++ w ∷ []) o (register (next_event c) call (make k c))
follows_join ws o k call w c none no_stop is h =
    let d : Calendar = make k c in
    let n : EventId = next_event c in
    let old : (P : EventOf → Type 0) (f : EventId) → P (event_at c f) → f.0 < length c.events → P (event_at d f) = λ P f v below. subst P (sym (make-old k c f below)) v in
    let test : EventId → Waiter → Bool = λ f v. is_same v.event f in
    let last : list_any (test n) (w ∷ []) ≡ true = or_left (is_same w.event n) false (ap (λ (e : EventId). is_same e n) is ∙ is_same-self n) in
    follows_registered (ws ++ w ∷ []) o n call d (rw no_stop refl) (record {
      longer = omega (arith, h.longer, make-length k c);
      kinds = λ f made. ap (λ (x : EventOf). x.kind) (make-old k c f (omega (arith, made, h.longer))) ∙ h.kinds f made;
      conditions = λ f was. make-keeps (λ x. is_some x.condition) k c f refl ∙ h.conditions f was;
      by_kind = λ f. at_made IsConditionByKind c d f (make-length k c) (subst IsConditionByKind (sym (make-new k c)) (sym none)) refl (old IsConditionByKind f (h.by_kind f));
      cancelled = λ f. at_made (λ x. is_cancelled_well x ≡ true) c d f (make-length k c) (subst (λ x. is_cancelled_well x ≡ true) (sym (make-new k c)) refl) refl (old (λ x. is_cancelled_well x ≡ true) f (h.cancelled f));
      queued = λ f must. list_any-append (test f) ws (w ∷ []) ∙
          ⊎_elim (λ below. or_left (list_any (test f) ws) (list_any (test f) (w ∷ [])) (h.queued f (ap must_wait (sym (make-old k c f below)) ∙ must)))
          (λ above. ⊎_elim (λ same. or_right (list_any (test f) ws) (list_any (test f) (w ∷ [])) (subst (λ e. list_any (test e) (w ∷ []) ≡ true) (sym (same_event f n same)) last))
          (λ differ. absurd (false≢true (ap must_wait (sym (unmade_event d f (omega (arith, above, differ, make-length k c)))) ∙ must))) (cases_eq f.0 (length c.events))) (cases_lt f.0 (length c.events));
      stops = h.stops;
    })

-- the waiters but those for e
abbrev pub without_waiter : EventId → List Waiter → List Waiter
without_waiter e ws = filter (λ w. not (is_same w.event e)) ws

others_wait : (ws : List Waiter) (e f : EventId) → f.0 ≢ e.0 → list_any (λ w. is_same w.event f) ws ≡ true →
    list_any (λ w. is_same w.event f) (without_waiter e ws) ≡ true
others_wait ws e f differ h =
    any_filtered (λ w. is_same w.event f) (λ w. not (is_same w.event e)) ws (λ w is. not_from_false (is_same w.event e) (ne_eqb w.event.0 e.0 (λ same. differ (sym (eqb-true w.event.0 f.0 is) ∙ same)))) ∙ h

-- what waits for e waits no longer, since e is changed so that it needs not
follows_unqueued : (ws : List Waiter) (o : Origin) (e : EventId) (change : EventOf → EventOf) (c : Calendar)
    → ((x : EventOf) → (change x).kind ≡ x.kind) → ((x : EventOf) → is_some (change x).condition ≡ is_some x.condition)
    → is_cancelled_well (change (event_at c e)) ≡ true → must_wait (change (event_at c e)) ≡ false → Follows ws o c
    → Follows (without_waiter e ws) o (change_event e change c)
follows_unqueued ws o e change c kinds parts cancelled no_wait h =
    let d : Calendar = change_event e change c in
    let kind_stays : (f : EventId) → kind_at d f ≡ kind_at c f = λ f. change_event-keeps (λ x. x.kind) e f change c kinds in
    let part_stays : (f : EventId) → is_condition d f ≡ is_condition c f = λ f. change_event-keeps (λ x. is_some x.condition) e f change c parts in
    record {
      longer = omega (arith, h.longer, change_event-length e change c);
      kinds = λ f made. kind_stays f ∙ h.kinds f made;
      conditions = λ f is. part_stays f ∙ h.conditions f is;
      by_kind = λ f. same_kinds (event_at d f) (event_at c f) (kind_stays f) (part_stays f) (h.by_kind f);
      cancelled = λ f. change_event-passes is_cancelled_well e f change c cancelled (h.cancelled f);
      queued = λ f. at_changed (λ x. must_wait x ≡ true → list_any (λ w. is_same w.event f) (without_waiter e ws) ≡ true) e f change c
          (λ same must. absurd (both_ways (must_wait (change (event_at c e))) no_wait must)) (λ differ must. others_wait ws e f differ (h.queued f must)) (λ above must. absurd (false≢true must));
      stops = h.stops;
    }

and_false : (a : Bool) → (a && false) ≡ false
and_false true = refl
and_false false = refl

-- it is served
pub follows_served : (ws : List Waiter) (o : Origin) (e : EventId) (value : ℤ) (c : Calendar) → (event_at c e).cancelled ≡ false → Follows ws o c →
    Follows (without_waiter e ws) o (succeed e value c)
follows_served ws o e value c un h =
    let change : EventOf → EventOf = λ y. record y { outcome = Some (outcome.Ok value) } in
    let v : Follows (without_waiter e ws) o (change_event e change c) =
    follows_unqueued ws o e change c (λ y. refl) (λ y. refl) (rw un refl) (ap (λ (a : Bool). a && not (event_at c e).cancelled) (and_false (may_wait_kind (kind_at c e)))) h in
    record { longer = v.longer; kinds = v.kinds; conditions = v.conditions; by_kind = v.by_kind; cancelled = v.cancelled; queued = v.queued; stops = v.stops }

-- it is cancelled
pub follows_cancelled : (ws : List Waiter) (o : Origin) (e : EventId) (c : Calendar) → may_wait_kind (kind_at c e) ≡ true → is_pending c e ≡ true →
    Follows ws o c → Follows (without_waiter e ws) o (cancel_event e c)
follows_cancelled ws o e c kind pending h =
    follows_unqueued ws o e (λ x. record x { cancelled = true }) c (λ x. refl) (λ x. refl) (and_from (may_wait_kind (kind_at c e)) (is_pending c e) kind pending) (and_false (may_wait_kind (kind_at c e) && is_pending c e)) h
