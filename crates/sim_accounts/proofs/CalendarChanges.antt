-- What no change of a calendar touches: members stay, what is closed stays closed, and as many are to pass their outcomes on.
use Rattle.std.proofs.Common.{◌≡◌, ℕ, ℤ, pos, ◌+◌, Bool, true, false, ◌&&◌, ◌||◌, List, [], ◌∷◌, fold, refl, ap, ◌∙◌, arith, Option, Some, None}
use Rattle.std.specs.Prelude.{count_by}
use Rattle.std.proofs.lemmas.Bool.{both_ways, and_parts}
use Rattle.sim_types.specs.declared.event.EventId.{EventId}
use Rattle.sim_types.specs.declared.event.ProcId.{ProcId}
use Rattle.sim_types.specs.declared.event.Entry.{Entry}
use Rattle.sim_types.specs.declared.event.EventKind.{EventKind}
use Rattle.sim_types.specs.declared.event.EventKind.TheVariants as kind
use Rattle.sim_types.specs.declared.event.Outcome.{Outcome}
use Rattle.sim_types.specs.declared.event.Outcome.TheVariants as outcome
use Rattle.sim_types.specs.declared.event.Throw.{Throw}
use Rattle.sim_types.specs.declared.event.Callback.{Callback}
use Rattle.sim_types.specs.declared.event.Callback.TheVariants as callback
use Rattle.sim_types.specs.declared.setup.Until.{Until}
use Rattle.sim_types.specs.declared.setup.Until.TheVariants as until
use Rattle.sim_machine.specs.State.{AllOrAny, ConditionOf, EventOf, Registration, Calendar}
use Rattle.sim_machine.specs.Events.{is_same, event_at, is_pending, is_processed, is_fail, next_event, change_event, cancel_event, defuse, register, unregister, is_check_of}
use Rattle.sim_machine.specs.Agenda.{popped}
use Rattle.sim_machine.specs.Triggering.{urgent, normal, make, schedule, trigger, make_timeout, make_interruption}
use Rattle.sim_machine.specs.Conditions.{condition_of, members_of, change_condition, most_weight, count_member, check, join_member, join_members, make_condition, take_checks_within, value_of, fix_value, build}
use Rattle.sim_machine.specs.Processes.{defuse_failed, make_events_of_process}
use Rattle.sim_machine.specs.Effect.{pass_on}
use Rattle.sim_machine.specs.Runs.{set_stop}
use Rattle.sim_machine.specs.KeptEvents.{triggers}
use Rattle.sim_machine_law.proofs.Events.EventLaws.{change_event-keeps, change_event-length, make-keeps, make-length}
use Rattle.sim_machine_law.proofs.Events.CallbackLaws.{count_by-append, count_by-one}
use Rattle.sim_machine_law.proofs.KeptParts.KeptProcessesParts.{change_event-holds}
use Rattle.sim_machine_law.proofs.KeptParts.KeptTimesCases.{if_cases}
use Rattle.sim_lawful.proofs.Calendars.TakenOut.{count-apart}
use Rattle.sim_lawful.proofs.ConditionLaws.CalledBuild.{checks_taken}
use Rattle.sim_lawful.proofs.ConditionLaws.CheckedConditions.{check_cases}
use Rattle.sim_lawful.proofs.ConditionLaws.NewConditions.{fresh, fresh_length, others_stay, with_fresh}
use Rattle.sim_happen_model.specs.Naming.{triggered_by}
use Rattle.sim_happen_model.specs.HolderChanges.{ComesAfter, ComesQuietly, MakesNoCondition, ComesPlainly}
use Rattle.sim_accounts.proofs.StateChanges.{triggers_counted}

-- the members of an event, and whether it is closed
abbrev members_in : EventOf → List EventId
members_in x = (condition_of x.condition).members

abbrev shut : EventOf → Bool
shut x = x.processed || x.cancelled

-- ---- what comes after what

pub after_same : (c : Calendar) → ComesAfter c c
after_same c = record { longer = omega arith; members = λ e made. refl; closed = λ e h. h }

pub after_then : (c d n : Calendar) → ComesAfter c d → ComesAfter d n → ComesAfter c n
after_then c d n h k = record {
  longer = omega (arith, h.longer, k.longer);
  members = λ e made. k.members e (omega (arith, made, h.longer)) ∙ h.members e made;
  closed = λ e was. k.closed e (h.closed e was);
}

pub quietly_then : (c d n : Calendar) → ComesQuietly c d → ComesQuietly d n → ComesQuietly c n
quietly_then c d n h k = record { after = after_then c d n h.after k.after; triggers = λ e. k.triggers e ∙ h.triggers e }

pub plainly_then : (c d n : Calendar) → ComesPlainly c d → ComesPlainly d n → ComesPlainly c n
plainly_then c d n h k = record { quietly = quietly_then c d n h.quietly k.quietly; none = record { members = λ e. k.none.members e ∙ h.none.members e } }

-- ---- events stay

-- of the calendar other parts change
pub after_events : (c d : Calendar) → d.events ≡ c.events → ComesAfter c d
after_events c d same = record { longer = rw same (omega arith); members = λ e made. rw same refl; closed = λ e h. rw same h }

pub none_events : (c d : Calendar) → d.events ≡ c.events → MakesNoCondition c d
none_events c d same = record { members = λ e. rw same refl }

abbrev SameTriggers : Calendar → Calendar → Type 0
SameTriggers c d = (e : EventId) → count_by (λ r. triggers e r.callback) d.registered ≡ count_by (λ r. triggers e r.callback) c.registered

plainly_events : (c d : Calendar) → d.events ≡ c.events → SameTriggers c d → ComesPlainly c d
plainly_events c d same triggers = record { quietly = record { after = after_events c d same; triggers = triggers }; none = none_events c d same }

pub plainly_same : (c : Calendar) → ComesPlainly c c
plainly_same c = plainly_events c c refl (λ e. refl)

-- a callback is registered that passes nothing on
pub plainly_registered : (e : EventId) (x : Callback) (c : Calendar) → triggered_by x ≡ [] → ComesPlainly c (register e x c)
plainly_registered e x c none =
    plainly_events c (register e x c) refl
    (λ f. let r : Registration = record { event = e; callback = x } in
    let test : Registration → Bool = λ q. triggers f q.callback in
    omega (arith, count_by-append test c.registered (r ∷ []), count_by-one test r, triggers_counted f x, ap (count_by (is_same f)) none))

-- or one is taken out
not_trigger : (test : Callback → Bool) → ((y : EventId) → test (callback.Trigger y) ≡ false) → (f : EventId) (x : Callback) → test x ≡ true
    → triggers f x ≡ false
not_trigger test none f (callback.Trigger y) h = absurd (both_ways (test (callback.Trigger y)) (none y) h)
not_trigger test none f (callback.Resume p) h = refl
not_trigger test none f (callback.Strike p) h = refl
not_trigger test none f (callback.Check e) h = refl
not_trigger test none f (callback.Build e) h = refl
not_trigger test none f (callback.TryPut res) h = refl
not_trigger test none f (callback.TryGet res) h = refl
not_trigger test none f callback.Stop h = refl

pub plainly_unregistered : (e : EventId) (test : Callback → Bool) (c : Calendar) → ((y : EventId) → test (callback.Trigger y) ≡ false)
    → ComesPlainly c (unregister e test c)
plainly_unregistered e test c none =
    plainly_events c (unregister e test c) refl
    (λ f. count-apart (λ r. triggers f r.callback) (λ r. is_same r.event e && test r.callback)
    (λ r h. not_trigger test none f r.callback (and_parts (is_same r.event e) (test r.callback) h).1) c.registered)

-- ---- one event is changed or made

pub plainly_changed : (e : EventId) (change : EventOf → EventOf) (c : Calendar) → ((x : EventOf) → members_in (change x) ≡ members_in x)
    → ((x : EventOf) → shut x ≡ true → shut (change x) ≡ true) → ComesPlainly c (change_event e change c)
plainly_changed e change c members closed =
    let same : (f : EventId) → members_of (change_event e change c) f ≡ members_of c f = λ f. change_event-keeps members_in e f change c members in
    record {
      quietly = record {
        after = record {
          longer = omega (arith, change_event-length e change c);
          members = λ f made. same f;
          closed = λ f h. change_event-holds shut e f change c closed h;
        };
        triggers = λ f. refl;
      };
      none = record { members = same };
    }

pub plainly_made : (k : EventKind) (c : Calendar) → ComesPlainly c (make k c)
plainly_made k c =
    let same : (f : EventId) → members_of (make k c) f ≡ members_of c f = λ f. make-keeps members_in k c f refl in
    record {
      quietly = record {
        after = record { longer = omega (arith, make-length k c); members = λ f made. same f; closed = λ f h. make-keeps shut k c f refl ∙ h };
        triggers = λ f. refl;
      };
      none = record { members = same };
    }

pub plainly_scheduled : (e : EventId) (x : Outcome) (priority : ℕ) (delay : ℤ) (c : Calendar) → ComesPlainly c (schedule e x priority delay c)
plainly_scheduled e x priority delay c =
    plainly_then c (change_event e (λ y. record y { outcome = Some x }) c) (schedule e x priority delay c)
    (plainly_changed e (λ y. record y { outcome = Some x }) c (λ y. refl) (λ y h. h)) (plainly_events _ _ refl (λ f. refl))

pub plainly_defused : (e : EventId) (c : Calendar) → ComesPlainly c (defuse e c)
plainly_defused e c = plainly_changed e (λ x. record x { defused = true }) c (λ x. refl) (λ x h. h)

or_true : (a : Bool) → (a || true) ≡ true
or_true true = refl
or_true false = refl

pub plainly_cancelled : (e : EventId) (c : Calendar) → ComesPlainly c (cancel_event e c)
plainly_cancelled e c = plainly_changed e (λ x. record x { cancelled = true }) c (λ x. refl) (λ x h. or_true x.processed)

pub plainly_defused_failed : (e : EventId) (c : Calendar) → ComesPlainly c (defuse_failed e c)
plainly_defused_failed e c = if_cases (ComesPlainly c) (is_fail (event_at c e).outcome) (defuse e c) c (λ fails. plainly_defused e c) (λ ok. plainly_same c)

pub plainly_passed : (x : Option Outcome) (y : EventId) (c : Calendar) → ComesPlainly c (pass_on x y c)
plainly_passed None y c = plainly_same c
plainly_passed (Some x) y c = if_cases (ComesPlainly c) (is_pending c y) (trigger y x c) c (λ pending. plainly_scheduled y x normal (pos 0) c) (λ turned. plainly_same c)

-- an event is made, calls this, and is scheduled
pub plainly_new : (k : EventKind) (x : Callback) (o : Outcome) (priority : ℕ) (delay : ℤ) (c : Calendar) → triggered_by x ≡ []
    → ComesPlainly c (schedule (next_event c) o priority delay (register (next_event c) x (make k c)))
plainly_new k x o priority delay c none =
    let e : EventId = next_event c in
    let d : Calendar = make k c in
    plainly_then c (register e x d) (schedule e o priority delay (register e x d)) (plainly_then c d (register e x d) (plainly_made k c) (plainly_registered e x d none)) (plainly_scheduled e o priority delay (register e x d))

pub plainly_timeout : (delay value : ℤ) (c : Calendar) → ComesPlainly c (make_timeout delay value c)
plainly_timeout delay value c =
    plainly_then c (make kind.Timeout c) (make_timeout delay value c) (plainly_made kind.Timeout c) (plainly_scheduled (next_event c) (outcome.Ok value) normal delay (make kind.Timeout c))

pub plainly_interruption : (p : ProcId) (t : Throw) (c : Calendar) → ComesPlainly c (make_interruption p t c)
plainly_interruption p t c =
    let e : EventId = next_event c in
    let d : Calendar = register e (callback.Strike p) (make kind.Interrupt c) in
    plainly_then c (defuse e d) (make_interruption p t c)
    (plainly_then c d (defuse e d) (plainly_then c (make kind.Interrupt c) d (plainly_made kind.Interrupt c) (plainly_registered e (callback.Strike p) (make kind.Interrupt c) refl)) (plainly_defused e d))
    (plainly_scheduled e (outcome.Fail t) urgent (pos 0) (defuse e d))

pub plainly_process : (c : Calendar) → ComesPlainly c (make_events_of_process c)
plainly_process c =
    plainly_then c (make kind.Process c) (make_events_of_process c) (plainly_made kind.Process c)
    (plainly_new kind.Init (callback.Resume (record { 0 = (next_event c).0 })) (outcome.Ok (pos 0)) urgent (pos 0) (make kind.Process c) refl)

pub plainly_stop : (u : Until) (c : Calendar) → ComesPlainly c (set_stop u c)
plainly_stop until.Never c = plainly_same c
plainly_stop (until.At time) c = plainly_new kind.Stop callback.Stop (outcome.Ok (pos 0)) urgent time c refl
plainly_stop (until.Event e) c = plainly_registered e callback.Stop c refl

-- ---- conditions

plainly_condition : (e : EventId) (change : ConditionOf → ConditionOf) (c : Calendar) → ((x : ConditionOf) → (change x).members ≡ x.members)
    → ComesPlainly c (change_condition e change c)
plainly_condition e change c members =
    plainly_changed e (λ x. record x { condition = Some (change (condition_of x.condition)) }) c (λ x. members (condition_of x.condition)) (λ x h. h)

pub plainly_checked : (cond m : EventId) (c : Calendar) → ComesPlainly c (check cond m c)
plainly_checked cond m c =
    let d : Calendar = count_member cond c in
    let counted : ComesPlainly c d = plainly_condition cond (λ x. record x { count = x.count + 1 }) c (λ x. refl) in
    check_cases (ComesPlainly c) cond m c
    (λ pending t. plainly_then c (defuse m d) _ (plainly_then c d (defuse m d) counted (plainly_defused m d)) (plainly_scheduled cond (outcome.Fail t) normal (pos 0) (defuse m d)))
    (λ pending. plainly_then c d _ counted (plainly_scheduled cond (outcome.Ok (pos 0)) normal (pos 0) d)) (λ pending not_met. counted) (plainly_same c)

pub plainly_built : (cond : EventId) (c : Calendar) → ComesPlainly c (build cond c)
plainly_built cond c =
    let d : Calendar = take_checks_within (most_weight + 1) cond c in
    let taken : ComesPlainly c d =
    checks_taken (ComesPlainly c) (λ e x n h. plainly_then c n (unregister e (is_check_of x) n) h (plainly_unregistered e (is_check_of x) n (λ y. refl))) (most_weight + 1) cond c (plainly_same c) in
    if_cases (ComesPlainly c) (is_fail (event_at d cond).outcome) d (fix_value cond d) (λ fails. taken)
    (λ ok. plainly_then c d (fix_value cond d) taken (plainly_condition cond (λ x. record x { value = value_of cond d }) d (λ x. refl)))

plainly_joined : (cond m : EventId) (c : Calendar) → ComesPlainly c (join_member cond c m)
plainly_joined cond m c =
    if_cases (ComesPlainly c) (is_processed c m) (check cond m c) (register m (callback.Check cond) c) (λ processed. plainly_checked cond m c) (λ waits. plainly_registered m (callback.Check cond) c refl)

plainly_all_joined : (cond : EventId) (ms : List EventId) (c : Calendar) → ComesPlainly c (fold (join_member cond) c ms)
plainly_all_joined cond [] c = plainly_same c
plainly_all_joined cond (m ∷ ms) c =
    plainly_then c (join_member cond c m) (fold (join_member cond) c (m ∷ ms)) (plainly_joined cond m c) (plainly_all_joined cond ms (join_member cond c m))

pub members_joined : (cond : EventId) (ms : List EventId) (c : Calendar) → ComesPlainly c (join_members cond ms c)
members_joined cond [] c = plainly_scheduled cond (outcome.Ok (pos 0)) normal (pos 0) c
members_joined cond (m ∷ ms) c =
    plainly_then c (fold (join_member cond) c (m ∷ ms)) (join_members cond (m ∷ ms) c) (plainly_all_joined cond (m ∷ ms) c)
    (plainly_registered cond (callback.Build cond) (fold (join_member cond) c (m ∷ ms)) refl)

-- a condition more, whose members are yet to join it
quietly_fresh : (sort : AllOrAny) (ms : List EventId) (c : Calendar) → ComesQuietly c (with_fresh sort ms c)
quietly_fresh sort ms c = record {
  after = record {
    longer = omega (arith, fresh_length sort ms c);
    members = λ e made. others_stay members_in sort ms c e refl (λ same. omega (arith, same, made));
    closed = λ e h. change_event-keeps shut (next_event c) e (λ x. record x { condition = Some (fresh sort ms) }) (make kind.Cond c) (λ x. refl) ∙ (make-keeps shut kind.Cond c e refl ∙ h);
  };
  triggers = λ e. refl;
}

pub quietly_condition_made : (sort : AllOrAny) (ms : List EventId) (c : Calendar) → ComesQuietly c (make_condition sort ms c)
quietly_condition_made sort ms c =
    quietly_then c (with_fresh sort ms c) (make_condition sort ms c) (quietly_fresh sort ms c) (members_joined (next_event c) ms (with_fresh sort ms c)).quietly

-- ---- the entry that is due is popped

abbrev processing : EventOf → EventOf
processing x = record x { processed = true }

pub after_popped : (x : Entry) (c : Calendar) → ComesAfter c (popped x c)
after_popped x c =
    after_then c (change_event x.event processing c) (popped x c) (plainly_changed x.event processing c (λ y. refl) (λ y h. refl)).quietly.after (after_events _ _ refl)

pub none_popped : (x : Entry) (c : Calendar) → MakesNoCondition c (popped x c)
none_popped x c = record { members = λ e. change_event-keeps members_in x.event e processing c (λ y. refl) }
