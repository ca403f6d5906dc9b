-- What a change of the calendar leaves of its events, whatever is changed besides.
use Rattle.std.proofs.Common.{◌≡◌, ◌≢◌, ℕ, ◌+◌, ◌<◌, ◌≤◌, ℤ, Bool, true, false, not, ◌||◌, List, ◌∷◌, length, refl, sym, ap, subst, ◌∙◌, arith, ◌⊎◌, inl, inr, get_or, if◌then◌else◌}
use Rattle.std.specs.Prelude.{slice_index_or, is_none, is_some, Option, Some, None, filter, ◌+ℤ◌}
use Rattle.std.proofs.lemmas.Bool.Decides.{nat_tests}
use Rattle.std.proofs.lemmas.Bool.{cases_eq, cases_lt, false≢true}
use Rattle.std.specs.List.{AllPass}
use Rattle.std.proofs.lemmas.List.{get_or_past, set_past}
use Rattle.std.proofs.lemmas.List.Elements.{All-push, All-get_or}
use Rattle.sim_types.specs.declared.event.EventId.{EventId}
use Rattle.sim_types.specs.declared.event.EventKind.{EventKind}
use Rattle.sim_types.specs.declared.event.Outcome.{Outcome}
use Rattle.sim_types.specs.declared.event.Entry.{Entry}
use Rattle.sim_types.specs.declared.event.EventKind.TheVariants as kind
use Rattle.sim_machine.specs.State.{EventOf, Calendar}
use Rattle.sim_machine.specs.Events.{is_same, event_at, is_pending, is_processed, is_fail, pending_event, change_event, defuse}
use Rattle.sim_machine.specs.Agenda.{without_entry, popped}
use Rattle.sim_machine.specs.Triggering.{make, schedule}
use Rattle.sim_machine.specs.Processes.{defuse_failed}
use Rattle.sim_machine.specs.Standing.{was_made, kind_at}
use Rattle.sim_machine.specs.LawfulRegistrations.{turned_out}
use Rattle.sim_machine_law.proofs.Events.EventLaws.{same_event, change_event-same, change_event-other, change_event-keeps, change_event-length, change_event-AllPass, make-length, make-old, make-keeps}

-- every event that was made stays and is of its kind, and an outcome is never lost
pub record Later (c d : Calendar) : Type 0 where
  pub longer : length c.events ≤ length d.events
  pub kinds : (f : EventId) → f.0 < length c.events → kind_at d f ≡ kind_at c f
  pub turned : (f : EventId) → not (is_pending c f) ≡ true → not (is_pending d f) ≡ true

-- besides that, no event is processed, and none is without outcome that is
pub record Calm (c d : Calendar) : Type 0 where
  pub later : Later c d
  pub processed : (f : EventId) → is_processed d f ≡ is_processed c f
  pub outcomes : AllPass turned_out c.events → AllPass turned_out d.events

-- ---- events of which something holds that holds of no event that was not made

made_if_at : (part : EventOf → Bool) (xs : List EventOf) (n : ℕ) → part (pending_event kind.Plain) ≡ false
    → part (get_or xs n (pending_event kind.Plain)) ≡ true → (n < length xs) ⊎ (length xs ≤ n) → n < length xs
made_if_at part xs n plain h (inl below) = below
made_if_at part xs n plain h (inr above) = absurd (false≢true (sym plain ∙ (ap part (sym (get_or_past xs n (pending_event kind.Plain) above)) ∙ h)))

pub made_if : (part : EventOf → Bool) (c : Calendar) (f : EventId) → part (pending_event kind.Plain) ≡ false
    → part (event_at c f) ≡ true → f.0 < length c.events
made_if part c f plain h = made_if_at part c.events f.0 plain h (cases_lt f.0 (length c.events))

pub processed_made : (c : Calendar) (f : EventId) → is_processed c f ≡ true → f.0 < length c.events
processed_made c f h = made_if (λ x. x.processed) c f refl h

pub turned_made : (c : Calendar) (f : EventId) → not (is_pending c f) ≡ true → f.0 < length c.events
turned_made c f h = made_if (λ x. not (is_none x.outcome)) c f refl h

pub below_made : (c : Calendar) (f : EventId) → f.0 < length c.events → was_made c f ≡ true
below_made c f h = grind (arith, nat_tests)

pub made_below : (c : Calendar) (f : EventId) → was_made c f ≡ true → f.0 < length c.events
made_below c f h = grind (arith, nat_tests)

-- what a change keeps true of an event stays true of every event
changed_test : (test : EventOf → Bool) (e f : EventId) (change : EventOf → EventOf) (c : Calendar)
    → (test (event_at c e) ≡ true → test (change (event_at c e)) ≡ true) → test (event_at c f) ≡ true
    → (f.0 ≡ e.0) ⊎ (f.0 ≢ e.0) → (e.0 < length c.events) ⊎ (length c.events ≤ e.0)
    → test (event_at (change_event e change c) f) ≡ true
changed_test test e f change c keeps h (inr differ) made = ap test (change_event-other e f change c differ) ∙ h
changed_test test e f change c keeps h (inl same) (inl made) =
    let P : EventId → Type 0 = λ g. test (event_at (change_event e change c) g) ≡ true in
    let Q : EventId → Type 0 = λ g. test (event_at c g) ≡ true in
    subst P (sym (same_event f e same)) (ap test (change_event-same e change c made) ∙ keeps (subst Q (same_event f e same) h))
changed_test test e f change c keeps h (inl same) (inr unmade) =
    ap (λ xs. test (slice_index_or xs f.0 (pending_event kind.Plain))) (set_past c.events e.0 (change (event_at c e)) unmade) ∙ h

pub change_event-test : (test : EventOf → Bool) (e f : EventId) (change : EventOf → EventOf) (c : Calendar)
    → (test (event_at c e) ≡ true → test (change (event_at c e)) ≡ true) → test (event_at c f) ≡ true
    → test (event_at (change_event e change c) f) ≡ true
change_event-test test e f change c keeps h = changed_test test e f change c keeps h (cases_eq f.0 e.0) (cases_lt e.0 (length c.events))

-- ---- what is later

pub later_self : (c d : Calendar) → d.events ≡ c.events → Later c d
later_self c d same =
    let P : List EventOf → Type 0 = λ xs. Later c (record d { events = xs }) in
    subst P (sym same) (record { longer = omega arith; kinds = λ f h. refl; turned = λ f h. h })

pub later_then : (a b c : Calendar) → Later a b → Later b c → Later a c
later_then a b c p q =
    record {
      longer = omega (arith, p.longer, q.longer);
      kinds = λ f h. q.kinds f (omega (arith, h, p.longer)) ∙ p.kinds f h;
      turned = λ f h. q.turned f (p.turned f h);
    }

-- a change of one event that keeps its kind, and its outcome if it has one
pub later_changed : (e : EventId) (change : EventOf → EventOf) (c : Calendar) → ((x : EventOf) → (change x).kind ≡ x.kind)
    → ((x : EventOf) → not (is_none x.outcome) ≡ true → not (is_none (change x).outcome) ≡ true)
    → Later c (change_event e change c)
later_changed e change c kinds turned =
    let same : length (change_event e change c).events ≡ length c.events = change_event-length e change c in
    record {
      longer = omega (arith, same);
      kinds = λ f h. change_event-keeps (λ x. x.kind) e f change c kinds;
      turned = λ f h. change_event-test (λ x. not (is_none x.outcome)) e f change c (turned (event_at c e)) h;
    }

pub later_made : (k : EventKind) (c : Calendar) → Later c (make k c)
later_made k c =
    let more : length (make k c).events ≡ length c.events + 1 = make-length k c in
    record {
      longer = omega (arith, more);
      kinds = λ f h. ap (λ x. x.kind) (make-old k c f h);
      turned = λ f h. ap (λ (x : EventOf). not (is_none x.outcome)) (make-old k c f (turned_made c f h)) ∙ h;
    }

-- the calendar that a pop leaves, before its event is processed
abbrev before_processed : Entry → Calendar → Calendar
before_processed x c = record c { time = x.key.time; agenda = without_entry x c.agenda; registered = filter (λ r. not (is_same r.event x.event)) c.registered }

pub later_popped : (x : Entry) (c : Calendar) → Later c (popped x c)
later_popped x c =
    later_then c (before_processed x c) (popped x c) (later_self c (before_processed x c) refl)
    (later_changed x.event (λ y. record y { processed = true }) (before_processed x c) (λ y. refl) (λ y h. h))

-- ---- what is calm

-- an event made, scheduled, defused or cancelled, and a registration added, leave the calendar calm
pub calm_self : (c d : Calendar) → d.events ≡ c.events → Calm c d
calm_self c d same =
    record {
      later = later_self c d same;
      processed = λ f. ap (λ xs. (slice_index_or xs f.0 (pending_event kind.Plain)).processed) same;
      outcomes = λ h. subst (λ xs. AllPass turned_out xs) (sym same) h;
    }

pub calm_then : (a b c : Calendar) → Calm a b → Calm b c → Calm a c
calm_then a b c p q =
    record {
      later = later_then a b c p.later q.later;
      processed = λ f. q.processed f ∙ p.processed f;
      outcomes = λ h. q.outcomes (p.outcomes h);
    }

-- what all events are, an event that was not made is too
any_turned_out : (xs : List EventOf) (n : ℕ) → AllPass turned_out xs → (n < length xs) ⊎ (length xs ≤ n)
    → turned_out (get_or xs n (pending_event kind.Plain)) ≡ true
any_turned_out xs n h (inl below) = All-get_or (λ x. turned_out x ≡ true) xs n (pending_event kind.Plain) below h
any_turned_out xs n h (inr above) = ap turned_out (get_or_past xs n (pending_event kind.Plain) above)

pending_unprocessed_at : (p : Bool) (o : Option Outcome) → (not p || is_some o) ≡ true → is_none o ≡ true → p ≡ false
pending_unprocessed_at false o h none = refl
pending_unprocessed_at true None h none = absurd (false≢true h)
pending_unprocessed_at true (Some x) h none = absurd (false≢true none)

-- what is pending is not processed
pub pending_unprocessed : (c : Calendar) (e : EventId) → AllPass turned_out c.events → is_pending c e ≡ true → is_processed c e ≡ false
pending_unprocessed c e h none = pending_unprocessed_at (is_processed c e) (event_at c e).outcome (any_turned_out c.events e.0 h (cases_lt e.0 (length c.events))) none

some_if_not_none : (o : Option Outcome) → is_some o ≡ not (is_none o)
some_if_not_none None = refl
some_if_not_none (Some x) = refl

turned_by : (p q a b : Bool) → q ≡ p → (a ≡ true → b ≡ true) → (not p || a) ≡ true → (not q || b) ≡ true
turned_by true q a b same keeps h = rw same (keeps h)
turned_by false q a b same keeps h = rw same refl

keeps_turned_out : (old new : EventOf) → new.processed ≡ old.processed
    → (not (is_none old.outcome) ≡ true → not (is_none new.outcome) ≡ true) → turned_out old ≡ true → turned_out new ≡ true
keeps_turned_out old new same keeps h =
    turned_by old.processed new.processed (is_some old.outcome) (is_some new.outcome) same (λ t. some_if_not_none new.outcome ∙ keeps (sym (some_if_not_none old.outcome) ∙ t)) h

pub calm_changed : (e : EventId) (change : EventOf → EventOf) (c : Calendar) → ((x : EventOf) → (change x).kind ≡ x.kind)
    → ((x : EventOf) → (change x).processed ≡ x.processed)
    → ((x : EventOf) → not (is_none x.outcome) ≡ true → not (is_none (change x).outcome) ≡ true)
    → Calm c (change_event e change c)
calm_changed e change c kinds processed turned =
    record {
      later = later_changed e change c kinds turned;
      processed = λ f. change_event-keeps (λ x. x.processed) e f change c processed;
      outcomes = λ h. change_event-AllPass turned_out e change c (keeps_turned_out (event_at c e) (change (event_at c e)) (processed (event_at c e)) (turned (event_at c e)) (any_turned_out c.events e.0 h (cases_lt e.0 (length c.events)))) h;
    }

pub calm_made : (k : EventKind) (c : Calendar) → Calm c (make k c)
calm_made k c =
    record {
      later = later_made k c;
      processed = λ f. make-keeps (λ x. x.processed) k c f refl;
      outcomes = λ h. All-push (λ x. turned_out x ≡ true) c.events (pending_event k) h refl;
    }

pub calm_defused : (e : EventId) (c : Calendar) → Calm c (defuse e c)
calm_defused e c = calm_changed e (λ x. record x { defused = true }) c (λ x. refl) (λ x. refl) (λ x h. h)

calm_if : (c x y : Calendar) (b : Bool) → Calm c x → Calm c y → Calm c (if b then x else y)
calm_if c x y true p q = p
calm_if c x y false p q = q

pub calm_defuse_failed : (e : EventId) (c : Calendar) → Calm c (defuse_failed e c)
calm_defuse_failed e c = calm_if c (defuse e c) c (is_fail (event_at c e).outcome) (calm_defused e c) (calm_self c c refl)

-- the calendar with an entry more, before its event has its outcome
abbrev before_outcome : EventId → ℕ → ℤ → Calendar → Calendar
before_outcome e priority delay c =
    record c { scheduled = c.scheduled + 1; agenda = record { key = record { time = c.time +ℤ delay; priority = priority; number = c.scheduled }; event = e } ∷ c.agenda }

pub calm_scheduled : (e : EventId) (x : Outcome) (priority : ℕ) (delay : ℤ) (c : Calendar) → Calm c (schedule e x priority delay c)
calm_scheduled e x priority delay c =
    let d : Calendar = before_outcome e priority delay c in
    calm_then c d (schedule e x priority delay c) (calm_self c d refl) (calm_changed e (λ y. record y { outcome = Some x }) d (λ y. refl) (λ y. refl) (λ y h. refl))
