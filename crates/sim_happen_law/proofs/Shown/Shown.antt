-- What is shown stays shown: one lemma for each way in which a calendar changes.
use Rattle.std.proofs.Common.{◌≡◌, ◌≢◌, ℕ, ◌+◌, ◌<◌, ◌≤◌, ℤ, Bool, true, List, [], ◌∷◌, ◌++◌, length, refl, sym, ap, subst, ◌∙◌, arith, Option, Some, length-append, filter, not, ◌+ℤ◌}
use Rattle.std.specs.Prelude.{slice_set, IsSome}
use Rattle.std.specs.List.Sorted.{IsPermutation}
use Rattle.std.proofs.lemmas.Bool.{ne_eqb}
use Rattle.std.proofs.Math.ListN.{length-set}
use Rattle.std.proofs.lemmas.List.Sorted.{IsPermutation-cons, IsPermutation-trans}
use Rattle.sim_types.specs.declared.event.EventId.{EventId}
use Rattle.sim_types.specs.declared.event.EventKind.{EventKind}
use Rattle.sim_types.specs.declared.event.Callback.{Callback}
use Rattle.sim_types.specs.declared.event.Outcome.{Outcome}
use Rattle.sim_types.specs.declared.event.Entry.{Entry}
use Rattle.sim_machine.specs.State.{EventOf, Calendar}
use Rattle.sim_machine.specs.Events.{is_same, event_at, pending_event, callbacks_of, change_event, next_event, register, unregister, without_first}
use Rattle.sim_machine.specs.Triggering.{make, schedule}
use Rattle.sim_machine.specs.Agenda.{popped, without_entry}
use Rattle.sim_machine_law.proofs.Events.EventLaws.{same_event, change_event-same, change_event-other, change_event-length, make-length, make-old, make-new}
use Rattle.sim_machine_law.proofs.Events.CallbackLaws.{callbacks_of-register_same, callbacks_of-register_other, callbacks_of-popped_same, callbacks_of-popped_other}
use Rattle.sim_happen_model.specs.TableOf.{Kept, IsKept, kept_at, kept_or_new, new_kept}
use Rattle.sim_happen_model.specs.HappenOf.{HappenOf}
use Rattle.sim_happen_model.specs.Shows.{IsShown, Shows}
use Rattle.sim_happen_law.proofs.Shown.KeptPlaces.{kept_made, at_set, at_more}
use Rattle.sim_happen_law.proofs.Shown.TakenCallbacks.{callbacks_of-unregister_same, callbacks_of-unregister_other}

-- ---- one event is changed

-- two calendars say alike how many events there are, and the same of all but one
pub record SameBut (e : EventId) (c d : Calendar) : Type 0 where
  pub made : length d.events ≡ length c.events
  pub event : (f : EventId) → f.0 ≢ e.0 → event_at d f ≡ event_at c f
  pub callbacks : (f : EventId) → f.0 ≢ e.0 → callbacks_of f d ≡ callbacks_of f c

-- the time, the number of schedulings and the agenda are shown
pub record ShowsTime (n : HappenOf) (d : Calendar) : Type 0 where
  pub time : n.time ≡ d.time
  pub scheduled : n.scheduled ≡ d.scheduled
  pub agenda : IsPermutation d.agenda n.agenda

pub shows_set : (h n : HappenOf) (c d : Calendar) (e : EventId) (o : Option Kept) → IsKept h.events e → n.events ≡ slice_set h.events e.0 o
    → (IsSome o → IsShown d e (kept_or_new o)) → SameBut e c d → ShowsTime n d → Shows h c → Shows n d
shows_set h n c d e o kept is here but t s =
    let made : e.0 < length h.events = kept_made h.events e kept in
    let P : EventId → Option Kept → Type 0 = λ g p. IsSome p → IsShown d g (kept_or_new p) in
    record {
      time = t.time;
      scheduled = t.scheduled;
      agenda = t.agenda;
      made = ap (λ (es : List (Option Kept)). length es) is ∙ (length-set h.events e.0 o ∙ (s.made ∙ sym but.made));
      kept = λ f. subst (λ es. IsKept es f → IsShown d f (kept_at es f)) (sym is)
          (at_set P h.events e o made here
          (λ g differ k. let shown = s.kept g k in record { event = shown.event ∙ sym (but.event g differ); callbacks = shown.callbacks ∙ sym (but.callbacks g differ) }) f);
      unmade = λ f past. but.callbacks f (λ same. omega (arith, same, made, past, but.made, s.made)) ∙ s.unmade f (subst (λ n. n ≤ f.0) but.made past);
    }

pub same_but_changed : (e : EventId) (change : EventOf → EventOf) (c : Calendar) → SameBut e c (change_event e change c)
same_but_changed e change c = record {
  made = change_event-length e change c;
  event = λ f differ. change_event-other e f change c differ;
  callbacks = λ f differ. refl;
}

pub same_but_registered : (e : EventId) (x : Callback) (c : Calendar) → SameBut e c (register e x c)
same_but_registered e x c = record {
  made = refl;
  event = λ f differ. refl;
  callbacks = λ f differ. callbacks_of-register_other e f x c (ne_eqb e.0 f.0 (λ same. differ (sym same)));
}

pub same_but_unregistered : (e : EventId) (test : Callback → Bool) (c : Calendar) → SameBut e c (unregister e test c)
same_but_unregistered e test c = record {
  made = refl;
  event = λ f differ. refl;
  callbacks = λ f differ. callbacks_of-unregister_other e f test c differ;
}

abbrev processing : EventOf → EventOf
processing y = record y { processed = true }

abbrev moved_on : Entry → Calendar → Calendar
moved_on x c = record c { time = x.key.time; agenda = without_entry x c.agenda; registered = filter (λ r. not (is_same r.event x.event)) c.registered }

pub same_but_popped : (x : Entry) (c : Calendar) → SameBut x.event c (popped x c)
same_but_popped x c = record {
  made = change_event-length x.event processing (moved_on x c);
  event = λ f differ. change_event-other x.event f processing (moved_on x c) differ;
  callbacks = λ f differ. callbacks_of-popped_other x f c differ;
}

-- ---- what is shown of it

pub made_shown : (h : HappenOf) (c : Calendar) (e : EventId) → IsKept h.events e → Shows h c → e.0 < length c.events
made_shown h c e kept s = subst (λ n. e.0 < n) s.made (kept_made h.events e kept)

pub changed_shown : (h : HappenOf) (c : Calendar) (e : EventId) (change : EventOf → EventOf) (k : Kept) → IsKept h.events e → Shows h c
    → k.event ≡ change (kept_at h.events e).event → k.callbacks ≡ (kept_at h.events e).callbacks → IsShown (change_event e change c) e k
changed_shown h c e change k kept s event callbacks =
    let shown = s.kept e kept in
    record { event = event ∙ (ap change shown.event ∙ sym (change_event-same e change c (made_shown h c e kept s))); callbacks = callbacks ∙ shown.callbacks }

pub registered_shown : (h : HappenOf) (c : Calendar) (e : EventId) (x : Callback) (k : Kept) → IsKept h.events e → Shows h c
    → k.event ≡ (kept_at h.events e).event → k.callbacks ≡ (kept_at h.events e).callbacks ++ x ∷ [] → IsShown (register e x c) e k
registered_shown h c e x k kept s event callbacks =
    let shown = s.kept e kept in
    record { event = event ∙ shown.event; callbacks = callbacks ∙ (ap (λ xs. xs ++ x ∷ []) shown.callbacks ∙ sym (callbacks_of-register_same e x c)) }

pub unregistered_shown : (h : HappenOf) (c : Calendar) (e : EventId) (test : Callback → Bool) (k : Kept) → IsKept h.events e → Shows h c
    → k.event ≡ (kept_at h.events e).event → k.callbacks ≡ without_first test (kept_at h.events e).callbacks → IsShown (unregister e test c) e k
unregistered_shown h c e test k kept s event callbacks =
    let shown = s.kept e kept in
    record { event = event ∙ shown.event; callbacks = callbacks ∙ (ap (without_first test) shown.callbacks ∙ sym (callbacks_of-unregister_same e test c)) }

pub popped_shown : (h : HappenOf) (c : Calendar) (x : Entry) (k : Kept) → IsKept h.events x.event → Shows h c
    → k.event ≡ processing (kept_at h.events x.event).event → k.callbacks ≡ [] → IsShown (popped x c) x.event k
popped_shown h c x k kept s event callbacks =
    let shown = s.kept x.event kept in
    record {
      event = event ∙ (ap processing shown.event ∙ sym (change_event-same x.event processing (moved_on x c) (made_shown h c x.event kept s)));
      callbacks = callbacks ∙ sym (callbacks_of-popped_same x c);
    }

-- an entry more is shown
abbrev pub entry_after : ℤ → ℤ → ℕ → ℕ → EventId → Entry
entry_after time delay priority number e = record { key = record { time = time +ℤ delay; priority = priority; number = number }; event = e }

pub scheduled_shown : (h n : HappenOf) (c : Calendar) (e : EventId) (x : Outcome) (priority : ℕ) (delay : ℤ) → n.time ≡ h.time
    → n.scheduled ≡ h.scheduled + 1 → IsPermutation (entry_after h.time delay priority h.scheduled e ∷ h.agenda) n.agenda
    → Shows h c → ShowsTime n (schedule e x priority delay c)
scheduled_shown h n c e x priority delay time scheduled agenda s =
    let here : Entry = entry_after h.time delay priority h.scheduled e in
    let there : Entry = entry_after c.time delay priority c.scheduled e in
    let is : there ≡ here = rw (← s.time, ← s.scheduled) refl in
    record {
      time = time ∙ s.time;
      scheduled = scheduled ∙ ap (λ m. m + 1) s.scheduled;
      agenda = IsPermutation-trans _ _ _ (IsPermutation-cons there c.agenda h.agenda s.agenda) (subst (λ y. IsPermutation (y ∷ h.agenda) n.agenda) (sym is) agenda);
    }

-- ---- an event more

pub shows_made : (h n : HappenOf) (c : Calendar) (k : EventKind) → n.events ≡ h.events ++ Some (new_kept (pending_event k)) ∷ [] → ShowsTime n c
    → Shows h c → Shows n (make k c)
shows_made h n c k is t s =
    let d : Calendar = make k c in
    let new : EventId = record { 0 = length h.events } in
    let next : next_event c ≡ new = same_event (next_event c) new (sym s.made) in
    let P : EventId → Option Kept → Type 0 = λ g p. IsSome p → IsShown d g (kept_or_new p) in
    let here : IsShown d new (new_kept (pending_event k)) = subst (λ e. IsShown d e (new_kept (pending_event k))) next (record { event = sym (make-new k c); callbacks = sym (s.unmade (next_event c) (omega arith)) }) in
    record {
      time = t.time;
      scheduled = t.scheduled;
      agenda = t.agenda;
      made = ap (λ (es : List (Option Kept)). length es) is ∙ (length-append h.events (Some (new_kept (pending_event k)) ∷ []) ∙ (ap (λ m. m + 1) s.made ∙ sym (make-length k c)));
      kept = λ f. subst (λ es. IsKept es f → IsShown d f (kept_at es f)) (sym is)
          (at_more P h.events (Some (new_kept (pending_event k))) (λ some. here)
          (λ g differ kept. let shown = s.kept g kept in record { event = shown.event ∙ sym (make-old k c g (made_shown h c g kept s)); callbacks = shown.callbacks }) f);
      unmade = λ f past. s.unmade f (omega (arith, past, make-length k c));
    }
