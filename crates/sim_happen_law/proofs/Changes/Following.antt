-- What follows from what the table and the agenda do, and one turn after another.
use Rattle.std.proofs.Common.{◌≡◌, ℕ, ◌+◌, ℤ, Bool, List, [], ◌∷◌, ◌++◌, refl, sym, ap, subst, ◌∙◌, Option, Some}
use Rattle.std.specs.Prelude.{slice_set}
use Rattle.std.specs.List.Sorted.{IsPermutation}
use Rattle.sim_types.specs.declared.event.EventId.{EventId}
use Rattle.sim_types.specs.declared.event.EventKind.{EventKind}
use Rattle.sim_types.specs.declared.event.Callback.{Callback}
use Rattle.sim_types.specs.declared.event.Outcome.{Outcome}
use Rattle.sim_machine.specs.State.{EventOf, Calendar}
use Rattle.sim_machine.specs.Events.{pending_event, event_at, change_event, register, unregister, without_first}
use Rattle.sim_machine.specs.Triggering.{make, schedule}
use Rattle.sim_happen_model.specs.TableOf.{Kept, IsKept, kept_at, new_kept}
use Rattle.sim_happen_model.specs.Changes.{with_callback, with_outcome}
use Rattle.sim_happen_model.specs.HappenOf.{HappenOf, unheld_event, one_more}
use Rattle.sim_happen_model.specs.Shows.{Shows, Turns, Follows}
use Rattle.sim_happen_model.specs.Seen.{seen}
use Rattle.sim_happen_law.proofs.Shown.SeenShown.{shows_seen}
use Rattle.sim_machine_law.proofs.Events.EventLaws.{change_event-same}
use Rattle.sim_happen_law.proofs.Shown.Shown.{ShowsTime, shows_set, made_shown, shows_made, same_but_changed, same_but_registered, same_but_unregistered, changed_shown, registered_shown, unregistered_shown, scheduled_shown, entry_after}
use Rattle.sim_happen_law.proofs.Changes.Held.{held_same, held_more, held_made, kept_by_held}

-- only the events and the room change
pub record SameTime (h n : HappenOf) : Type 0 where
  pub time : n.time ≡ h.time
  pub scheduled : n.scheduled ≡ h.scheduled
  pub agenda : n.agenda ≡ h.agenda
  pub left : n.left ≡ h.left

pub shows_time : (h n : HappenOf) (c : Calendar) → SameTime h n → Shows h c → ShowsTime n c
shows_time h n c t s = record { time = t.time ∙ s.time; scheduled = t.scheduled ∙ s.scheduled; agenda = subst (IsPermutation c.agenda) (sym t.agenda) s.agenda }

-- what the event of this number is, changes
pub follows_changed : (h n : HappenOf) (e : EventId) (change : EventOf → EventOf) (k : Kept) → IsKept h.events e → SameTime h n
    → n.events ≡ slice_set h.events e.0 (Some k) → k ≡ record (kept_at h.events e) { event = change (kept_at h.events e).event }
    → Follows (change_event e change) h n
follows_changed h n e change k kept t is new = record {
  each = λ c s. shows_set h n c (change_event e change c) e (Some k) kept is
      (λ some. changed_shown h c e change k kept s (ap (λ (j : Kept). j.event) new) (ap (λ (j : Kept). j.callbacks) new)) (same_but_changed e change c) (let u = shows_time h n c t s in record { time = u.time; scheduled = u.scheduled; agenda = u.agenda }) s;
  held = held_same h n e k kept is (ap (λ (j : Kept). j.holders) new);
  left = t.left;
}

pub follows_registered : (h n : HappenOf) (e : EventId) (x : Callback) → IsKept h.events e → SameTime h n
    → n.events ≡ slice_set h.events e.0 (Some (with_callback x (kept_at h.events e))) → Follows (register e x) h n
follows_registered h n e x kept t is = record {
  each = λ c s. shows_set h n c (register e x c) e _ kept is (λ some. registered_shown h c e x _ kept s refl refl) (same_but_registered e x c) (let u = shows_time h n c t s in record { time = u.time; scheduled = u.scheduled; agenda = u.agenda }) s;
  held = held_same h n e _ kept is refl;
  left = t.left;
}

pub follows_unregistered : (h n : HappenOf) (e : EventId) (test : Callback → Bool) → IsKept h.events e → SameTime h n
    → n.events ≡ slice_set h.events e.0 (Some (record (kept_at h.events e) { callbacks = without_first test (kept_at h.events e).callbacks }))
    → Follows (unregister e test) h n
follows_unregistered h n e test kept t is = record {
  each = λ c s. shows_set h n c (unregister e test c) e _ kept is (λ some. unregistered_shown h c e test _ kept s refl refl) (same_but_unregistered e test c) (let u = shows_time h n c t s in record { time = u.time; scheduled = u.scheduled; agenda = u.agenda }) s;
  held = held_same h n e _ kept is refl;
  left = t.left;
}

-- a holder more
pub turns_held : (h n : HappenOf) (e : EventId) → IsKept h.events e → SameTime h n
    → n.events ≡ slice_set h.events e.0 (Some (record (kept_at h.events e) { holders = (kept_at h.events e).holders + 1 }))
    → Turns (λ c. c) (one_more e) h n
turns_held h n e kept t is = record {
  each = λ c s. shows_set h n c c e _ kept is (λ some. let shown = s.kept e kept in record { event = shown.event; callbacks = shown.callbacks })
      (record { made = refl; event = λ f differ. refl; callbacks = λ f differ. refl }) (shows_time h n c t s) s;
  held = held_more h n e _ kept is refl;
  left = t.left;
}

pub turns_made : (h n : HappenOf) (k : EventKind) → SameTime h n → n.events ≡ h.events ++ Some (new_kept (pending_event k)) ∷ []
    → Turns (make k) unheld_event h n
turns_made h n k t is = record {
  each = λ c s. shows_made h n c k is (shows_time h n c t s) s;
  held = held_made h n _ is refl;
  left = t.left;
}

-- an event gets its outcome and an entry
pub follows_put : (h n : HappenOf) (e : EventId) (x : Outcome) (priority : ℕ) (delay given : ℤ) → given ≡ delay → IsKept h.events e
    → n.time ≡ h.time → n.scheduled ≡ h.scheduled + 1 → IsPermutation (entry_after h.time given priority h.scheduled e ∷ h.agenda) n.agenda
    → n.events ≡ slice_set h.events e.0 (Some (with_outcome x (kept_at h.events e))) → n.left ≡ h.left
    → Follows (schedule e x priority delay) h n
follows_put h n e x priority delay given same kept time scheduled agenda is left =
    let change : EventOf → EventOf = λ y. record y { outcome = Some x } in
    record {
      each = λ c s.
          let d : Calendar = record c { scheduled = c.scheduled + 1; agenda = entry_after c.time delay priority c.scheduled e ∷ c.agenda } in
          let but = same_but_changed e change d in
          let shown = s.kept e kept in
          shows_set h n c (schedule e x priority delay c) e _ kept is (λ some. record { event = ap change shown.event ∙ sym (change_event-same e change d (made_shown h c e kept s)); callbacks = shown.callbacks })
          (record { made = but.made; event = but.event; callbacks = but.callbacks })
          (scheduled_shown h n c e x priority delay time scheduled (subst (λ g. IsPermutation (entry_after h.time g priority h.scheduled e ∷ h.agenda) n.agenda) same agenda) s) s;
      held = held_same h n e _ kept is refl;
      left = left;
    }

-- ---- one after the other

pub turns_then : (f g : Calendar → Calendar) (p q : List (Option ℕ) → List (Option ℕ)) (a b d : HappenOf) → Turns f p a b → Turns g q b d
    → Turns (λ c. g (f c)) (λ hs. q (p hs)) a d
turns_then f g p q a b d t u = record { each = λ c s. u.each (f c) (t.each c s); held = u.held ∙ ap q t.held; left = u.left ∙ t.left }

pub follows_then : (f g : Calendar → Calendar) (a b d : HappenOf) → Follows f a b → Follows g b d → Follows (λ c. g (f c)) a d
follows_then f g a b d t u = record { each = λ c s. u.each (f c) (t.each c s); held = u.held ∙ t.held; left = u.left ∙ t.left }

-- a change that comes to the same at each calendar that is shown
pub turns_as : (f g : Calendar → Calendar) (p : List (Option ℕ) → List (Option ℕ)) (a b : HappenOf)
    → ((c : Calendar) → Shows a c → f c ≡ g c) → Turns f p a b → Turns g p a b
turns_as f g p a b same t = record { each = λ c s. subst (Shows b) (same c s) (t.each c s); held = t.held; left = t.left }

pub follows_none : (a : HappenOf) → Follows (λ c. c) a a
follows_none a = record { each = λ c s. s; held = refl; left = refl }

-- ---- what is kept

pub kept_then : (f : Calendar → Calendar) (a b : HappenOf) (e : EventId) → Follows f a b → IsKept a.events e → IsKept b.events e
kept_then f a b e t kept = kept_by_held a b e t.held kept

-- what is kept of an event is what the change makes of what was seen
pub event_then : (f : Calendar → Calendar) (p : List (Option ℕ) → List (Option ℕ)) (a b : HappenOf) (e : EventId) → Turns f p a b → IsKept b.events e
    → (kept_at b.events e).event ≡ event_at (f (seen a)) e
event_then f p a b e t kept = ((t.each (seen a) (shows_seen a)).kept e kept).event

-- and so is the time
pub time_then : (f : Calendar → Calendar) (p : List (Option ℕ) → List (Option ℕ)) (a b : HappenOf) → Turns f p a b → b.time ≡ (f (seen a)).time
time_then f p a b t = (t.each (seen a) (shows_seen a)).time

-- each calendar that is shown says what is kept
pub read_is : (a : HappenOf) (c : Calendar) (e : EventId) → IsKept a.events e → Shows a c → (kept_at a.events e).event ≡ event_at c e
read_is a c e kept s = (s.kept e kept).event
