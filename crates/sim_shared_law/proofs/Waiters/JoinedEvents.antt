-- What waits is open, and an event that is yet to be made waits nowhere, also where one more waits.
use Rattle.std.proofs.Common.{◌≡◌, ◌≢◌, ℕ, ◌<◌, Bool, true, false, ◌||◌, not, List, [], ◌∷◌, length, refl, sym, subst, ap, ◌∙◌, inl, inr}
use Rattle.std.specs.Prelude.{slice_get, Some, All}
use Rattle.std.specs.List.{list_any}
use Rattle.std.proofs.lemmas.Bool.{false≢true, cases_Bool}
use Rattle.std.proofs.lemmas.List.Elements.{All-cons, All-nil, All-head, All-tail, All-weaker}
use Rattle.std.proofs.lemmas.List.Folds.{list_any-append}
use Rattle.sim_types.specs.declared.event.EventId.{EventId}
use Rattle.sim_types.specs.declared.event.EventKind.{EventKind}
use Rattle.sim_types.specs.declared.event.Callback.{Callback}
use Rattle.sim_machine.specs.State.{EventOf, User, Waiter, Deed, Facilities}
use Rattle.sim_machine.specs.Events.{is_same, next_event}
use Rattle.sim_machine.specs.LawfulLedger.{serves}
use Rattle.sim_machine.specs.Trying.{on_calendar}
use Rattle.sim_machine.specs.Requests as requests
use Rattle.sim_machine_law.proofs.Events.EventLaws.{is_same-yes, is_same-self, make-old}
use Rattle.sim_happen_model.specs.TableOf.{IsKept, kept_at}
use Rattle.sim_happen_model.specs.HappenOf.{IsOpen, unheld_event}
use Rattle.sim_happen_law.proofs.Changes.NewEvents.{next_is}
use Rattle.sim_happen_law.proofs.Shown.KeptPlaces.{kept_made}
use Rattle.sim_happen_law.proofs.Conditions.MadeConditions.{kept_beside}
use Rattle.sim_shared_model.specs.StoreQueues.{stands_among}
use Rattle.sim_shared_model.specs.AnyShared.{SharedResource}
use Rattle.sim_shared_model.specs.declared.resource.AnyResource.TheVariants.{Desk, Tank, Shelf}
use Rattle.sim_shared_model.specs.Resources.{waiting_at}
use Rattle.sim_shared_model.specs.SharedOf.{SharedOf}
use Rattle.sim_shared_model.specs.ShowsAll.{ShowsAt, ShowsAll, TurnsAll}
use Rattle.sim_shared_model.specs.Making.{ShowsSome}
use Rattle.sim_shared_model.specs.Waiting.{AreAllOpen, waits_at}
use Rattle.sim_shared_model.specs.Using.{uses_at}
use Rattle.sim_shared_model.specs.Joining.{with_waiter, IsAbsent, IsJoinedAt}
use Rattle.sim_shared_law.proofs.Waiters.MadeEvents.{made_with}
use Rattle.sim_shared_law.proofs.Waiters.WaitingEvents.{all_among, is_of}
use Rattle.sim_shared_law.proofs.Waiters.CancelledEvents.{waits_there, anywhere_shown, anywhere_there}
use Rattle.sim_shared_law.proofs.Shown.ReleasedSlots.{users_unserved}
use Rattle.sim_shared_law.proofs.Waiters.JoinedWaiters.{IsNewcomer, joined_shown, newcomer}

-- ---- what waits is open

-- what holds of each event that is among these holds of all
pub all_from_each : (P : EventId → Type 0) (es : List EventId) → ((e : EventId) → stands_among e es ≡ true → P e) → All P es
all_from_each P [] h = All-nil P
all_from_each P (e ∷ es) h =
    All-cons P e es (h e (ap (λ b. b || stands_among e es) (is_same-self e)))
    (all_from_each P es (λ f among. h f (ap (λ b. is_same e f || b) among ∙ or_true (is_same e f))))
  where
    or_true : (b : Bool) → (b || true) ≡ true
    or_true true = refl
    or_true false = refl

-- an event that waits is open
waits_open : (a : SharedOf) (f : Facilities) (e : EventId) → AreAllOpen a → ShowsAll a f → requests.waits e f ≡ true → IsOpen a.happen e
waits_open a f e opened shown h =
    let t = anywhere_there e a.resources (anywhere_shown a f e shown ∙ h) in
    all_among (IsOpen a.happen) e (waiting_at t.resource) t.waits (opened.each t.place t.resource t.there)

-- what was open is, where one more event was made
still_open : (k : EventKind) (x : Callback) (a m : SharedOf) (f : Facilities) (e : EventId) → TurnsAll (on_calendar (made_with k x)) unheld_event a m
    → ShowsAll a f → IsOpen a.happen e → IsOpen m.happen e
still_open k x a m f e made h opened =
    let kept : IsKept m.happen.events e = kept_beside a.happen m.happen e made.held opened.kept in
    let old : e.0 < length f.calendar.events = subst (λ n. e.0 < n) h.calendar.made (kept_made a.happen.events e opened.kept) in
    let same : (kept_at m.happen.events e).event ≡ (kept_at a.happen.events e).event =
    ((made.each f h).calendar.kept e kept).event ∙ (make-old k f.calendar e old ∙ sym (h.calendar.kept e opened.kept).event) in
    record {
      kept = kept;
      pending = ap (λ (y : EventOf). y.outcome) same ∙ opened.pending;
      not_cancelled = ap (λ (y : EventOf). y.cancelled) same ∙ opened.not_cancelled;
    }

-- all that waits is open, where one that is open waits too
pub all_open_joined : (k : EventKind) (x : Callback) (a m b : SharedOf) (w : Waiter) → TurnsAll (on_calendar (made_with k x)) unheld_event a m
    → w.event.0 ≡ length a.happen.events → w.res < length a.setup → IsJoinedAt w m b → IsOpen m.happen w.event → ShowsSome a → AreAllOpen a → AreAllOpen b
all_open_joined k x a m b w made same within j new some opened = record {
  each = λ n y there.
      let f : Facilities = some.facilities in
      let h : ShowsAll a f = some.shown in
      let g : Facilities = with_waiter w (on_calendar (made_with k x) f) in
      let is : next_event f.calendar ≡ w.event = next_is a.happen f.calendar w.event same h.calendar in
      let s : ShowsAll b g = joined_shown m b w (on_calendar (made_with k x) f) j (subst (λ rs. w.res < length rs) (sym made.setup) within)
      (subst (λ e. IsNewcomer e (on_calendar (made_with k x) f)) is (newcomer k x (length a.setup) f h.tidy)) (made.each f h) in
      subst (λ z. All (IsOpen z) (waiting_at y)) (sym (ap (λ (z : SharedOf). z.happen) j.rest))
      (all_from_each (IsOpen m.happen) (waiting_at y) (λ e among.
      let waits : (requests.waits e f || (is_of e w || false)) ≡ true = sym (list_any-append (is_of e) f.waiters (w ∷ [])) ∙ waits_there b g n y e s there among in
      elim (cases_Bool (requests.waits e f)) [
        | inl is ↦ still_open k x a m f e made h (waits_open a f e opened h is)
        | inr other ↦ subst (IsOpen m.happen) (is_same-yes w.event e (the_new (is_of e w) (rw other at waits))) new
      ]));
}
  where
    the_new : (b : Bool) → (b || false) ≡ true → b ≡ true
    the_new true h = h
    the_new false h = h

-- ---- an event that is yet to be made is nowhere

none_of : (e : EventId) (ws : List Waiter) → All (λ (v : Waiter). v.event ≢ e) ws → list_any (is_of e) ws ≡ false
none_of e [] h = refl
none_of e (w ∷ ws) h = elim (cases_Bool (is_same w.event e)) [
  | inl is ↦ absurd (All-head (λ (v : Waiter). v.event ≢ e) w ws h (is_same-yes w.event e is))
  | inr other ↦ rw other (none_of e ws (All-tail (λ (v : Waiter). v.event ≢ e) w ws h))
]

not_true : (b : Bool) → not b ≡ true → b ≡ false
not_true true h = absurd (false≢true h)
not_true false h = refl

-- it neither waits nor uses anything, also once it was made
pub absent_next : (k : EventKind) (x : Callback) (a m : SharedOf) (e : EventId) → TurnsAll (on_calendar (made_with k x)) unheld_event a m
    → e.0 ≡ length a.happen.events → m ≡ record a { happen = m.happen } → ShowsSome a → IsAbsent e m
absent_next k x a m e made same rest some = record {
  each = λ n y there.
      let f : Facilities = some.facilities in
      let new : IsNewcomer e (on_calendar (made_with k x) f) = subst (λ i. IsNewcomer i (on_calendar (made_with k x) f)) (next_is a.happen f.calendar e same some.shown.calendar)
      (newcomer k x (length a.setup) f some.shown.tidy) in
      let found : slice_get a.resources n ≡ Some y = sym (ap (λ (z : SharedOf). slice_get z.resources n) rest) ∙ there in
      record {
        waits = elim (cases_Bool (waits_at e y)) [
          | inl is ↦ absurd (false≢true (sym (none_of e f.waiters new.waits) ∙ waits_there a f n y e some.shown found is))
          | inr other ↦ other
        ];
        uses = unused f n y new (some.shown.resources n y found);
      };
}
  where
    unused : (f : Facilities) (n : ℕ) (y : SharedResource) → IsNewcomer e (on_calendar (made_with k x) f) → ShowsAt a.setup n y f → uses_at e y ≡ false
    unused f n (Desk d) new s =
        ap (list_any (λ (u : User). is_same u.request e)) s.users
        ∙ users_unserved e n f.ledger (All-weaker (λ (d : Deed). not (serves e d) ≡ true) (λ d. serves e d ≡ false) (λ d h. not_true (serves e d) h) f.ledger new.served)
    unused f n (Tank t) new s = refl
    unused f n (Shelf t) new s = refl

-- an event that is none of these differs from each
pub all_others : {W : Type 0} (event : W → EventId) (e : EventId) (ws : List W) → list_any (λ w. is_same (event w) e) ws ≡ false
    → All (λ w. event w ≢ e) ws
all_others event e [] h = All-nil (λ w. event w ≢ e)
all_others event e (w ∷ ws) h = elim (cases_Bool (is_same (event w) e)) [
  | inl is ↦ absurd (false≢true (sym (rw is at h)))
  | inr other ↦ All-cons (λ v. event v ≢ e) w ws (λ same. false≢true (sym other ∙ ap (λ f. is_same f e) same ∙ is_same-self e)) (all_others event e ws (rw other at h))
]
