-- An event that waits no longer.
use Rattle.std.proofs.Common.{◌≡◌, ◌≢◌, ℕ, zero, suc, ◌+◌, ◌<◌, Bool, true, false, ◌||◌, ◌&&◌, not, List, [], ◌∷◌, length, refl, sym, subst, ap, ◌∙◌, inl, inr, ⊎_elim, Option, Some, None, map, filter, if◌then◌else◌, arith, get_or}
use Rattle.std.specs.Prelude.{◌==◌, ◌≤◌, slice_get, slice_set}
use Rattle.std.specs.List.{list_any, AllPass}
use Rattle.std.proofs.lemmas.Bool.{false≢true, cases_Bool, cases_eq}
use Rattle.std.proofs.lemmas.Option.{none-some, same_Some, slice_get-get_or, slice_get_within}
use Rattle.std.proofs.lemmas.List.Elements.{All-filter}
use Rattle.std.proofs.lemmas.List.Folds.{list_any-append}
use Rattle.std.proofs.lemmas.List.Kept.{AllPairs-filter}
use Rattle.std.proofs.Math.Seq.{map-set_same}
use Rattle.std.proofs.lemmas.Option.{get_or_from_slice_get}
use Rattle.sim_types.specs.declared.event.EventId.{EventId}
use Rattle.sim_types.specs.declared.setup.Resource.{Resource}
use Rattle.sim_machine.specs.State.{Waiter, Facilities}
use Rattle.sim_machine.specs.Events.{is_same, cancel_event}
use Rattle.sim_machine.specs.Standing.{was_made}
use Rattle.sim_machine.specs.LawfulLedger.{serves}
use Rattle.sim_machine.specs.Users.{resource_at, put_queue, get_queue, wants_to_put, in_order}
use Rattle.sim_machine.specs.Trying.{on_calendar, unqueue}
use Rattle.sim_machine.specs.Requests as requests
use Rattle.sim_machine_law.proofs.Events.EventLaws.{change_event-length}
use Rattle.sim_machine_law.proofs.Processes.LeftScopes.{filter_swap}
use Rattle.sim_happen_model.specs.HappenOf.{HappenOf, IsOpen, gone_if_unheld}
use Rattle.sim_happen_model.specs.Shows.{Turns}
use Rattle.sim_shared_model.specs.DeskOf.{waiter_at}
use Rattle.sim_shared_model.proofs.LeftOut.{none_any}
use Rattle.sim_shared_model.proofs.WaitersInOrder.{in_order_left}
use Rattle.sim_shared_model.specs.StoreQueues.{besides, stands_among}
use Rattle.sim_shared_model.specs.AnyShared.{SharedResource}
use Rattle.sim_shared_model.specs.declared.resource.AnyResource.TheVariants.{Desk, Tank, Shelf}
use Rattle.sim_shared_model.specs.Resources.{without_room, declared_as, waiting_at}
use Rattle.sim_shared_model.specs.SharedOf.{SharedOf}
use Rattle.sim_shared_model.specs.ShowsAll.{ShowsAt, ShowsAll, AreTidy, TurnsAll, AmountFor, amount_for, amount_waiting, put_waiting, get_waiting}
use Rattle.sim_shared_model.specs.Waiting.{waits_at, waits_in, waits_anywhere, besides_at, gone_if_waits, WaitsAtMostAt, AreAllOpen}
use Rattle.sim_shared_law.proofs.Shown.FollowingFacilities.{tidy_later, shown_later}
use Rattle.sim_shared_law.proofs.Shown.ResourcePlaces.{at_each, declared_alike, same_length}
use Rattle.sim_shared_model.proofs.AmongEvents.{any_of_events}
use Rattle.sim_shared_law.proofs.Waiters.WaitingEvents.{all_among, is_at, is_of, waits_shown, any_somewhere, any_nowhere, any_elsewhere}

-- ---- room is nothing to what is shown

room_shown : (rs : List Resource) (res : ℕ) (x : SharedResource) (f : Facilities) → ShowsAt rs res (without_room x) f → ShowsAt rs res x f
room_shown rs res (Desk d) f h = record { queue = h.queue; gets = h.gets; users = h.users }
room_shown rs res (Tank t) f h = record { puts = h.puts; gets = h.gets; level = h.level }
room_shown rs res (Shelf s) f h = record { puts = h.puts; gets = h.gets; items = h.items }

shown_without : (rs : List Resource) (res : ℕ) (x : SharedResource) (f : Facilities) → ShowsAt rs res x f → ShowsAt rs res (without_room x) f
shown_without rs res (Desk d) f h = record { queue = h.queue; gets = h.gets; users = h.users }
shown_without rs res (Tank t) f h = record { puts = h.puts; gets = h.gets; level = h.level }
shown_without rs res (Shelf s) f h = record { puts = h.puts; gets = h.gets; items = h.items }

pub shown_alike : (rs : List Resource) (res : ℕ) (x y : SharedResource) (f : Facilities) → without_room y ≡ without_room x → ShowsAt rs res x f
    → ShowsAt rs res y f
shown_alike rs res x y f same h = room_shown rs res y f (subst (λ z. ShowsAt rs res z f) (sym same) (shown_without rs res x f h))

-- ---- at a place

abbrev keeps : EventId → Waiter → Bool
keeps e w = not (is_same w.event e)

mapped_at : {W V : Type 0} (to : W → V) (p : V → Bool) (w : W) (ws : List W) (b : Bool) → map to (filter (λ v. p (to v)) ws) ≡ filter p (map to ws)
    → map to (if b then w ∷ filter (λ v. p (to v)) ws else filter (λ v. p (to v)) ws) ≡ (if b then to w ∷ filter p (map to ws) else filter p (map to ws))
mapped_at to p w ws true h = ap (λ vs. to w ∷ vs) h
mapped_at to p w ws false h = h

-- some leave before or after they are told otherwise
mapped_without : {W V : Type 0} (to : W → V) (p : V → Bool) (ws : List W) → map to (filter (λ w. p (to w)) ws) ≡ filter p (map to ws)
mapped_without to p [] = refl
mapped_without to p (w ∷ ws) = mapped_at to p w ws (p (to w)) (mapped_without to p ws)

pub put_queue_without : (rs : List Resource) (res : ℕ) (e : EventId) (ws : List Waiter)
    → put_queue rs res (filter (keeps e) ws) ≡ filter (keeps e) (put_queue rs res ws)
put_queue_without rs res e ws =
    let k = (resource_at rs res).kind in
    let puts : Waiter → Bool = λ w. (w.res == res) && wants_to_put w.want in
    ap (in_order k) (filter_swap puts (keeps e) ws) ∙ in_order_left k (keeps e) (filter puts ws)

pub get_queue_without : (res : ℕ) (e : EventId) (ws : List Waiter) → get_queue res (filter (keeps e) ws) ≡ filter (keeps e) (get_queue res ws)
get_queue_without res e ws = filter_swap (λ w. (w.res == res) && not (wants_to_put w.want)) (keeps e) ws

-- what waits is shown without it, and so is what stands at each place
pub unqueued_shown : (rs : List Resource) (res : ℕ) (x : SharedResource) (f : Facilities) (e : EventId) → ShowsAt rs res x f
    → ShowsAt rs res (besides_at e x) (unqueue e f)
unqueued_shown rs res (Desk d) f e h = record {
  queue = mapped_without (waiter_at res) (keeps e) d.queue ∙ (ap (filter (keeps e)) h.queue ∙ sym (put_queue_without rs res e f.waiters));
  gets = get_queue_without res e f.waiters ∙ ap (filter (keeps e)) h.gets;
  users = h.users;
}
unqueued_shown rs res (Tank t) f e h =
    let stays : AmountFor → Bool = λ v. not (is_same v.event e) in
    record {
      puts = mapped_without amount_waiting stays t.puts ∙ (ap (filter stays) h.puts ∙ (sym (mapped_without amount_for stays (put_queue rs res f.waiters)) ∙ ap (map amount_for) (sym (put_queue_without rs res e f.waiters))));
      gets = mapped_without amount_waiting stays t.gets ∙ (ap (filter stays) h.gets ∙ (sym (mapped_without amount_for stays (get_queue res f.waiters)) ∙ ap (map amount_for) (sym (get_queue_without res e f.waiters))));
      level = h.level;
    }
unqueued_shown rs res (Shelf s) f e h = record {
  puts = mapped_without (put_waiting res) (keeps e) s.puts ∙ (ap (filter (keeps e)) h.puts ∙ sym (put_queue_without rs res e f.waiters));
  gets = mapped_without (get_waiting res) (keeps e) s.gets ∙ (ap (filter (keeps e)) h.gets ∙ sym (get_queue_without res e f.waiters));
  items = h.items;
}

or_none : (a b : Bool) → (a || b) ≡ false → (a ≡ false) × (b ≡ false)
or_none true b h = absurd (false≢true (sym h))
or_none false b h = (refl, h)

row_stays : {W : Type 0} (event : W → EventId) (e : EventId) (ws : List W) → stands_among e (map event ws) ≡ false
    → filter (λ w. not (is_same (event w) e)) ws ≡ ws
row_stays event e ws h = none_any (λ w. is_same (event w) e) ws (any_of_events event e ws ∙ h)

-- where it does not wait all stays
pub besides_same : (e : EventId) (x : SharedResource) → waits_at e x ≡ false → besides_at e x ≡ x
besides_same e (Desk d) h = ap (λ q. Desk (record d { queue = q })) (row_stays (λ w. w.request) e d.queue h)
besides_same e (Tank t) h =
    let none = or_none (stands_among e (map (λ w. w.event) t.puts)) (stands_among e (map (λ w. w.event) t.gets))
    (sym (list_any-append (λ g. is_same g e) (map (λ w. w.event) t.puts) (map (λ w. w.event) t.gets)) ∙ h) in
    ap (λ ps. Tank (record t { puts = ps; gets = besides (λ w. w.event) e t.gets })) (row_stays (λ w. w.event) e t.puts none.0)
    ∙ ap (λ gs. Tank (record t { gets = gs })) (row_stays (λ w. w.event) e t.gets none.1)
besides_same e (Shelf s) h =
    let none = or_none (stands_among e (map (λ w. w.event) s.puts)) (stands_among e (map (λ w. w.event) s.gets))
    (sym (list_any-append (λ g. is_same g e) (map (λ w. w.event) s.puts) (map (λ w. w.event) s.gets)) ∙ h) in
    ap (λ ps. Shelf (record s { puts = ps; gets = besides (λ w. w.event) e s.gets })) (row_stays (λ w. w.event) e s.puts none.0)
    ∙ ap (λ gs. Shelf (record s { gets = gs })) (row_stays (λ w. w.event) e s.gets none.1)

pub declared_besides : (e : EventId) (x : SharedResource) → declared_as (besides_at e x) ≡ declared_as x
declared_besides e (Desk d) = refl
declared_besides e (Tank t) = refl
declared_besides e (Shelf s) = refl

pub tidy_unqueued : (n : ℕ) (f : Facilities) (e : EventId) → AreTidy n f → AreTidy n (unqueue e f)
tidy_unqueued n f e h = record {
  waiting = AllPairs-filter (λ (w : Waiter) v. w.event ≢ v.event) (keeps e) f.waiters h.waiting;
  placed = All-filter (keeps e) (λ (w : Waiter). w.res < n) f.waiters h.placed;
  made = All-filter (keeps e) (λ (w : Waiter). was_made f.calendar w.event ≡ true) f.waiters h.made;
  ledger = record {
    once = h.ledger.once;
    apart = All-filter (keeps e) (λ (w : Waiter). AllPass (λ d. not (serves w.event d)) f.ledger) f.waiters h.ledger.apart;
    made = h.ledger.made;
  };
}

-- ---- everywhere

-- an event that waits at a place waits, and nowhere else
pub waits_there : (a : SharedOf) (f : Facilities) (n : ℕ) (x : SharedResource) (e : EventId) → ShowsAll a f → slice_get a.resources n ≡ Some x
    → waits_at e x ≡ true → requests.waits e f ≡ true
waits_there a f n x e h there waits =
    any_somewhere (is_of e) (is_at n) f.waiters (sym (waits_shown a.setup n x f e (h.resources n x there)) ∙ waits)

pub cancelled_at : (a : SharedOf) (x : HappenOf) (n : ℕ) (y z : SharedResource) (e : EventId) → slice_get a.resources n ≡ Some y → waits_at e y ≡ true
    → without_room z ≡ without_room (besides_at e y) → Turns (cancel_event e) (gone_if_unheld e) a.happen x
    → TurnsAll (requests.cancel e) (gone_if_unheld e) a (record a { happen = x; resources = slice_set a.resources n z })
cancelled_at a x n y z e there waits same t = record {
  each = λ f h.
      let after : Facilities = on_calendar (cancel_event e) (unqueue e f) in
      let shown_at : (m : ℕ) (w : SharedResource) → slice_get a.resources m ≡ Some w → ShowsAt a.setup m (besides_at e w) after = λ m w found.
      shown_later a.setup m (besides_at e w) (unqueue e f) (cancel_event e f.calendar) (unqueued_shown a.setup m w f e (h.resources m w found)) in
      let here : list_any (is_of e) (filter (is_at n) f.waiters) ≡ true = sym (waits_shown a.setup n y f e (h.resources n y there)) ∙ waits in
      let long : length f.calendar.events ≡ length (cancel_event e f.calendar).events = sym (change_event-length e (λ v. record v { cancelled = true }) f.calendar) in
      subst (ShowsAll (record a { happen = x; resources = slice_set a.resources n z })) (ap (λ b. if b then after else f) (sym (waits_there a f n y e h there waits)))
      (record {
        calendar = t.each f.calendar h.calendar;
        opened = map-set_same declared_as a.resources n z y (declared_alike (besides_at e y) z same ∙ (declared_besides e y ∙ ap declared_as (sym (get_or_from_slice_get a.resources n y y there)))) ∙ h.opened;
        resources = at_each (λ m w. ShowsAt a.setup m w after) a.resources n y z there (shown_alike a.setup n (besides_at e y) z after same (shown_at n y there))
            (λ m w other found.
            let none : waits_at e w ≡ false = waits_shown a.setup m w f e (h.resources m w found) ∙ any_elsewhere e n m f.waiters (λ is. other (sym is)) h.tidy.waiting here in
            subst (λ v. ShowsAt a.setup m v after) (besides_same e w none) (shown_at m w found));
        tidy = tidy_later (length a.setup) (unqueue e f) (cancel_event e f.calendar) (subst (λ k. length f.calendar.events ≤ k) long (omega arith)) (tidy_unqueued (length a.setup) f e h.tidy);
      });
  held = t.held;
  left = t.left;
  setup = refl;
}

-- an event that waits at no place does not wait
pub waits_nowhere : (a : SharedOf) (f : Facilities) (e : EventId) → ShowsAll a f
    → ((n : ℕ) (x : SharedResource) → slice_get a.resources n ≡ Some x → waits_at e x ≡ false)
    → requests.waits e f ≡ false
waits_nowhere a f e h none =
    any_nowhere (is_of e) (length a.setup) f.waiters h.tidy.placed (λ n below.
    let within : n < length a.resources = rw (same_length a.resources a.setup h.opened) below in
    let x : SharedResource = get_or a.resources n (first_of a.resources n within) in
    let there : slice_get a.resources n ≡ Some x = slice_get-get_or a.resources n (first_of a.resources n within) within in
    sym (waits_shown a.setup n x f e (h.resources n x there)) ∙ none n x there)
  where
    first_of : (xs : List SharedResource) (n : ℕ) → n < length xs → SharedResource
    first_of [] n h = absurd (omega (arith, h))
    first_of (x ∷ xs) n h = x

pub cancelled_nowhere : (a : SharedOf) (e : EventId) → ((n : ℕ) (x : SharedResource) → slice_get a.resources n ≡ Some x → waits_at e x ≡ false)
    → TurnsAll (requests.cancel e) (λ hs. hs) a a
cancelled_nowhere a e none = record {
  each = λ f h. subst (ShowsAll a) (ap (λ b. if b then on_calendar (cancel_event e) (unqueue e f) else f) (sym (waits_nowhere a f e h none))) h;
  held = refl;
  left = refl;
  setup = refl;
}

-- ---- one place after another

-- an event waits at this place
pub record IsThere (e : EventId) (xs : List SharedResource) : Type 0 where
  pub place : ℕ
  pub resource : SharedResource
  pub there : slice_get xs place ≡ Some resource
  pub waits : waits_at e resource ≡ true

later_there : (e : EventId) (x : SharedResource) (xs : List SharedResource) → IsThere e xs → IsThere e (x ∷ xs)
later_there e x xs h = record { place = suc h.place; resource = h.resource; there = h.there; waits = h.waits }

pub anywhere_there : (e : EventId) (xs : List SharedResource) → waits_anywhere e xs ≡ true → IsThere e xs
anywhere_there e [] h = absurd (false≢true h)
anywhere_there e (x ∷ xs) h = elim (cases_Bool (waits_at e x)) [
  | inl is ↦ record { place = 0; resource = x; there = refl; waits = is }
  | inr other ↦ later_there e x xs (anywhere_there e xs (rw other at h))
]

pub nowhere_there : (e : EventId) (xs : List SharedResource) → waits_anywhere e xs ≡ false → (n : ℕ) (x : SharedResource) → slice_get xs n ≡ Some x
    → waits_at e x ≡ false
nowhere_there e [] h n x there = absurd (none-some x there)
nowhere_there e (y ∷ xs) h zero x there = ap (waits_at e) (sym (same_Some y x there)) ∙ (or_none (waits_at e y) (waits_anywhere e xs) h).0
nowhere_there e (y ∷ xs) h (suc n) x there = nowhere_there e xs (or_none (waits_at e y) (waits_anywhere e xs) h).1 n x there

pub nowhere_in : (e : EventId) (xs : List SharedResource) (n : ℕ) → waits_anywhere e xs ≡ false → waits_in e (slice_get xs n) ≡ false
nowhere_in e [] n h = refl
nowhere_in e (y ∷ xs) zero h = (or_none (waits_at e y) (waits_anywhere e xs) h).0
nowhere_in e (y ∷ xs) (suc n) h = nowhere_in e xs n (or_none (waits_at e y) (waits_anywhere e xs) h).1

-- what is seen of who waits is what is shown
pub anywhere_shown : (a : SharedOf) (f : Facilities) (e : EventId) → ShowsAll a f → waits_anywhere e a.resources ≡ requests.waits e f
anywhere_shown a f e h = elim (cases_Bool (waits_anywhere e a.resources)) [
  | inl is ↦ let t = anywhere_there e a.resources is in is ∙ sym (waits_there a f t.place t.resource e h t.there t.waits)
  | inr none ↦ none ∙ sym (waits_nowhere a f e h (nowhere_there e a.resources none))
]

pub found_anywhere : (e : EventId) (xs : List SharedResource) (n : ℕ) → n < length xs → ((x : SharedResource) → slice_get xs n ≡ Some x → true ≡ waits_at e x)
    → true ≡ waits_anywhere e xs
found_anywhere e [] n below h = absurd (omega (arith, below))
found_anywhere e (x ∷ xs) zero below h = rw (← h x refl) refl
found_anywhere e (x ∷ xs) (suc n) below h = elim (cases_Bool (waits_at e x)) [
  | inl is ↦ rw is refl
  | inr other ↦ rw other (found_anywhere e xs n (omega (arith, below)) h)
]

pub nowhere_seen : (e : EventId) (xs : List SharedResource) → ((n : ℕ) (x : SharedResource) → n < length xs → slice_get xs n ≡ Some x → waits_at e x ≡ false)
    → waits_anywhere e xs ≡ false
nowhere_seen e [] h = refl
nowhere_seen e (x ∷ xs) h = rw (h zero x (omega arith) refl) (nowhere_seen e xs (λ n y below. h (suc n) y (omega (arith, below))))

-- it waits at none of the first places, and not at the next
pub nowhere_more : (e : EventId) (xs : List SharedResource) (at : ℕ) → ((n : ℕ) (x : SharedResource) → n < at → slice_get xs n ≡ Some x → waits_at e x ≡ false)
    → ((x : SharedResource) → slice_get xs at ≡ Some x → false ≡ waits_at e x)
    → (n : ℕ) (x : SharedResource) → n < at + 1 → slice_get xs n ≡ Some x → waits_at e x ≡ false
nowhere_more e xs at before here n x below there = ⊎_elim
    (λ (is : n ≡ at). sym (here x (subst (λ k. slice_get xs k ≡ Some x) is there)))
    (λ (differ : n ≢ at). before n x (omega (arith, below, differ)) there)
    (cases_eq n at)

waits_some : (e : EventId) (o : Option SharedResource) → waits_in e o ≡ true → (x : SharedResource) × (o ≡ Some x) × (waits_at e x ≡ true)
waits_some e None h = absurd (false≢true h)
waits_some e (Some x) h = (x, refl, h)

-- an event that waits at this place at most was taken out of its queue there, if it waited
pub cancelled_here : (a b : SharedOf) (e : EventId) (n : ℕ) (waited : Bool) → WaitsAtMostAt e n a → waited ≡ waits_in e (slice_get a.resources n)
    → (waited ≡ true → TurnsAll (requests.cancel e) (gone_if_unheld e) a b) → (waited ≡ false → b ≡ a)
    → TurnsAll (requests.cancel e) (gone_if_waits (waits_anywhere e a.resources) e) a b
cancelled_here a b e n true most is turns same =
    let t = waits_some e (slice_get a.resources n) (sym is) in
    elim (cases_Bool (waits_anywhere e a.resources)) [
      | inl found ↦ rw found (turns refl)
      | inr none ↦ absurd (false≢true (sym (nowhere_there e a.resources none n t.0 t.1) ∙ t.2))
    ]
cancelled_here a b e n false most is turns same =
    let none : (m : ℕ) (x : SharedResource) → slice_get a.resources m ≡ Some x → waits_at e x ≡ false = λ m x there. ⊎_elim
    (λ (here : m ≡ n). sym (is ∙ ap (waits_in e) (subst (λ k. slice_get a.resources k ≡ Some x) here there)))
    (λ (other : m ≢ n). most.elsewhere m x other there)
    (cases_eq m n) in
    rw (nowhere_seen e a.resources (λ m x below. none m x), same refl) (cancelled_nowhere a e none)

-- what is not open waits nowhere
pub unopen_nowhere : (a : SharedOf) (e : EventId) → AreAllOpen a → (IsOpen a.happen e → ⊥) → waits_anywhere e a.resources ≡ false
unopen_nowhere a e h not_open = elim (cases_Bool (waits_anywhere e a.resources)) [
  | inl is ↦
      let t = anywhere_there e a.resources is in
      absurd (not_open (all_among (IsOpen a.happen) e (waiting_at t.resource) t.waits (h.each t.place t.resource t.there)))
  | inr none ↦ none
]

-- what waits at a place waits somewhere
pub waits_somewhere : (e : EventId) (xs : List SharedResource) (n : ℕ) (waited : Bool) → waited ≡ waits_in e (slice_get xs n) → waited ≡ true
    → waits_anywhere e xs ≡ true
waits_somewhere e xs n waited is h =
    let t = waits_some e (slice_get xs n) (sym is ∙ h) in
    sym (found_anywhere e xs n (slice_get_within xs n t.0 t.1) (λ x there. sym h ∙ (is ∙ ap (waits_in e) there)))
