-- A waiter of any kind that is served at any resource: it leaves its queue and only its queue, a deed is written, and what stands at
-- all places is shown. What is shown once the calendar changes too is that of FollowingFacilities.
-- `served_at` is the whole: what is left to show is its own resource, and that the deed is nothing to the others.
use Rattle.std.proofs.Common.{◌≡◌, ◌≢◌, ℕ, ℤ, pos, ◌+ℤ◌, Bool, true, false, ◌&&◌, not, List, [], ◌∷◌, ◌++◌, length, refl, sym, subst, ap, ◌∙◌, inl, inr, Option, Some, None, filter, arith, get_or}
use Rattle.std.specs.Prelude.{◌==◌, All, AllPairs, slice_get, slice_set}
use Rattle.std.specs.List.{list_any, AllPass}
use Rattle.std.proofs.lemmas.Bool.{false≢true, cases_Bool, and_parts}
use Rattle.std.proofs.lemmas.Int.{ints}
use Rattle.std.proofs.lemmas.Option.{get_or_from_slice_get}
use Rattle.std.proofs.lemmas.List.Elements.{All-nil, All-cons, All-head, All-tail, All-append, All-weaker, filter_passes}
use Rattle.std.proofs.lemmas.List.Quantifiers.{all_pairs_push}
use Rattle.std.proofs.Math.Seq.{map-set_same}
use Rattle.sim_types.specs.declared.event.EventId.{EventId}
use Rattle.sim_types.specs.declared.setup.Resource.{Resource}
use Rattle.sim_types.proofs.Permutations.{AllPairs-head, AllPairs-tail}
use Rattle.sim_machine.specs.State.{Waiter, Deed, Facilities}
use Rattle.sim_machine.specs.Events.{is_same}
use Rattle.sim_machine.specs.Standing.{was_made}
use Rattle.sim_machine.specs.LawfulLedger.{ServeApart, serves, served_by, is_served, was_made_if_any}
use Rattle.sim_machine.specs.Users.{users, items, change_of_level, level_after, resource_at, put_queue, get_queue, wants_to_put}
use Rattle.sim_machine.specs.Trying.{write_deed, unqueue}
use Rattle.sim_machine_law.proofs.Events.EventLaws.{is_same-yes, is_same-self}
use Rattle.sim_machine_law.proofs.Ledger.LedgerSteps.{level_more}
use Rattle.sim_machine_law.proofs.Ledger.TriedQueues.{AreApart, IsOneOf, is_put_queue, is_get_queue, one_has, all_in_order}
use Rattle.sim_shared_model.proofs.LeftOut.{same_no}
use Rattle.sim_shared_model.specs.AnyShared.{SharedResource}
use Rattle.sim_shared_model.specs.declared.resource.AnyResource.TheVariants.{Desk, Tank, Shelf}
use Rattle.sim_shared_model.specs.Resources.{declared_as}
use Rattle.sim_shared_model.specs.SharedOf.{SharedOf}
use Rattle.sim_shared_model.specs.ShowsAll.{ShowsAt, ShowsAll, AreTidy}
use Rattle.sim_shared_model.specs.Waiting.{waits_at}
use Rattle.sim_shared_law.proofs.Waiters.CancelledEvents.{besides_same, unqueued_shown, tidy_unqueued, waits_there, put_queue_without, get_queue_without}
use Rattle.sim_shared_law.proofs.Shown.ResourcePlaces.{at_each}
use Rattle.sim_shared_law.proofs.Waiters.WaitingEvents.{is_at, is_of, waits_shown, any_elsewhere}

-- ---- a deed in the ledger

-- a deed may be written: what it serves was served by no deed before, waits nowhere, and was made
pub record MayWrite (d : Deed) (f : Facilities) : Type 0 where
  pub once : (e : EventId) → serves e d ≡ true → AllPass (λ x. not (serves e x)) f.ledger
  pub apart : (e : EventId) → serves e d ≡ true → All (λ w. w.event ≢ e) f.waiters
  pub made : was_made_if_any f.calendar (served_by d) ≡ true

unserved : (e : EventId) (d : Deed) → (serves e d ≡ true → ⊥) → not (serves e d) ≡ true
unserved e d h = elim (cases_Bool (serves e d)) [
  | inl is ↦ absurd (h is)
  | inr other ↦ ap not other
]

-- who waits, and the ledger, are in order with it
pub tidy_written : (n : ℕ) (d : Deed) (f : Facilities) → MayWrite d f → AreTidy n f → AreTidy n (write_deed d f)
tidy_written n d f may h =
    let Made : Deed → Type 0 = λ x. was_made_if_any f.calendar (served_by x) ≡ true in
    record {
      waiting = h.waiting;
      placed = h.placed;
      made = h.made;
      ledger = record {
        once = all_pairs_push ServeApart f.ledger d h.ledger.once
            (λ k x below. λ e old new. false≢true (sym (ap not old) ∙ may.once e new k x below));
        apart = λ k w below.
            let v : Waiter = get_or f.waiters k w in
            let P : Deed → Type 0 = λ x. not (serves v.event x) ≡ true in
            All-append P f.ledger (d ∷ []) (h.ledger.apart k w below)
            (All-cons P d [] (unserved v.event d (λ is. may.apart v.event is k w below refl)) (All-nil P));
        made = All-append Made f.ledger (d ∷ []) h.ledger.made (All-cons Made d [] may.made (All-nil Made));
      };
    }

-- one that serves no event
pub writes_nothing : (d : Deed) (f : Facilities) → served_by d ≡ None → MayWrite d f
writes_nothing d f none =
    let never : (e : EventId) → serves e d ≡ true → ⊥ = λ e is. false≢true (sym (ap (is_served e) none) ∙ is) in
    record {
      once = λ e is. absurd (never e is);
      apart = λ e is. absurd (never e is);
      made = rw none refl;
    }

-- ---- an event that waits

-- what holds of the events of all waiters holds of one that waits
pub has_waiter : (P : EventId → Type 0) (e : EventId) (ws : List Waiter) → list_any (is_of e) ws ≡ true → All (λ (w : Waiter). P w.event) ws → P e
has_waiter P e [] h all = absurd (false≢true h)
has_waiter P e (w ∷ ws) h all = elim (cases_Bool (is_same w.event e)) [
  | inl is ↦ subst P (is_same-yes w.event e is) (All-head (λ (v : Waiter). P v.event) w ws all)
  | inr other ↦ has_waiter P e ws (rw other at h) (All-tail (λ (v : Waiter). P v.event) w ws all)
]

-- nobody waits for it once it has left
pub left_apart : (e : EventId) (ws : List Waiter) → All (λ (w : Waiter). w.event ≢ e) (filter (λ (w : Waiter). not (is_same w.event e)) ws)
left_apart e ws =
    All-weaker (λ (w : Waiter). not (is_same w.event e) ≡ true) (λ (w : Waiter). w.event ≢ e)
    (λ w stays same. false≢true (sym (ap not (subst (λ g. is_same g e ≡ true) (sym same) (is_same-self e))) ∙ stays))
    (filter (λ (w : Waiter). not (is_same w.event e)) ws) (filter_passes (λ (w : Waiter). not (is_same w.event e)) ws)

-- a deed serves this event or none
abbrev pub ServesAtMost : EventId → Deed → Type 0
ServesAtMost e d = (x : EventId) → serves x d ≡ true → x ≡ e

made_at_most : (f : Facilities) (e : EventId) (o : Option EventId) → ((x : EventId) → is_served x o ≡ true → x ≡ e)
    → was_made f.calendar e ≡ true → was_made_if_any f.calendar o ≡ true
made_at_most f e None only made = refl
made_at_most f e (Some x) only made = subst (λ y. was_made f.calendar y ≡ true) (sym (only x (is_same-self x))) made

-- the deed that serves a waiter may be written once it has left
pub writes_served : (n : ℕ) (e : EventId) (d : Deed) (f : Facilities) → list_any (is_of e) f.waiters ≡ true → ServesAtMost e d → AreTidy n f
    → MayWrite d (unqueue e f)
writes_served n e d f waits only h =
    let never : AllPass (λ x. not (serves e x)) f.ledger = has_waiter (λ g. AllPass (λ x. not (serves g x)) f.ledger) e f.waiters waits h.ledger.apart in
    record {
      once = λ x is. subst (λ g. AllPass (λ y. not (serves g y)) f.ledger) (sym (only x is)) never;
      apart = λ x is. subst (λ g. All (λ (w : Waiter). w.event ≢ g) (unqueue e f).waiters) (sym (only x is)) (left_apart e f.waiters);
      made = made_at_most f e (served_by d) only (has_waiter (λ g. was_made f.calendar g ≡ true) e f.waiters waits h.made);
    }

pub tidy_served : (n : ℕ) (e : EventId) (d : Deed) (f : Facilities) → list_any (is_of e) f.waiters ≡ true → ServesAtMost e d → AreTidy n f
    → AreTidy n (write_deed d (unqueue e f))
tidy_served n e d f waits only h = tidy_written n d (unqueue e f) (writes_served n e d f waits only h) (tidy_unqueued n f e h)

-- ---- other places

-- a deed changes neither the users nor the items nor the level of the resource at this place
pub record StaysAt (n : ℕ) (d : Deed) (ledger : List Deed) : Type 0 where
  pub users_stay : users n (ledger ++ d ∷ []) ≡ users n ledger
  pub items_stay : items n (ledger ++ d ∷ []) ≡ items n ledger
  pub level_stays : change_of_level n d ≡ pos 0

-- with no change a level stays
pub same_level : (start : ℤ) (n : ℕ) (d : Deed) (ledger : List Deed) → change_of_level n d ≡ pos 0
    → level_after start n (ledger ++ d ∷ []) ≡ level_after start n ledger
same_level start n d ledger none = level_more start n d ledger ∙ no_more (level_after start n ledger) (change_of_level n d) none
  where
    no_more : (n m : ℤ) → m ≡ pos 0 → n +ℤ m ≡ n
    no_more n m h = omega (arith, ints, h)

pub written_there : (rs : List Resource) (n : ℕ) (x : SharedResource) (d : Deed) (f : Facilities) → StaysAt n d f.ledger → ShowsAt rs n x f
    → ShowsAt rs n x (write_deed d f)
written_there rs n (Desk k) d f h s = record { queue = s.queue; gets = s.gets; users = s.users ∙ sym h.users_stay }
written_there rs n (Tank t) d f h s = record {
  puts = s.puts;
  gets = s.gets;
  level = s.level ∙ sym (same_level (resource_at rs n).opening n d f.ledger h.level_stays);
}
written_there rs n (Shelf k) d f h s = record { puts = s.puts; gets = s.gets; items = s.items ∙ sym h.items_stay }

-- an event that waits at one place leaves no queue at another
pub unqueued_elsewhere : (a : SharedOf) (f : Facilities) (res n : ℕ) (x y : SharedResource) (e : EventId) → ShowsAll a f
    → slice_get a.resources res ≡ Some x → waits_at e x ≡ true → n ≢ res → slice_get a.resources n ≡ Some y
    → ShowsAt a.setup n y (unqueue e f)
unqueued_elsewhere a f res n x y e h there waits other found =
    let here : list_any (is_of e) (filter (is_at res) f.waiters) ≡ true = sym (waits_shown a.setup res x f e (h.resources res x there)) ∙ waits in
    let none : waits_at e y ≡ false = waits_shown a.setup n y f e (h.resources n y found) ∙ any_elsewhere e res n f.waiters (λ is. other (sym is)) h.tidy.waiting here in
    subst (λ v. ShowsAt a.setup n v (unqueue e f)) (besides_same e y none) (unqueued_shown a.setup n y f e (h.resources n y found))

-- ---- the whole

-- a deed alone is written: all is shown again once its own resource is
pub written_at : (a : SharedOf) (f : Facilities) (res : ℕ) (x y : SharedResource) (d : Deed) → ShowsAll a f → slice_get a.resources res ≡ Some x
    → declared_as y ≡ declared_as x → MayWrite d f → ((n : ℕ) → n ≢ res → StaysAt n d f.ledger) → ShowsAt a.setup res y (write_deed d f)
    → ShowsAll (record a { resources = slice_set a.resources res y }) (write_deed d f)
written_at a f res x y d h there same may stays here = record {
  calendar = h.calendar;
  opened = map-set_same declared_as a.resources res y x (same ∙ ap declared_as (sym (get_or_from_slice_get a.resources res x x there))) ∙ h.opened;
  resources = at_each (λ n z. ShowsAt a.setup n z (write_deed d f)) a.resources res x y there here
      (λ n z other found. written_there a.setup n z d f (stays n other) (h.resources n z found));
  tidy = tidy_written (length a.setup) d f may h.tidy;
}

-- one that waits at this place leaves, and the deed is written: all is shown again once its own resource is
pub served_at : (a : SharedOf) (f : Facilities) (res : ℕ) (x y : SharedResource) (e : EventId) (d : Deed) → ShowsAll a f
    → slice_get a.resources res ≡ Some x → waits_at e x ≡ true → declared_as y ≡ declared_as x → ServesAtMost e d
    → ((n : ℕ) → n ≢ res → StaysAt n d f.ledger) → ShowsAt a.setup res y (write_deed d (unqueue e f))
    → ShowsAll (record a { resources = slice_set a.resources res y }) (write_deed d (unqueue e f))
served_at a f res x y e d h there waits same only stays here = record {
  calendar = h.calendar;
  opened = map-set_same declared_as a.resources res y x (same ∙ ap declared_as (sym (get_or_from_slice_get a.resources res x x there))) ∙ h.opened;
  resources = at_each (λ n z. ShowsAt a.setup n z (write_deed d (unqueue e f))) a.resources res x y there here
      (λ n z other found. written_there a.setup n z d (unqueue e f) (stays n other) (unqueued_elsewhere a f res n x z e h there waits other found));
  tidy = tidy_served (length a.setup) e d f (waits_there a f res x e h there waits) only h.tidy;
}

-- ---- its own queue

others_stay : (w : Waiter) (ws : List Waiter) → All (AreApart w) ws → filter (λ v. not (is_same v.event w.event)) ws ≡ ws
others_stay w [] h = refl
others_stay w (v ∷ ws) h =
    rw (same_no v.event w.event (λ same. All-head (AreApart w) v ws h (sym same))) (ap (λ vs. v ∷ vs) (others_stay w ws (All-tail (AreApart w) v ws h)))

-- the first of a queue leaves it, and all others stay
pub first_leaves : (w : Waiter) (ws : List Waiter) → AllPairs AreApart (w ∷ ws) → filter (λ v. not (is_same v.event w.event)) (w ∷ ws) ≡ ws
first_leaves w ws h = rw (is_same-self w.event) (others_stay w ws (AllPairs-head AreApart w ws h))

pub put_queue_served : (rs : List Resource) (n res : ℕ) (w : Waiter) (ws : List Waiter) (f : Facilities) → AreTidy n f
    → put_queue rs res f.waiters ≡ w ∷ ws → put_queue rs res (unqueue w.event f).waiters ≡ ws
put_queue_served rs n res w ws f h is =
    put_queue_without rs res w.event f.waiters ∙ (ap (filter (λ v. not (is_same v.event w.event))) is
    ∙ first_leaves w ws (subst (AllPairs AreApart) is (is_put_queue rs res f.waiters h.waiting).apart))

-- ---- its resource's other queue

-- two that wait for one event are one
same_waiter : (ws : List Waiter) (v w : Waiter) → AllPairs AreApart ws → IsOneOf ws v → IsOneOf ws w → v.event ≡ w.event → v ≡ w
same_waiter [] v w apart none other same = absurd none
same_waiter (u ∷ ws) v w apart (inl is) (inl also) same = sym is ∙ also
same_waiter (u ∷ ws) v w apart (inl is) (inr later) same =
    absurd (one_has (AreApart u) ws w (AllPairs-head AreApart u ws apart) later (ap (λ (x : Waiter). x.event) is ∙ same))
same_waiter (u ∷ ws) v w apart (inr later) (inl is) same =
    absurd (one_has (AreApart u) ws v (AllPairs-head AreApart u ws apart) later (ap (λ (x : Waiter). x.event) is ∙ sym same))
same_waiter (u ∷ ws) v w apart (inr later) (inr also) same = same_waiter ws v w (AllPairs-tail AreApart u ws apart) later also same

-- one that does not pass waits for another event than each of a queue that does
apart_from : (P : Waiter → Type 0) (ws queue : List Waiter) (w : Waiter) → AllPairs AreApart ws → IsOneOf ws w → (P w → ⊥) → All (IsOneOf ws) queue
    → All P queue → All (AreApart w) queue
apart_from P ws queue w apart one fails waiting passes =
    λ k d below same. fails (subst P (sym (same_waiter ws w (get_or queue k d) apart one (waiting k d below) same)) (passes k d below))

puts_pass : (rs : List Resource) (res : ℕ) (ws : List Waiter) → All (λ (w : Waiter). wants_to_put w.want ≡ true) (put_queue rs res ws)
puts_pass rs res ws =
    let test : Waiter → Bool = λ w. (w.res == res) && wants_to_put w.want in
    all_in_order (λ w. wants_to_put w.want ≡ true) (resource_at rs res).kind (filter test ws)
    (All-weaker (λ w. test w ≡ true) (λ w. wants_to_put w.want ≡ true) (λ w h. (and_parts (w.res == res) (wants_to_put w.want) h).1) (filter test ws) (filter_passes test ws))

gets_pass : (res : ℕ) (ws : List Waiter) → All (λ (w : Waiter). not (wants_to_put w.want) ≡ true) (get_queue res ws)
gets_pass res ws =
    let test : Waiter → Bool = λ w. (w.res == res) && not (wants_to_put w.want) in
    All-weaker (λ w. test w ≡ true) (λ w. not (wants_to_put w.want) ≡ true) (λ w h. (and_parts (w.res == res) (not (wants_to_put w.want)) h).1) (filter test ws) (filter_passes test ws)

both_wants : (b : Bool) → b ≡ true → not b ≡ true → ⊥
both_wants b puts gets = false≢true (sym (ap not puts) ∙ gets)

-- where a request or put is served, the gets stay, at any place
pub gets_stay : (rs : List Resource) (n res at : ℕ) (w : Waiter) (f : Facilities) → AreTidy n f → IsOneOf (put_queue rs res f.waiters) w
    → get_queue at (unqueue w.event f).waiters ≡ get_queue at f.waiters
gets_stay rs n res at w f h here =
    let puts : List Waiter = put_queue rs res f.waiters in
    let one : IsOneOf f.waiters w = one_has (IsOneOf f.waiters) puts w (is_put_queue rs res f.waiters h.waiting).waiting here in
    let passes : wants_to_put w.want ≡ true = one_has (λ (v : Waiter). wants_to_put v.want ≡ true) puts w (puts_pass rs res f.waiters) here in
    get_queue_without at w.event f.waiters
    ∙ others_stay w (get_queue at f.waiters) (apart_from (λ v. not (wants_to_put v.want) ≡ true) f.waiters (get_queue at f.waiters) w h.waiting one
    (both_wants (wants_to_put w.want) passes) (is_get_queue at f.waiters h.waiting).waiting (gets_pass at f.waiters))
