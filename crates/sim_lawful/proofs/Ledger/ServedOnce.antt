-- What is done at the resources serves each request and each put once, and all tries stay at resources that there are.
use Rattle.std.proofs.Common.{◌≡◌, ◌≢◌, ℕ, ◌<◌, ◌≤◌, ℤ, pos, Bool, true, false, not, length, List, [], ◌∷◌, Option, Some, None, refl, sym, ap, ◌∙◌, arith, ◌++◌, filter, subst}
use Rattle.std.specs.Prelude.{All, AllPairs, get_or, int_lt, int_le, ◌+ℤ◌}
use Rattle.std.specs.List.{AllPass}
use Rattle.std.proofs.lemmas.Bool.{both_ways, false≢true, not-true, lt-ltb}
use Rattle.std.proofs.lemmas.List.Elements.{All-head, All-tail, All-push, All-weaker, All-filter}
use Rattle.std.proofs.lemmas.List.Kept.{AllPairs-filter}
use Rattle.std.proofs.lemmas.List.Quantifiers.{all_pairs_push}
use Rattle.sim_types.proofs.Permutations.{AllPairs-head, AllPairs-tail}
use Rattle.sim_types.specs.declared.event.EventId.{EventId}
use Rattle.sim_types.specs.declared.event.EventKind.{EventKind}
use Rattle.sim_types.specs.declared.event.ProcId.{ProcId}
use Rattle.sim_types.specs.declared.event.RequestKey.{RequestKey}
use Rattle.sim_types.specs.declared.event.Throw.{Throw}
use Rattle.sim_types.specs.declared.event.Callback.{Callback}
use Rattle.sim_types.specs.declared.event.EventKind.TheVariants as kind
use Rattle.sim_types.specs.declared.event.Outcome.TheVariants as outcome
use Rattle.sim_types.specs.declared.event.Callback.TheVariants as callback
use Rattle.sim_types.specs.declared.setup.Resource.{Resource}
use Rattle.sim_machine.specs.State.{Calendar, Want, Slot, Give, Take, Waiter, User, Item, Deed, Granted, Released, Preempted, Deposited, Taken, Filled, Drained, Facilities}
use Rattle.sim_machine.specs.Events.{is_same, next_event, cancel_event, register}
use Rattle.sim_machine.specs.Triggering.{normal, make, succeed, make_interruption}
use Rattle.sim_machine.specs.Users.{resource_at, users, items, item_for, put_queue, get_queue}
use Rattle.sim_machine.specs.Attempts.{Grant, NoSlot, FreeSlot, SlotOf, Served, grant_of, is_container, fill, drain, deposit, hand_out}
use Rattle.sim_machine.specs.Trying.{Reach, write_deed, level, unqueue, serve, serve_if_any, preempt, take_slot, use_slot, attempt_for, attempt, goes_on, try_along, put_reach, get_reach, try_put, try_get}
use Rattle.sim_machine.specs.Requests.{join, is_user, end_use, make_release, waits, cancel, leave}
use Rattle.sim_machine.specs.Standing.{was_made}
use Rattle.sim_machine.specs.LawfulTries.{tries_well}
use Rattle.sim_machine.specs.LawfulLedger.{LawfulLedger, ServeApart, served_by, is_served, serves, was_made_if_any}
use Rattle.sim_machine_law.proofs.Events.EventLaws.{is_same-yes, make-length}
use Rattle.sim_machine_law.proofs.KeptParts.KeptRegistrationsCalendar.{below_made, made_below}
use Rattle.sim_machine_law.proofs.KeptParts.KeptTimesCases.{if_cases}
use Rattle.sim_lawful.proofs.Ledger.KeptTries.{TryWell, KeepsTries, tries_then, tries_changed, tries_made, tries_registered, tries_scheduled, tries_interrupted}
use Rattle.sim_lawful.proofs.Waiting.ServedWaiters.{unqueued_apart}
use Rattle.sim_machine_law.proofs.Ledger.TriedQueues.{AreApart, IsOneOf, IsQueueOf, one_has, is_put_queue, is_get_queue}

-- whether no deed served e
abbrev pub IsUnserved : EventId → List Deed → Type 0
IsUnserved e ledger = AllPass (λ d. not (serves e d)) ledger

-- the event was made, and no deed served it
pub record MayServe (f : Facilities) (e : EventId) : Type 0 where
  pub there : e.0 < length f.calendar.events
  pub unserved : IsUnserved e f.ledger

-- what waits waits once and may be served; no two deeds serve one event, and what they serve was made; and all tries are
-- at one of n resources
pub record ServesOnce (n : ℕ) (f : Facilities) : Type 0 where
  pub waiting : AllPairs AreApart f.waiters
  pub may : All (λ w. MayServe f w.event) f.waiters
  pub once : AllPairs ServeApart f.ledger
  pub made : AllPass (λ d. was_made_if_any f.calendar (served_by d)) f.ledger
  pub tries : TryWell n f.calendar.registered

-- so the ledger is lawful
pub ledger_of : (n : ℕ) (f : Facilities) → ServesOnce n f → LawfulLedger f
ledger_of n f h =
    record { once = h.once; apart = All-weaker (λ w. MayServe f w.event) (λ w. IsUnserved w.event f.ledger) (λ w may. may.unserved) f.waiters h.may; made = h.made }

-- a deed that serves no other event than e
record ServesOnly (e : EventId) (d : Deed) : Type 0 where
  pub only : (x : EventId) → serves x d ≡ true → e ≡ x
  pub made : (c : Calendar) → was_made c e ≡ true → was_made_if_any c (served_by d) ≡ true

made_later : (c d : Calendar) (o : Option EventId) → length c.events ≤ length d.events → was_made_if_any c o ≡ true → was_made_if_any d o ≡ true
made_later c d None longer h = refl
made_later c d (Some x) longer h =
    let there : x.0 < length c.events = made_below c x h in
    below_made d x (omega (arith, there, longer))

-- what was not yet made was served by no deed
served_made : (c : Calendar) (e : EventId) (o : Option EventId) → length c.events ≤ e.0 → was_made_if_any c o ≡ true → not (is_served e o) ≡ true
served_made c e None new h = refl
served_made c e (Some x) new h = older (is_same x e) refl
  where
    older : (b : Bool) → is_same x e ≡ b → not b ≡ true
    older false is = refl
    older true is =
        let there : x.0 < length c.events = made_below c x h in
        let same : x.0 ≡ e.0 = ap (λ (z : EventId). z.0) (is_same-yes x e is) in
        absurd (omega (arith, there, same, new))

unserved_by : (e : EventId) (d : Deed) → (serves e d ≡ true → ⊥) → not (serves e d) ≡ true
unserved_by e d none = at (serves e d) refl
  where
    at : (b : Bool) → serves e d ≡ b → not b ≡ true
    at false is = refl
    at true is = absurd (none is)

-- what holds of a deed that serves none
serves_none : (e : EventId) (d : Deed) → served_by d ≡ None → ServesOnly e d
serves_none e d none =
    record {
      only = λ x is. absurd (false≢true (sym (ap (is_served x) none) ∙ is));
      made = λ c h. ap (was_made_if_any c) none;
    }

-- e does not wait
abbrev IsGone : EventId → Facilities → Type 0
IsGone e f = All (λ w. w.event.0 ≢ e.0) f.waiters

-- the event of each may be served
abbrev MayServeAll : Facilities → List Waiter → Type 0
MayServeAll f ws = All (λ w. MayServe f w.event) ws

-- these may be served, and wait for different events
record IsToServe (f : Facilities) (ws : List Waiter) : Type 0 where
  pub may : MayServeAll f ws
  pub apart : AllPairs AreApart ws

-- the waiter may be served, where the facilities are as they should be
record IsNext (n : ℕ) (w : Waiter) (f : Facilities) : Type 0 where
  pub may : MayServe f w.event
  pub once : ServesOnce n f

-- the facilities after an attempt: all but e may still be served
record Attempted (n : ℕ) (e : EventId) (f g : Facilities) : Type 0 where
  pub keeps : ServesOnce n g
  pub others : (x : EventId) → x ≢ e → MayServe f x → MayServe g x

module _ (n : ℕ) where
  -- ---- one change

  -- the calendar is changed
  pub serves_on : (d : Calendar) (f : Facilities) → KeepsTries n f.calendar d → ServesOnce n f → ServesOnce n (record f { calendar = d })
  serves_on d f keeps h =
      record {
        waiting = h.waiting;
        may = All-weaker (λ w. MayServe f w.event) (λ w. MayServe (record f { calendar = d }) w.event) (λ w may. record { there = omega (arith, may.there, keeps.longer); unserved = may.unserved }) f.waiters h.may;
        once = h.once;
        made = All-weaker (λ x. was_made_if_any f.calendar (served_by x) ≡ true) (λ x. was_made_if_any d (served_by x) ≡ true) (λ x made. made_later f.calendar d (served_by x) keeps.longer made) f.ledger h.made;
        tries = keeps.tries h.tries;
      }

  -- e waits no longer
  pub serves_unqueued : (e : EventId) (f : Facilities) → ServesOnce n f → ServesOnce n (unqueue e f)
  serves_unqueued e f h =
      let stays : Waiter → Bool = λ w. not (is_same w.event e) in
      record {
        waiting = AllPairs-filter AreApart stays f.waiters h.waiting;
        may = All-weaker (λ w. MayServe f w.event) (λ w. MayServe (unqueue e f) w.event) (λ w at. record { there = at.there; unserved = at.unserved }) (filter stays f.waiters) (All-filter stays (λ w. MayServe f w.event) f.waiters h.may);
        once = h.once;
        made = h.made;
        tries = h.tries;
      }

  -- a deed is written, which serves no other than e, and e does not wait
  serves_written : (e : EventId) (d : Deed) (f : Facilities) → ServesOnly e d → MayServe f e → IsGone e f → ServesOnce n f → ServesOnce n (write_deed d f)
  serves_written e d f alone may gone h =
      record {
        waiting = h.waiting;
        may = λ k w below. record {
          there = (h.may k w below).there;
          unserved = All-push (λ x. not (serves (get_or f.waiters k w).event x) ≡ true) f.ledger d (h.may k w below).unserved (unserved_by (get_or f.waiters k w).event d (λ is. gone k w below (ap (λ (z : EventId). z.0) (sym (alone.only (get_or f.waiters k w).event is)))));
        };
        once = all_pairs_push ServeApart f.ledger d h.once (λ k x below y old is. both_ways (serves y (get_or f.ledger k x)) (not-true (serves y (get_or f.ledger k x)) (subst (λ z. not (serves z (get_or f.ledger k x)) ≡ true) (alone.only y is) (may.unserved k x below))) old);
        made = All-push (λ x. was_made_if_any f.calendar (served_by x) ≡ true) f.ledger d h.made (alone.made f.calendar (below_made f.calendar e may.there));
        tries = h.tries;
      }

  -- ---- an attempt

  none_attempted : (e : EventId) (f : Facilities) → ServesOnce n f → Attempted n e f f
  none_attempted e f h = record { keeps = h; others = λ x differ may. may }

  -- the waiter is served
  attempted_served : (w : Waiter) (value : ℤ) (d : Deed) (f : Facilities) → ServesOnly w.event d → IsNext n w f → Attempted n w.event f (serve w value d f)
  attempted_served w value d f alone next =
      let may : MayServe f w.event = next.may in
      let e : EventId = w.event in
      let c : Calendar = succeed e value f.calendar in
      let keeps : KeepsTries n f.calendar c = tries_scheduled n e (outcome.Ok value) normal (pos 0) f.calendar in
      let g : Facilities = record (unqueue e f) { calendar = c } in
      record {
        keeps = serves_written e d g alone (record { there = omega (arith, may.there, keeps.longer); unserved = may.unserved }) (unqueued_apart e f.waiters) (serves_on c (unqueue e f) keeps (serves_unqueued e f next.once));
        others = λ x differ at. record {
          there = omega (arith, at.there, keeps.longer);
          unserved = All-push (λ y. not (serves x y) ≡ true) f.ledger d at.unserved (unserved_by x d (λ is. differ (sym (alone.only x is))));
        };
      }

  -- a deed is written that serves none
  may_beside : (d : Deed) (f : Facilities) (x : EventId) → served_by d ≡ None → MayServe f x → MayServe (write_deed d f) x
  may_beside d f x none may = record { there = may.there; unserved = All-push (λ y. not (serves x y) ≡ true) f.ledger d may.unserved (ap (λ o. not (is_served x o)) none) }

  serves_beside : (d : Deed) (f : Facilities) → served_by d ≡ None → ServesOnce n f → ServesOnce n (write_deed d f)
  serves_beside d f none h =
      record {
        waiting = h.waiting;
        may = All-weaker (λ w. MayServe f w.event) (λ w. MayServe (write_deed d f) w.event) (λ w may. may_beside d f w.event none may) f.waiters h.may;
        once = all_pairs_push ServeApart f.ledger d h.once (λ k x below y old is. false≢true (sym (ap (is_served y) none) ∙ is));
        made = All-push (λ x. was_made_if_any f.calendar (served_by x) ≡ true) f.ledger d h.made (ap (was_made_if_any f.calendar) none);
        tries = h.tries;
      }

  -- a slot is taken from a user
  serves_preempted : (res : ℕ) (u : User) (f : Facilities) → ServesOnce n f → ServesOnce n (preempt res u f)
  serves_preempted res u f h =
      let t : Throw = record { kind = 2; value = u.since } in
      serves_on (make_interruption u.process t f.calendar) (write_deed (Preempted res u.request) f) (tries_interrupted n u.process t f.calendar) (serves_beside (Preempted res u.request) f refl h)

  may_preempted : (res : ℕ) (u : User) (f : Facilities) (x : EventId) → MayServe f x → MayServe (preempt res u f) x
  may_preempted res u f x may =
      let after : MayServe (write_deed (Preempted res u.request) f) x = may_beside (Preempted res u.request) f x refl may in
      let keeps : KeepsTries n f.calendar _ = tries_interrupted n u.process (record { kind = 2; value = u.since }) f.calendar in
      record { there = omega (arith, after.there, keeps.longer); unserved = after.unserved }

  -- a request takes a slot, which may have been a user's
  slot_taken : (w : Waiter) (p : ProcId) (key : RequestKey) (f : Facilities) → IsNext n w f → Attempted n w.event f (take_slot w p key f)
  slot_taken w p key f next =
      let d : Deed = Granted w.res (record { request = w.event; process = p; key = key; since = f.calendar.time }) in
      attempted_served w (pos 0) d f (record { only = λ x is. is_same-yes w.event x is; made = λ c there. there }) next

  slot_used : (w : Waiter) (p : ProcId) (key : RequestKey) (grant : Grant) (f : Facilities) → IsNext n w f → Attempted n w.event f (use_slot w p key grant f)
  slot_used w p key NoSlot f next = none_attempted w.event f next.once
  slot_used w p key FreeSlot f next = slot_taken w p key f next
  slot_used w p key (SlotOf u) f next =
      let g : Facilities = preempt w.res u f in
      let a : Attempted n w.event g (take_slot w p key g) = slot_taken w p key g (record { may = may_preempted w.res u f w.event next.may; once = serves_preempted w.res u f next.once }) in
      record { keeps = a.keeps; others = λ x differ at. a.others x differ (may_preempted w.res u f x at) }

  -- a put or get is served by a deed that serves no event by name
  moved : (w : Waiter) (value : ℤ) (d : Deed) (f : Facilities) → served_by d ≡ None → IsNext n w f → Attempted n w.event f (serve w value d f)
  moved w value d f none next = attempted_served w value d f (serves_none w.event d none) next

  handed : (w : Waiter) (o : Option Item) (f : Facilities) → IsNext n w f → Attempted n w.event f (serve_if_any w (hand_out w.res o) f)
  handed w None f next = none_attempted w.event f next.once
  handed w (Some x) f next = moved w x.value (Taken w.res x.put) f refl next

  module _ (rs : List Resource) (r : Resource) (w : Waiter) where
    attempted_for : (want : Want) (f : Facilities) → IsNext n w f → Attempted n w.event f (attempt_for rs r w want f)
    attempted_for (Slot process key) f next = slot_used w process key (grant_of r key (users w.res f.ledger)) f next
    attempted_for (Give amount priority) f next =
        let x : Item = record { put = w.event; value = amount; priority = priority } in
        let P : Option Served → Type 0 = λ o. Attempted n w.event f (serve_if_any w o f) in
        if_cases P (is_container r.kind) (fill r w.res (level rs w.res f) amount) (deposit r w.res (items w.res f.ledger) x)
        (λ container. if_cases P (int_le (level rs w.res f +ℤ amount) r.capacity) (Some (record { value = pos 0; deed = Filled w.res amount })) None
        (λ fits. moved w (pos 0) (Filled w.res amount) f refl next) (λ full. none_attempted w.event f next.once))
        (λ store. if_cases P (int_lt (pos (length (items w.res f.ledger))) r.capacity) (Some (record { value = pos 0; deed = Deposited w.res x })) None
        (λ fits. attempted_served w (pos 0) (Deposited w.res x) f (record { only = λ y is. is_same-yes w.event y is; made = λ c there. there }) next) (λ full. none_attempted w.event f next.once))
    attempted_for (Take least greatest) f next =
        let P : Option Served → Type 0 = λ o. Attempted n w.event f (serve_if_any w o f) in
        let found : Option Item = item_for r.kind least greatest (items w.res f.ledger) in
        if_cases P (is_container r.kind) (drain w.res (level rs w.res f) least) (hand_out w.res found)
        (λ container. if_cases P (int_le least (level rs w.res f)) (Some (record { value = pos 0; deed = Drained w.res least })) None
        (λ there. moved w (pos 0) (Drained w.res least) f refl next) (λ low. none_attempted w.event f next.once))
        (λ store. handed w found f next)

  -- ---- a try

  module _ (rs : List Resource) (reach : Reach) where
    serves_tried : (ws : List Waiter) (f : Facilities) → IsToServe f ws → ServesOnce n f → ServesOnce n (try_along rs reach ws f)
    serves_tried [] f queue h = h
    serves_tried (w ∷ ws) f queue h =
        let after : Facilities = attempt rs w f in
        let a : Attempted n w.event f after = attempted_for rs (resource_at rs w.res) w w.want f (record { may = All-head (λ v. MayServe f v.event) w ws queue.may; once = h }) in
        let differ : All (AreApart w) ws = AllPairs-head AreApart w ws queue.apart in
        let rest : MayServeAll f ws = All-tail (λ v. MayServe f v.event) w ws queue.may in
        if_cases (ServesOnce n) (goes_on reach w after) (try_along rs reach ws after) after
        (λ on. serves_tried ws after (record { may = λ k v below. a.others (get_or ws k v).event (λ same. differ k v below (sym same)) (rest k v below); apart = AllPairs-tail AreApart w ws queue.apart }) a.keeps)
        (λ ends. a.keeps)

  to_serve : (ws : List Waiter) (f : Facilities) → IsQueueOf f.waiters ws → ServesOnce n f → IsToServe f ws
  to_serve ws f queue h =
      record { may = All-weaker (IsOneOf f.waiters) (λ w. MayServe f w.event) (λ w one. one_has (λ v. MayServe f v.event) f.waiters w h.may one) ws queue.waiting; apart = queue.apart }

  pub serves_tried_put : (rs : List Resource) (res : ℕ) (f : Facilities) → ServesOnce n f → ServesOnce n (try_put rs res f)
  serves_tried_put rs res f h =
      let ws : List Waiter = put_queue rs res f.waiters in
      serves_tried rs (put_reach (resource_at rs res).kind) ws f (to_serve ws f (is_put_queue rs res f.waiters h.waiting) h) h

  pub serves_tried_get : (rs : List Resource) (res : ℕ) (f : Facilities) → ServesOnce n f → ServesOnce n (try_get rs res f)
  serves_tried_get rs res f h =
      let ws : List Waiter = get_queue res f.waiters in
      serves_tried rs (get_reach (resource_at rs res).kind) ws f (to_serve ws f (is_get_queue res f.waiters h.waiting) h) h

  -- ---- what joins and what leaves

  module _ (k : EventKind) (res : ℕ) (want : Want) (x : Callback) where
    pub serves_joined : (f : Facilities) → tries_well n x ≡ true → ServesOnce n f → ServesOnce n (join k res want x f)
    serves_joined f well h =
        let c : Calendar = f.calendar in
        let e : EventId = next_event c in
        let w : Waiter = record { event = e; res = res; want = want } in
        let d : Calendar = register e x (make k c) in
        let keeps : KeepsTries n c d = tries_then n c (make k c) d (tries_made n k c) (tries_registered n e x (make k c) well) in
        let g : ServesOnce n (record f { calendar = d }) = serves_on d f keeps h in
        record {
          waiting = all_pairs_push AreApart f.waiters w h.waiting (λ i v below same. let there : (get_or f.waiters i v).event.0 < length c.events = (h.may i v below).there in let one : (get_or f.waiters i v).event.0 ≡ length c.events = ap (λ (z : EventId). z.0) same in omega (arith, there, one));
          may = All-weaker (λ v. MayServe (record f { calendar = d }) v.event) (λ v. MayServe (join k res want x f) v.event) (λ v at. record { there = at.there; unserved = at.unserved }) (f.waiters ++ w ∷ [])
              (All-push (λ v. MayServe (record f { calendar = d }) v.event) f.waiters w g.may (record { there = omega (arith, make-length k c); unserved = All-weaker (λ y. was_made_if_any c (served_by y) ≡ true) (λ y. not (serves e y) ≡ true) (λ y made. served_made c e (served_by y) (omega arith) made) f.ledger h.made }));
          once = h.once;
          made = g.made;
          tries = g.tries;
        }

  serves_end_use : (res : ℕ) (request : EventId) (f : Facilities) → ServesOnce n f → ServesOnce n (end_use res request f)
  serves_end_use res request f h =
      if_cases (ServesOnce n) (is_user res request f) (write_deed (Released res request) f) f (λ uses. serves_beside (Released res request) f refl h) (λ none. h)

  pub serves_released : (res : ℕ) (request : EventId) (f : Facilities) → res < n → ServesOnce n f → ServesOnce n (make_release res request f)
  serves_released res request f below h =
      let c : Calendar = f.calendar in
      let e : EventId = next_event c in
      let d : Calendar = register e (callback.TryPut res) (make kind.Release c) in
      let keeps : KeepsTries n c d = tries_then n c (make kind.Release c) d (tries_made n kind.Release c) (tries_registered n e (callback.TryPut res) (make kind.Release c) (lt-ltb res n below)) in
      let ended : Facilities = end_use res request (record f { calendar = d }) in
      serves_on (succeed e (pos 0) ended.calendar) ended (tries_scheduled n e (outcome.Ok (pos 0)) normal (pos 0) ended.calendar) (serves_end_use res request (record f { calendar = d }) (serves_on d f keeps h))

  pub serves_cancelled : (e : EventId) (f : Facilities) → ServesOnce n f → ServesOnce n (cancel e f)
  serves_cancelled e f h =
      if_cases (ServesOnce n) (waits e f) _ f (λ there. serves_on (cancel_event e f.calendar) (unqueue e f) (tries_changed n e (λ x. record x { cancelled = true }) f.calendar) (serves_unqueued e f h)) (λ no. h)

  pub serves_left : (res : ℕ) (request : EventId) (f : Facilities) → res < n → ServesOnce n f → ServesOnce n (leave res request f)
  serves_left res request f below h = serves_released res request (cancel request f) below (serves_cancelled request f h)
