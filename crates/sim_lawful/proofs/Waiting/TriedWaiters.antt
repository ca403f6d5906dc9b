-- A try leaves a lawful state: each attempt along the queue does, whatever the waiter wants.
use Rattle.std.proofs.Common.{◌≡◌, ℕ, ◌<◌, ℤ, pos, ◌+ℤ◌, Bool, true, ◌&&◌, not, List, [], ◌∷◌, length, Option, Some, None, refl, sym, subst, if◌then◌else◌, All}
use Rattle.std.specs.Prelude.{nat_lt, int_lt, int_le, slice_index_or}
use Rattle.std.proofs.lemmas.Bool.{and_parts, eqb-true, ltb-true}
use Rattle.std.proofs.lemmas.List.Elements.{All-nil, All-head, All-tail}
use Rattle.sim_types.proofs.Permutations.{AllPairs-head, AllPairs-tail}
use Rattle.sim_types.specs.declared.event.ProcId.{ProcId}
use Rattle.sim_types.specs.declared.event.RequestKey.{RequestKey}
use Rattle.sim_types.specs.declared.setup.Resource.{Resource}
use Rattle.sim_types.specs.declared.setup.ResourceKind.{ResourceKind}
use Rattle.sim_machine.specs.State.{Calendar, Want, Slot, Give, Take, Waiter, User, Item, Deed, Granted, Deposited, Taken, Filled, Drained, Facilities, State, Plan}
use Rattle.sim_machine.specs.Users.{resource_at, user_by, users, items, item_for, put_queue, get_queue}
use Rattle.sim_machine.specs.Attempts.{Grant, NoSlot, FreeSlot, SlotOf, Served, has_free_slot, grant_of, is_container, fill, drain, deposit, hand_out}
use Rattle.sim_machine.specs.Trying.{level, serve, preempt, take_slot, use_slot, serve_if_any, attempt_for, attempt, Reach, put_reach, get_reach, goes_on, try_along, try_put, try_get}
use Rattle.sim_machine.specs.Effect.{calendar}
use Rattle.sim_machine.specs.Tellings.{Telling}
use Rattle.sim_machine.specs.MayAsk.{takes_requests}
use Rattle.sim_machine.specs.Standing.{kind_at}
use Rattle.sim_machine.specs.LawfulWaiting.{request_has_scope, has_scope, is_put_kind, is_get_kind}
use Rattle.sim_machine.specs.LawfulCapacities.{waits_for_fitting, move_fits}
use Rattle.sim_machine_law.proofs.KeptParts.LawfulBasis.{LawfulBasis}
use Rattle.sim_machine_law.specs.Desks.{IsLastServed}
use Rattle.sim_machine_law.proofs.KeptParts.KeptTimesCases.{if_cases}
use Rattle.sim_machine_law.proofs.KeptParts.KeptRegistrationsCalendar.{Calm, calm_self, calm_then}
use Rattle.sim_machine_law.proofs.Ledger.LedgerSteps.{granted_users}
use Rattle.sim_machine_law.proofs.Requests.GrantedSlots.{takes_slot_of, free_slot_of, preempted_room}
use Rattle.sim_lawful.proofs.Ledger.LedgerLaws.{FitsLedger, plain_fits, granted_fits, deposited_fits, filled_fits, drained_fits}
use Rattle.sim_machine_law.proofs.Ledger.TriedQueues.{IsOneOf, one_has, AreApart, IsQueueOf, is_put_queue, is_get_queue}
use Rattle.sim_lawful.proofs.Waiting.ServedWaiters.{IsServedWell, IsUserOf, served_none, lawful_served, lawful_preempted}

-- ---- an attempt

module _ {B : Type 0} (g : Plan B) (tell : Telling B) (sound : B → Type 0) where
  -- a waiter of a lawful state, which wants this
  record Waits (s : State B) (w : Waiter) (want : Want) : Type 0 where
    lawful : LawfulBasis g tell sound s
    one : IsOneOf s.facilities.waiters w
    wants : w.want ≡ want

  -- facilities after an attempt at a waiter
  abbrev IsWell : State B → Waiter → Facilities → Type 0
  IsWell s w f = IsServedWell g tell sound s w f

  -- the resource that a waiter waits at, and its users
  abbrev place : Waiter → Resource
  place w = resource_at g.setup.resources w.res

  abbrev users_at : State B → Waiter → List User
  users_at s w = users w.res s.facilities.ledger

  -- what is known of the resource
  fits_at : (s : State B) (w : Waiter) (want : Want) → Waits s w want
      → (w.res < length g.setup.resources) × (waits_for_fitting (calendar s) (place w) w want ≡ true)
  fits_at s w want h =
      let rs : List Resource = g.setup.resources in
      let fits : Want → Bool = waits_for_fitting (calendar s) (place w) w in
      let all : (nat_lt w.res (length rs) && fits w.want) ≡ true = one_has (λ v. (nat_lt v.res (length rs) && waits_for_fitting (calendar s) (place v) v v.want) ≡ true) s.facilities.waiters w h.lawful.capacities.waiting h.one in
      let parts = and_parts (nat_lt w.res (length rs)) (fits w.want) all in
      (ltb-true w.res (length rs) parts.0, subst (λ (v : Want). fits v ≡ true) h.wants parts.1)

  -- a request takes a slot that is free
  slot_taken : (s : State B) (w : Waiter) (p : ProcId) (key : RequestKey) → Waits s w (Slot p key)
      → has_free_slot (place w) (users_at s w) ≡ true → IsWell s w (take_slot w p key s.facilities)
  slot_taken s w p key h free =
      let f : Facilities = s.facilities in
      let u : User = record { request = w.event; process = p; key = key; since = f.calendar.time } in
      let requests : request_has_scope s.scopes w w.want ≡ true = one_has (λ v. request_has_scope s.scopes v v.want ≡ true) f.waiters w h.lawful.waiting.requests h.one in
      let scope : has_scope s.scopes w.event p w.res ≡ true = subst (λ (v : Want). request_has_scope s.scopes w v ≡ true) h.wants requests in
      lawful_served g tell sound s w (pos 0) (Granted w.res u) h.lawful h.one (granted_fits g.setup.resources f w.res u free h.lawful.capacities)
      (λ res. granted_users (IsUserOf s w res) res w.res u (λ same. (refl, subst (λ (n : ℕ). has_scope s.scopes w.event p n ≡ true) (eqb-true w.res res same) scope)))

  -- and it may preempt before
  slot_used : (s : State B) (w : Waiter) (p : ProcId) (key : RequestKey) (grant : Grant) → Waits s w (Slot p key)
      → grant_of (place w) key (users_at s w) ≡ grant → IsWell s w (use_slot w p key grant s.facilities)
  slot_used s w p key NoSlot h is = served_none g tell sound s w h.lawful
  slot_used s w p key FreeSlot h is = slot_taken s w p key h (free_slot_of (place w) key (users_at s w) is)
  slot_used s w p key (SlotOf u) h is =
      let c : Calendar = calendar s in
      let t : State B = record s { facilities = preempt w.res u s.facilities } in
      let before : IsWell s w t.facilities = lawful_preempted g tell sound s w w.res u h.lawful in
      let last : IsLastServed (users_at s w) u = (takes_slot_of (place w) key (users_at s w) u is).last in
      let room : has_free_slot (place w) (users_at t w) ≡ true = preempted_room (place w) w.res u s.facilities.ledger last (h.lawful.capacities.slots w.res (fits_at s w (Slot p key) h).0) in
      let after : IsWell t w (take_slot w p key t.facilities) = slot_taken t w p key (record { lawful = before.lawful; one = h.one; wants = h.wants }) room in
      record {
        lawful = after.lawful;
        calm = calm_then c t.facilities.calendar (take_slot w p key t.facilities).calendar before.calm after.calm;
        others = λ v differ at. after.others v differ (before.others v differ at);
      }

  -- a put or get is served by this deed, which makes no user
  moved : (s : State B) (w : Waiter) (value : ℤ) (deed : Deed) → Waits s w w.want
      → FitsLedger g.setup.resources s.facilities.ledger deed → ((res : ℕ) → user_by res deed [] ≡ [])
      → IsWell s w (serve w value deed s.facilities)
  moved s w value deed h fits none =
      lawful_served g tell sound s w value deed h.lawful h.one fits (λ res. subst (All (IsUserOf s w res)) (sym (none res)) (All-nil (IsUserOf s w res)))

  -- the amount of a move at a container
  more_than_nothing : (k : ResourceKind) (amount : ℤ) → is_container k ≡ true → move_fits k amount ≡ true → int_lt (pos 0) amount ≡ true
  more_than_nothing k amount is h = subst (λ (b : Bool). (if b then int_lt (pos 0) amount else not (takes_requests k)) ≡ true) is h

  given : (s : State B) (w : Waiter) (amount priority : ℤ) → Waits s w (Give amount priority)
      → IsWell s w (attempt_for g.setup.resources (place w) w (Give amount priority) s.facilities)
  given s w amount priority h =
      let rs : List Resource = g.setup.resources in
      let r : Resource = place w in
      let f : Facilities = s.facilities in
      let this : Waits s w w.want = record { lawful = h.lawful; one = h.one; wants = refl } in
      let known = fits_at s w (Give amount priority) h in
      let fits : move_fits r.kind amount ≡ true = (and_parts (is_put_kind (kind_at (calendar s) w.event)) (move_fits r.kind amount) known.1).1 in
      let x : Item = record { put = w.event; value = amount; priority = priority } in
      let P : Option Served → Type 0 = λ o. IsWell s w (serve_if_any w o f) in
      if_cases P (is_container r.kind) (fill r w.res (level rs w.res f) amount) (deposit r w.res (items w.res f.ledger) x)
      (λ is. if_cases P (int_le (level rs w.res f +ℤ amount) r.capacity) (Some (record { value = pos 0; deed = Filled w.res amount })) None
      (λ room. moved s w (pos 0) (Filled w.res amount) this (filled_fits rs f w.res amount known.0 (more_than_nothing r.kind amount is fits) room h.lawful.capacities) (λ res. refl))
      (λ full. served_none g tell sound s w h.lawful))
      (λ no. if_cases P (int_lt (pos (length (items w.res f.ledger))) r.capacity) (Some (record { value = pos 0; deed = Deposited w.res x })) None
      (λ room. moved s w (pos 0) (Deposited w.res x) this (deposited_fits rs f w.res x room h.lawful.capacities) (λ res. refl))
      (λ full. served_none g tell sound s w h.lawful))

  handed : (s : State B) (w : Waiter) (o : Option Item) → Waits s w w.want → IsWell s w (serve_if_any w (hand_out w.res o) s.facilities)
  handed s w None h = served_none g tell sound s w h.lawful
  handed s w (Some x) h =
      moved s w x.value (Taken w.res x.put) h (plain_fits g.setup.resources s.facilities (Taken w.res x.put) (λ res. refl) (λ res. refl) (λ res. refl) h.lawful.capacities) (λ res. refl)

  taken : (s : State B) (w : Waiter) (least greatest : ℤ) → Waits s w (Take least greatest)
      → IsWell s w (attempt_for g.setup.resources (place w) w (Take least greatest) s.facilities)
  taken s w least greatest h =
      let rs : List Resource = g.setup.resources in
      let r : Resource = place w in
      let f : Facilities = s.facilities in
      let this : Waits s w w.want = record { lawful = h.lawful; one = h.one; wants = refl } in
      let known = fits_at s w (Take least greatest) h in
      let fits : move_fits r.kind least ≡ true = (and_parts (is_get_kind (kind_at (calendar s) w.event)) (move_fits r.kind least) known.1).1 in
      let found : Option Item = item_for r.kind least greatest (items w.res f.ledger) in
      let P : Option Served → Type 0 = λ o. IsWell s w (serve_if_any w o f) in
      if_cases P (is_container r.kind) (drain w.res (level rs w.res f) least) (hand_out w.res found)
      (λ is. if_cases P (int_le least (level rs w.res f)) (Some (record { value = pos 0; deed = Drained w.res least })) None
      (λ there. moved s w (pos 0) (Drained w.res least) this (drained_fits rs f w.res least known.0 (more_than_nothing r.kind least is fits) there h.lawful.capacities) (λ res. refl))
      (λ none. served_none g tell sound s w h.lawful))
      (λ no. handed s w found this)

  attempted : (s : State B) (w : Waiter) (want : Want) → Waits s w want → IsWell s w (attempt_for g.setup.resources (place w) w want s.facilities)
  attempted s w (Slot p key) h = slot_used s w p key (grant_of (place w) key (users_at s w)) h refl
  attempted s w (Give amount priority) h = given s w amount priority h
  attempted s w (Take least greatest) h = taken s w least greatest h

-- ---- a try

-- what a try leaves
pub record IsTriedWell {B : Type 0} (g : Plan B) (tell : Telling B) (sound : B → Type 0) (s : State B) (f : Facilities) : Type 0 where
  pub lawful : LawfulBasis g tell sound (record s { facilities = f })
  pub calm : Calm s.facilities.calendar f.calendar

module _ {B : Type 0} (g : Plan B) (tell : Telling B) (sound : B → Type 0) where
  tried_along : (reach : Reach) (ws : List Waiter) (s : State B) → LawfulBasis g tell sound s
      → IsQueueOf s.facilities.waiters ws → IsTriedWell g tell sound s (try_along g.setup.resources reach ws s.facilities)
  tried_along reach [] s l queue = record { lawful = l; calm = calm_self s.facilities.calendar s.facilities.calendar refl }
  tried_along reach (w ∷ ws) s l queue =
      let rs : List Resource = g.setup.resources in
      let after : Facilities = attempt rs w s.facilities in
      let all : List Waiter = s.facilities.waiters in
      let k : IsServedWell g tell sound s w after = attempted g tell sound s w w.want (record { lawful = l; one = All-head (IsOneOf all) w ws queue.waiting; wants = refl }) in
      let t : State B = record s { facilities = after } in
      let one : All (IsOneOf all) ws = All-tail (IsOneOf all) w ws queue.waiting in
      let apart : All (AreApart w) ws = AllPairs-head AreApart w ws queue.apart in
      let left : IsQueueOf after.waiters ws = record {
        waiting = λ n v below. k.others (slice_index_or ws n v) (λ same. apart n v below (sym same)) (one n v below);
        apart = AllPairs-tail AreApart w ws queue.apart;
      } in
      if_cases (IsTriedWell g tell sound s) (goes_on reach w after) (try_along rs reach ws after) after
      (λ on. let rest : IsTriedWell g tell sound t (try_along rs reach ws after) = tried_along reach ws t k.lawful left in
      record { lawful = rest.lawful; calm = calm_then s.facilities.calendar after.calendar (try_along rs reach ws after).calendar k.calm rest.calm })
      (λ ends. record { lawful = k.lawful; calm = k.calm })

  pub lawful_tried_put : (s : State B) (res : ℕ) → LawfulBasis g tell sound s → IsTriedWell g tell sound s (try_put g.setup.resources res s.facilities)
  lawful_tried_put s res l =
      let rs : List Resource = g.setup.resources in
      tried_along (put_reach (resource_at rs res).kind) (put_queue rs res s.facilities.waiters) s l (is_put_queue rs res s.facilities.waiters l.waiting.once)

  pub lawful_tried_get : (s : State B) (res : ℕ) → LawfulBasis g tell sound s → IsTriedWell g tell sound s (try_get g.setup.resources res s.facilities)
  lawful_tried_get s res l =
      tried_along (get_reach (resource_at g.setup.resources res).kind) (get_queue res s.facilities.waiters) s l (is_get_queue res s.facilities.waiters l.waiting.once)
