-- No change of what goes on at the resources undoes what `Follows` says of its calendar and its waiters.
use Rattle.std.proofs.Common.{◌≡◌, ◌<◌, ◌&&◌, ◌||◌, ◌++◌, ⊎_elim, arith, Bool, true, false, not, ℕ, ℤ, pos, List, [], ◌∷◌, Some, refl, subst, ap, ◌∙◌, filter, length}
use Rattle.std.specs.Prelude.{All, ◌==◌, is_none}
use Rattle.std.specs.List.{AllPass, list_any}
use Rattle.std.proofs.lemmas.Bool.{not-true, or_cases, or_left, or_right}
use Rattle.std.proofs.lemmas.List.Elements.{All-filter, All-head, All-push, All-tail, All-weaker}
use Rattle.sim_types.specs.declared.event.EventId.{EventId}
use Rattle.sim_types.specs.declared.event.EventKind.{EventKind}
use Rattle.sim_types.specs.declared.event.EventKind.TheVariants as kind
use Rattle.sim_types.specs.declared.event.Outcome.TheVariants as outcome
use Rattle.sim_types.specs.declared.event.ProcId.{ProcId}
use Rattle.sim_types.specs.declared.event.Throw.{Throw}
use Rattle.sim_types.specs.declared.event.Callback.{Callback}
use Rattle.sim_types.specs.declared.event.Callback.TheVariants as callback
use Rattle.sim_types.specs.declared.setup.Resource.{Resource}
use Rattle.sim_machine.specs.State.{EventOf, Calendar, Want, Waiter, Facilities}
use Rattle.sim_machine.specs.Events.{defuse, event_at, is_pending, is_same, next_event, register}
use Rattle.sim_machine.specs.Triggering.{make, make_interruption, succeed}
use Rattle.sim_machine.specs.Users.{resource_at, put_queue, get_queue, wants_to_put}
use Rattle.sim_machine.specs.Trying.{Reach, attempt_for, attempt, goes_on, try_along, put_reach, get_reach, try_put, try_get}
use Rattle.sim_machine.specs.Requests.{join, make_release, is_user, waits, cancel}
use Rattle.sim_machine.specs.Standing.{kind_at, was_made}
use Rattle.sim_machine.specs.LawfulConditions.{is_condition_kind}
use Rattle.sim_machine.specs.LawfulStops.{is_stop}
use Rattle.sim_machine.specs.LawfulWaiting.{may_wait_kind, waits_well}
use Rattle.sim_machine_law.proofs.Events.EventLaws.{change_event-keeps, change_event-other, is_same-yes, make-keeps, make-new, make-old}
use Rattle.sim_lawful.proofs.Ledger.AttemptCases.{attempt_keeps}
use Rattle.sim_machine_law.proofs.KeptParts.KeptTimesCases.{if_cases}
use Rattle.sim_machine_law.proofs.KeptParts.KeptBodies.{four_parts}
use Rattle.sim_machine_law.proofs.KeptParts.KeptRegistrationsCalendar.{made_below}
use Rattle.sim_lawful.proofs.Waiting.PolledCancel.{any_gives}
use Rattle.sim_machine_law.proofs.Ledger.TriedQueues.{all_in_order}
use Rattle.sim_lawful.proofs.Following.FollowingCalendars.{Follows, Origin, follows_cancelled, follows_interruption, follows_join, follows_release, follows_served, without_waiter}

-- ---- a try

-- none of the waiters' events was cancelled
abbrev pub AreUncancelled : Calendar → List Waiter → Type 0
AreUncancelled c ws = All (λ w. (event_at c w.event).cancelled ≡ false) ws

pub waiters_uncancelled : (c : Calendar) (ws : List Waiter) → AllPass (waits_well c) ws → AreUncancelled c ws
waiters_uncancelled c ws h =
    All-weaker (λ w. waits_well c w ≡ true) (λ w. (event_at c w.event).cancelled ≡ false)
    (λ w v. not-true (event_at c w.event).cancelled (four_parts (was_made c w.event) (is_pending c w.event) (not (event_at c w.event).cancelled) (may_wait_kind (kind_at c w.event)) v).2) ws h

-- what comes of an origin in a try that began with the calendar c, in which nothing is cancelled
pub record Tries (o : Origin) (c : Calendar) (ws : List Waiter) (d : Calendar) : Type 0 where
  pub follows : Follows ws o d
  pub uncancelled : (e : EventId) → (event_at d e).cancelled ≡ (event_at c e).cancelled

pub tries_itself : (o : Origin) (c : Calendar) (ws : List Waiter) → Follows ws o c → Tries o c ws c
tries_itself o c ws h = record { follows = h; uncancelled = λ e. refl }

module _ (o : Origin) (c : Calendar) where
  serves : (w : Waiter) (value : ℤ) (f : Facilities) → (event_at c w.event).cancelled ≡ false → Tries o c f.waiters f.calendar →
      Tries o c (without_waiter w.event f.waiters) (succeed w.event value f.calendar)
  serves w value f un h =
      record {
        follows = follows_served f.waiters o w.event value f.calendar (h.uncancelled w.event ∙ un) h.follows;
        uncancelled = λ e. change_event-keeps (λ x. x.cancelled) w.event e (λ x. record x { outcome = Some (outcome.Ok value) }) f.calendar (λ x. refl) ∙ h.uncancelled e;
      }

  interrupts : (ws : List Waiter) (p : ProcId) (t : Throw) (d : Calendar) → Tries o c ws d → Tries o c ws (make_interruption p t d)
  interrupts ws p t d h =
      let n : EventId = next_event d in
      let made : Calendar = register n (callback.Strike p) (make kind.Interrupt d) in
      record {
        follows = follows_interruption ws o p t d h.follows;
        uncancelled = λ e. change_event-keeps (λ x. x.cancelled) n e (λ x. record x { outcome = Some (outcome.Fail t) }) (defuse n made) (λ x. refl)
            ∙ (change_event-keeps (λ x. x.cancelled) n e (λ x. record x { defused = true }) made (λ x. refl) ∙ (make-keeps (λ x. x.cancelled) kind.Interrupt d e refl ∙ h.uncancelled e));
      }

  -- what is said of facilities
  abbrev TriesAt : Facilities → Type 0
  TriesAt f = Tries o c f.waiters f.calendar

  attempts_for : (rs : List Resource) (r : Resource) (w : Waiter) (want : Want) (f : Facilities)
      → (event_at c w.event).cancelled ≡ false → TriesAt f → TriesAt (attempt_for rs r w want f)
  attempts_for rs r w want f un h =
      attempt_keeps TriesAt w (λ value deed t k. serves w value t un k)
      (λ u t k. interrupts t.waiters u.process (record { kind = 2; value = u.since }) t.calendar k) rs r want f h

  tries_along : (rs : List Resource) (reach : Reach) (ws : List Waiter) (f : Facilities) → AreUncancelled c ws → TriesAt f → TriesAt (try_along rs reach ws f)
  tries_along rs reach [] f un h = h
  tries_along rs reach (w ∷ ws) f un h =
      let P : Waiter → Type 0 = λ v. (event_at c v.event).cancelled ≡ false in
      let after : Facilities = attempt rs w f in
      let k : TriesAt after = attempts_for rs (resource_at rs w.res) w w.want f (All-head P w ws un) h in
      if_cases TriesAt (goes_on reach w after) (try_along rs reach ws after) after (λ on. tries_along rs reach ws after (All-tail P w ws un) k) (λ ends. k)

  pub tries_put : (rs : List Resource) (res : ℕ) (f : Facilities) → AreUncancelled c f.waiters → TriesAt f → TriesAt (try_put rs res f)
  tries_put rs res f un h =
      let test : Waiter → Bool = λ w. (w.res == res) && wants_to_put w.want in
      let P : Waiter → Type 0 = λ v. (event_at c v.event).cancelled ≡ false in
      tries_along rs (put_reach (resource_at rs res).kind) (put_queue rs res f.waiters) f (all_in_order P (resource_at rs res).kind (filter test f.waiters) (All-filter test P f.waiters un)) h

  pub tries_get : (rs : List Resource) (res : ℕ) (f : Facilities) → AreUncancelled c f.waiters → TriesAt f → TriesAt (try_get rs res f)
  tries_get rs res f un h =
      let test : Waiter → Bool = λ w. (w.res == res) && not (wants_to_put w.want) in
      tries_along rs (get_reach (resource_at rs res).kind) (get_queue res f.waiters) f (All-filter test (λ v. (event_at c v.event).cancelled ≡ false) f.waiters un) h

-- ---- a request, put or get is made

-- facilities with it
pub record Joins (o : Origin) (n : EventId) (f : Facilities) : Type 0 where
  pub tries : Tries o f.calendar f.waiters f.calendar
  pub waiters : AreUncancelled f.calendar f.waiters
  pub new : (event_at f.calendar n).cancelled ≡ false

pub joins : (o : Origin) (k : EventKind) (res : ℕ) (want : Want) (call : Callback) (f : Facilities) → is_condition_kind k ≡ false →
    is_stop call ≡ false → AreUncancelled f.calendar f.waiters → Follows f.waiters o f.calendar → Joins o (next_event f.calendar) (join k res want call f)
joins o k res want call f none no_stop un h =
    let c : Calendar = f.calendar in
    let w : Waiter = record { event = next_event c; res = res; want = want } in
    let new : (event_at (make k c) (next_event c)).cancelled ≡ false = ap (λ (x : EventOf). x.cancelled) (make-new k c) in
    record {
      tries = tries_itself o (join k res want call f).calendar (f.waiters ++ w ∷ []) (follows_join f.waiters o k call w c none no_stop refl h);
      waiters = All-push (λ v. (event_at (make k c) v.event).cancelled ≡ false) f.waiters w (All-weaker (λ v. (event_at c v.event).cancelled ≡ false) (λ v. (event_at (make k c) v.event).cancelled ≡ false) (λ v u. make-keeps (λ x. x.cancelled) k c v.event refl ∙ u) f.waiters un) new;
      new = new;
    }

-- ---- requests are left

-- what comes of an origin while requests are left, where these waited before
pub record Leaves (o : Origin) (before : List Waiter) (ws : List Waiter) (d : Calendar) : Type 0 where
  pub follows : Follows ws o d
  pub waited : (e : EventId) → list_any (λ w. is_same w.event e) ws ≡ true → list_any (λ w. is_same w.event e) before ≡ true
  pub pending : (e : EventId) → e.0 < length o.calendar.events → is_pending d e ≡ is_pending o.calendar e

any_within : {X : Type 0} (test keep : X → Bool) (xs : List X) → list_any test (filter keep xs) ≡ true → list_any test xs ≡ true
any_within test keep [] h = h
any_within test keep (x ∷ xs) h =
    if_cases (λ zs. list_any test zs ≡ true → (test x || list_any test xs) ≡ true) (keep x) (x ∷ filter keep xs) (filter keep xs)
    (λ kept some. ⊎_elim (λ here. or_left (test x) (list_any test xs) here) (λ later. or_right (test x) (list_any test xs) (any_within test keep xs later)) (or_cases (test x) (list_any test (filter keep xs)) some))
    (λ out some. or_right (test x) (list_any test xs) (any_within test keep xs some)) h

-- what is known of an event that something waits for
abbrev IsWaitedFor : Calendar → EventId → Type 0
IsWaitedFor c e = (was_made c e && is_pending c e && not (event_at c e).cancelled && may_wait_kind (kind_at c e)) ≡ true

waited_for : (c : Calendar) (ws : List Waiter) (e : EventId) → AllPass (waits_well c) ws → list_any (λ w. is_same w.event e) ws ≡ true → IsWaitedFor c e
waited_for c ws e h some = any_gives (λ w. waits_well c w ≡ true) (IsWaitedFor c e) (λ w. is_same w.event e) ws (λ w well same. subst (λ n. IsWaitedFor c n) (is_same-yes w.event e same) well) h some

module _ (o : Origin) (before : List Waiter) where
  abbrev LeavesAt : Facilities → Type 0
  LeavesAt f = Leaves o before f.waiters f.calendar

  pub leaves_cancelled : (e : EventId) (f : Facilities) → AllPass (waits_well o.calendar) before → LeavesAt f → LeavesAt (cancel e f)
  leaves_cancelled e f well h =
      if_cases LeavesAt (waits e f) _ f
      (λ there.
      let c : Calendar = o.calendar in
      let parts = four_parts (was_made c e) (is_pending c e) (not (event_at c e).cancelled) (may_wait_kind (kind_at c e)) (waited_for c before e well (h.waited e there)) in
      let made : e.0 < length c.events = made_below c e parts.0 in
      record {
        follows = follows_cancelled f.waiters o e f.calendar (ap may_wait_kind (h.follows.kinds e made) ∙ parts.3) (h.pending e made ∙ parts.1) h.follows;
        waited = λ n some. h.waited n (any_within (λ w. is_same w.event n) (λ w. not (is_same w.event e)) f.waiters some);
        pending = λ n below. change_event-keeps (λ x. is_none x.outcome) e n (λ x. record x { cancelled = true }) f.calendar (λ x. refl) ∙ h.pending n below;
      })
      (λ no. h)

  pub leaves_released : (res : ℕ) (request : EventId) (f : Facilities) → LeavesAt f → LeavesAt (make_release res request f)
  leaves_released res request f h =
      let c : Calendar = f.calendar in
      let n : EventId = next_event c in
      let made : Facilities = record f { calendar = register n (callback.TryPut res) (make kind.Release c) } in
      let released : Leaves o before f.waiters (succeed n (pos 0) made.calendar) = record {
        follows = follows_release f.waiters o res c h.follows;
        waited = h.waited;
        pending = λ e below.
            let old : e.0 < length c.events = omega (arith, below, h.follows.longer) in
            ap (λ (x : EventOf). is_none x.outcome) (change_event-other n e (λ x. record x { outcome = Some (outcome.Ok (pos 0)) }) made.calendar (λ same. omega (arith, same, old)) ∙ make-old kind.Release c e old) ∙ h.pending e below;
      } in
      if_cases (λ (t : Facilities). Leaves o before t.waiters (succeed n (pos 0) t.calendar)) (is_user res request made) _ made (λ uses. released) (λ no. released)
