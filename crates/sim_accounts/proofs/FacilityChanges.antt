-- The same of what goes on at the resources.
use Rattle.std.proofs.Common.{◌≡◌, ℕ, ℤ, pos, Bool, List, [], ◌∷◌, refl}
use Rattle.sim_types.specs.Throws.{preemption}
use Rattle.sim_types.specs.declared.event.EventId.{EventId}
use Rattle.sim_types.specs.declared.event.ProcId.{ProcId}
use Rattle.sim_types.specs.declared.event.EventKind.{EventKind}
use Rattle.sim_types.specs.declared.event.EventKind.TheVariants as kind
use Rattle.sim_types.specs.declared.event.Outcome.TheVariants as outcome
use Rattle.sim_types.specs.declared.event.Callback.{Callback}
use Rattle.sim_types.specs.declared.event.Callback.TheVariants as callback
use Rattle.sim_types.specs.declared.setup.Resource.{Resource}
use Rattle.sim_machine.specs.State.{Calendar, Want, Slot, Give, Take, Waiter, Facilities}
use Rattle.sim_machine.specs.Events.{next_event, register}
use Rattle.sim_machine.specs.Triggering.{normal, make, succeed}
use Rattle.sim_machine.specs.Users.{resource_at, put_queue, get_queue}
use Rattle.sim_machine.specs.Trying.{Reach, attempt, goes_on, try_along, put_reach, get_reach, try_put, try_get}
use Rattle.sim_machine.specs.Requests.{join, join_request, request_key, make_request, make_put, make_get, is_user, make_release, waits, cancel, leave}
use Rattle.sim_lawful.proofs.Ledger.AttemptCases.{attempt_keeps}
use Rattle.sim_machine_law.proofs.KeptParts.KeptTimesCases.{if_cases}
use Rattle.sim_happen_model.specs.Naming.{triggered_by}
use Rattle.sim_happen_model.specs.HolderChanges.{ComesPlainly}
use Rattle.sim_accounts.proofs.CalendarChanges.{plainly_then, plainly_same, plainly_made, plainly_registered, plainly_scheduled, plainly_cancelled, plainly_interruption}

module _ (c : Calendar) where
  -- the calendar of these facilities comes plainly after c
  abbrev PlainAt : Facilities → Type 0
  PlainAt f = ComesPlainly c f.calendar

  attempted : (rs : List Resource) (w : Waiter) (f : Facilities) → PlainAt f → PlainAt (attempt rs w f)
  attempted rs w f h =
      attempt_keeps PlainAt w (λ value deed t k. plainly_then c t.calendar (succeed w.event value t.calendar) k (plainly_scheduled w.event (outcome.Ok value) normal (pos 0) t.calendar))
      (λ u t k. plainly_then c t.calendar _ k (plainly_interruption u.process (record { kind = preemption; value = u.since }) t.calendar)) rs (resource_at rs w.res) w.want f h

  tried_along : (rs : List Resource) (reach : Reach) (ws : List Waiter) (f : Facilities) → PlainAt f → PlainAt (try_along rs reach ws f)
  tried_along rs reach [] f h = h
  tried_along rs reach (w ∷ ws) f h =
      let after : Facilities = attempt rs w f in
      let k : PlainAt after = attempted rs w f h in
      if_cases PlainAt (goes_on reach w after) (try_along rs reach ws after) after (λ on. tried_along rs reach ws after k) (λ ends. k)

  tried_put : (rs : List Resource) (res : ℕ) (f : Facilities) → PlainAt f → PlainAt (try_put rs res f)
  tried_put rs res f h = tried_along rs (put_reach (resource_at rs res).kind) (put_queue rs res f.waiters) f h

  tried_get : (rs : List Resource) (res : ℕ) (f : Facilities) → PlainAt f → PlainAt (try_get rs res f)
  tried_get rs res f h = tried_along rs (get_reach (resource_at rs res).kind) (get_queue res f.waiters) f h

  released : (res : ℕ) (request : EventId) (f : Facilities) → PlainAt f → PlainAt (make_release res request f)
  released res request f h =
      let d : Calendar = f.calendar in
      let n : EventId = next_event d in
      let m : Calendar = register n (callback.TryPut res) (make kind.Release d) in
      let made : Facilities = record f { calendar = m } in
      let served : ComesPlainly c (succeed n (pos 0) m) =
      plainly_then c m (succeed n (pos 0) m) (plainly_then c (make kind.Release d) m (plainly_then c d (make kind.Release d) h (plainly_made kind.Release d)) (plainly_registered n (callback.TryPut res) (make kind.Release d) refl))
      (plainly_scheduled n (outcome.Ok (pos 0)) normal (pos 0) m) in
      if_cases (λ (t : Facilities). ComesPlainly c (succeed n (pos 0) t.calendar)) (is_user res request made) _ made (λ uses. served) (λ no. served)

pub plainly_tried_put : (rs : List Resource) (res : ℕ) (f : Facilities) → ComesPlainly f.calendar (try_put rs res f).calendar
plainly_tried_put rs res f = tried_put f.calendar rs res f (plainly_same f.calendar)

pub plainly_tried_get : (rs : List Resource) (res : ℕ) (f : Facilities) → ComesPlainly f.calendar (try_get rs res f).calendar
plainly_tried_get rs res f = tried_get f.calendar rs res f (plainly_same f.calendar)

joined : (k : EventKind) (res : ℕ) (want : Want) (x : Callback) (f : Facilities) → triggered_by x ≡ [] → ComesPlainly f.calendar (join k res want x f).calendar
joined k res want x f none =
    let c : Calendar = f.calendar in
    plainly_then c (make k c) (register (next_event c) x (make k c)) (plainly_made k c) (plainly_registered (next_event c) x (make k c) none)

pub plainly_requested : (rs : List Resource) (res : ℕ) (p : ProcId) (priority : ℤ) (preempts : Bool) (f : Facilities) →
    ComesPlainly f.calendar (make_request rs res p priority preempts f).calendar
plainly_requested rs res p priority preempts f =
    tried_put f.calendar rs res (join_request rs res p priority preempts f) (joined kind.Request res (Slot p (request_key (resource_at rs res).kind priority preempts f)) (callback.TryGet res) f refl)

pub plainly_put : (rs : List Resource) (res : ℕ) (amount priority : ℤ) (f : Facilities) → ComesPlainly f.calendar (make_put rs res amount priority f).calendar
plainly_put rs res amount priority f =
    tried_put f.calendar rs res (join kind.Put res (Give amount priority) (callback.TryGet res) f) (joined kind.Put res (Give amount priority) (callback.TryGet res) f refl)

pub plainly_get : (rs : List Resource) (res : ℕ) (least greatest : ℤ) (f : Facilities) → ComesPlainly f.calendar (make_get rs res least greatest f).calendar
plainly_get rs res least greatest f =
    tried_get f.calendar rs res (join kind.Get res (Take least greatest) (callback.TryPut res) f) (joined kind.Get res (Take least greatest) (callback.TryPut res) f refl)

pub plainly_cancelled_waiter : (e : EventId) (f : Facilities) → ComesPlainly f.calendar (cancel e f).calendar
plainly_cancelled_waiter e f =
    if_cases (λ (t : Facilities). ComesPlainly f.calendar t.calendar) (waits e f) _ f (λ there. plainly_cancelled e f.calendar) (λ no. plainly_same f.calendar)

pub plainly_released : (res : ℕ) (request : EventId) (f : Facilities) → ComesPlainly f.calendar (make_release res request f).calendar
plainly_released res request f = released f.calendar res request f (plainly_same f.calendar)

pub plainly_left : (res : ℕ) (request : EventId) (f : Facilities) → ComesPlainly f.calendar (leave res request f).calendar
plainly_left res request f = released f.calendar res request (cancel request f) (plainly_cancelled_waiter request f)
