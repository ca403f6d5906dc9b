-- A put or get that is tried at a container or store: one is served and the try goes on or has ended, or none can be served.
use Rattle.std.proofs.Common.{◌≡◌, ◌≢◌, ℕ, Bool, true, false, ◌&&◌, not, List, ◌++◌, sym, subst, ap, ◌∙◌, Option, Some, filter}
use Rattle.std.specs.Prelude.{◌==◌, AllPairs, slice_get, slice_set}
use Rattle.std.specs.List.{list_any}
use Rattle.sim_types.specs.declared.event.EventId.{EventId}
use Rattle.sim_types.specs.declared.setup.Resource.{Resource}
use Rattle.sim_types.specs.declared.setup.ResourceKind.{ResourceKind}
use Rattle.sim_machine.specs.State.{Waiter, Deed, Facilities}
use Rattle.sim_machine.specs.Events.{is_same}
use Rattle.sim_machine.specs.Triggering.{succeed}
use Rattle.sim_machine.specs.Users.{resource_at, put_queue, get_queue, wants_to_put}
use Rattle.sim_machine.specs.Attempts as attempts
use Rattle.sim_machine.specs.Trying.{Reach, on_calendar, write_deed, unqueue, serve, serve_if_any, attempt, still_waits, put_reach, get_reach, try_along, try_put, try_get}
use Rattle.sim_machine.specs.Trying as trying
use Rattle.sim_machine_law.proofs.Stocks.ServedFronts.{none_left}
use Rattle.sim_machine_law.proofs.Ledger.TriedQueues.{AreApart, is_put_queue, is_get_queue}
use Rattle.sim_shared_model.specs.declared.stock.Served.{Served}
use Rattle.sim_shared_model.specs.StoreQueues.{ServesNone, ServesOne}
use Rattle.sim_shared_model.specs.AnyShared.{SharedResource}
use Rattle.sim_shared_model.specs.Resources.{declared_as, waiting_at}
use Rattle.sim_shared_model.specs.SharedOf.{SharedOf}
use Rattle.sim_shared_model.specs.ShowsAll.{ShowsAt, ShowsAll, FollowsAll}
use Rattle.sim_shared_model.specs.Serving.{DoesPartOrAll}
use Rattle.sim_shared_law.proofs.Stocks.AlikeQueues.{AreAlike, AttemptNothing, IsBetween, between, AnswersAs, nothing_alike, AllWaitIn, nobody_served, goes_on_by, TriesTo, queue_left, IsServedIn, tries_to}
use Rattle.sim_shared_law.proofs.Waiters.CancelledEvents.{put_queue_without, get_queue_without}
use Rattle.sim_shared_law.proofs.Desks.LeavingWaiters.{IsLeaving, stood_among}
use Rattle.sim_shared_law.proofs.Desks.ServedWaiters.{ServesAtMost, StaysAt, served_at}
use Rattle.sim_shared_law.proofs.Waiters.WaitingEvents.{any_in_order, any_somewhere}

-- ---- what one that is served comes to

-- the event leaves its queue and succeeds, and the deed is written
abbrev pub served_as : Served → Deed → Facilities → Facilities
served_as answer d f = on_calendar (succeed answer.event answer.value) (write_deed d (unqueue answer.event f))

-- what the machine's attempt comes to at the one that is served
pub done_as : {W : Type 0} (rs : List Resource) (R : W → Waiter → Type 0) (answers : W → Option attempts.Served) (of : W → EventId) (f : Facilities)
    (reach : Reach) (ws left : List W) (answer : Served) (queue : List Waiter) → AnswersAs rs R answers f
    → ((w : W) (v : Waiter) → R w v → v.event ≡ of w) → AreAlike R ws queue → (one : ServesOne reach answers of ws left answer)
    → IsServedIn rs R one.passed one.waiter queue answer.event f (served_as answer one.deed.deed f)
done_as rs R answers of f reach ws left answer queue told event alike one =
    let b : IsBetween R one.passed one.waiter queue = between R one.passed one.waiter one.behind queue (subst (λ us. AreAlike R us queue) one.stood alike) in
    let same : b.waiter.event ≡ of one.waiter = event one.waiter b.waiter b.alike in
    let told_of : EventId → Served = λ e. record { event = e; value = one.deed.value } in
    let is : told_of b.waiter.event ≡ answer = ap told_of same ∙ sym one.told in
    record {
      place = b;
      event = ap (λ (x : Served). x.event) is;
      done = told one.waiter b.waiter b.alike ∙ ap (λ o. serve_if_any b.waiter o f) one.served ∙ ap (λ (x : Served). served_as x one.deed.deed f) is;
    }

-- what is shown of it: the deed serves it at most and is nothing to other resources, and its resource shows what was done
pub record ShowsServed (a : SharedOf) (res : ℕ) (y : SharedResource) (answer : Served) (tries : Facilities → Facilities) (goes : Bool)
    (f : Facilities) : Type 0 where
  pub deed : Deed
  pub only : ServesAtMost answer.event deed
  pub stays : (n : ℕ) → n ≢ res → StaysAt n deed f.ledger
  pub here : ShowsAt a.setup res y (write_deed deed (unqueue answer.event f))
  pub tried : TriesTo tries goes f (served_as answer deed f)

-- a part of the try was done, or all of it
pub served_part : (a n : SharedOf) (res : ℕ) (x y : SharedResource) (answer : Served) (tries : Facilities → Facilities) (goes : Bool)
    → slice_get a.resources res ≡ Some x → IsLeaving answer.event (waiting_at x) (waiting_at y) → declared_as y ≡ declared_as x
    → ((f : Facilities) → ShowsAll a f → ShowsServed a res y answer tries goes f)
    → FollowsAll (on_calendar (succeed answer.event answer.value)) (record a { resources = slice_set a.resources res y }) n
    → DoesPartOrAll tries goes a n
served_part a n res x y answer tries true there leaves same each next =
    record {
      each = λ f h.
          let s = each f h in
          record {
            facilities = served_as answer s.deed f;
            shown = next.each (write_deed s.deed (unqueue answer.event f))
                (served_at a f res x y answer.event s.deed h there (stood_among answer.event (waiting_at x) (waiting_at y) leaves) same s.only s.stays s.here);
            same = s.tried;
          };
      held = next.held;
      left = next.left;
      setup = next.setup;
    }
served_part a n res x y answer tries false there leaves same each next =
    record {
      each = λ f h.
          let s = each f h in
          subst (ShowsAll n) (sym s.tried) (next.each (write_deed s.deed (unqueue answer.event f))
          (served_at a f res x y answer.event s.deed h there (stood_among answer.event (waiting_at x) (waiting_at y) leaves) same s.only s.stays s.here));
      held = next.held;
      left = next.left;
      setup = next.setup;
    }

-- ---- queues

-- who stands in a queue waits
puts_wait : (rs : List Resource) (res : ℕ) (f : Facilities) → AllWaitIn f (put_queue rs res f.waiters)
puts_wait rs res f p h =
    let test : Waiter → Bool = λ w. (w.res == res) && wants_to_put w.want in
    any_somewhere p test f.waiters (sym (any_in_order p (resource_at rs res).kind (filter test f.waiters)) ∙ h)

gets_wait : (res : ℕ) (f : Facilities) → AllWaitIn f (get_queue res f.waiters)
gets_wait res f p h = any_somewhere p (λ w. (w.res == res) && not (wants_to_put w.want)) f.waiters h

-- what is tried, by the kind of the resource
abbrev puts_by : List Resource → ℕ → ResourceKind → Facilities → Facilities
puts_by rs res k f = try_along rs (put_reach k) (put_queue rs res f.waiters) f

abbrev gets_by : List Resource → ℕ → ResourceKind → Facilities → Facilities
gets_by rs res k f = try_along rs (get_reach k) (get_queue res f.waiters) f

served_gone : (v : Waiter) (e : EventId) (ws : List Waiter) → v.event ≡ e
    → list_any (λ u. is_same u.event v.event) (filter (λ u. not (is_same u.event e)) ws) ≡ false
served_gone v e ws same = subst (λ g. list_any (λ u. is_same u.event g) (filter (λ u. not (is_same u.event e)) ws) ≡ false) (sym same) (none_left e ws)

module _ (rs : List Resource) (res : ℕ) {W : Type 0} (R : W → Waiter → Type 0) (answers : W → Option attempts.Served) (of : W → EventId)
    (event : (w : W) (v : Waiter) → R w v → v.event ≡ of w) (f : Facilities) (told : AnswersAs rs R answers f)
    (apart : AllPairs AreApart f.waiters) (ws left : List W) (answer : Served) where
  -- a put is served
  pub puts_tried : (k : ResourceKind) → (resource_at rs res).kind ≡ k → AreAlike R ws (put_queue rs res f.waiters)
      → (one : ServesOne (put_reach k) answers of ws left answer) → put_reach k ≢ trying.All
      → TriesTo (try_put rs res) (goes_on_by (put_reach k)) f (served_as answer one.deed.deed f)
  puts_tried k is alike one some =
      let g : Facilities = served_as answer one.deed.deed f in
      let queue : List Waiter → List Waiter = put_queue rs res in
      let s = done_as rs R answers of f (put_reach k) ws left answer (queue f.waiters) told event alike one in
      let p = s.place in
      let stays : queue g.waiters ≡ p.before ++ p.behind =
      put_queue_without rs res answer.event f.waiters ∙ (ap (filter (λ u. not (is_same u.event answer.event))) p.stood
      ∙ queue_left p.before p.waiter p.behind answer.event s.event (subst (AllPairs AreApart) p.stood (is_put_queue rs res f.waiters apart).apart)) in
      subst (λ (j : ResourceKind). TriesTo (puts_by rs res j) (goes_on_by (put_reach k)) f g) (sym is)
      (tries_to rs R queue one.passed ws one.waiter answer.event f g s (put_reach k) one.reached
      (nothing_alike rs R answers f told one.passed p.before p.first one.unserved) (λ all. absurd (some all)) stays
      (served_gone p.waiter answer.event f.waiters s.event))

  -- a get is served; those that were passed over have nothing afterwards either
  pub gets_tried : (k : ResourceKind) → (resource_at rs res).kind ≡ k → AreAlike R ws (get_queue res f.waiters)
      → (one : ServesOne (get_reach k) answers of ws left answer)
      → ((vs : List Waiter) → AreAlike R one.passed vs → get_reach k ≡ trying.All → AttemptNothing rs (served_as answer one.deed.deed f) vs)
      → TriesTo (try_get rs res) (goes_on_by (get_reach k)) f (served_as answer one.deed.deed f)
  gets_tried k is alike one after =
      let g : Facilities = served_as answer one.deed.deed f in
      let queue : List Waiter → List Waiter = get_queue res in
      let s = done_as rs R answers of f (get_reach k) ws left answer (queue f.waiters) told event alike one in
      let p = s.place in
      let stays : queue g.waiters ≡ p.before ++ p.behind =
      get_queue_without res answer.event f.waiters ∙ (ap (filter (λ u. not (is_same u.event answer.event))) p.stood
      ∙ queue_left p.before p.waiter p.behind answer.event s.event (subst (AllPairs AreApart) p.stood (is_get_queue res f.waiters apart).apart)) in
      subst (λ (j : ResourceKind). TriesTo (gets_by rs res j) (goes_on_by (get_reach k)) f g) (sym is)
      (tries_to rs R queue one.passed ws one.waiter answer.event f g s (get_reach k) one.reached
      (nothing_alike rs R answers f told one.passed p.before p.first one.unserved) (after p.before p.first) stays
      (served_gone p.waiter answer.event f.waiters s.event))

module _ (rs : List Resource) (res : ℕ) {W : Type 0} (R : W → Waiter → Type 0) (answers : W → Option attempts.Served) (f : Facilities)
    (told : AnswersAs rs R answers f) (ws : List W) where
  -- none is served
  pub puts_none : (k : ResourceKind) → (resource_at rs res).kind ≡ k → AreAlike R ws (put_queue rs res f.waiters) → ServesNone (put_reach k) answers ws
      → try_put rs res f ≡ f
  puts_none k is alike none =
      subst (λ (j : ResourceKind). puts_by rs res j f ≡ f) (sym is)
      (nobody_served rs R answers f (put_reach k) ws (put_queue rs res f.waiters) told alike (puts_wait rs res f) none)

  pub gets_none : (k : ResourceKind) → (resource_at rs res).kind ≡ k → AreAlike R ws (get_queue res f.waiters) → ServesNone (get_reach k) answers ws
      → try_get rs res f ≡ f
  gets_none k is alike none =
      subst (λ (j : ResourceKind). gets_by rs res j f ≡ f) (sym is)
      (nobody_served rs R answers f (get_reach k) ws (get_queue res f.waiters) told alike (gets_wait res f) none)
