-- One more that waits at a resource, behind all others.
use Rattle.std.proofs.Common.{◌≡◌, ◌≢◌, ℕ, ◌<◌, ◌-◌, ℤ, Bool, true, false, ◌&&◌, not, List, [], ◌∷◌, ◌++◌, length, refl, sym, subst, ap, ◌∙◌, map, filter, if◌then◌else◌, arith}
use Rattle.std.specs.Prelude.{◌==◌, nat_lt, Option, Some, None, All}
use Rattle.std.specs.List.{AllPass}
use Rattle.std.proofs.lemmas.Bool.{ne_eqb}
use Rattle.std.proofs.lemmas.Bool.Decides.{nat_tests}
use Rattle.std.proofs.lemmas.Option.{get_or_from_slice_get}
use Rattle.std.proofs.lemmas.List.{append-nil, map-append}
use Rattle.std.proofs.lemmas.List.Elements.{filter-append, All-append, All-cons, All-nil, All-weaker}
use Rattle.std.proofs.lemmas.List.Quantifiers.{all_pairs_push}
use Rattle.std.proofs.Math.Seq.{map-set_same}
use Rattle.sim_types.specs.declared.event.EventId.{EventId}
use Rattle.sim_types.specs.declared.event.EventKind.{EventKind}
use Rattle.sim_types.specs.declared.event.ProcId.{ProcId}
use Rattle.sim_types.specs.declared.event.Callback.{Callback}
use Rattle.sim_types.specs.declared.event.RequestKey.{RequestKey}
use Rattle.sim_types.specs.declared.setup.Resource.{Resource}
use Rattle.sim_types.specs.declared.setup.ResourceKind.{ResourceKind}
use Rattle.sim_machine.specs.State.{Calendar, Want, Slot, Give, Take, Waiter, User, Deed, Facilities}
use Rattle.sim_machine.specs.Events.{next_event}
use Rattle.sim_machine.specs.Triggering.{make}
use Rattle.sim_machine.specs.Standing.{was_made}
use Rattle.sim_machine.specs.LawfulLedger.{serves, served_by, is_served, was_made_if_any}
use Rattle.sim_machine.specs.Users.{resource_at, users, put_queue, get_queue, wants_to_put, in_order}
use Rattle.sim_machine.specs.Trying.{on_calendar}
use Rattle.sim_machine.specs.Requests.{join, victim_at_want, victim_at_first}
use Rattle.sim_machine_law.proofs.Events.EventLaws.{is_same-self, make-length}
use Rattle.sim_happen_model.specs.HappenOf.{held, unheld_event}
use Rattle.sim_happen_law.proofs.Changes.NewEvents.{next_is}
use Rattle.sim_shared_model.specs.declared.desk.WaitingRequest.{WaitingRequest}
use Rattle.sim_shared_model.specs.DeskOf.{DeskOf, resource_kind, resource_of, waiting_by, waiter_at, waiters_at, queue_with}
use Rattle.sim_shared_model.proofs.WaitersInOrder.{in_order_joined}
use Rattle.sim_shared_model.specs.Shelves.{ShelfOf, store_kind}
use Rattle.sim_shared_model.specs.declared.stock.ShelfKind.{ShelfKind}
use Rattle.sim_shared_model.specs.declared.stock.ShelfKind.TheVariants as shelf
use Rattle.sim_shared_model.specs.AnyShared.{SharedResource}
use Rattle.sim_shared_model.specs.declared.resource.AnyResource.TheVariants.{Desk, Tank, Shelf}
use Rattle.sim_shared_model.specs.Resources.{declared_as, without_opening}
use Rattle.sim_shared_model.specs.SharedOf.{SharedOf}
use Rattle.sim_shared_model.specs.ShowsAll.{ShowsAt, ShowsDesk, ShowsAll, AreTidy, TurnsAll, amount_for, put_waiting}
use Rattle.sim_shared_model.specs.Joining.{with_waiter, IsJoined, IsJoinedAt}
use Rattle.sim_shared_law.proofs.Waiters.MadeEvents.{made_with}
use Rattle.sim_shared_law.proofs.Shown.ResourcePlaces.{at_each, declared_at}

-- ---- queues

abbrev puts_at : ℕ → Waiter → Bool
puts_at res w = (w.res == res) && wants_to_put w.want

abbrev gets_at : ℕ → Waiter → Bool
gets_at res w = (w.res == res) && not (wants_to_put w.want)

last_passes : {X : Type 0} (p : X → Bool) (xs : List X) (x : X) → p x ≡ true → filter p (xs ++ x ∷ []) ≡ filter p xs ++ x ∷ []
last_passes p xs x h = filter-append p xs (x ∷ []) ∙ ap (λ b. filter p xs ++ (if b then x ∷ [] else [])) h

last_fails : {X : Type 0} (p : X → Bool) (xs : List X) (x : X) → p x ≡ false → filter p (xs ++ x ∷ []) ≡ filter p xs
last_fails p xs x h = filter-append p xs (x ∷ []) ∙ (ap (λ b. filter p xs ++ (if b then x ∷ [] else [])) h ∙ append-nil (filter p xs))

put_joined : (rs : List Resource) (res : ℕ) (ws : List Waiter) (w : Waiter) → puts_at res w ≡ true
    → put_queue rs res (ws ++ w ∷ []) ≡ in_order (resource_at rs res).kind (put_queue rs res ws ++ w ∷ [])
put_joined rs res ws w h =
    let k : ResourceKind = (resource_at rs res).kind in
    ap (in_order k) (last_passes (puts_at res) ws w h) ∙ in_order_joined k w (filter (puts_at res) ws)

put_other : (rs : List Resource) (res : ℕ) (ws : List Waiter) (w : Waiter) → puts_at res w ≡ false
    → put_queue rs res (ws ++ w ∷ []) ≡ put_queue rs res ws
put_other rs res ws w h = ap (in_order (resource_at rs res).kind) (last_fails (puts_at res) ws w h)

get_other : (res : ℕ) (ws : List Waiter) (w : Waiter) → gets_at res w ≡ false → get_queue res (ws ++ w ∷ []) ≡ get_queue res ws
get_other res ws w h = last_fails (gets_at res) ws w h

here : (res : ℕ) (b : Bool) → ((res == res) && b) ≡ b
here res b = ap (λ a. a && b) (is_same-self (record { 0 = res }))

-- ---- what stands at a place, where one waits at another

elsewhere_shown : (rs : List Resource) (n : ℕ) (x : SharedResource) (f : Facilities) (w : Waiter) → w.res ≢ n → ShowsAt rs n x f
    → ShowsAt rs n x (with_waiter w f)
elsewhere_shown rs n x f w other =
    let away : (w.res == n) ≡ false = ne_eqb w.res n other in
    let puts : put_queue rs n (f.waiters ++ w ∷ []) ≡ put_queue rs n f.waiters = put_other rs n f.waiters w (ap (λ b. b && wants_to_put w.want) away) in
    let gets : get_queue n (f.waiters ++ w ∷ []) ≡ get_queue n f.waiters = get_other n f.waiters w (ap (λ b. b && not (wants_to_put w.want)) away) in
    by x puts gets
  where
    by : (y : SharedResource) → put_queue rs n (f.waiters ++ w ∷ []) ≡ put_queue rs n f.waiters
        → get_queue n (f.waiters ++ w ∷ []) ≡ get_queue n f.waiters → ShowsAt rs n y f → ShowsAt rs n y (with_waiter w f)
    by (Desk d) puts gets h = record { queue = h.queue ∙ sym puts; gets = gets ∙ h.gets; users = h.users }
    by (Tank t) puts gets h = record {
      puts = h.puts ∙ ap (map amount_for) (sym puts);
      gets = h.gets ∙ ap (map amount_for) (sym gets);
      level = h.level;
    }
    by (Shelf s) puts gets h = record { puts = h.puts ∙ sym puts; gets = h.gets ∙ sym gets; items = h.items }

-- ---- what stands at its own place

-- the queue of a desk that one more joins
queue_shown : (rs : List Resource) (res : ℕ) (d : DeskOf) (f : Facilities) (v : WaitingRequest) → resource_of d ≡ without_opening (resource_at rs res)
    → ShowsDesk rs res d f → queue_with res v d ≡ put_queue rs res (f.waiters ++ waiter_at res v ∷ [])
queue_shown rs res d f v same h =
    ap (in_order (resource_kind d.kind)) (map-append (waiter_at res) d.queue (v ∷ []) ∙ ap (λ ws. ws ++ waiter_at res v ∷ []) h.queue)
    ∙ (ap (λ (r : Resource). in_order r.kind (put_queue rs res f.waiters ++ waiter_at res v ∷ [])) same ∙ sym (put_joined rs res f.waiters (waiter_at res v) (here res true)))

-- a request waits by its key
pub desk_joined : (d n : DeskOf) (res : ℕ) (e : EventId) (key : RequestKey) (p : ProcId)
    → ((r : ℕ) → waiters_at r n.queue ≡ queue_with r (waiting_by e key p) d) → n ≡ record d { queue = n.queue; spare = n.spare }
    → IsJoined (record { event = e; res = res; want = Slot p key }) (Desk d) (Desk n)
desk_joined d n res e key p queue rest =
    let w : Waiter = record { event = e; res = res; want = Slot p key } in
    record {
      declared = ap (λ (x : DeskOf). resource_of x) rest;
      shown = λ rs f same h. record {
        queue = queue res ∙ queue_shown rs res d f (waiting_by e key p) same h;
        gets = get_other res f.waiters w (here res false) ∙ h.gets;
        users = ap (λ (x : DeskOf). x.users) rest ∙ h.users;
      };
    }

-- no attempt looks at what a resource opens with
victim_alike : (r : Resource) (ws : List Waiter) (us : List User) → victim_at_first (without_opening r) ws us ≡ victim_at_first r ws us
victim_alike r [] us = refl
victim_alike r (w ∷ ws) us = by w.want
  where
    by : (want : Want) → victim_at_want (without_opening r) want us ≡ victim_at_want r want us
    by (Slot p key) = refl
    by (Give amount priority) = refl
    by (Take least greatest) = refl

-- whom the attempt at the front would preempt, once a request joined
pub victim_shown : (rs : List Resource) (res : ℕ) (d : DeskOf) (f : Facilities) (v : WaitingRequest) → resource_of d ≡ without_opening (resource_at rs res)
    → ShowsDesk rs res d f
    → victim_at_first (resource_of d) (queue_with res v d) d.users
    ≡ victim_at_first (resource_at rs res) (put_queue rs res (with_waiter (waiter_at res v) f).waiters) (users res f.ledger)
victim_shown rs res d f v same h =
    ap (λ (r : Resource). victim_at_first r (queue_with res v d) d.users) same ∙ (victim_alike (resource_at rs res) (queue_with res v d) d.users
    ∙ (ap (λ ws. victim_at_first (resource_at rs res) ws d.users) (queue_shown rs res d f v same h)
    ∙ ap (victim_at_first (resource_at rs res) (put_queue rs res (with_waiter (waiter_at res v) f).waiters)) h.users))

-- the queues of a store are as their waiters came
store_order : (k : ShelfKind) (ws : List Waiter) → in_order (store_kind k) ws ≡ ws
store_order shelf.Fifo ws = refl
store_order shelf.Priority ws = refl
store_order shelf.Filter ws = refl

-- a put waits at a store
pub shelf_put_joined : (s n : ShelfOf) (res : ℕ) (e : EventId) (value priority : ℤ)
    → n ≡ record s { puts = s.puts ++ record { event = e; value = value; priority = priority } ∷ []; spare_puts = s.spare_puts - 1 }
    → IsJoined (record { event = e; res = res; want = Give value priority }) (Shelf s) (Shelf n)
shelf_put_joined s n res e value priority is =
    let w : Waiter = record { event = e; res = res; want = Give value priority } in
    subst (λ m. IsJoined w (Shelf s) (Shelf m)) (sym is) (record {
      declared = refl;
      shown = λ rs f same h. record {
        puts = map-append (put_waiting res) s.puts (record { event = e; value = value; priority = priority } ∷ []) ∙ (ap (λ vs. vs ++ w ∷ []) h.puts
            ∙ (sym (store_order s.kind (put_queue rs res f.waiters ++ w ∷ []))
            ∙ (ap (λ (r : Resource). in_order r.kind (put_queue rs res f.waiters ++ w ∷ [])) same ∙ sym (put_joined rs res f.waiters w (here res true)))));
        gets = h.gets ∙ sym (get_other res f.waiters w (here res false));
        items = h.items;
      };
    })

-- ---- all resources

-- an event that was made, waits nowhere and was served by no deed
pub record IsNewcomer (e : EventId) (f : Facilities) : Type 0 where
  pub made : was_made f.calendar e ≡ true
  pub waits : All (λ (v : Waiter). v.event ≢ e) f.waiters
  pub served : AllPass (λ d. not (serves e d)) f.ledger

below : (n m : ℕ) → n < m → nat_lt n m ≡ true
below n m h = grind (arith, nat_tests)

not_next : (n m : ℕ) → nat_lt n m ≡ true → n ≡ m → ⊥
not_next n m h same = grind (arith, nat_tests)

not_same : (n m : ℕ) → nat_lt n m ≡ true → not (n == m) ≡ true
not_same n m h = grind (arith, nat_tests)

unserved : (c : Calendar) (o : Option EventId) → was_made_if_any c o ≡ true → not (is_served (next_event c) o) ≡ true
unserved c None h = refl
unserved c (Some x) h = not_same x.0 (length c.events) h

-- the event that is made next
pub newcomer : (k : EventKind) (x : Callback) (n : ℕ) (f : Facilities) → AreTidy n f
    → IsNewcomer (next_event f.calendar) (on_calendar (made_with k x) f)
newcomer k x n f h = record {
  made = below (length f.calendar.events) (length (make k f.calendar).events) (omega (arith, make-length k f.calendar));
  waits = All-weaker (λ (v : Waiter). was_made f.calendar v.event ≡ true) (λ v. v.event ≢ next_event f.calendar)
      (λ v made is. not_next v.event.0 (length f.calendar.events) made (ap (λ (e : EventId). e.0) is)) f.waiters h.made;
  served = All-weaker (λ (d : Deed). was_made_if_any f.calendar (served_by d) ≡ true) (λ d. not (serves (next_event f.calendar) d) ≡ true)
      (λ d made. unserved f.calendar (served_by d) made) f.ledger h.ledger.made;
}

tidy_joined : (n : ℕ) (f : Facilities) (w : Waiter) → w.res < n → IsNewcomer w.event f → AreTidy n f → AreTidy n (with_waiter w f)
tidy_joined n f w within new h = record {
  waiting = all_pairs_push (λ (u : Waiter) v. u.event ≢ v.event) f.waiters w h.waiting new.waits;
  placed = All-append (λ (v : Waiter). v.res < n) f.waiters (w ∷ []) h.placed (one (λ v. v.res < n) within);
  made = All-append (λ (v : Waiter). was_made f.calendar v.event ≡ true) f.waiters (w ∷ []) h.made (one (λ v. was_made f.calendar v.event ≡ true) new.made);
  ledger = record {
    once = h.ledger.once;
    apart = All-append (λ (v : Waiter). AllPass (λ d. not (serves v.event d)) f.ledger) f.waiters (w ∷ []) h.ledger.apart
        (one (λ v. AllPass (λ d. not (serves v.event d)) f.ledger) new.served);
    made = h.ledger.made;
  };
}
  where
    one : (P : Waiter → Type 0) → P w → All P (w ∷ [])
    one P p = All-cons P w [] p (All-nil P)

pub joined_shown : (m b : SharedOf) (w : Waiter) (f : Facilities) → IsJoinedAt w m b → w.res < length m.setup → IsNewcomer w.event f → ShowsAll m f
    → ShowsAll b (with_waiter w f)
joined_shown m b w f j within new s =
    subst (λ h. ShowsAll h (with_waiter w f)) (sym j.rest)
    (record {
      calendar = s.calendar;
      opened = map-set_same declared_as m.resources w.res j.after j.before
          (j.joined.declared ∙ ap declared_as (sym (get_or_from_slice_get m.resources w.res j.before j.before j.there))) ∙ s.opened;
      resources = at_each (λ n z. ShowsAt m.setup n z (with_waiter w f)) m.resources w.res j.before j.after j.there
          (j.joined.shown m.setup f (declared_at m.resources m.setup w.res j.before s.opened j.there) (s.resources w.res j.before j.there))
          (λ n z other found. elsewhere_shown m.setup n z f w (λ is. other (sym is)) (s.resources n z found));
      tidy = tidy_joined (length m.setup) f w within new s.tidy;
    })

-- an event is made that waits
pub turns_joined : (k : EventKind) (x : Callback) (res : ℕ) (want : Want) (a m b : SharedOf) (e : EventId) → e.0 ≡ length a.happen.events → res < length a.setup
    → TurnsAll (on_calendar (made_with k x)) unheld_event a m → IsJoinedAt (record { event = e; res = res; want = want }) m b
    → TurnsAll (join k res want x) unheld_event a b
turns_joined k x res want a m b e same within made j = record {
  each = λ f h.
      let g : Facilities = on_calendar (made_with k x) f in
      let is : next_event f.calendar ≡ e = next_is a.happen f.calendar e same h.calendar in
      subst (λ (n : EventId). ShowsAll b (with_waiter (record { event = n; res = res; want = want }) g)) (sym is)
      (joined_shown m b (record { event = e; res = res; want = want }) g j (subst (λ rs. res < length rs) (sym made.setup) within)
      (subst (λ n. IsNewcomer n g) is (newcomer k x (length a.setup) f h.tidy)) (made.each f h));
  held = ap (λ (y : SharedOf). held y.happen) j.rest ∙ made.held;
  left = ap (λ (y : SharedOf). y.happen.left) j.rest ∙ made.left;
  setup = ap (λ (y : SharedOf). y.setup) j.rest ∙ made.setup;
}
