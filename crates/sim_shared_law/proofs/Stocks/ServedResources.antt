-- What a container's or store's own clause says of a try, beside the machine's: who leaves, what is shown, what is done.
use Rattle.std.proofs.Common.{◌≡◌, ℕ, ◌+ℤ◌, true, false, List, [], ◌∷◌, ◌++◌, refl, sym, subst, ap, ◌∙◌, Some, map}
use Rattle.std.specs.Prelude.{All, AllPairs, slice_get}
use Rattle.std.proofs.lemmas.Bool.{false≢true}
use Rattle.sim_types.specs.declared.event.EventId.{EventId}
use Rattle.sim_types.specs.declared.setup.Resource.{Resource}
use Rattle.sim_types.specs.declared.setup.ResourceKind.TheVariants as resource
use Rattle.sim_machine.specs.State.{Waiter, Item, Deed, Deposited, Taken, Filled, Drained, Facilities}
use Rattle.sim_machine.specs.Triggering.{succeed}
use Rattle.sim_machine.specs.LawfulLedger.{ServeApart}
use Rattle.sim_machine.specs.Users.{resource_at, items, change_of_level}
use Rattle.sim_machine.specs.Attempts as attempts
use Rattle.sim_machine.specs.Trying.{Reach, First, write_deed, unqueue, attempt, put_reach, get_reach, try_put, try_get}
use Rattle.sim_machine.specs.Trying as trying
use Rattle.sim_machine_law.proofs.Events.EventLaws.{is_same-yes}
use Rattle.sim_machine_law.proofs.Stocks.FoundItems.{items_deposited}
use Rattle.sim_machine_law.proofs.Ledger.LedgerSteps.{level_more}
use Rattle.sim_shared_model.specs.declared.stock.ShelfKind.{ShelfKind}
use Rattle.sim_shared_model.specs.declared.stock.ShelfKind.TheVariants as kind
use Rattle.sim_shared_model.specs.declared.stock.Served.{Served}
use Rattle.sim_shared_model.specs.declared.stock.WaitingPut.{WaitingPut}
use Rattle.sim_shared_model.specs.declared.stock.WaitingGet.{WaitingGet}
use Rattle.sim_shared_model.specs.declared.stock.WaitingAmount.{WaitingAmount}
use Rattle.sim_shared_model.specs.StoreQueues.{AllDiffer, besides}
use Rattle.sim_shared_model.specs.Tanks.{TankOf, tank_besides, container_of, waiting_at_tank, attempt_fill, attempt_drain, Fills, Drains, FillsNone, DrainsNone}
use Rattle.sim_shared_model.specs.Shelves.{ShelfOf, shelf_besides, store_of, store_kind, brought_by, waiting_at_shelf, attempt_deposit, attempt_hand_out, Deposits, HandsOut, DepositsNone, HandsOutNone}
use Rattle.sim_shared_model.proofs.Apart.{Apart}
use Rattle.sim_shared_model.specs.declared.resource.AnyResource.TheVariants.{Tank, Shelf}
use Rattle.sim_shared_model.specs.Resources.{without_opening}
use Rattle.sim_shared_model.specs.SharedOf.{SharedOf}
use Rattle.sim_shared_model.specs.ShowsAll.{ShowsTank, ShowsShelf, ShowsAll, amount_waiting, put_waiting, get_waiting}
use Rattle.sim_shared_model.specs.Serving.{store_goes_on}
use Rattle.sim_shared_law.proofs.Stocks.AlikeQueues.{nothing_alike, goes_on_by, TriesTo, first_not_all, while_not_all}
use Rattle.sim_shared_law.proofs.Waiters.CancelledEvents.{unqueued_shown}
use Rattle.sim_shared_law.proofs.Shown.FollowingFacilities.{shown_later}
use Rattle.sim_shared_law.proofs.Desks.LeavingWaiters.{IsLeaving, others_differ, all_left, all_right, leaves_first, leaves_second, left_is, other_is}
use Rattle.sim_shared_law.proofs.Shown.ResourcePlaces.{declared_at}
use Rattle.sim_shared_law.proofs.Desks.ServedWaiters.{ServesAtMost, StaysAt}
use Rattle.sim_shared_law.proofs.Stocks.TakenItems.{taken_here, taken_stays, deposited_stays}
use Rattle.sim_shared_law.proofs.Stocks.TriedTanks.{IsPutOf, IsGetOf, puts_alike, gets_alike, fill_answers, drain_answers, filled_is, drained_is, filled_stays, drained_stays}
use Rattle.sim_shared_law.proofs.Stocks.TriedShelves.{Is, shelf_puts_alike, shelf_gets_alike, deposit_answers, hand_out_answers, deposited_is, handed_is}
use Rattle.sim_shared_law.proofs.Stocks.TriedResources.{served_as, ShowsServed, puts_tried, gets_tried, puts_none, gets_none}

-- the queue that the served one left, and the other queue, are without its event
queues_are : {W V : Type 0} (of : W → EventId) (by : V → EventId) (passed : List W) (w : W) (behind ws left : List W) (vs us : List V) (e : EventId)
    → ws ≡ passed ++ w ∷ behind → left ≡ passed ++ behind → e ≡ of w → us ≡ vs → All (Apart e) (map of left) → All (Apart e) (map by us)
    → (left ≡ besides of e ws) × (us ≡ besides by e vs)
queues_are of by passed w behind ws left vs us e stood stay is same mine others = (
  subst (λ g. left ≡ besides of g ws) (sym is) (left_is of passed w behind ws left stood stay (subst (λ g. All (Apart g) (map of left)) is mine)),
  other_is by e us others ∙ ap (besides by e) same,
)

-- ---- containers

abbrev amount_event : WaitingAmount → EventId
amount_event w = w.event

-- a container is shown without the one that left, with the level that the deed made
tank_left : (rs : List Resource) (res : ℕ) (t u : TankOf) (e : EventId) (d : Deed) (f : Facilities) → ShowsTank rs res t f
    → u.puts ≡ besides amount_event e t.puts → u.gets ≡ besides amount_event e t.gets → u.level ≡ t.level +ℤ change_of_level res d
    → ShowsTank rs res u (write_deed d (unqueue e f))
tank_left rs res t u e d f s puts gets level =
    let b : ShowsTank rs res (tank_besides e t) (unqueue e f) = unqueued_shown rs res (Tank t) f e s in
    record {
      puts = ap (map amount_waiting) puts ∙ b.puts;
      gets = ap (map amount_waiting) gets ∙ b.gets;
      level = level ∙ ap (λ l. l +ℤ change_of_level res d) s.level ∙ sym (level_more (resource_at rs res).opening res d f.ledger);
    }

module _ (res : ℕ) (t u : TankOf) (answer : Served) where
  module _ (h : Fills res t answer u) where
    pub fill_leaves : IsLeaving answer.event (waiting_at_tank t) (waiting_at_tank u)
    fill_leaves =
        let o = h.one in
        subst (λ e. IsLeaving e (waiting_at_tank t) (waiting_at_tank u)) (sym (ap (λ (x : Served). x.event) o.told))
        (subst (λ gs. IsLeaving o.waiter.event (waiting_at_tank t) (map amount_event u.puts ++ map amount_event gs)) (sym (ap (λ (x : TankOf). x.gets) h.rest))
        (leaves_first amount_event amount_event o.passed o.waiter o.behind t.gets t.puts u.puts o.stood o.stay))

    fill_here : (rs : List Resource) (f : Facilities) → AllDiffer (waiting_at_tank t) → ShowsTank rs res t f
        → ShowsTank rs res u (write_deed h.one.deed.deed (unqueue answer.event f))
    fill_here rs f differ s =
        let o = h.one in
        let others = others_differ answer.event (waiting_at_tank t) (waiting_at_tank u) differ fill_leaves in
        let are = queues_are amount_event amount_event o.passed o.waiter o.behind t.puts u.puts t.gets u.gets answer.event o.stood o.stay
        (ap (λ (x : Served). x.event) o.told) (ap (λ (x : TankOf). x.gets) h.rest)
        (all_left (Apart answer.event) (map amount_event u.puts) (map amount_event u.gets) others)
        (all_right (Apart answer.event) (map amount_event u.puts) (map amount_event u.gets) others) in
        tank_left rs res t u answer.event o.deed.deed f s are.0 are.1 h.level

  module _ (h : Drains res t answer u) where
    pub drain_leaves : IsLeaving answer.event (waiting_at_tank t) (waiting_at_tank u)
    drain_leaves =
        let o = h.one in
        subst (λ e. IsLeaving e (waiting_at_tank t) (waiting_at_tank u)) (sym (ap (λ (x : Served). x.event) o.told))
        (subst (λ ps. IsLeaving o.waiter.event (waiting_at_tank t) (map amount_event ps ++ map amount_event u.gets)) (sym (ap (λ (x : TankOf). x.puts) h.rest))
        (leaves_second amount_event amount_event o.passed o.waiter o.behind t.puts t.gets u.gets o.stood o.stay))

    drain_here : (rs : List Resource) (f : Facilities) → AllDiffer (waiting_at_tank t) → ShowsTank rs res t f
        → ShowsTank rs res u (write_deed h.one.deed.deed (unqueue answer.event f))
    drain_here rs f differ s =
        let o = h.one in
        let others = others_differ answer.event (waiting_at_tank t) (waiting_at_tank u) differ drain_leaves in
        let are = queues_are amount_event amount_event o.passed o.waiter o.behind t.gets u.gets t.puts u.puts answer.event o.stood o.stay
        (ap (λ (x : Served). x.event) o.told) (ap (λ (x : TankOf). x.puts) h.rest)
        (all_right (Apart answer.event) (map amount_event u.puts) (map amount_event u.gets) others)
        (all_left (Apart answer.event) (map amount_event u.puts) (map amount_event u.gets) others) in
        tank_left rs res t u answer.event o.deed.deed f s are.1 are.0 h.level

-- a try of the puts or gets in its place
module _ (a : SharedOf) (res : ℕ) (t : TankOf) (there : slice_get a.resources res ≡ Some (Tank t)) (f : Facilities) (shown : ShowsAll a f) where
  abbrev same_tank : container_of t ≡ without_opening (resource_at a.setup res)
  same_tank = declared_at a.resources a.setup res (Tank t) shown.opened there

  abbrev shown_tank : ShowsTank a.setup res t f
  shown_tank = shown.resources res (Tank t) there

  pub fills_none : FillsNone res t → try_put a.setup res f ≡ f
  fills_none none =
      puts_none a.setup res (IsPutOf res) (attempt_fill res t) f (fill_answers a.setup res t f same_tank shown_tank)
      t.puts resource.Container (sym (ap (λ (x : Resource). x.kind) same_tank)) (puts_alike a.setup res t f shown_tank) none

  pub drains_none : DrainsNone res t → try_get a.setup res f ≡ f
  drains_none none =
      gets_none a.setup res (IsGetOf res) (attempt_drain res t) f (drain_answers a.setup res t f same_tank shown_tank)
      t.gets resource.Container (sym (ap (λ (x : Resource). x.kind) same_tank)) (gets_alike a.setup res t f shown_tank) none

  module _ (u : TankOf) (answer : Served) (differ : AllDiffer (waiting_at_tank t)) where
    pub fills_shown : Fills res t answer u → ShowsServed a res (Tank u) answer (try_put a.setup res) true f
    fills_shown h =
        let o = h.one in
        let is : Filled res o.waiter.amount ≡ o.deed.deed = ap (λ (x : attempts.Served). x.deed) (filled_is res t o.waiter o.deed o.served) in
        record {
          deed = o.deed.deed;
          only = subst (ServesAtMost answer.event) is (λ x served. absurd (false≢true served));
          stays = λ n other. subst (λ d. StaysAt n d f.ledger) is (filled_stays res n o.waiter.amount f.ledger other);
          here = fill_here res t u answer h a.setup f differ shown_tank;
          tried = puts_tried a.setup res (IsPutOf res) (attempt_fill res t) amount_event (λ w v r. r.event) f
              (fill_answers a.setup res t f same_tank shown_tank) shown.tidy.waiting t.puts u.puts answer resource.Container
              (sym (ap (λ (x : Resource). x.kind) same_tank)) (puts_alike a.setup res t f shown_tank) o while_not_all;
        }

    pub drains_shown : Drains res t answer u → ShowsServed a res (Tank u) answer (try_get a.setup res) true f
    drains_shown h =
        let o = h.one in
        let is : Drained res o.waiter.amount ≡ o.deed.deed = ap (λ (x : attempts.Served). x.deed) (drained_is res t o.waiter o.deed o.served) in
        record {
          deed = o.deed.deed;
          only = subst (ServesAtMost answer.event) is (λ x served. absurd (false≢true served));
          stays = λ n other. subst (λ d. StaysAt n d f.ledger) is (drained_stays res n o.waiter.amount f.ledger other);
          here = drain_here res t u answer h a.setup f differ shown_tank;
          tried = gets_tried a.setup res (IsGetOf res) (attempt_drain res t) amount_event (λ w v r. r.event) f
              (drain_answers a.setup res t f same_tank shown_tank) shown.tidy.waiting t.gets u.gets answer resource.Container
              (sym (ap (λ (x : Resource). x.kind) same_tank)) (gets_alike a.setup res t f shown_tank) o (λ vs alike all. absurd (while_not_all all));
        }

-- ---- stores

abbrev put_event : WaitingPut → EventId
put_event w = w.event

abbrev get_event : WaitingGet → EventId
get_event w = w.event

-- a store is shown without the one that left, with the items that the deed left
shelf_left : (rs : List Resource) (res : ℕ) (s u : ShelfOf) (e : EventId) (d : Deed) (f : Facilities) → ShowsShelf rs res s f
    → u.puts ≡ besides put_event e s.puts → u.gets ≡ besides get_event e s.gets → u.items ≡ items res (f.ledger ++ d ∷ [])
    → ShowsShelf rs res u (write_deed d (unqueue e f))
shelf_left rs res s u e d f k puts gets left =
    let b : ShowsShelf rs res (shelf_besides e s) (unqueue e f) = unqueued_shown rs res (Shelf s) f e k in
    record { puts = ap (map (put_waiting res)) puts ∙ b.puts; gets = ap (map (get_waiting res)) gets ∙ b.gets; items = left }

module _ (res : ℕ) (s u : ShelfOf) (answer : Served) where
  module _ (h : Deposits res s answer u) where
    pub deposit_leaves : IsLeaving answer.event (waiting_at_shelf s) (waiting_at_shelf u)
    deposit_leaves =
        let o = h.one in
        subst (λ e. IsLeaving e (waiting_at_shelf s) (waiting_at_shelf u)) (sym (ap (λ (x : Served). x.event) o.told))
        (subst (λ gs. IsLeaving o.waiter.event (waiting_at_shelf s) (map put_event u.puts ++ map get_event gs)) (sym (ap (λ (x : ShelfOf). x.gets) h.rest))
        (leaves_first put_event get_event o.passed o.waiter o.behind s.gets s.puts u.puts o.stood o.stay))

    deposit_here : (rs : List Resource) (f : Facilities) → AllDiffer (waiting_at_shelf s) → ShowsShelf rs res s f
        → ShowsShelf rs res u (write_deed (Deposited res (brought_by h.one.waiter)) (unqueue answer.event f))
    deposit_here rs f differ k =
        let o = h.one in
        let x : Item = brought_by o.waiter in
        let others = others_differ answer.event (waiting_at_shelf s) (waiting_at_shelf u) differ deposit_leaves in
        let are = queues_are put_event get_event o.passed o.waiter o.behind s.puts u.puts s.gets u.gets answer.event o.stood o.stay
        (ap (λ (y : Served). y.event) o.told) (ap (λ (y : ShelfOf). y.gets) h.rest)
        (all_left (Apart answer.event) (map put_event u.puts) (map get_event u.gets) others)
        (all_right (Apart answer.event) (map put_event u.puts) (map get_event u.gets) others) in
        shelf_left rs res s u answer.event (Deposited res x) f k are.0 are.1
        (h.items ∙ ap (λ xs. xs ++ x ∷ []) k.items ∙ sym (items_deposited res x f.ledger))

  module _ (h : HandsOut res s answer u) where
    pub hand_out_leaves : IsLeaving answer.event (waiting_at_shelf s) (waiting_at_shelf u)
    hand_out_leaves =
        let o = h.one in
        subst (λ e. IsLeaving e (waiting_at_shelf s) (waiting_at_shelf u)) (sym (ap (λ (x : Served). x.event) o.told))
        (subst (λ ps. IsLeaving o.waiter.event (waiting_at_shelf s) (map put_event ps ++ map get_event u.gets)) (sym (ap (λ (x : ShelfOf). x.puts) h.rest))
        (leaves_second get_event put_event o.passed o.waiter o.behind s.puts s.gets u.gets o.stood o.stay))

    hand_out_here : (rs : List Resource) (f : Facilities) → AllDiffer (waiting_at_shelf s) → AllPairs ServeApart f.ledger → ShowsShelf rs res s f
        → ShowsShelf rs res u (write_deed (Taken res h.item.put) (unqueue answer.event f))
    hand_out_here rs f differ once k =
        let o = h.one in
        let l = h.leaves in
        let others = others_differ answer.event (waiting_at_shelf s) (waiting_at_shelf u) differ hand_out_leaves in
        let are = queues_are get_event put_event o.passed o.waiter o.behind s.gets u.gets s.puts u.puts answer.event o.stood o.stay
        (ap (λ (y : Served). y.event) o.told) (ap (λ (y : ShelfOf). y.puts) h.rest)
        (all_right (Apart answer.event) (map put_event u.puts) (map get_event u.gets) others)
        (all_left (Apart answer.event) (map put_event u.puts) (map get_event u.gets) others) in
        shelf_left rs res s u answer.event (Taken res h.item.put) f k are.1 are.0
        (l.stay ∙ sym (taken_here res h.item l.before l.behind f.ledger once (sym k.items ∙ l.stood)))

-- a try of the puts of a store is one attempt, and so is one of the gets, but at a filter store
put_once : (k : ShelfKind) → goes_on_by (put_reach (store_kind k)) ≡ false
put_once kind.Fifo = refl
put_once kind.Priority = refl
put_once kind.Filter = refl

put_first : (k : ShelfKind) → put_reach (store_kind k) ≡ trying.All → ⊥
put_first kind.Fifo h = first_not_all h
put_first kind.Priority h = first_not_all h
put_first kind.Filter h = first_not_all h

get_on : (k : ShelfKind) → goes_on_by (get_reach (store_kind k)) ≡ store_goes_on k
get_on kind.Fifo = refl
get_on kind.Priority = refl
get_on kind.Filter = refl

module _ (a : SharedOf) (res : ℕ) (s : ShelfOf) (there : slice_get a.resources res ≡ Some (Shelf s)) (f : Facilities) (shown : ShowsAll a f) where
  abbrev same_store : store_of s ≡ without_opening (resource_at a.setup res)
  same_store = declared_at a.resources a.setup res (Shelf s) shown.opened there

  abbrev is_kind : (resource_at a.setup res).kind ≡ store_kind s.kind
  is_kind = sym (ap (λ (x : Resource). x.kind) same_store)

  abbrev shown_shelf : ShowsShelf a.setup res s f
  shown_shelf = shown.resources res (Shelf s) there

  pub deposits_none : DepositsNone res s → try_put a.setup res f ≡ f
  deposits_none none =
      puts_none a.setup res (Is (put_waiting res)) (attempt_deposit res s) f
      (deposit_answers a.setup res s f same_store shown_shelf) s.puts (store_kind s.kind) is_kind
      (shelf_puts_alike a.setup res s f shown_shelf) none

  pub hands_out_none : HandsOutNone res s → try_get a.setup res f ≡ f
  hands_out_none none =
      gets_none a.setup res (Is (get_waiting res)) (attempt_hand_out res s) f
      (hand_out_answers a.setup res s f same_store shown_shelf) s.gets (store_kind s.kind) is_kind
      (shelf_gets_alike a.setup res s f shown_shelf) none

  module _ (u : ShelfOf) (answer : Served) (differ : AllDiffer (waiting_at_shelf s)) where
    pub deposits_shown : Deposits res s answer u → ShowsServed a res (Shelf u) answer (try_put a.setup res) false f
    deposits_shown h =
        let o = h.one in
        let d : Deed = Deposited res (brought_by o.waiter) in
        let is : d ≡ o.deed.deed = ap (λ (x : attempts.Served). x.deed) (deposited_is res s o.waiter o.deed o.served) in
        let tried = puts_tried a.setup res (Is (put_waiting res)) (attempt_deposit res s) put_event (λ w v r. ap (λ (x : Waiter). x.event) r) f
        (deposit_answers a.setup res s f same_store shown_shelf) shown.tidy.waiting s.puts u.puts answer (store_kind s.kind) is_kind
        (shelf_puts_alike a.setup res s f shown_shelf) o (put_first s.kind) in
        record {
          deed = d;
          only = λ x served. sym (is_same-yes o.waiter.event x served) ∙ sym (ap (λ (y : Served). y.event) o.told);
          stays = λ n other. deposited_stays res n (brought_by o.waiter) f.ledger other;
          here = deposit_here res s u answer h a.setup f differ shown_shelf;
          tried = subst (λ e. try_put a.setup res f ≡ served_as answer e f) (sym is)
              (subst (λ b. TriesTo (try_put a.setup res) b f (served_as answer o.deed.deed f)) (put_once s.kind) tried);
        }

    pub hands_out_shown : HandsOut res s answer u → ShowsServed a res (Shelf u) answer (try_get a.setup res) (store_goes_on s.kind) f
    hands_out_shown h =
        let o = h.one in
        let d : Deed = Taken res h.item.put in
        let is : d ≡ o.deed.deed = ap (λ (x : attempts.Served). x.deed) (handed_is res s o.waiter h.item o.deed h.given o.served) in
        let here : ShowsShelf a.setup res u (write_deed d (unqueue answer.event f)) =
        hand_out_here res s u answer h a.setup f differ shown.tidy.ledger.once shown_shelf in
        let g : Facilities = served_as answer o.deed.deed f in
        let after : ShowsShelf a.setup res u g = shown_later a.setup res (Shelf u) (write_deed o.deed.deed (unqueue answer.event f)) (succeed answer.event answer.value f.calendar)
        (subst (λ e. ShowsShelf a.setup res u (write_deed e (unqueue answer.event f))) is here) in
        let same : store_of u ≡ without_opening (resource_at a.setup res) = ap store_of h.rest ∙ same_store in
        let tried = gets_tried a.setup res (Is (get_waiting res)) (attempt_hand_out res s) get_event (λ w v r. ap (λ (x : Waiter). x.event) r) f
        (hand_out_answers a.setup res s f same_store shown_shelf) shown.tidy.waiting s.gets u.gets answer (store_kind s.kind) is_kind
        (shelf_gets_alike a.setup res s f shown_shelf) o
        (λ vs alike all. nothing_alike a.setup (Is (get_waiting res)) (attempt_hand_out res u) g (hand_out_answers a.setup res u g same after) o.passed vs alike h.passed) in
        record {
          deed = d;
          only = λ x served. absurd (false≢true served);
          stays = λ n other. taken_stays res n h.item h.leaves.before h.leaves.behind f.ledger shown.tidy.ledger.once (sym shown_shelf.items ∙ h.leaves.stood) other;
          here = here;
          tried = subst (λ e. TriesTo (try_get a.setup res) (store_goes_on s.kind) f (served_as answer e f)) (sym is)
              (subst (λ b. TriesTo (try_get a.setup res) b f g) (get_on s.kind) tried);
        }
