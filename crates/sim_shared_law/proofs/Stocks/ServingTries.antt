-- A try of the puts or gets at a resource of any kind, one waiter after another.
use Rattle.std.proofs.Common.{◌≡◌, ℕ, ℤ, ◌+◌, Bool, true, false, List, refl, sym, subst, ap, ◌∙◌, Option, Some, None, arith}
use Rattle.std.specs.Prelude.{All, slice_get, slice_set}
use Rattle.std.proofs.lemmas.Bool.{false≢true}
use Rattle.std.proofs.lemmas.Option.{none-some, same_Some, get_or_from_slice_get}
use Rattle.std.proofs.lemmas.List.{set-get_or}
use Rattle.sim_types.specs.declared.setup.Resource.{Resource}
use Rattle.sim_machine.specs.State.{Facilities}
use Rattle.sim_machine.specs.MayAsk.{takes_requests}
use Rattle.sim_machine.specs.Triggering.{succeed}
use Rattle.sim_machine.specs.Users.{resource_at}
use Rattle.sim_machine.specs.Trying.{on_calendar, try_put, try_get}
use Rattle.sim_machine_law.proofs.Stocks.TriedStores.{none_got}
use Rattle.sim_happen_model.specs.HappenOf.{IsOpen}
use Rattle.sim_happen_model.specs.Shows.{Follows}
use Rattle.sim_shared_model.specs.declared.desk.DeskKind.{DeskKind}
use Rattle.sim_shared_model.specs.declared.desk.DeskKind.TheVariants as desk
use Rattle.sim_shared_model.specs.DeskOf.{DeskOf, resource_kind}
use Rattle.sim_shared_model.specs.declared.stock.Served.{Served}
use Rattle.sim_shared_model.specs.StoreQueues.{AllDiffer}
use Rattle.sim_shared_model.specs.Tanks.{container_of}
use Rattle.sim_shared_model.specs.Shelves.{ShelfOf, store_of}
use Rattle.sim_shared_model.specs.AnyShared.{SharedResource}
use Rattle.sim_shared_model.specs.declared.resource.AnyResource.TheVariants.{Desk, Tank, Shelf}
use Rattle.sim_shared_model.specs.Resources.{HasPlace, declared_as, waiting_at}
use Rattle.sim_shared_model.specs.SharedOf.{SharedOf}
use Rattle.sim_shared_model.specs.Places.{IsSoundShared}
use Rattle.sim_shared_model.specs.ShowsAll.{ShowsAll, FollowsAll}
use Rattle.sim_shared_model.specs.Serving.{TriesPut, TriesGet, puts_go_on, store_goes_on, gets_go_on, DoesPart, DoesPartOrAll, AreOpenAt, TriesAt, count_waiting, count_waiting_at}
use Rattle.sim_shared_law.proofs.Desks.LeavingWaiters.{IsLeaving, one_fewer, others_differ, holds_of_others, held_of_one, all_stay_open}
use Rattle.sim_shared_law.proofs.Shown.ResourcePlaces.{declared_at, got_set, sound_set}
use Rattle.sim_shared_law.proofs.Stocks.ServedResources.{fill_leaves, drain_leaves, deposit_leaves, hand_out_leaves, fills_shown, drains_shown, deposits_shown, hands_out_shown, fills_none, drains_none, deposits_none, hands_out_none}
use Rattle.sim_shared_law.proofs.Stocks.TriedResources.{served_part}

-- ---- the resource that is tried

pub put_leaves : (res : ℕ) (answer : Served) (x y : SharedResource) → TriesPut res (Some answer) x y → IsLeaving answer.event (waiting_at x) (waiting_at y)
put_leaves res answer (Tank t) (Tank u) h = fill_leaves res t u answer h
put_leaves res answer (Shelf s) (Shelf u) h = deposit_leaves res s u answer h
put_leaves res answer (Desk d) (Desk e) h = absurd (none-some answer (sym h.0))
put_leaves res answer _ _ h = absurd h

pub get_leaves : (res : ℕ) (answer : Served) (x y : SharedResource) → TriesGet res (Some answer) x y → IsLeaving answer.event (waiting_at x) (waiting_at y)
get_leaves res answer (Tank t) (Tank u) h = drain_leaves res t u answer h
get_leaves res answer (Shelf s) (Shelf u) h = hand_out_leaves res s u answer h
get_leaves res answer (Desk d) (Desk e) h = absurd (none-some answer (sym h.0))
get_leaves res answer _ _ h = absurd h

-- it is of the kind and capacity that it was
put_declared : (res : ℕ) (answer : Option Served) (x y : SharedResource) → TriesPut res answer x y → declared_as y ≡ declared_as x
put_declared res None (Tank t) (Tank u) h = ap container_of h.1
put_declared res (Some answer) (Tank t) (Tank u) h = ap container_of h.rest
put_declared res None (Shelf s) (Shelf u) h = ap store_of h.1
put_declared res (Some answer) (Shelf s) (Shelf u) h = ap store_of h.rest
put_declared res answer (Desk d) (Desk e) h = ap (λ k. declared_as (Desk k)) h.1
put_declared res answer _ _ h = absurd h

get_declared : (res : ℕ) (answer : Option Served) (x y : SharedResource) → TriesGet res answer x y → declared_as y ≡ declared_as x
get_declared res None (Tank t) (Tank u) h = ap container_of h.1
get_declared res (Some answer) (Tank t) (Tank u) h = ap container_of h.rest
get_declared res None (Shelf s) (Shelf u) h = ap store_of h.1
get_declared res (Some answer) (Shelf s) (Shelf u) h = ap store_of h.rest
get_declared res answer (Desk d) (Desk e) h = ap (λ k. declared_as (Desk k)) h.1
get_declared res answer _ _ h = absurd h

-- and has its place to wait, if it had it
put_place : (res : ℕ) (answer : Option Served) (x y : SharedResource) → TriesPut res answer x y → HasPlace x → HasPlace y
put_place res None (Tank t) (Tank u) h place = subst (λ z. HasPlace (Tank z)) (sym h.1) place
put_place res (Some answer) (Tank t) (Tank u) h place = subst (λ z. HasPlace (Tank z)) (sym h.rest) (omega (arith, place), place.1)
put_place res None (Shelf s) (Shelf u) h place = subst (λ z. HasPlace (Shelf z)) (sym h.1) place
put_place res (Some answer) (Shelf s) (Shelf u) h place = subst (λ z. HasPlace (Shelf z)) (sym h.rest) (omega (arith, place, h.room), place.1)
put_place res answer (Desk d) (Desk e) h place = subst (λ z. HasPlace (Desk z)) (sym h.1) place
put_place res answer _ _ h place = absurd h

get_place : (res : ℕ) (answer : Option Served) (x y : SharedResource) → TriesGet res answer x y → HasPlace x → HasPlace y
get_place res None (Tank t) (Tank u) h place = subst (λ z. HasPlace (Tank z)) (sym h.1) place
get_place res (Some answer) (Tank t) (Tank u) h place = subst (λ z. HasPlace (Tank z)) (sym h.rest) (place.0, omega (arith, place))
get_place res None (Shelf s) (Shelf u) h place = subst (λ z. HasPlace (Shelf z)) (sym h.1) place
get_place res (Some answer) (Shelf s) (Shelf u) h place = subst (λ z. HasPlace (Shelf z)) (sym h.rest) (omega (arith, place, h.room), omega (arith, place))
get_place res answer (Desk d) (Desk e) h place = subst (λ z. HasPlace (Desk z)) (sym h.1) place
get_place res answer _ _ h place = absurd h

-- so what the type of the resources keeps, it keeps
module _ (used : Option ℕ) (xs : List SharedResource) (rs : List Resource) (res : ℕ) (answer : Option Served) (x y : SharedResource)
    (there : slice_get xs res ≡ Some x) (sound : IsSoundShared used xs rs) where
  pub put_sound : TriesPut res answer x y → IsSoundShared used (slice_set xs res y) rs
  put_sound h = sound_set used xs rs res x y there (put_declared res answer x y h) (put_place res answer x y h) sound

  pub get_sound : TriesGet res answer x y → IsSoundShared used (slice_set xs res y) rs
  get_sound h = sound_set used xs rs res x y there (get_declared res answer x y h) (get_place res answer x y h) sound

-- ---- one was served

abbrev Succeeds : SharedOf → ℕ → SharedResource → Served → SharedOf → Type 0
Succeeds a res y answer n = FollowsAll (on_calendar (succeed answer.event answer.value)) (record a { resources = slice_set a.resources res y }) n

pub put_part : (a n : SharedOf) (res : ℕ) (x y : SharedResource) (answer : Served) → slice_get a.resources res ≡ Some x → TriesPut res (Some answer) x y
    → AllDiffer (waiting_at x) → Succeeds a res y answer n → DoesPartOrAll (try_put a.setup res) (puts_go_on y) a n
put_part a n res (Tank t) (Tank u) answer there h differ after =
    served_part a n res (Tank t) (Tank u) answer (try_put a.setup res) true there (fill_leaves res t u answer h) (ap container_of h.rest)
    (λ f shown. fills_shown a res t there f shown u answer differ h) after
put_part a n res (Shelf s) (Shelf u) answer there h differ after =
    served_part a n res (Shelf s) (Shelf u) answer (try_put a.setup res) false there (deposit_leaves res s u answer h) (ap store_of h.rest)
    (λ f shown. deposits_shown a res s there f shown u answer differ h) after
put_part a n res (Desk d) (Desk e) answer there h differ after = absurd (none-some answer (sym h.0))
put_part a n res _ _ answer there h differ after = absurd h

pub get_part : (a n : SharedOf) (res : ℕ) (x y : SharedResource) (answer : Served) → slice_get a.resources res ≡ Some x → TriesGet res (Some answer) x y
    → AllDiffer (waiting_at x) → Succeeds a res y answer n → DoesPartOrAll (try_get a.setup res) (gets_go_on y) a n
get_part a n res (Tank t) (Tank u) answer there h differ after =
    served_part a n res (Tank t) (Tank u) answer (try_get a.setup res) true there (drain_leaves res t u answer h) (ap container_of h.rest)
    (λ f shown. drains_shown a res t there f shown u answer differ h) after
get_part a n res (Shelf s) (Shelf u) answer there h differ after =
    subst (λ b. DoesPartOrAll (try_get a.setup res) b a n) (sym (ap (λ (x : ShelfOf). store_goes_on x.kind) h.rest))
    (served_part a n res (Shelf s) (Shelf u) answer (try_get a.setup res) (store_goes_on s.kind) there (hand_out_leaves res s u answer h) (ap store_of h.rest)
    (λ f shown. hands_out_shown a res s there f shown u answer differ h) after)
get_part a n res (Desk d) (Desk e) answer there h differ after = absurd (none-some answer (sym h.0))
get_part a n res _ _ answer there h differ after = absurd h

-- ---- none was served

set_same : (xs : List SharedResource) (n : ℕ) (x y : SharedResource) → slice_get xs n ≡ Some x → y ≡ x → slice_set xs n y ≡ xs
set_same xs n x y there same = ap (slice_set xs n) (same ∙ sym (get_or_from_slice_get xs n x x there)) ∙ set-get_or xs n x

-- all stays, and no more is to be done
ended : (a : SharedOf) (res : ℕ) (x y : SharedResource) (tries : Facilities → Facilities) → slice_get a.resources res ≡ Some x → y ≡ x
    → ((f : Facilities) → ShowsAll a f → tries f ≡ f) → FollowsAll tries a (record a { resources = slice_set a.resources res y })
ended a res x y tries there same none =
    subst (λ xs. FollowsAll tries a (record a { resources = xs })) (sym (set_same a.resources res x y there same))
    (record { each = λ f h. subst (ShowsAll a) (sym (none f h)) h; held = refl; left = refl; setup = refl })

no_desk : (k : DeskKind) → takes_requests (resource_kind k) ≡ true
no_desk desk.Plain = refl
no_desk desk.Priority = refl
no_desk desk.Preemptive = refl

-- where a desk stands, requests are taken
desk_takes : (a : SharedOf) (res : ℕ) (d : DeskOf) (f : Facilities) → slice_get a.resources res ≡ Some (Desk d) → ShowsAll a f
    → takes_requests (resource_at a.setup res).kind ≡ true
desk_takes a res d f there h =
    sym (ap (λ (r : Resource). takes_requests r.kind) (declared_at a.resources a.setup res (Desk d) h.opened there)) ∙ no_desk d.kind

pub put_ended : (a : SharedOf) (res : ℕ) (x y : SharedResource) → slice_get a.resources res ≡ Some x → TriesPut res None x y
    → takes_requests (resource_at a.setup res).kind ≡ false → FollowsAll (try_put a.setup res) a (record a { resources = slice_set a.resources res y })
put_ended a res (Tank t) (Tank u) there h stock =
    ended a res (Tank t) (Tank u) (try_put a.setup res) there (ap (λ z. Tank z) h.1) (λ f shown. fills_none a res t there f shown h.0)
put_ended a res (Shelf s) (Shelf u) there h stock =
    ended a res (Shelf s) (Shelf u) (try_put a.setup res) there (ap (λ z. Shelf z) h.1) (λ f shown. deposits_none a res s there f shown h.0)
put_ended a res (Desk d) (Desk e) there h stock =
    ended a res (Desk d) (Desk e) (try_put a.setup res) there (ap (λ z. Desk z) h.1)
    (λ f shown. absurd (false≢true (sym stock ∙ desk_takes a res d f there shown)))
put_ended a res _ _ there h stock = absurd h

pub get_ended : (a : SharedOf) (res : ℕ) (x y : SharedResource) → slice_get a.resources res ≡ Some x → TriesGet res None x y
    → FollowsAll (try_get a.setup res) a (record a { resources = slice_set a.resources res y })
get_ended a res (Tank t) (Tank u) there h =
    ended a res (Tank t) (Tank u) (try_get a.setup res) there (ap (λ z. Tank z) h.1) (λ f shown. drains_none a res t there f shown h.0)
get_ended a res (Shelf s) (Shelf u) there h =
    ended a res (Shelf s) (Shelf u) (try_get a.setup res) there (ap (λ z. Shelf z) h.1) (λ f shown. hands_out_none a res s there f shown h.0)
get_ended a res (Desk d) (Desk e) there h =
    ended a res (Desk d) (Desk e) (try_get a.setup res) there (ap (λ z. Desk z) h.1)
    (λ f shown. none_got a.setup res f (shown.resources res (Desk d) there).gets)
get_ended a res _ _ there h = absurd h

-- ---- who is open, and how many wait

module _ (res : ℕ) (answer : Served) (x y : SharedResource) (leaves : IsLeaving answer.event (waiting_at x) (waiting_at y)) where
  -- the one that was served was open
  pub served_open : (a : SharedOf) → slice_get a.resources res ≡ Some x → AreOpenAt res a → IsOpen a.happen answer.event
  served_open a there h = held_of_one (IsOpen a.happen) answer.event (waiting_at x) (waiting_at y) leaves (h.each x there)

  -- and all others still are
  pub open_still : (a n : SharedOf) → slice_get a.resources res ≡ Some x → n.resources ≡ slice_set a.resources res y → AllDiffer (waiting_at x)
      → Follows (succeed answer.event answer.value) a.happen n.happen → AreOpenAt res a → AreOpenAt res n
  open_still a n there is differ t h = record {
    each = λ z found.
        let same : y ≡ z = same_Some y z (sym (got_set a.resources res x y there) ∙ (ap (λ xs. slice_get xs res) (sym is) ∙ found)) in
        subst (λ v. All (IsOpen n.happen) (waiting_at v)) same
        (all_stay_open answer.event answer.value a.happen n.happen (waiting_at y) t (others_differ answer.event (waiting_at x) (waiting_at y) differ leaves)
        (holds_of_others (IsOpen a.happen) answer.event (waiting_at x) (waiting_at y) leaves (h.each x there)));
  }

  pub fewer_wait : (a n : SharedOf) → slice_get a.resources res ≡ Some x → n.resources ≡ slice_set a.resources res y
      → count_waiting_at res n + 1 ≡ count_waiting_at res a
  fewer_wait a n there is =
      ap (λ o. count_waiting o + 1) (ap (λ xs. slice_get xs res) is ∙ got_set a.resources res x y there)
      ∙ one_fewer answer.event (waiting_at x) (waiting_at y) leaves ∙ sym (ap count_waiting there)

-- ---- in its place

module _ (a m : SharedOf) (res : ℕ) (answer : Served) where
  -- one was served, and it succeeds
  module _ (n : SharedOf) (goes : Bool) (value : ℤ) (same : value ≡ answer.value) (after : FollowsAll (on_calendar (succeed answer.event value)) m n)
      (t : Follows (succeed answer.event value) m.happen n.happen) (rest : n ≡ record m { happen = n.happen }) where
    stands : (x y : SharedResource) → slice_get a.resources res ≡ Some x → m ≡ record a { resources = slice_set a.resources res y }
        → slice_get n.resources res ≡ Some y
    stands x y there set =
        let at : SharedOf → Option SharedResource = λ s. slice_get s.resources res in
        ap at rest ∙ (ap at set ∙ got_set a.resources res x y there)

    succeeds : (y : SharedResource) → m ≡ record a { resources = slice_set a.resources res y } → Succeeds a res y answer n
    succeeds y set =
        subst (λ s. FollowsAll (on_calendar (succeed answer.event answer.value)) s n) set
        (subst (λ v. FollowsAll (on_calendar (succeed answer.event v)) m n) same after)

    pub put_served : TriesAt TriesPut res (Some answer) a m → ((x : SharedResource) → slice_get n.resources res ≡ Some x → goes ≡ puts_go_on x)
        → DoesPartOrAll (try_put a.setup res) goes a n
    put_served h goes_as =
        let here = stands h.before h.after h.there h.rest in
        subst (λ b. DoesPartOrAll (try_put a.setup res) b a n) (sym (goes_as h.after here))
        (put_part a n res h.before h.after answer h.there h.tried h.differ (succeeds h.after h.rest))

    pub get_served : TriesAt TriesGet res (Some answer) a m → ((x : SharedResource) → slice_get n.resources res ≡ Some x → goes ≡ gets_go_on x)
        → DoesPartOrAll (try_get a.setup res) goes a n
    get_served h goes_as =
        let here = stands h.before h.after h.there h.rest in
        subst (λ b. DoesPartOrAll (try_get a.setup res) b a n) (sym (goes_as h.after here))
        (get_part a n res h.before h.after answer h.there h.tried h.differ (succeeds h.after h.rest))

    module _ (x y : SharedResource) (there : slice_get a.resources res ≡ Some x) (set : m ≡ record a { resources = slice_set a.resources res y })
        (leaves : IsLeaving answer.event (waiting_at x) (waiting_at y)) where
      still : AllDiffer (waiting_at x) → AreOpenAt res a → AreOpenAt res n
      still differ h =
          open_still res answer x y leaves a n there (ap (λ (s : SharedOf). s.resources) rest ∙ ap (λ (s : SharedOf). s.resources) set) differ
          (subst (λ (s : SharedOf). Follows (succeed answer.event answer.value) s.happen n.happen) set
          (subst (λ v. Follows (succeed answer.event v) m.happen n.happen) same t)) h

      fewer : count_waiting_at res n + 1 ≡ count_waiting_at res a
      fewer = fewer_wait res answer x y leaves a n there (ap (λ (s : SharedOf). s.resources) rest ∙ ap (λ (s : SharedOf). s.resources) set)

    pub put_open : TriesAt TriesPut res (Some answer) a m → AreOpenAt res a → AreOpenAt res n
    put_open h = still h.before h.after h.there h.rest (put_leaves res answer h.before h.after h.tried) h.differ

    pub get_open : TriesAt TriesGet res (Some answer) a m → AreOpenAt res a → AreOpenAt res n
    get_open h = still h.before h.after h.there h.rest (get_leaves res answer h.before h.after h.tried) h.differ

    pub put_fewer : TriesAt TriesPut res (Some answer) a m → count_waiting_at res n + 1 ≡ count_waiting_at res a
    put_fewer h = fewer h.before h.after h.there h.rest (put_leaves res answer h.before h.after h.tried)

    pub get_fewer : TriesAt TriesGet res (Some answer) a m → count_waiting_at res n + 1 ≡ count_waiting_at res a
    get_fewer h = fewer h.before h.after h.there h.rest (get_leaves res answer h.before h.after h.tried)

  -- it may succeed
  pub put_may : TriesAt TriesPut res (Some answer) a m → AreOpenAt res a → IsOpen m.happen answer.event
  put_may h was =
      subst (λ (s : SharedOf). IsOpen s.happen answer.event) (sym h.rest)
      (served_open res answer h.before h.after (put_leaves res answer h.before h.after h.tried) a h.there was)

  pub get_may : TriesAt TriesGet res (Some answer) a m → AreOpenAt res a → IsOpen m.happen answer.event
  get_may h was =
      subst (λ (s : SharedOf). IsOpen s.happen answer.event) (sym h.rest)
      (served_open res answer h.before h.after (get_leaves res answer h.before h.after h.tried) a h.there was)

-- none was served
pub no_put : (a m : SharedOf) (res : ℕ) → takes_requests (resource_at a.setup res).kind ≡ false → TriesAt TriesPut res None a m
    → FollowsAll (try_put a.setup res) a m
no_put a m res stock h = subst (FollowsAll (try_put a.setup res) a) (sym h.rest) (put_ended a res h.before h.after h.there h.tried stock)

pub no_get : (a m : SharedOf) (res : ℕ) → TriesAt TriesGet res None a m → FollowsAll (try_get a.setup res) a m
no_get a m res h = subst (FollowsAll (try_get a.setup res) a) (sym h.rest) (get_ended a res h.before h.after h.there h.tried)

-- ---- one after another

-- a part and then the rest
pub part_then : (tries : Facilities → Facilities) (a b n : SharedOf) (goes : Bool) → DoesPart tries a b → DoesPartOrAll tries goes b n
    → DoesPartOrAll tries goes a n
part_then tries a b n true p q = record {
  each = λ f h.
      let s = p.each f h in
      let r = q.each s.facilities s.shown in
      record { facilities = r.facilities; shown = r.shown; same = r.same ∙ s.same };
  held = q.held ∙ p.held;
  left = q.left ∙ p.left;
  setup = q.setup ∙ p.setup;
}
part_then tries a b n false p q = record {
  each = λ f h. let s = p.each f h in subst (ShowsAll n) s.same (q.each s.facilities s.shown);
  held = q.held ∙ p.held;
  left = q.left ∙ p.left;
  setup = q.setup ∙ p.setup;
}

-- nothing was done yet
pub no_part : (tries : Facilities → Facilities) (a : SharedOf) → DoesPart tries a a
no_part tries a = record { each = λ f h. record { facilities = f; shown = h; same = refl }; held = refl; left = refl; setup = refl }
