-- A request that is a user no longer.
use Rattle.std.proofs.Common.{◌≡◌, ◌≢◌, ℕ, Bool, true, false, ◌||◌, ◌&&◌, not, List, [], ◌∷◌, ◌++◌, refl, sym, subst, ap, ◌∙◌, inl, inr, Some, if◌then◌else◌}
use Rattle.std.specs.Prelude.{◌==◌, All, AllPairs, slice_get, slice_set}
use Rattle.std.specs.List.{list_any}
use Rattle.std.proofs.lemmas.Bool.{false≢true, cases_Bool, and_parts, eqb-true, ne_eqb}
use Rattle.std.proofs.lemmas.Option.{get_or_from_slice_get}
use Rattle.std.proofs.lemmas.List.{append-nil, set-get_or}
use Rattle.std.proofs.lemmas.List.Elements.{All-head, All-tail, All-weaker}
use Rattle.std.proofs.lemmas.List.Folds.{list_any-append}
use Rattle.sim_types.specs.declared.event.EventId.{EventId}
use Rattle.sim_types.specs.declared.setup.Resource.{Resource}
use Rattle.sim_types.proofs.Permutations.{AllPairs-head, AllPairs-tail}
use Rattle.sim_machine.specs.State.{User, Deed, Granted, Released, Preempted, Deposited, Taken, Filled, Drained, Facilities}
use Rattle.sim_machine.specs.Events.{is_same}
use Rattle.sim_machine.specs.LawfulLedger.{ServeApart, serves}
use Rattle.sim_machine.specs.MayAsk.{takes_requests}
use Rattle.sim_machine.specs.Users.{resource_at, users, user_by, ends_use}
use Rattle.sim_machine.specs.Trying.{write_deed}
use Rattle.sim_machine.specs.Requests.{end_use, is_user}
use Rattle.sim_machine_law.proofs.Ledger.LedgerSteps.{users_step, items_released, level_released}
use Rattle.sim_shared_model.specs.Attempts.{users_but}
use Rattle.sim_shared_model.proofs.LeftOut.{none_any}
use Rattle.sim_shared_model.specs.declared.stock.ShelfKind.{ShelfKind}
use Rattle.sim_shared_model.specs.declared.stock.ShelfKind.TheVariants as shelf
use Rattle.sim_shared_model.specs.Shelves.{store_kind}
use Rattle.sim_shared_model.specs.AnyShared.{SharedResource}
use Rattle.sim_shared_model.specs.declared.resource.AnyResource.TheVariants.{Desk, Tank, Shelf}
use Rattle.sim_shared_model.specs.Resources.{declared_as, without_room}
use Rattle.sim_shared_model.specs.SharedOf.{SharedOf}
use Rattle.sim_shared_model.specs.ShowsAll.{ShowsAt, ShowsAll, FollowsAll}
use Rattle.sim_shared_model.specs.Using.{uses_at, released_at}
use Rattle.sim_shared_law.proofs.Waiters.CancelledEvents.{shown_alike}
use Rattle.sim_shared_law.proofs.Desks.ServedWaiters.{StaysAt, writes_nothing, written_at}
use Rattle.sim_shared_law.proofs.Shown.ResourcePlaces.{declared_alike, declared_at}

-- ---- a request uses one resource at most

abbrev pub uses : EventId → User → Bool
uses e u = is_same u.request e

one_serves : (e : EventId) (u : User) (b : Bool) → list_any (uses e) (if b then u ∷ [] else []) ≡ true → (uses e u ≡ true) × (b ≡ true)
one_serves e u true h = (first (uses e u) h, refl)
  where
    first : (a : Bool) → (a || false) ≡ true → a ≡ true
    first true k = refl
    first false k = absurd (false≢true k)
one_serves e u false h = absurd (false≢true h)

-- a user is of a request that a deed served, at this place
user_serves : (e : EventId) (res : ℕ) (d : Deed) (later : List Deed) → list_any (uses e) (user_by res d later) ≡ true → serves e d ≡ true
user_serves e res (Granted at u) later h = (one_serves e u ((at == res) && not (list_any (ends_use u.request) later)) h).0
user_serves e res (Released at r) later h = absurd (false≢true h)
user_serves e res (Preempted at r) later h = absurd (false≢true h)
user_serves e res (Deposited at x) later h = absurd (false≢true h)
user_serves e res (Taken at p) later h = absurd (false≢true h)
user_serves e res (Filled at n) later h = absurd (false≢true h)
user_serves e res (Drained at n) later h = absurd (false≢true h)

-- one deed makes no users at two places
user_elsewhere : (e : EventId) (res at : ℕ) (d : Deed) (later : List Deed) → res ≢ at → list_any (uses e) (user_by res d later) ≡ true
    → list_any (uses e) (user_by at d later) ≡ false
user_elsewhere e res at (Granted place u) later differ h =
    let here : place ≡ res = eqb-true place res (and_parts (place == res) (not (list_any (ends_use u.request) later)) (one_serves e u ((place == res) && not (list_any (ends_use u.request) later)) h).1).0 in
    rw (ne_eqb place at (λ same. differ (sym here ∙ same))) refl
user_elsewhere e res at (Released place r) later differ h = refl
user_elsewhere e res at (Preempted place r) later differ h = refl
user_elsewhere e res at (Deposited place x) later differ h = refl
user_elsewhere e res at (Taken place p) later differ h = refl
user_elsewhere e res at (Filled place n) later differ h = refl
user_elsewhere e res at (Drained place n) later differ h = refl

not_served : (e : EventId) (res : ℕ) (d : Deed) (later : List Deed) → serves e d ≡ false → list_any (uses e) (user_by res d later) ≡ false
not_served e res d later h = elim (cases_Bool (list_any (uses e) (user_by res d later))) [
  | inl is ↦ absurd (false≢true (sym h ∙ user_serves e res d later is))
  | inr none ↦ none
]

any_of_two : (e : EventId) (us vs : List User) → list_any (uses e) us ≡ false → list_any (uses e) vs ≡ false → list_any (uses e) (us ++ vs) ≡ false
any_of_two e us vs h k = list_any-append (uses e) us vs ∙ rw (h, k) refl

-- no user is of a request that no deed served
pub users_unserved : (e : EventId) (res : ℕ) (ledger : List Deed) → All (λ d. serves e d ≡ false) ledger → list_any (uses e) (users res ledger) ≡ false
users_unserved e res [] h = refl
users_unserved e res (d ∷ ledger) h =
    any_of_two e (user_by res d ledger) (users res ledger) (not_served e res d ledger (All-head (λ x. serves e x ≡ false) d ledger h))
    (users_unserved e res ledger (All-tail (λ x. serves e x ≡ false) d ledger h))

served_once : (e : EventId) (d : Deed) (ledger : List Deed) → serves e d ≡ true → AllPairs ServeApart (d ∷ ledger) → All (λ x. serves e x ≡ false) ledger
served_once e d ledger h once =
    All-weaker (ServeApart d) (λ x. serves e x ≡ false) (λ x apart. elim (cases_Bool (serves e x)) [
      | inl is ↦ absurd (apart e h is)
      | inr other ↦ other
    ]) ledger (AllPairs-head ServeApart d ledger once)

or_right : (a b : Bool) → (a || b) ≡ true → a ≡ false → b ≡ true
or_right true b h k = absurd (false≢true (sym k))
or_right false b h k = h

-- a request that uses a resource uses no other
pub users_elsewhere : (e : EventId) (res at : ℕ) (ledger : List Deed) → res ≢ at → AllPairs ServeApart ledger → list_any (uses e) (users res ledger) ≡ true
    → list_any (uses e) (users at ledger) ≡ false
users_elsewhere e res at [] differ once h = absurd (false≢true h)
users_elsewhere e res at (d ∷ ledger) differ once h =
    let both : (list_any (uses e) (user_by res d ledger) || list_any (uses e) (users res ledger)) ≡ true = sym (list_any-append (uses e) (user_by res d ledger) (users res ledger)) ∙ h in
    elim (cases_Bool (serves e d)) [
      | inl is ↦
          let later = served_once e d ledger is once in
          let here : list_any (uses e) (user_by res d ledger) ≡ true = or_left (list_any (uses e) (user_by res d ledger)) (list_any (uses e) (users res ledger)) both (users_unserved e res ledger later) in
          any_of_two e (user_by at d ledger) (users at ledger) (user_elsewhere e res at d ledger differ here) (users_unserved e at ledger later)
      | inr other ↦
          any_of_two e (user_by at d ledger) (users at ledger) (not_served e at d ledger other)
          (users_elsewhere e res at ledger differ (AllPairs-tail ServeApart d ledger once)
          (or_right (list_any (uses e) (user_by res d ledger)) (list_any (uses e) (users res ledger)) both (not_served e res d ledger other)))
    ]
  where
    or_left : (a b : Bool) → (a || b) ≡ true → b ≡ false → a ≡ true
    or_left true b k l = refl
    or_left false b k l = absurd (false≢true (sym l ∙ k))

-- ---- what is shown once it is released

users_released : (n res : ℕ) (r : EventId) (ledger : List Deed) → users n (ledger ++ Released res r ∷ []) ≡ users_but r (users n ledger)
users_released n res r ledger = users_step n (Released res r) ledger ∙ append-nil (users_but r (users n ledger))

-- its own resource
released_here : (rs : List Resource) (res at : ℕ) (x : SharedResource) (r : EventId) (f : Facilities) → ShowsAt rs res x f
    → ShowsAt rs res (released_at r x) (write_deed (Released at r) f)
released_here rs res at (Desk d) r f h = record {
  queue = h.queue;
  gets = h.gets;
  users = ap (users_but r) h.users ∙ sym (users_released res at r f.ledger);
}
released_here rs res at (Tank t) r f h = record {
  puts = h.puts;
  gets = h.gets;
  level = h.level ∙ sym (level_released (resource_at rs res).opening res at r f.ledger);
}
released_here rs res at (Shelf s) r f h = record {
  puts = h.puts;
  gets = h.gets;
  items = h.items ∙ sym (items_released res at r f.ledger);
}

-- it is nothing to any other
released_stays : (res n : ℕ) (r : EventId) (ledger : List Deed) → n ≢ res → AllPairs ServeApart ledger → list_any (uses r) (users res ledger) ≡ true
    → StaysAt n (Released res r) ledger
released_stays res n r ledger other once uses_it = record {
  users_stay = users_released n res r ledger ∙ none_any (uses r) (users n ledger) (users_elsewhere r res n ledger (λ same. other (sym same)) once uses_it);
  items_stay = items_released n res r ledger;
  level_stays = refl;
}

declared_released : (r : EventId) (x : SharedResource) → declared_as (released_at r x) ≡ declared_as x
declared_released r (Desk d) = refl
declared_released r (Tank t) = refl
declared_released r (Shelf s) = refl

pub no_store : (k : ShelfKind) → takes_requests (store_kind k) ≡ true → ⊥
no_store shelf.Fifo k = absurd (false≢true k)
no_store shelf.Priority k = absurd (false≢true k)
no_store shelf.Filter k = absurd (false≢true k)

-- whether a request uses a resource is what is shown, where the resource has slots
pub uses_shown : (a : SharedOf) (f : Facilities) (n : ℕ) (x : SharedResource) (r : EventId) → ShowsAll a f → slice_get a.resources n ≡ Some x
    → takes_requests (resource_at a.setup n).kind ≡ true → uses_at r x ≡ is_user n r f
uses_shown a f n x r h there kind =
    go x (h.resources n x there) (ap (λ (y : Resource). takes_requests y.kind) (declared_at a.resources a.setup n x h.opened there) ∙ kind)
  where
    go : (y : SharedResource) → ShowsAt a.setup n y f → takes_requests (declared_as y).kind ≡ true → uses_at r y ≡ is_user n r f
    go (Desk d) s k = ap (list_any (uses r)) s.users
    go (Tank t) s k = absurd (false≢true k)
    go (Shelf s) t k = absurd (no_store s.kind k)

pub kind_kept : (r : EventId) (x y : SharedResource) → without_room y ≡ without_room (released_at r x) → declared_as y ≡ declared_as x
kind_kept r x y same = declared_alike (released_at r x) y same ∙ declared_released r x

-- the request was a user, and is no longer
pub released_follows : (a : SharedOf) (n : ℕ) (x y : SharedResource) (r : EventId) → slice_get a.resources n ≡ Some x
    → takes_requests (resource_at a.setup n).kind ≡ true → uses_at r x ≡ true → without_room y ≡ without_room (released_at r x)
    → FollowsAll (end_use n r) a (record a { resources = slice_set a.resources n y })
released_follows a n x y r there kind uses same = record {
  each = λ f h.
      let is : is_user n r f ≡ true = sym (uses_shown a f n x r h there kind) ∙ uses in
      let after : Facilities = write_deed (Released n r) f in
      subst (ShowsAll (record a { resources = slice_set a.resources n y })) (ap (λ b. if b then after else f) (sym is))
      (written_at a f n x y (Released n r) h there (kind_kept r x y same) (writes_nothing (Released n r) f refl)
      (λ m other. released_stays n m r f.ledger other h.tidy.ledger.once is)
      (shown_alike a.setup n (released_at r x) y after same (released_here a.setup n n x r f (h.resources n x there))));
  held = refl;
  left = refl;
  setup = refl;
}

-- it was none
pub unused_follows : (a : SharedOf) (n : ℕ) (x : SharedResource) (r : EventId) → slice_get a.resources n ≡ Some x
    → takes_requests (resource_at a.setup n).kind ≡ true → uses_at r x ≡ false → FollowsAll (end_use n r) a a
unused_follows a n x r there kind unused = record {
  each = λ f h. subst (ShowsAll a) (ap (λ b. if b then write_deed (Released n r) f else f) (sym (sym (uses_shown a f n x r h there kind) ∙ unused))) h;
  held = refl;
  left = refl;
  setup = refl;
}

-- whichever it was
pub end_use_follows : (a : SharedOf) (n : ℕ) (x y : SharedResource) (r : EventId) → slice_get a.resources n ≡ Some x
    → takes_requests (resource_at a.setup n).kind ≡ true → (uses_at r x ≡ false → y ≡ x) → without_room y ≡ without_room (released_at r x)
    → FollowsAll (end_use n r) a (record a { resources = slice_set a.resources n y })
end_use_follows a n x y r there kind stays same = elim (cases_Bool (uses_at r x)) [
  | inl uses_it ↦ released_follows a n x y r there kind uses_it same
  | inr unused ↦
      let all : slice_set a.resources n y ≡ a.resources = ap (slice_set a.resources n) (stays unused ∙ sym (get_or_from_slice_get a.resources n x x there)) ∙ set-get_or a.resources n x in
      subst (λ xs. FollowsAll (end_use n r) a (record a { resources = xs })) (sym all) (unused_follows a n x r there kind unused)
]
