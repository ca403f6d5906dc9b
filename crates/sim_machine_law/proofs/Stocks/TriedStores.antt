-- How far a try of a store goes: one attempt at a store or priority store, all gets of a filter store.
use Rattle.std.proofs.Common.{◌≡◌, ◌≢◌, ◌⊎◌, ℕ, ℤ, Bool, true, false, not, List, [], ◌∷◌, Option, Some, None, refl, sym, subst, ap, ◌∙◌, inl, inr, if◌then◌else◌, filter, All}
use Rattle.std.specs.List.{list_any}
use Rattle.std.proofs.lemmas.Bool.{both_ways, or_cases, or_left, or_right}
use Rattle.std.proofs.lemmas.List.Elements.{All-nil, All-cons, All-head, All-tail, All-filter}
use Rattle.sim_types.specs.declared.event.EventId.{EventId}
use Rattle.sim_types.specs.declared.setup.Resource.{Resource}
use Rattle.sim_types.specs.declared.setup.ResourceKind.{ResourceKind}
use Rattle.sim_types.specs.declared.setup.ResourceKind.TheVariants as resource
use Rattle.sim_machine.specs.State.{Want, Take, Waiter, Item, Taken, Facilities}
use Rattle.sim_machine.specs.Events.{is_same}
use Rattle.sim_machine.specs.Users.{resource_at, wants_to_put, items, item_for, put_queue, get_queue}
use Rattle.sim_machine.specs.Attempts.{is_container, drain, hand_out}
use Rattle.sim_machine.specs.Trying.{level, serve, serve_if_any, attempt_for, attempt, still_waits, Reach, First, put_reach, get_reach, try_along, try_put, try_get}
use Rattle.sim_machine_law.specs.Desks.{gets_at}
use Rattle.sim_machine_law.specs.Stocks.{IsGet, IsInRange, FindsNone, FindsNoneWhereLeft}
use Rattle.sim_machine_law.proofs.Stocks.FoundItems.{none_in_range, items_taken}
use Rattle.sim_machine_law.proofs.Stocks.ServedFronts.{none_left, filtered_at}

-- ---- one attempt

first_alone : (k : ResourceKind) → k ≢ resource.Container → put_reach k ≡ First
first_alone resource.Container h = absurd (h refl)
first_alone _ h = refl

pub one_put : (rs : List Resource) (res : ℕ) (f : Facilities) (w : Waiter) (ws : List Waiter) → (resource_at rs res).kind ≢ resource.Container →
    put_queue rs res f.waiters ≡ w ∷ ws → try_put rs res f ≡ attempt rs w f
one_put rs res f w ws kind queue =
    ap (λ (reach : Reach). try_along rs reach (put_queue rs res f.waiters) f) (first_alone (resource_at rs res).kind kind) ∙ ap (λ (vs : List Waiter). try_along rs First vs f) queue

pub one_get : (rs : List Resource) (res : ℕ) (f : Facilities) (w : Waiter) (ws : List Waiter) →
    ((resource_at rs res).kind ≡ resource.Store) ⊎ ((resource_at rs res).kind ≡ resource.PStore) → get_queue res f.waiters ≡ w ∷ ws →
    try_get rs res f ≡ attempt rs w f
one_get rs res f w ws (inl kind) queue =
    ap (λ (k : ResourceKind). try_along rs (get_reach k) (get_queue res f.waiters) f) kind ∙ ap (λ (vs : List Waiter). try_along rs First vs f) queue
one_get rs res f w ws (inr kind) queue =
    ap (λ (k : ResourceKind). try_along rs (get_reach k) (get_queue res f.waiters) f) kind ∙ ap (λ (vs : List Waiter). try_along rs First vs f) queue

pub none_put : (rs : List Resource) (res : ℕ) (f : Facilities) → put_queue rs res f.waiters ≡ [] → try_put rs res f ≡ f
none_put rs res f queue = ap (λ (vs : List Waiter). try_along rs (put_reach (resource_at rs res).kind) vs f) queue

pub none_got : (rs : List Resource) (res : ℕ) (f : Facilities) → get_queue res f.waiters ≡ [] → try_get rs res f ≡ f
none_got rs res f queue = ap (λ (vs : List Waiter). try_along rs (get_reach (resource_at rs res).kind) vs f) queue

-- ---- all gets

still_any : (e : EventId) (test : Waiter → Bool) (ws : List Waiter) → list_any (λ v. is_same v.event e) (filter test ws) ≡ true →
    list_any (λ v. is_same v.event e) ws ≡ true
still_any e test [] h = h
still_any e test (w ∷ ws) h = by_test (test w) h (still_any e test ws)
  where
    waits : Waiter → Bool
    waits v = is_same v.event e

    by_test : (b : Bool) → list_any (λ v. is_same v.event e) (if b then w ∷ filter test ws else filter test ws) ≡ true →
        (list_any (λ v. is_same v.event e) (filter test ws) ≡ true → list_any (λ v. is_same v.event e) ws ≡ true) →
        list_any (λ v. is_same v.event e) (w ∷ ws) ≡ true
    by_test true k later =
        elim (or_cases (is_same w.event e) (list_any (λ v. is_same v.event e) (filter test ws)) k) [
          | inl here ↦ or_left (is_same w.event e) (list_any (λ v. is_same v.event e) ws) here
          | inr there ↦ or_right (is_same w.event e) (list_any (λ v. is_same v.event e) ws) (later there)
        ]
    by_test false k later = or_right (is_same w.event e) (list_any (λ v. is_same v.event e) ws) (later k)

module _ (rs : List Resource) (res : ℕ) (kind : (resource_at rs res).kind ≡ resource.FStore) where
  -- where the waiter still waits, it finds no item
  abbrev IsSettled : Waiter → Facilities → Type 0
  IsSettled w f = FindsNoneWhereLeft res w f

  -- a get that waits here
  record GetsHere (w : Waiter) : Type 0 where
    at : w.res ≡ res
    gets : IsGet w

  gets_item : (v : Waiter) (least greatest : ℤ) → v.want ≡ Take least greatest → v.res ≡ res → (f : Facilities) →
      attempt rs v f ≡ serve_if_any v (hand_out v.res (item_for resource.FStore least greatest (items res f.ledger))) f
  gets_item v least greatest wants at f =
      let served : ResourceKind → ℕ → Facilities = λ k m. serve_if_any v (if is_container k then drain v.res (level rs v.res f) least else hand_out v.res (item_for k least greatest (items m f.ledger))) f in
      ap (λ (x : Want). attempt_for rs (resource_at rs v.res) v x f) wants ∙ ap (λ (k : ResourceKind). served k v.res) (ap (λ (m : ℕ). (resource_at rs m).kind) at ∙ kind) ∙ ap (served resource.FStore) at

  serving_keeps : (w v : Waiter) (o : Option Item) (f : Facilities) → IsSettled w f → IsSettled w (serve_if_any v (hand_out v.res o) f)
  serving_keeps w v None f h = h
  serving_keeps w v (Some x) f h =
      λ waits least greatest wants.
      let P : Item → Type 0 = λ y. ¬ IsInRange least greatest y in
      let before : All P (items res f.ledger) = h (still_any w.event (λ y. not (is_same y.event v.event)) f.waiters waits) least greatest wants in
      subst (All P) (sym (items_taken res v.res x.put f.ledger)) (All-filter (λ y. not (is_same y.put x.put)) P (items res f.ledger) before)

  attempt_keeps : (w v : Waiter) → GetsHere v → (f : Facilities) → IsSettled w f → IsSettled w (attempt rs v f)
  attempt_keeps w v here f h =
      let found : Option Item = item_for resource.FStore here.gets.0 here.gets.1 (items res f.ledger) in
      subst (IsSettled w) (sym (gets_item v here.gets.0 here.gets.1 here.gets.2 here.at f)) (serving_keeps w v found f h)

  served_settles : (w : Waiter) (o : Option Item) (f : Facilities) → (o ≡ None → FindsNone (items res f.ledger) w) →
      IsSettled w (serve_if_any w (hand_out w.res o) f)
  served_settles w None f none waits = none refl
  served_settles w (Some x) f none waits = absurd (both_ways (still_waits w (serve w x.value (Taken w.res x.put) f)) (none_left w.event f.waiters) waits)

  same_range : (want : Want) (a b c d : ℤ) → want ≡ Take a b → want ≡ Take c d → (a ≡ c) × (b ≡ d)
  same_range want a b c d p q = (cc, cc)

  attempt_settles : (w : Waiter) → GetsHere w → (f : Facilities) → IsSettled w (attempt rs w f)
  attempt_settles w here f =
      let least : ℤ = here.gets.0 in
      let greatest : ℤ = here.gets.1 in
      let found : Option Item = item_for resource.FStore least greatest (items res f.ledger) in
      subst (IsSettled w) (sym (gets_item w least greatest here.gets.2 here.at f))
      (served_settles w found f (λ none low high wants.
      let same = same_range w.want least greatest low high here.gets.2 wants in
      subst (λ (a : ℤ). All (λ y. ¬ IsInRange a high y) (items res f.ledger)) same.0 (subst (λ (b : ℤ). All (λ y. ¬ IsInRange least b y) (items res f.ledger)) same.1 (none_in_range least greatest (items res f.ledger) none))))

  -- a try along gets
  abbrev tried : List Waiter → Facilities → Facilities
  tried ws f = try_along rs (get_reach resource.FStore) ws f

  try_keeps : (w : Waiter) (ws : List Waiter) (f : Facilities) → All GetsHere ws → IsSettled w f → IsSettled w (tried ws f)
  try_keeps w [] f here h = h
  try_keeps w (v ∷ vs) f here h = try_keeps w vs (attempt rs v f) (All-tail GetsHere v vs here) (attempt_keeps w v (All-head GetsHere v vs here) f h)

  try_settles : (ws : List Waiter) (f : Facilities) → All GetsHere ws → All (λ w. IsSettled w (tried ws f)) ws
  try_settles [] f here = All-nil (λ w. IsSettled w f)
  try_settles (v ∷ vs) f here =
      let after : Facilities = attempt rs v f in
      let later : All GetsHere vs = All-tail GetsHere v vs here in
      All-cons (λ w. IsSettled w (tried vs after)) v vs (try_keeps v vs after later (attempt_settles v (All-head GetsHere v vs here) f)) (try_settles vs after later)

  -- no get that still waits finds an item
  pub gets_settled : (f : Facilities) → All IsGet (gets_at res f.waiters) → All (λ w. IsSettled w (try_get rs res f)) (gets_at res f.waiters)
  gets_settled f gets =
      let queue : List Waiter = gets_at res f.waiters in
      let at : All (λ w. w.res ≡ res) queue = filtered_at res (λ w. not (wants_to_put w.want)) f.waiters in
      subst (λ (k : ResourceKind). All (λ w. IsSettled w (try_along rs (get_reach k) queue f)) queue) (sym kind)
      (try_settles queue f (λ n d below. record { at = at n d below; gets = gets n d below }))
