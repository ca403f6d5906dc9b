-- The best of a list, where of equals the later one is better, is the last of it in order.
use Rattle.std.proofs.Common.{◌≡◌, ◌≢◌, ℕ, ◌+◌, ◌-◌, ◌<◌, Bool, true, false, not, List, [], ◌∷◌, ◌++◌, length, Option, Some, None, refl, sym, ap, subst, ◌∙◌, map, if◌then◌else◌, arith, get_or, All, AllPairs, append_assoc}
use Rattle.std.specs.Prelude.{slice_get}
use Rattle.std.specs.Borrow.{Bor}
use Rattle.std.specs.Option.{option_copied}
use Rattle.std.specs.Slice.{IsGetResult}
use Rattle.std.specs.Cmp.{IsStrictWeakOrder}
use Rattle.std.proofs.lemmas.Bool.{false≢true}
use Rattle.std.proofs.lemmas.Option.{slice_get-get_or, slice_get_past, slice_get_read}
use Rattle.std.proofs.lemmas.List.{get_or_push, length_push, append-nil, length-map, map-append}
use Rattle.std.proofs.lemmas.List.Elements.{All-head, All-tail, All-nil, All-cons, filter-append}
use Rattle.std.proofs.lemmas.List.Kept.{AllPairs-cons}
use Rattle.sim_types.proofs.Permutations.{AllPairs-head, AllPairs-tail}
use Rattle.sim_machine.specs.Events.{is_same}
use Rattle.sim_machine.specs.Choices.{best_from, best}
use Rattle.sim_machine.specs.Users.{last_served}
use Rattle.sim_shared_model.specs.Sorting.{put_behind, sorted_by, IsInOrderBy}
use Rattle.sim_resource.specs.QueueOrder.{ranks_before}
use Rattle.sim_resource.specs.declared.user.NumberedUser.{NumberedUser}
use Rattle.sim_resource.specs.GrantOrder.{as_granted, numbered_but, IsSoundUsers}
use Rattle.sim_resource.proofs.Keys.{ranks_ordered}
use Rattle.sim_shared_model.proofs.StableSorts.{by_test, sorted_joined, behind_in_order}
use Rattle.sim_shared_model.proofs.LeftOut.{same_no, same_self, none_left_out}

-- a list whose last element is this
pub record EndsWith {X : Type 0} (xs : List X) (m : X) : Type 0 where
  pub front : List X
  pub is : xs ≡ front ++ m ∷ []

module _ {X : Type 0} (before : X → X → Bool) (order : IsStrictWeakOrder before) where
  longer : (v : X) (vs : List X) (m : X) → EndsWith vs m → EndsWith (v ∷ vs) m
  longer v vs m e = record { front = v ∷ e.front; is = ap (λ us. v ∷ us) e.is }

  one_step : (y m : X) (b : Bool) → before y m ≡ b → EndsWith (if b then y ∷ m ∷ [] else m ∷ y ∷ []) (if not b then y else m)
  one_step y m true is = record { front = y ∷ []; is = refl }
  one_step y m false is = record { front = m ∷ []; is = refl }

  -- one that stands before one of them stands before the last
  last_not_before : (y v m : X) → before m v ≡ false → before y v ≡ true → (b : Bool) → before y m ≡ b → b ≡ true
  last_not_before y v m later first true is = refl
  last_not_before y v m later first false is = absurd (false≢true (sym (order.chain y m v is later) ∙ first))

  last_first : (front : List X) (v m : X) → All (λ u. before u v ≡ false) (front ++ m ∷ []) → before m v ≡ false
  last_first [] v m h = All-head (λ u. before u v ≡ false) m [] h
  last_first (w ∷ front) v m h = last_first front v m (All-tail (λ u. before u v ≡ false) w (front ++ m ∷ []) h)

  step : (front : List X) (m y : X) → IsInOrderBy before (front ++ m ∷ []) →
      EndsWith (put_behind before y (front ++ m ∷ [])) (if not (before y m) then y else m)
  step [] m y h = one_step y m (before y m) refl
  step (v ∷ front) m y h =
      by_test before (λ us. EndsWith us (if not (before y m) then y else m)) (before y v) (y ∷ v ∷ (front ++ m ∷ [])) (v ∷ put_behind before y (front ++ m ∷ []))
      (λ first.
      let stays : before y m ≡ true = last_not_before y v m (last_first front v m (AllPairs-head (λ x z. before z x ≡ false) v (front ++ m ∷ []) h)) first (before y m) refl in
      rw stays (record { front = y ∷ v ∷ front; is = refl }))
      (λ later. longer v (put_behind before y (front ++ m ∷ [])) (if not (before y m) then y else m) (step front m y (AllPairs-tail (λ x z. before z x ≡ false) v (front ++ m ∷ []) h)))

  step_at : (s : List X) (m y : X) → IsInOrderBy before s → EndsWith s m → EndsWith (put_behind before y s) (if not (before y m) then y else m)
  step_at s m y h e =
      subst (λ us. EndsWith (put_behind before y us) (if not (before y m) then y else m)) (sym e.is) (step e.front m y (subst (IsInOrderBy before) e.is h))

  -- those that came, one after the other
  run : (ys xs : List X) (m : X) → IsInOrderBy before (sorted_by before xs) → EndsWith (sorted_by before xs) m →
      EndsWith (sorted_by before (xs ++ ys)) (best_from (λ v u. not (before v u)) m ys)
  run [] xs m h e = subst (λ us. EndsWith (sorted_by before us) m) (sym (append-nil xs)) e
  run (y ∷ ys) xs m h e =
      let joined = sorted_joined before order xs y in
      subst (λ us. EndsWith (sorted_by before us) (best_from (λ v u. not (before v u)) (if not (before y m) then y else m) ys)) (append_assoc xs (y ∷ []) ys)
      (run ys (xs ++ y ∷ []) (if not (before y m) then y else m) (subst (IsInOrderBy before) (sym joined) (behind_in_order before order y (sorted_by before xs) h))
      (subst (λ us. EndsWith us (if not (before y m) then y else m)) (sym joined) (step_at (sorted_by before xs) m y h e)))

  one_in_order : (x : X) → IsInOrderBy before (x ∷ [])
  one_in_order x = AllPairs-cons (λ y z. before z y ≡ false) x [] (All-nil (λ z. before z x ≡ false)) (λ i j d first below. absurd (none_below j below))
    where
      none_below : (j : ℕ) → j < 0 → ⊥
      none_below j below = omega arith

  last_at : (xs : List X) (m : X) → EndsWith xs m → slice_get xs (length xs - 1) ≡ Some m
  last_at xs m e =
      let n : length xs ≡ length e.front + 1 = ap length e.is ∙ length_push e.front m in
      let at : length e.front ≡ length xs - 1 = omega arith in
      slice_get-get_or xs (length xs - 1) m (omega arith) ∙ ap (λ (v : X). Some v) (subst (λ us. get_or us (length xs - 1) m ≡ m) (sym e.is) (get_or_push e.front m m (length xs - 1) at))

  pub best_is_last : (xs : List X) → best (λ v u. not (before v u)) xs ≡ slice_get (sorted_by before xs) (length (sorted_by before xs) - 1)
  best_is_last [] = refl
  best_is_last (x ∷ xs) =
      sym (last_at (sorted_by before (x ∷ xs)) (best_from (λ v u. not (before v u)) x xs) (run xs (x ∷ []) x (one_in_order x) (record { front = []; is = refl })))

-- what a queue lends as its last element
pub back_at : {X : Type 0} (xs : List X) (len : ℕ) (r : Option (Bor X)) → len ≡ length xs → IsGetResult xs 0 (len - 1) r →
    option_copied r ≡ slice_get xs (length xs - 1)
back_at xs len None is h = sym (slice_get_past xs (length xs - 1) (omega (arith, h.3)))
back_at xs len (Some x) is h =
    let below = h.3.0 in
    sym (slice_get_read xs (length xs) (length xs - 1) x.now refl (omega (arith, below)) (subst (λ n. x.now ≡ get_or xs (n - 1) x.now) is h.1))

-- ---- users

-- the user who is preempted first is the last of the ranked ones
pub last_of_ranked : (ranked : Bool) (next : ℕ) (gs : List NumberedUser) → ranked ≡ true → IsSoundUsers ranked next gs →
    last_served (as_granted gs) ≡ slice_get (map (λ g. g.user) gs) (length gs - 1)
last_of_ranked ranked next gs h s =
    best_is_last ranks_before ranks_ordered (as_granted gs)
    ∙ (ap (λ us. slice_get us (length us - 1)) (sym (s.by_keys h)) ∙ ap (λ n. slice_get (map (λ g. g.user) gs) (n - 1)) (length-map gs (λ g. g.user)))

-- without the last there are the others
others_differ : (front : List NumberedUser) (g : NumberedUser) → AllPairs (λ h k. h.user.request ≢ k.user.request) (front ++ g ∷ []) →
    All (λ h. is_same h.user.request g.user.request ≡ false) front
others_differ [] g apart = All-nil (λ h. is_same h.user.request g.user.request ≡ false)
others_differ (h ∷ front) g apart =
    All-cons (λ k. is_same k.user.request g.user.request ≡ false) h front (same_no h.user.request g.user.request (last_of_all front (AllPairs-head (λ x y. x.user.request ≢ y.user.request) h (front ++ g ∷ []) apart)))
    (others_differ front g (AllPairs-tail (λ x y. x.user.request ≢ y.user.request) h (front ++ g ∷ []) apart))
  where
    last_of_all : (front : List NumberedUser) → All (λ k. h.user.request ≢ k.user.request) (front ++ g ∷ []) → h.user.request ≢ g.user.request
    last_of_all [] all = All-head (λ k. h.user.request ≢ k.user.request) g [] all
    last_of_all (k ∷ front) all = last_of_all front (All-tail (λ l. h.user.request ≢ l.user.request) k (front ++ g ∷ []) all)

pub last_left_out : (front gs : List NumberedUser) (g : NumberedUser) → gs ≡ front ++ g ∷ [] → AllPairs (λ h k. h.user.request ≢ k.user.request) gs →
    front ≡ numbered_but g.user.request gs
last_left_out front gs g is apart =
    let differ : All (λ h. is_same h.user.request g.user.request ≡ false) front = others_differ front g (subst (AllPairs (λ h k. h.user.request ≢ k.user.request)) is apart) in
    subst (λ hs. front ≡ numbered_but g.user.request hs) (sym is)
    (sym (filter-append (λ h. not (is_same h.user.request g.user.request)) front (g ∷ []) ∙ (ap (λ hs. hs ++ numbered_but g.user.request (g ∷ [])) (none_left_out (λ h. is_same h.user.request g.user.request) front differ) ∙ alone front)))
  where
    alone : (front : List NumberedUser) → front ++ numbered_but g.user.request (g ∷ []) ≡ front
    alone front = rw (same_self g.user.request) (append-nil front)

-- the last of the ranked ones is the one that is preempted first
pub last_user : (front gs : List NumberedUser) (g : NumberedUser) → gs ≡ front ++ g ∷ [] → slice_get (map (λ h. h.user) gs) (length gs - 1) ≡ Some g.user
last_user front gs g is =
    ap (λ n. slice_get (map (λ h. h.user) gs) (n - 1)) (sym (length-map gs (λ h. h.user)))
    ∙ last_at ranks_before ranks_ordered (map (λ h. h.user) gs) g.user (record { front = map (λ h. h.user) front; is = ap (map (λ h. h.user)) is ∙ map-append (λ h. h.user) front (g ∷ []) })
