-- Users with the numbers of their grants: one more of them, and one fewer.
use Rattle.std.proofs.Common.{◌≡◌, ◌≢◌, ◌||◌, ℕ, ◌+◌, ◌<◌, Bool, true, false, not, nat_lt, List, [], ◌∷◌, ◌++◌, length, refl, sym, ap, subst, ◌∙◌, filter, map, arith, All, AllPairs, get_or}
use Rattle.std.specs.Cmp.{IsStrictWeakOrder}
use Rattle.std.specs.List.{list_any}
use Rattle.std.proofs.lemmas.Bool.Decides.{nat_tests}
use Rattle.std.proofs.lemmas.List.{map-append, length-map, get_or-map}
use Rattle.std.proofs.lemmas.List.Elements.{All-head, All-tail, All-nil, All-cons, All-weaker, All-filter, All-push}
use Rattle.std.proofs.lemmas.List.Sorted.{All-permutation, length_permutation, list_any-IsPermutation, IsPermutation-sym}
use Rattle.sim_types.proofs.Permutations.{AllPairs-IsPermutation}
use Rattle.sim_types.specs.declared.event.EventId.{EventId}
use Rattle.sim_machine.specs.State.{User}
use Rattle.sim_machine.specs.Events.{is_same}
use Rattle.sim_shared_model.specs.Attempts.{users_but}
use Rattle.sim_resource.specs.declared.user.NumberedUser.{NumberedUser}
use Rattle.sim_shared_model.specs.Sorting.{put_behind, put_ahead, sorted_by, IsInOrderBy}
use Rattle.sim_resource.specs.QueueOrder.{ranks_before}
use Rattle.sim_resource.specs.GrantOrder.{was_granted_before, stands_before, as_granted, numbered_but, IsSoundUsers}
use Rattle.sim_resource.proofs.Keys.{ranks_ordered}
use Rattle.sim_shared_model.proofs.StableSorts.{by_test, same_sorted, same_behind, sorted_joined, sorted_filtered, sorted_in_order}

pub grants_ordered : IsStrictWeakOrder was_granted_before
grants_ordered =
    record {
      one_way = λ g h first. less_one_way g.grant h.grant first;
      chain = λ g h k first second. less_chain g.grant h.grant k.grant first second;
    }
  where
    less_one_way : (a b : ℕ) → nat_lt a b ≡ true → nat_lt b a ≡ false
    less_one_way a b h = grind (arith, nat_tests)

    less_chain : (a b c : ℕ) → nat_lt a b ≡ false → nat_lt b c ≡ false → nat_lt a c ≡ false
    less_chain a b c h k = grind (arith, nat_tests)

less_yes : (a b : ℕ) → a < b → nat_lt a b ≡ true
less_yes a b h = grind (arith, nat_tests)

less_no : (a b : ℕ) → b < a → nat_lt a b ≡ false
less_no a b h = grind (arith, nat_tests)

-- ---- one more, who was granted last

last_ahead : (g : NumberedUser) (gs : List NumberedUser) → All (λ h. was_granted_before h g ≡ true) gs → put_ahead was_granted_before g gs ≡ gs ++ g ∷ []
last_ahead g [] all = refl
last_ahead g (h ∷ hs) all =
    rw (All-head (λ k. was_granted_before k g ≡ true) h hs all)
    (ap (λ ks. h ∷ ks) (last_ahead g hs (All-tail (λ k. was_granted_before k g ≡ true) h hs all)))

ahead_of_last : (g h : NumberedUser) (gs : List NumberedUser) → was_granted_before g h ≡ false →
    put_ahead was_granted_before h (gs ++ g ∷ []) ≡ put_ahead was_granted_before h gs ++ g ∷ []
ahead_of_last g h [] off = rw off refl
ahead_of_last g h (k ∷ ks) off = by (was_granted_before k h) refl (ahead_of_last g h ks off)
  where
    by : (b : Bool) → was_granted_before k h ≡ b → put_ahead was_granted_before h (ks ++ g ∷ []) ≡ put_ahead was_granted_before h ks ++ g ∷ [] →
        put_ahead was_granted_before h (k ∷ (ks ++ g ∷ [])) ≡ put_ahead was_granted_before h (k ∷ ks) ++ g ∷ []
    by true is rest = rw is (ap (λ us. k ∷ us) rest)
    by false is rest = rw is refl

last_pushed : (g : NumberedUser) (gs : List NumberedUser) → All (λ h. h.grant < g.grant) gs →
    sorted_by was_granted_before (gs ++ g ∷ []) ≡ sorted_by was_granted_before gs ++ g ∷ []
last_pushed g [] all = refl
last_pushed g (h ∷ hs) all =
    ap (put_ahead was_granted_before h) (last_pushed g hs (All-tail (λ k. k.grant < g.grant) h hs all))
    ∙ ahead_of_last g h (sorted_by was_granted_before hs) (less_no g.grant h.grant (All-head (λ k. k.grant < g.grant) h hs all))

last_put : (g : NumberedUser) (gs : List NumberedUser) → All (λ h. h.grant < g.grant) gs →
    sorted_by was_granted_before (put_behind stands_before g gs) ≡ sorted_by was_granted_before gs ++ g ∷ []
last_put g [] all = refl
last_put g (h ∷ hs) all =
    by_test stands_before (λ ks. sorted_by was_granted_before ks ≡ sorted_by was_granted_before (h ∷ hs) ++ g ∷ []) (stands_before g h) (g ∷ h ∷ hs) (h ∷ put_behind stands_before g hs)
    (λ first. last_ahead g (sorted_by was_granted_before (h ∷ hs)) (All-permutation (λ k. was_granted_before k g ≡ true) (h ∷ hs) (sorted_by was_granted_before (h ∷ hs)) (same_sorted was_granted_before (h ∷ hs)) (All-weaker (λ k. k.grant < g.grant) (λ k. was_granted_before k g ≡ true) (λ k less. less_yes k.grant g.grant less) (h ∷ hs) all)))
    (λ later. ap (put_ahead was_granted_before h) (last_put g hs (All-tail (λ k. k.grant < g.grant) h hs all))
    ∙ ahead_of_last g h (sorted_by was_granted_before hs) (less_no g.grant h.grant (All-head (λ k. k.grant < g.grant) h hs all)))

pub pushed_shown : (g : NumberedUser) (gs : List NumberedUser) → All (λ h. h.grant < g.grant) gs → as_granted (gs ++ g ∷ []) ≡ as_granted gs ++ g.user ∷ []
pushed_shown g gs all = ap (map (λ h. h.user)) (last_pushed g gs all) ∙ map-append (λ h. h.user) (sorted_by was_granted_before gs) (g ∷ [])

pub put_shown : (g : NumberedUser) (gs : List NumberedUser) → All (λ h. h.grant < g.grant) gs →
    as_granted (put_behind stands_before g gs) ≡ as_granted gs ++ g.user ∷ []
put_shown g gs all = ap (map (λ h. h.user)) (last_put g gs all) ∙ map-append (λ h. h.user) (sorted_by was_granted_before gs) (g ∷ [])

users_put : (g : NumberedUser) (gs : List NumberedUser) → map (λ h. h.user) (put_behind stands_before g gs) ≡ put_behind ranks_before g.user (map (λ h. h.user) gs)
users_put g [] = refl
users_put g (h ∷ hs) = by (stands_before g h) refl (users_put g hs)
  where
    by : (b : Bool) → stands_before g h ≡ b → map (λ k. k.user) (put_behind stands_before g hs) ≡ put_behind ranks_before g.user (map (λ k. k.user) hs) →
        map (λ k. k.user) (put_behind stands_before g (h ∷ hs)) ≡ put_behind ranks_before g.user (map (λ k. k.user) (h ∷ hs))
    by true is rest = rw is refl
    by false is rest = rw is (ap (λ us. h.user ∷ us) rest)

-- ---- one fewer

map_filter : {X Y : Type 0} (f : X → Y) (q : Y → Bool) (xs : List X) → map f (filter (λ x. q (f x)) xs) ≡ filter q (map f xs)
map_filter f q [] = refl
map_filter {X} {Y} f q (x ∷ xs) = by (q (f x)) refl (map_filter f q xs)
  where
    by : (b : Bool) → q (f x) ≡ b → map f (filter (λ y. q (f y)) xs) ≡ filter q (map f xs) → map f (filter (λ y. q (f y)) (x ∷ xs)) ≡ filter q (map f (x ∷ xs))
    by true is rest = rw is (ap (λ ys. f x ∷ ys) rest)
    by false is rest = rw is rest

pub left_shown : (request : EventId) (gs : List NumberedUser) → as_granted (numbered_but request gs) ≡ users_but request (as_granted gs)
left_shown request gs =
    ap (map (λ g. g.user)) (sorted_filtered was_granted_before grants_ordered (λ g. not (is_same g.user.request request)) gs)
    ∙ map_filter (λ g. g.user) (λ u. not (is_same u.request request)) (sorted_by was_granted_before gs)

-- ---- the same users in either order

pub length_shown : (gs : List NumberedUser) → length (as_granted gs) ≡ length gs
length_shown gs =
    length-map (sorted_by was_granted_before gs) (λ g. g.user) ∙ length_permutation gs (sorted_by was_granted_before gs) (same_sorted was_granted_before gs)

any_of_map : {X Y : Type 0} (f : X → Y) (p : Y → Bool) (xs : List X) → list_any (λ x. p (f x)) xs ≡ list_any p (map f xs)
any_of_map f p [] = refl
any_of_map f p (x ∷ xs) = ap (λ b. p (f x) || b) (any_of_map f p xs)

pub any_shown : (p : User → Bool) (gs : List NumberedUser) → list_any (λ g. p g.user) gs ≡ list_any p (as_granted gs)
any_shown p gs =
    list_any-IsPermutation (λ g. p g.user) gs (sorted_by was_granted_before gs) (same_sorted was_granted_before gs)
    ∙ any_of_map (λ g. g.user) p (sorted_by was_granted_before gs)

pairs_of_map : {X Y : Type 0} (f : X → Y) (R : Y → Y → Type 0) (xs : List X) → AllPairs R (map f xs) → AllPairs (λ x y. R (f x) (f y)) xs
pairs_of_map f R xs h =
    λ i j d first below. subst (λ y. R y (f (get_or xs j d))) (get_or-map f xs i d (f d) (omega arith)) (subst (R (get_or (map f xs) i (f d))) (get_or-map f xs j d (f d) below) (h i j (f d) first (omega (arith, below, length-map xs f))))

pub shown_apart : (gs : List NumberedUser) → AllPairs (λ u v. u.request ≢ v.request) (as_granted gs) → AllPairs (λ g h. g.user.request ≢ h.user.request) gs
shown_apart gs h =
    let R : NumberedUser → NumberedUser → Type 0 = λ g k. g.user.request ≢ k.user.request in
    let gs' : List NumberedUser = sorted_by was_granted_before gs in
    AllPairs-IsPermutation R (λ g k differ same. differ (sym same)) gs' gs (IsPermutation-sym gs gs' (same_sorted was_granted_before gs)) (pairs_of_map (λ g. g.user) (λ u v. u.request ≢ v.request) gs' h)

-- ---- sound users

pub none_sound : (ranked : Bool) → IsSoundUsers ranked 0 []
none_sound ranked = record { numbered = All-nil (λ g. g.grant < 0); by_keys = λ h. refl }

pub ranked_in_order : (ranked : Bool) (next : ℕ) (gs : List NumberedUser) → ranked ≡ true → IsSoundUsers ranked next gs → IsInOrderBy stands_before gs
ranked_in_order ranked next gs h s =
    pairs_of_map (λ g. g.user) (λ u v. ranks_before v u ≡ false) gs (subst (IsInOrderBy ranks_before) (sym (s.by_keys h)) (sorted_in_order ranks_before ranks_ordered (as_granted gs)))

-- numbered anew, they are as sound
pub sound_anew : (ranked : Bool) (next new_next : ℕ) (gs hs : List NumberedUser) → IsSoundUsers ranked next gs →
    map (λ g. g.user) hs ≡ map (λ g. g.user) gs → as_granted hs ≡ as_granted gs → All (λ g. g.grant < new_next) hs → IsSoundUsers ranked new_next hs
sound_anew ranked next new_next gs hs s users order all = record { numbered = all; by_keys = λ h. rw (users, order) (s.by_keys h) }

module _ (ranked : Bool) (next : ℕ) (gs : List NumberedUser) (s : IsSoundUsers ranked next gs) (u : User) where
  abbrev pub one_more : NumberedUser
  one_more = record { user = u; grant = next }

  wider : All (λ g. g.grant < next + 1) gs
  wider = All-weaker (λ g. g.grant < next) (λ g. g.grant < next + 1) (λ g less. further g.grant less) gs s.numbered
    where
      further : (n : ℕ) → n < next → n < next + 1
      further n h = omega arith

  all_more : All (λ g. g.grant < next + 1) (one_more ∷ gs)
  all_more = All-cons (λ g. g.grant < next + 1) one_more gs (omega arith) wider

  pub put_sound : ranked ≡ true → IsSoundUsers ranked (next + 1) (put_behind stands_before one_more gs)
  put_sound h =
      record {
        numbered = All-permutation (λ g. g.grant < next + 1) (one_more ∷ gs) (put_behind stands_before one_more gs) (same_behind stands_before one_more gs) all_more;
        by_keys = λ yes. users_put one_more gs ∙ (ap (put_behind ranks_before u) (s.by_keys yes) ∙ (sym (sorted_joined ranks_before ranks_ordered (as_granted gs) u) ∙ ap (sorted_by ranks_before) (sym (put_shown one_more gs s.numbered))));
      }

  pub pushed_sound : ranked ≡ false → IsSoundUsers ranked (next + 1) (gs ++ one_more ∷ [])
  pushed_sound h =
      record {
        numbered = All-push (λ g. g.grant < next + 1) gs one_more wider (omega arith);
        by_keys = λ yes. absurd (not_both (sym h ∙ yes));
      }
    where
      not_both : false ≡ true → ⊥
      not_both h = cc

pub left_sound : (ranked : Bool) (next : ℕ) (gs : List NumberedUser) (request : EventId) → IsSoundUsers ranked next gs →
    IsSoundUsers ranked next (numbered_but request gs)
left_sound ranked next gs request s =
    let stays : User → Bool = λ u. not (is_same u.request request) in
    record {
      numbered = All-filter (λ g. stays g.user) (λ g. g.grant < next) gs s.numbered;
      by_keys = λ yes. map_filter (λ g. g.user) stays gs ∙ (ap (filter stays) (s.by_keys yes) ∙ (sym (sorted_filtered ranks_before ranks_ordered stays (as_granted gs)) ∙ ap (sorted_by ranks_before) (sym (left_shown request gs))));
    }
