-- Users whose numbers change, so that their order stays.
use Rattle.std.proofs.Common.{◌≡◌, ◌≢◌, ◌==◌, ◌||◌, cond, get_or, take, ℕ, ◌+◌, ◌<◌, ◌≤◌, Bool, true, false, nat_lt, nat_le, List, Option, Some, None, [], ◌∷◌, ◌++◌, length, refl, sym, ap, subst, ◌∙◌, map, arith, All, if◌then◌else◌}
use Rattle.std.specs.List.{list_any}
use Rattle.std.proofs.lemmas.Option.{same_Some}
use Rattle.std.proofs.lemmas.List.{take_more}
use Rattle.std.proofs.lemmas.List.Folds.{list_any-append}
use Rattle.std.proofs.lemmas.List.Sorted.{All-permutation}
use Rattle.std.proofs.lemmas.Bool.Decides.{nat_tests}
use Rattle.std.proofs.lemmas.List.Elements.{All-head, All-tail, All-nil, All-weaker, All-push}
use Rattle.sim_resource.specs.declared.user.NumberedUser.{NumberedUser}
use Rattle.sim_shared_model.specs.Sorting.{put_ahead, sorted_by}
use Rattle.sim_resource.specs.GrantOrder.{was_granted_before, as_granted, with_number, IsLeastFrom, IsNextGrant}
use Rattle.sim_shared_model.proofs.StableSorts.{same_sorted}

-- ---- one number becomes another

abbrev other_number : ℕ → ℕ → ℕ → ℕ
other_number from to n = if n == from then to else n

number_is : (from to : ℕ) (g : NumberedUser) → (with_number from to g).grant ≡ other_number from to g.grant
number_is from to g = by (g.grant == from) refl
  where
    by : (b : Bool) → (g.grant == from) ≡ b → (with_number from to g).grant ≡ other_number from to g.grant
    by true is = rw is refl
    by false is = rw is refl

user_is : (from to : ℕ) (g : NumberedUser) → (with_number from to g).user ≡ g.user
user_is from to g = by (g.grant == from) refl
  where
    by : (b : Bool) → (g.grant == from) ≡ b → (with_number from to g).user ≡ g.user
    by true is = rw is refl
    by false is = rw is refl

pub same_users : (from to : ℕ) (gs : List NumberedUser) → map (λ g. g.user) (map (with_number from to) gs) ≡ map (λ g. g.user) gs
same_users from to [] = refl
same_users from to (g ∷ gs) = rw (user_is from to g, same_users from to gs) refl

numbers_compared : (from to a b : ℕ) → to ≤ from → (to ≤ a → from ≤ a) → (to ≤ b → from ≤ b) →
    nat_lt (other_number from to a) (other_number from to b) ≡ nat_lt a b
numbers_compared from to a b h k l = grind (arith, nat_tests)

module _ (from to : ℕ) (below : to ≤ from) where
  abbrev IsApart : NumberedUser → Type 0
  IsApart g = to ≤ g.grant → from ≤ g.grant

  compared : (g h : NumberedUser) → IsApart g → IsApart h → was_granted_before (with_number from to g) (with_number from to h) ≡ was_granted_before g h
  compared g h k l = rw (number_is from to g, number_is from to h) (numbers_compared from to g.grant h.grant below k l)

  put_changed : (g : NumberedUser) (gs : List NumberedUser) → IsApart g → All IsApart gs →
      put_ahead was_granted_before (with_number from to g) (map (with_number from to) gs) ≡ map (with_number from to) (put_ahead was_granted_before g gs)
  put_changed g [] k all = refl
  put_changed g (h ∷ hs) k all = by (was_granted_before h g) refl (compared h g (All-head IsApart h hs all) k) (put_changed g hs k (All-tail IsApart h hs all))
    where
      by : (b : Bool) → was_granted_before h g ≡ b → was_granted_before (with_number from to h) (with_number from to g) ≡ was_granted_before h g →
          put_ahead was_granted_before (with_number from to g) (map (with_number from to) hs) ≡ map (with_number from to) (put_ahead was_granted_before g hs) →
          put_ahead was_granted_before (with_number from to g) (map (with_number from to) (h ∷ hs)) ≡ map (with_number from to) (put_ahead was_granted_before g (h ∷ hs))
      by true is same rest = rw (same ∙ is) (rw is (ap (λ ks. with_number from to h ∷ ks) rest))
      by false is same rest = rw (same ∙ is) (rw is refl)

  sorted_changed : (gs : List NumberedUser) → All IsApart gs →
      sorted_by was_granted_before (map (with_number from to) gs) ≡ map (with_number from to) (sorted_by was_granted_before gs)
  sorted_changed [] all = refl
  sorted_changed (g ∷ gs) all =
      let others = All-tail IsApart g gs all in
      ap (put_ahead was_granted_before (with_number from to g)) (sorted_changed gs others)
      ∙ put_changed g (sorted_by was_granted_before gs) (All-head IsApart g gs all) (All-permutation IsApart gs (sorted_by was_granted_before gs) (same_sorted was_granted_before gs) others)

-- where it is the least that is not below the new one, their order stays
pub same_order : (from to : ℕ) (gs : List NumberedUser) → IsLeastFrom to gs from → as_granted (map (with_number from to) gs) ≡ as_granted gs
same_order from to gs l =
    ap (map (λ g. g.user)) (sorted_changed from to l.not_below gs l.least) ∙ same_users from to (sorted_by was_granted_before gs)

-- ---- how many are still to be numbered

abbrev pub count_from : ℕ → List NumberedUser → ℕ
count_from next [] = 0
count_from next (g ∷ gs) = cond (nat_le next g.grant) 1 0 + count_from next gs

one_at_most : (b : Bool) → cond b 1 0 ≤ 1
one_at_most true = omega arith
one_at_most false = omega arith

count_within : (next : ℕ) (gs : List NumberedUser) → count_from next gs ≤ length gs
count_within next [] = omega arith
count_within next (g ∷ gs) = omega (arith, one_at_most (nat_le next g.grant), count_within next gs)

no_more_of : (from to a : ℕ) → cond (nat_le (to + 1) (other_number from to a)) 1 0 ≤ cond (nat_le to a) 1 0
no_more_of from to a = grind (arith, nat_tests)

fewer_of : (from to a : ℕ) → to ≤ from → (a == from) ≡ true → cond (nat_le (to + 1) (other_number from to a)) 1 0 + 1 ≤ cond (nat_le to a) 1 0
fewer_of from to a h k = grind (arith, nat_tests)

one_from : (from to : ℕ) (g : NumberedUser) → cond (nat_le (to + 1) (with_number from to g).grant) 1 0 ≤ cond (nat_le to g.grant) 1 0
one_from from to g = subst (λ n. cond (nat_le (to + 1) n) 1 0 ≤ cond (nat_le to g.grant) 1 0) (sym (number_is from to g)) (no_more_of from to g.grant)

one_fewer : (from to : ℕ) (g : NumberedUser) → to ≤ from → (g.grant == from) ≡ true →
    cond (nat_le (to + 1) (with_number from to g).grant) 1 0 + 1 ≤ cond (nat_le to g.grant) 1 0
one_fewer from to g h k = subst (λ n. cond (nat_le (to + 1) n) 1 0 + 1 ≤ cond (nat_le to g.grant) 1 0) (sym (number_is from to g)) (fewer_of from to g.grant h k)

no_more_from : (from to : ℕ) (gs : List NumberedUser) → count_from (to + 1) (map (with_number from to) gs) ≤ count_from to gs
no_more_from from to [] = omega arith
no_more_from from to (g ∷ gs) = omega (arith, one_from from to g, no_more_from from to gs)

fewer_from : (from to : ℕ) (gs : List NumberedUser) → to ≤ from → list_any (λ g. g.grant == from) gs ≡ true →
    count_from (to + 1) (map (with_number from to) gs) + 1 ≤ count_from to gs
fewer_from from to [] h k = absurd (cc)
fewer_from from to (g ∷ gs) h k = by (g.grant == from) refl k (fewer_from from to gs h)
  where
    by : (b : Bool) → (g.grant == from) ≡ b → list_any (λ k. k.grant == from) (g ∷ gs) ≡ true →
        (list_any (λ k. k.grant == from) gs ≡ true → count_from (to + 1) (map (with_number from to) gs) + 1 ≤ count_from to gs) →
        count_from (to + 1) (map (with_number from to) (g ∷ gs)) + 1 ≤ count_from to (g ∷ gs)
    by true is some rest = omega (arith, one_fewer from to g h is, no_more_from from to gs)
    by false is some rest = omega (arith, one_from from to g, rest (rw is at some))

-- ---- numbered anew, up to the next number

pub record IsNumberedAnew (next : ℕ) (gs hs : List NumberedUser) : Type 0 where
  pub users : map (λ g. g.user) hs ≡ map (λ g. g.user) gs
  pub order : as_granted hs ≡ as_granted gs
  pub few : next + count_from next hs ≤ length gs

pub before_anew : (gs : List NumberedUser) → IsNumberedAnew 0 gs gs
before_anew gs = record { users = refl; order = refl; few = omega (arith, count_within 0 gs) }

pub one_anew : (next n : ℕ) (gs hs : List NumberedUser) → IsNumberedAnew next gs hs → IsLeastFrom next hs n →
    IsNumberedAnew (next + 1) gs (map (with_number n next) hs)
one_anew next n gs hs s l =
    record {
      users = same_users n next hs ∙ s.users;
      order = same_order n next hs l ∙ s.order;
      few = omega (arith, s.few, fewer_from n next hs l.not_below l.there);
    }

pub fewer_left : (next n : ℕ) (hs : List NumberedUser) → IsLeastFrom next hs n → count_from (next + 1) (map (with_number n next) hs) < count_from next hs
fewer_left next n hs l = omega (arith, fewer_from n next hs l.not_below l.there)

-- ---- the least number, looked for one user after the other

pub none_yet : (next : ℕ) → IsNextGrant next [] None
none_yet next = record { none_left = λ h. All-nil (λ g. g.grant < next); one_left = λ n h. absurd (cc) }

module _ (next : ℕ) (gs : List NumberedUser) (g : NumberedUser) where
  any_more : (n : ℕ) → list_any (λ h. h.grant == n) gs ≡ true → list_any (λ h. h.grant == n) (gs ++ g ∷ []) ≡ true
  any_more n h = list_any-append (λ k. k.grant == n) gs (g ∷ []) ∙ rw h refl

  any_last : list_any (λ h. h.grant == g.grant) (gs ++ g ∷ []) ≡ true
  any_last = list_any-append (λ k. k.grant == g.grant) gs (g ∷ []) ∙ last_found (list_any (λ k. k.grant == g.grant) gs) g.grant
    where
      last_found : (b : Bool) (n : ℕ) → (b || ((n == n) || false)) ≡ true
      last_found true n = refl
      last_found false n = grind (arith, nat_tests)

  still_least : (n : ℕ) → IsLeastFrom next gs n → (next ≤ g.grant → n ≤ g.grant) → IsLeastFrom next (gs ++ g ∷ []) n
  still_least n l h =
      record { not_below = l.not_below; there = any_more n l.there; least = All-push (λ k. next ≤ k.grant → n ≤ k.grant) gs g l.least h }

  pub kept_least : (n : ℕ) → IsNextGrant next gs (Some n) → n ≤ g.grant → IsNextGrant next (gs ++ g ∷ []) (Some n)
  kept_least n s h =
      record { none_left = λ is. absurd (cc); one_left = λ m is. subst (IsLeastFrom next (gs ++ g ∷ [])) (same_Some n m is) (still_least n (s.one_left n refl) (λ _. h)) }

  pub passed_over : (a : Option ℕ) → IsNextGrant next gs a → g.grant < next → IsNextGrant next (gs ++ g ∷ []) a
  passed_over a s h =
      record {
        none_left = λ is. All-push (λ k. k.grant < next) gs g (s.none_left is) h;
        one_left = λ m is. still_least m (s.one_left m is) (λ k. absurd (omega (arith, h, k)));
      }

  lower : (a : Option ℕ) → IsNextGrant next gs a → ((n : ℕ) → a ≡ Some n → g.grant < n) → All (λ k. next ≤ k.grant → g.grant ≤ k.grant) gs
  lower None s h = All-weaker (λ k. k.grant < next) (λ k. next ≤ k.grant → g.grant ≤ k.grant) (λ k less up. absurd (omega (arith, less, up))) gs (s.none_left refl)
  lower (Some n) s h =
      let less = h n refl in
      All-weaker (λ k. next ≤ k.grant → n ≤ k.grant) (λ k. next ≤ k.grant → g.grant ≤ k.grant) (λ k least up. omega (arith, less, least up)) gs (s.one_left n refl).least

  pub new_least : (a : Option ℕ) → IsNextGrant next gs a → next ≤ g.grant → ((n : ℕ) → a ≡ Some n → g.grant < n) →
      IsNextGrant next (gs ++ g ∷ []) (Some g.grant)
  new_least a s h k =
      let least : IsLeastFrom next (gs ++ g ∷ []) g.grant = record { not_below = h; there = any_last; least = All-push (λ l. next ≤ l.grant → g.grant ≤ l.grant) gs g (lower a s k) (λ _. omega arith) } in
      record { none_left = λ is. absurd (cc); one_left = λ m is. subst (IsLeastFrom next (gs ++ g ∷ [])) (same_Some g.grant m is) least }

-- ---- in loops

pub changed : (from to : ℕ) (x y : NumberedUser) → x ≡ y → y.grant ≡ from → record { user = y.user; grant = to } ≡ with_number from to x
changed from to x y e h = let is : (y.grant == from) ≡ true = grind (arith, nat_tests) in rw (e, is) refl

pub unchanged : (from to : ℕ) (x y : NumberedUser) → x ≡ y → y.grant ≢ from → y ≡ with_number from to x
unchanged from to x y e h = let is : (y.grant == from) ≡ false = grind (arith, nat_tests) in rw (e, is) refl

pub one_further : (next : ℕ) (gs : List NumberedUser) (i : ℕ) (g : NumberedUser) (a : Option ℕ) → i < length gs → g ≡ get_or gs i g →
    IsNextGrant next (take i gs ++ g ∷ []) a → IsNextGrant next (take (i + 1) gs) a
one_further next gs i g a h is s =
    subst (λ hs. IsNextGrant next hs a) (sym (take_more gs i g h ∙ ap (λ h. take i gs ++ h ∷ []) (sym is))) s
