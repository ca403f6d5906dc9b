-- What events weigh, in what is kept and in what is shown.
use Rattle.std.proofs.Common.{◌≡◌, ℕ, ◌+◌, ◌-◌, ◌*◌, ◌<◌, ◌≤◌, List, [], ◌∷◌, length, take, refl, sym, ap, subst, ◌∙◌, arith, zero, suc, Option, inl}
use Rattle.std.specs.Prelude.{slice_index_or, All, nat_lt}
use Rattle.std.specs.List.{sum_by}
use Rattle.std.proofs.lemmas.List.{take_more, take_all}
use Rattle.std.proofs.lemmas.List.Elements.{All-head, All-tail}
use Rattle.std.proofs.lemmas.List.Sums.{sum_by-cons, sum_by-append}
use Rattle.sim_types.specs.declared.event.EventId.{EventId}
use Rattle.sim_machine.specs.State.{EventOf, Calendar}
use Rattle.sim_machine.specs.Conditions.{condition_of, members_of, most_weight, weight_within, is_too_wide}
use Rattle.sim_happen_model.specs.TableOf.{Kept, IsKept}
use Rattle.sim_happen_model.specs.HappenOf.{HappenOf}
use Rattle.sim_happen_model.specs.Holders.{AreOwed}
use Rattle.sim_happen_model.specs.Shows.{Shows}
use Rattle.sim_happen_model.specs.Sound.{weight_in, AreNarrow}
use Rattle.sim_happen_law.proofs.Changes.Soundness.{members_at, weighs_less, sum_less}
use Rattle.sim_happen_law.proofs.Changes.Following.{read_is}
use Rattle.sim_happen_law.proofs.Conditions.Memberships.{members_kept}

-- ---- deeper down nothing weighs less

weight_deeper : (es : List (Option Kept)) (d : ℕ) (e : EventId) → weight_in d es e ≤ weight_in (suc d) es e
weight_deeper es zero e = omega arith
weight_deeper es (suc d) e = omega (arith, sum_less (weight_in (suc d) es) (weight_in d es) (weight_deeper es d) (members_at es e))

weight_down : (es : List (Option Kept)) (k d : ℕ) (e : EventId) → weight_in d es e ≤ weight_in (k + d) es e
weight_down es zero d e =
    let same : d ≡ zero + d = omega arith in
    subst (λ n. weight_in d es e ≤ weight_in n es e) same (omega arith)
weight_down es (suc k) d e =
    let same : suc (k + d) ≡ suc k + d = omega arith in
    subst (λ n. weight_in d es e ≤ weight_in n es e) same (omega (arith, weight_down es k d e, weight_deeper es (k + d) e))

pub light : (es : List (Option Kept)) (d : ℕ) (e : EventId) → d ≤ most_weight + 1 → AreNarrow es → weight_in d es e ≤ most_weight
light es d e few n =
    let same : most_weight + 1 ≡ most_weight + 1 - d + d = omega (arith, few) in
    let all : weight_in (most_weight + 1 - d + d) es e ≤ most_weight = subst (λ k. weight_in k es e ≤ most_weight) same (n.each e) in
    omega (arith, all, weight_down es (most_weight + 1 - d) d e)

-- ---- members weighed one after the other

pub sum_next : {X : Type 0} (f : X → ℕ) (xs : List X) (i : ℕ) (d : X) → i < length xs
    → sum_by f (take (i + 1) xs) ≡ sum_by f (take i xs) + f (slice_index_or xs i d)
sum_next f xs i d within =
    ap (sum_by f) (take_more xs i d within) ∙ (sum_by-append f (take i xs) (slice_index_or xs i d ∷ []) ∙ omega (arith, sum_by-cons f (slice_index_or xs i d) []))

-- so many members were weighed
pub record WeighsUpTo (depth : ℕ) (es : List (Option Kept)) (ms : List EventId) (i weight : ℕ) : Type 0 where
  pub sum : weight ≡ 1 + sum_by (weight_in depth es) (take i ms)
  pub few : weight ≤ 1 + i * 64

pub weighs_more : (depth : ℕ) (es : List (Option Kept)) (ms : List EventId) (i : ℕ) (d : EventId) (weight more : ℕ)
    → i < length ms → WeighsUpTo depth es ms i weight
    → more ≡ weight_in depth es (slice_index_or ms i d) → more ≤ most_weight → WeighsUpTo depth es ms (i + 1) (weight + more)
weighs_more depth es ms i d weight more within w is few = record {
  sum = omega (arith, w.sum, is, sum_next (weight_in depth es) ms i d within);
  few = omega (arith, w.few, few);
}

pub weighs_all : (depth : ℕ) (es : List (Option Kept)) (ms : List EventId) (i weight : ℕ) → length ms ≤ i → WeighsUpTo depth es ms i weight
    → weight ≡ 1 + sum_by (weight_in depth es) ms
weighs_all depth es ms i weight whole w = w.sum ∙ ap (λ xs. 1 + sum_by (weight_in depth es) xs) (take_all i ms whole)

pub weight_is : (depth : ℕ) (es : List (Option Kept)) (e : EventId) (ms : List EventId) (i weight : ℕ) → 0 < depth → ms ≡ members_at es e → length ms ≤ i
    → WeighsUpTo (depth - 1) es ms i weight → weight ≡ weight_in depth es e
weight_is zero es e ms i weight deep is whole w = absurd (omega (arith, deep))
weight_is (suc depth) es e ms i weight deep is whole w =
    subst (λ n. weight ≡ 1 + sum_by (weight_in n es) ms) (omega arith) (weighs_all _ es ms i weight whole w) ∙ ap (λ xs. 1 + sum_by (weight_in depth es) xs) is

pub weight_none : (depth : ℕ) (es : List (Option Kept)) (e : EventId) → depth ≤ 0 → 1 ≡ weight_in depth es e
weight_none zero es e h = refl
weight_none (suc d) es e h = absurd (omega (arith, h))

-- ---- what is shown

pub sum_on : (P : EventId → Type 0) (f g : EventId → ℕ) (ms : List EventId) → All P ms → ((m : EventId) → P m → f m ≡ g m) → sum_by f ms ≡ sum_by g ms
sum_on P f g [] all same = refl
sum_on P f g (m ∷ ms) all same =
    omega (arith, sum_by-cons f m ms, sum_by-cons g m ms, same m (All-head P m ms all), sum_on P f g ms (All-tail P m ms all) same)

pub weight_shown : (h : HappenOf) (c : Calendar) → Shows h c → AreOwed [] h.events → (d : ℕ) (e : EventId)
    → IsKept h.events e → weight_within d c e ≡ weight_in d h.events e
weight_shown h c s owed zero e kept = refl
weight_shown h c s owed (suc d) e kept =
    let is : members_of c e ≡ members_at h.events e = ap (λ (x : EventOf). (condition_of x.condition).members) (sym (read_is h c e kept s)) in
    ap (λ ms. 1 + sum_by (weight_within d c) ms) is
    ∙ ap (λ n. 1 + n) (sum_on (IsKept h.events) (weight_within d c) (weight_in d h.events) (members_at h.events e) (members_kept h.events e owed) (weight_shown h c s owed d))

pub too_wide_shown : (h : HappenOf) (c : Calendar) (ms : List EventId) → Shows h c → AreOwed [] h.events → All (IsKept h.events) ms
    → is_too_wide ms c ≡ nat_lt most_weight (1 + sum_by (weight_in most_weight h.events) ms)
too_wide_shown h c ms s owed kept =
    ap (λ n. nat_lt most_weight (1 + n)) (sum_on (IsKept h.events) (weight_within most_weight c) (weight_in most_weight h.events) ms kept (weight_shown h c s owed most_weight))

-- ---- where members stay

pub weight_same : (es fs : List (Option Kept)) → ((f : EventId) → members_at fs f ≡ members_at es f) → (d : ℕ) (e : EventId)
    → weight_in d fs e ≡ weight_in d es e
weight_same es fs same d e =
    omega (arith, weighs_less es fs (λ f. inl (same f)) d e, weighs_less fs es (λ f. inl (sym (same f))) d e)
