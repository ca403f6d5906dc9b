-- The put queue of a resource is its waiters in another order: none stands before one that is to be served earlier, and
-- equals stand as they came.
use Rattle.std.proofs.Common.{◌<◌, arith, ◌≡◌, ℕ, ◌∙◌, Bool, true, false, List, [], ◌∷◌, refl, ap, filter, AllPairs, inl, inr, cond}
use Rattle.std.specs.List.Sorted.{IsPermutation}
use Rattle.std.proofs.lemmas.List.Elements.{All-nil, All-cons, All-weaker}
use Rattle.std.proofs.lemmas.List.Kept.{AllPairs-cons}
use Rattle.std.proofs.lemmas.List.Sorted.{IsPermutation-refl, IsPermutation-cons, IsPermutation-trans, IsPermutation-middle}
use Rattle.sim_types.proofs.Permutations.{AllPairs-head, AllPairs-tail}
use Rattle.sim_types.specs.declared.event.RequestKey.{RequestKey}
use Rattle.sim_types.specs.declared.setup.Resource.{Resource}
use Rattle.sim_types.specs.declared.setup.ResourceKind.{ResourceKind}
use Rattle.sim_types.specs.declared.setup.ResourceKind.TheVariants as resource
use Rattle.sim_machine.specs.Keys.{is_served_first}
use Rattle.sim_machine.specs.State.{Waiter}
use Rattle.sim_machine.specs.Users.{resource_at, key_of, insert_waiter, sorted_waiters, in_order, put_queue}
use Rattle.sim_machine_law.specs.Desks.{puts_at, GoesByKeys, StandsBehind, has_equal_key}
use Rattle.sim_machine_law.proofs.KeptParts.KeptTimesCases.{if_cases}
use Rattle.sim_machine_law.proofs.Requests.RequestKeys.{served_yes, served_no, served_not_after, behind_onward, equal_apart}
use Rattle.sim_machine_law.proofs.Ledger.TriedQueues.{all_inserted}

-- whether v is served before w
abbrev is_before : Waiter → Waiter → Bool
is_before v w = is_served_first (key_of v.want) (key_of w.want)

-- ---- the same waiters

same_inserted : (w : Waiter) (vs : List Waiter) → IsPermutation (w ∷ vs) (insert_waiter w vs)
same_inserted w [] = IsPermutation-refl (w ∷ [])
same_inserted w (v ∷ vs) =
    if_cases (IsPermutation (w ∷ v ∷ vs)) (is_before v w) (v ∷ insert_waiter w vs) (w ∷ v ∷ vs)
    (λ first. IsPermutation-trans (w ∷ v ∷ vs) (v ∷ w ∷ vs) (v ∷ insert_waiter w vs) (IsPermutation-middle (w ∷ []) v vs) (IsPermutation-cons v (w ∷ vs) (insert_waiter w vs) (same_inserted w vs)))
    (λ later. IsPermutation-refl (w ∷ v ∷ vs))

same_sorted : (ws : List Waiter) → IsPermutation ws (sorted_waiters ws)
same_sorted [] = IsPermutation-refl []
same_sorted (w ∷ ws) =
    IsPermutation-trans (w ∷ ws) (w ∷ sorted_waiters ws) (insert_waiter w (sorted_waiters ws)) (IsPermutation-cons w ws (sorted_waiters ws) (same_sorted ws)) (same_inserted w (sorted_waiters ws))

same_in_order : (k : ResourceKind) (ws : List Waiter) → IsPermutation ws (in_order k ws)
same_in_order resource.Priority ws = same_sorted ws
same_in_order resource.Preemptive ws = same_sorted ws
same_in_order _ ws = IsPermutation-refl ws

pub same_waiters : (rs : List Resource) (res : ℕ) (ws : List Waiter) → IsPermutation (puts_at res ws) (put_queue rs res ws)
same_waiters rs res ws = same_in_order (resource_at rs res).kind (puts_at res ws)

-- ---- by their keys

ordered_inserted : (w : Waiter) (vs : List Waiter) → AllPairs StandsBehind vs → AllPairs StandsBehind (insert_waiter w vs)
ordered_inserted w [] h = AllPairs-cons StandsBehind w [] (All-nil (StandsBehind w)) h
ordered_inserted w (v ∷ vs) h =
    if_cases (AllPairs StandsBehind) (is_before v w) (v ∷ insert_waiter w vs) (w ∷ v ∷ vs)
    (λ first. AllPairs-cons StandsBehind v (insert_waiter w vs) (all_inserted (StandsBehind v) w vs (served_not_after (key_of v.want) (key_of w.want) (served_yes (key_of v.want) (key_of w.want) first)) (AllPairs-head StandsBehind v vs h)) (ordered_inserted w vs (AllPairs-tail StandsBehind v vs h)))
    (λ later. AllPairs-cons StandsBehind w (v ∷ vs) (All-cons (StandsBehind w) v vs (served_no (key_of v.want) (key_of w.want) later) (All-weaker (StandsBehind v) (StandsBehind w) (λ x k. behind_onward (key_of x.want) (key_of v.want) (key_of w.want) k (served_no (key_of v.want) (key_of w.want) later)) vs (AllPairs-head StandsBehind v vs h))) h)

ordered_sorted : (ws : List Waiter) → AllPairs StandsBehind (sorted_waiters ws)
ordered_sorted [] = λ i j d before below. absurd (none_below j below)
  where
    none_below : (j : ℕ) → j < 0 → ⊥
    none_below j below = omega arith
ordered_sorted (w ∷ ws) = ordered_inserted w (sorted_waiters ws) (ordered_sorted ws)

ordered_by : (k : ResourceKind) (ws : List Waiter) → GoesByKeys k → AllPairs StandsBehind (in_order k ws)
ordered_by resource.Priority ws h = ordered_sorted ws
ordered_by resource.Preemptive ws h = ordered_sorted ws
ordered_by resource.Plain ws (inl h) = absurd (cc)
ordered_by resource.Plain ws (inr h) = absurd (cc)
ordered_by resource.Container ws (inl h) = absurd (cc)
ordered_by resource.Container ws (inr h) = absurd (cc)
ordered_by resource.Store ws (inl h) = absurd (cc)
ordered_by resource.Store ws (inr h) = absurd (cc)
ordered_by resource.PStore ws (inl h) = absurd (cc)
ordered_by resource.PStore ws (inr h) = absurd (cc)
ordered_by resource.FStore ws (inl h) = absurd (cc)
ordered_by resource.FStore ws (inr h) = absurd (cc)

pub by_keys : (rs : List Resource) (res : ℕ) (ws : List Waiter) → GoesByKeys (resource_at rs res).kind → AllPairs StandsBehind (put_queue rs res ws)
by_keys rs res ws h = ordered_by (resource_at rs res).kind (puts_at res ws) h

-- ---- equals as they came

equals_inserted : (key : RequestKey) (w : Waiter) (vs : List Waiter) →
    filter (has_equal_key key) (insert_waiter w vs) ≡ filter (has_equal_key key) (w ∷ vs)
equals_inserted key w [] = refl
equals_inserted key w (v ∷ vs) =
    let equal : Waiter → Bool = has_equal_key key in
    if_cases (λ us. filter equal us ≡ filter equal (w ∷ v ∷ vs)) (is_before v w) (v ∷ insert_waiter w vs) (w ∷ v ∷ vs)
    (λ first. ap (λ us. cond (equal v) (v ∷ us) us) (equals_inserted key w vs) ∙ past_each (equal v) (equal w) (filter equal vs) (λ p q. equal_apart key (key_of v.want) (key_of w.want) p q first))
    (λ later. refl)
  where
    past_each : (p q : Bool) (us : List Waiter) → (p ≡ true → q ≡ true → ⊥) →
        cond p (v ∷ cond q (w ∷ us) us) (cond q (w ∷ us) us) ≡ cond q (w ∷ cond p (v ∷ us) us) (cond p (v ∷ us) us)
    past_each true true us not_both = absurd (not_both refl refl)
    past_each true false us not_both = refl
    past_each false true us not_both = refl
    past_each false false us not_both = refl

equals_sorted : (key : RequestKey) (ws : List Waiter) → filter (has_equal_key key) (sorted_waiters ws) ≡ filter (has_equal_key key) ws
equals_sorted key [] = refl
equals_sorted key (w ∷ ws) =
    equals_inserted key w (sorted_waiters ws) ∙ ap (λ us. cond (has_equal_key key w) (w ∷ us) us) (equals_sorted key ws)

equals_in_order : (k : ResourceKind) (key : RequestKey) (ws : List Waiter) → filter (has_equal_key key) (in_order k ws) ≡ filter (has_equal_key key) ws
equals_in_order resource.Priority key ws = equals_sorted key ws
equals_in_order resource.Preemptive key ws = equals_sorted key ws
equals_in_order _ key ws = refl

pub equals_as_came : (rs : List Resource) (res : ℕ) (ws : List Waiter) (key : RequestKey) →
    filter (has_equal_key key) (put_queue rs res ws) ≡ filter (has_equal_key key) (puts_at res ws)
equals_as_came rs res ws key = equals_in_order (resource_at rs res).kind key (puts_at res ws)

-- ---- all else as it came

as_came : (k : ResourceKind) (ws : List Waiter) → ¬ GoesByKeys k → in_order k ws ≡ ws
as_came resource.Priority ws h = absurd (h (inl refl))
as_came resource.Preemptive ws h = absurd (h (inr refl))
as_came _ ws h = refl

pub others_as_came : (rs : List Resource) (res : ℕ) (ws : List Waiter) → ¬ GoesByKeys (resource_at rs res).kind → put_queue rs res ws ≡ puts_at res ws
others_as_came rs res ws h = as_came (resource_at rs res).kind (puts_at res ws) h
