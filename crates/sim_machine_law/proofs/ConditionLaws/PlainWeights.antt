-- What a condition of events that are no conditions weighs.
use Rattle.std.proofs.Common.{◌≡◌, ℕ, ◌+◌, ◌<◌, true, false, List, [], ◌∷◌, length, Option, Some, None, refl, ap, ◌∙◌, suc, arith, All}
use Rattle.std.specs.Prelude.{sum_by, is_some}
use Rattle.std.proofs.lemmas.Bool.{ltb-true, lt-ltb}
use Rattle.std.proofs.lemmas.List.Elements.{All-head, All-tail, All-weaker}
use Rattle.std.proofs.lemmas.List.Sums.{sum_by-cons}
use Rattle.sim_types.specs.declared.event.EventId.{EventId}
use Rattle.sim_machine.specs.State.{Calendar, ConditionOf}
use Rattle.sim_machine.specs.Events.{event_at}
use Rattle.sim_machine.specs.Conditions.{is_condition, condition_of, members_of, most_weight, weight_within, weight_of, is_too_wide}

no_members : (c : Calendar) (e : EventId) → is_condition c e ≡ false → members_of c e ≡ []
no_members c e plain = by_part (event_at c e).condition plain
  where
    by_part : (o : Option ConditionOf) → is_some o ≡ false → (condition_of o).members ≡ []
    by_part None h = refl
    by_part (Some x) h = absurd (cc)

plain_weighs_one : (depth : ℕ) (c : Calendar) (e : EventId) → is_condition c e ≡ false → weight_within (suc depth) c e ≡ 1
plain_weighs_one depth c e plain = ap (λ (es : List EventId). 1 + sum_by (weight_within depth c) es) (no_members c e plain)

sum_of_ones : (f : EventId → ℕ) (es : List EventId) → All (λ e. f e ≡ 1) es → sum_by f es ≡ length es
sum_of_ones f [] h = refl
sum_of_ones f (e ∷ es) h =
    sum_by-cons f e es ∙ ap (λ (n : ℕ). n + sum_by f es) (All-head (λ x. f x ≡ 1) e es h) ∙ ap (λ (n : ℕ). 1 + n) (sum_of_ones f es (All-tail (λ x. f x ≡ 1) e es h)) ∙ one_more (length es)
  where
    one_more : (n : ℕ) → 1 + n ≡ suc n
    one_more n = omega arith

plain_sum : (depth : ℕ) (c : Calendar) (es : List EventId) → All (λ e. is_condition c e ≡ false) es → sum_by (weight_within (suc depth) c) es ≡ length es
plain_sum depth c es plain =
    sum_of_ones (weight_within (suc depth) c) es (All-weaker (λ e. is_condition c e ≡ false) (λ e. weight_within (suc depth) c e ≡ 1) (λ e h. plain_weighs_one depth c e h) es plain)

pub plain_weight : (members : List EventId) (c : Calendar) → All (λ e. is_condition c e ≡ false) members → weight_of members c ≡ 1 + length members
plain_weight members c plain = ap (λ (n : ℕ). 1 + n) (plain_sum 63 c members plain)

pub wide_told : (members : List EventId) (c : Calendar) → is_too_wide members c ≡ true → most_weight < weight_of members c
wide_told members c h = ltb-true most_weight (weight_of members c) h

pub wide_where : (members : List EventId) (c : Calendar) → most_weight < weight_of members c → is_too_wide members c ≡ true
wide_where members c h = lt-ltb most_weight (weight_of members c) h
