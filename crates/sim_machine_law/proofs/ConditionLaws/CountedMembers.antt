-- What a processed member makes of a pending condition: it counts, and may succeed or fail it.
use Rattle.std.proofs.Common.{◌≡◌, ℕ, ◌+◌, ◌<◌, ℤ, pos, Bool, true, false, not, length, Option, Some, None, refl, sym, ap, ◌∙◌, if◌then◌else◌, arith}
use Rattle.std.specs.Prelude.{◌==◌, is_none, ◌↔◌}
use Rattle.std.proofs.lemmas.Bool.{both_ways, eqb-true, eq-eqb}
use Rattle.sim_types.specs.declared.event.EventId.{EventId}
use Rattle.sim_types.specs.declared.event.Outcome.{Outcome}
use Rattle.sim_types.specs.declared.event.Outcome.TheVariants as outcome
use Rattle.sim_types.specs.declared.event.Throw.{Throw}
use Rattle.sim_machine.specs.State.{AllOrAny, Every, Either, ConditionOf, EventOf, Calendar}
use Rattle.sim_machine.specs.Events.{event_at, is_pending, defuse}
use Rattle.sim_machine.specs.Triggering.{succeed, fail, trigger}
use Rattle.sim_machine.specs.Conditions.{condition_of, condition_at, members_of, is_met, count_member, judge, check}
use Rattle.sim_machine_law.specs.Members.{IsCounting}
use Rattle.sim_machine_law.proofs.KeptParts.KeptTimesCases.{if_cases}
use Rattle.sim_machine_law.proofs.Events.EventLaws.{change_event-same, change_event-length, change_event-keeps}

-- ---- scheduling

scheduled_same : (e : EventId) (x : Outcome) (c : Calendar) → e.0 < length c.events → (event_at (trigger e x c) e).outcome ≡ Some x
scheduled_same e x c made = ap (λ (y : EventOf). y.outcome) (change_event-same e (λ y. record y { outcome = Some x }) (record (trigger e x c) { events = c.events }) made)

condition_kept : (e f : EventId) (x : Outcome) (c : Calendar) → condition_at (trigger e x c) f ≡ condition_at c f
condition_kept e f x c =
    ap condition_of (change_event-keeps (λ y. y.condition) e f (λ y. record y { outcome = Some x }) (record (trigger e x c) { events = c.events }) (λ y. refl))

-- ---- counting

module _ (cond member : EventId) (c : Calendar) (sort : AllOrAny) (h : IsCounting c sort cond) where
  abbrev counted : Calendar
  counted = count_member cond c

  one_more : condition_at counted cond ≡ record (condition_at c cond) { count = (condition_at c cond).count + 1 }
  one_more = ap (λ (y : EventOf). condition_of y.condition) (change_event-same cond (λ y. record y { condition = Some (record (condition_of y.condition) { count = (condition_of y.condition).count + 1 }) }) c h.made)

  still_made : cond.0 < length counted.events
  still_made = omega (arith, h.made, change_event-length cond (λ y. record y { condition = Some (record (condition_of y.condition) { count = (condition_of y.condition).count + 1 }) }) c)

  still_pending : is_pending counted cond ≡ true
  still_pending =
      ap (λ (o : Option Outcome). is_none o) (change_event-keeps (λ y. y.outcome) cond cond (λ y. record y { condition = Some (record (condition_of y.condition) { count = (condition_of y.condition).count + 1 }) }) c (λ y. refl)) ∙ h.pending

  pub checked : check cond member c ≡ judge cond member (event_at c member).outcome counted
  checked = ap (λ (b : Bool). if b then judge cond member (event_at c member).outcome counted else c) h.pending

  -- what is judged keeps what the condition has besides its event
  judged_condition : (o : Option Outcome) → condition_at (judge cond member o counted) cond ≡ condition_at counted cond
  judged_condition None =
      if_cases (λ d. condition_at d cond ≡ condition_at counted cond) (is_met (condition_at counted cond)) (succeed cond (pos 0) counted) counted (λ met. condition_kept cond cond (outcome.Ok (pos 0)) counted) (λ unmet. refl)
  judged_condition (Some (outcome.Ok v)) =
      if_cases (λ d. condition_at d cond ≡ condition_at counted cond) (is_met (condition_at counted cond)) (succeed cond (pos 0) counted) counted (λ met. condition_kept cond cond (outcome.Ok (pos 0)) counted) (λ unmet. refl)
  judged_condition (Some (outcome.Fail t)) =
      condition_kept cond cond (outcome.Fail t) (defuse member counted) ∙ ap condition_of (change_event-keeps (λ y. y.condition) member cond (λ y. record y { defused = true }) counted (λ y. refl))

  pub counts_one : (condition_at (check cond member c) cond).count ≡ (condition_at c cond).count + 1
  counts_one =
      ap (λ (d : Calendar). (condition_at d cond).count) checked ∙ ap (λ (x : ConditionOf). x.count) (judged_condition (event_at c member).outcome ∙ one_more)

  -- where the member is ok, the condition is pending no longer exactly where it is met
  met_if : (b : Bool) → is_met (condition_at counted cond) ≡ b → is_pending (if b then succeed cond (pos 0) counted else counted) cond ≡ not b
  met_if true is = ap (λ (o : Option Outcome). is_none o) (scheduled_same cond (outcome.Ok (pos 0)) counted still_made)
  met_if false is = still_pending

  pub pending_by_met : (v : ℤ) → (event_at c member).outcome ≡ Some (outcome.Ok v) →
      is_pending (check cond member c) cond ≡ not (is_met (condition_at counted cond))
  pending_by_met v ok =
      ap (λ (d : Calendar). is_pending d cond) (checked ∙ ap (λ (o : Option Outcome). judge cond member o counted) ok) ∙ met_if (is_met (condition_at counted cond)) refl

  pub fails_with : (t : Throw) → (event_at c member).outcome ≡ Some (outcome.Fail t) →
      (event_at (check cond member c) cond).outcome ≡ Some (outcome.Fail t)
  fails_with t failed =
      ap (λ (d : Calendar). (event_at d cond).outcome) (checked ∙ ap (λ (o : Option Outcome). judge cond member o counted) failed) ∙ scheduled_same cond (outcome.Fail t) (defuse member counted) defused_made
    where
      defused_made : cond.0 < length (defuse member (count_member cond c)).events
      defused_made = omega (arith, still_made, change_event-length member (λ y. record y { defused = true }) (count_member cond c))

  pub defuses_member : (t : Throw) → (event_at c member).outcome ≡ Some (outcome.Fail t) → member.0 < length c.events →
      (event_at (check cond member c) member).defused ≡ true
  defuses_member t failed made =
      ap (λ (d : Calendar). (event_at d member).defused) (checked ∙ ap (λ (o : Option Outcome). judge cond member o counted) failed) ∙ (change_event-keeps (λ y. y.defused) cond member (λ y. record y { outcome = Some (outcome.Fail t) }) (record (fail cond t (defuse member counted)) { events = (defuse member counted).events }) (λ y. refl) ∙ ap (λ (y : EventOf). y.defused) (change_event-same member (λ y. record y { defused = true }) counted counted_made))
    where
      counted_made : member.0 < length (count_member cond c).events
      counted_made = omega (arith, made, change_event-length cond (λ y. record y { condition = Some (record (condition_of y.condition) { count = (condition_of y.condition).count + 1 }) }) c)

-- ---- all of them, or one

not_true : (b : Bool) → not b ≡ false → b ≡ true
not_true true h = refl
not_true false h = absurd (both_ways (not false) h refl)

pub all_of_counted : (cond member : EventId) (c : Calendar) (v : ℤ) → IsCounting c Every cond → (event_at c member).outcome ≡ Some (outcome.Ok v) →
    (is_pending (check cond member c) cond ≡ false) ↔ ((condition_at c cond).count + 1 ≡ length (members_of c cond))
all_of_counted cond member c v h ok =
    let x : ConditionOf = condition_at c cond in
    let met : is_met (condition_at (count_member cond c) cond) ≡ (x.count + 1 == length x.members) = ap is_met (one_more cond member c Every h) ∙ every x (x.count + 1) h.is in
    let pending : is_pending (check cond member c) cond ≡ not (x.count + 1 == length x.members) = pending_by_met cond member c Every h v ok ∙ ap not met in
    (λ over. eqb-true (x.count + 1) (length x.members) (not_true (x.count + 1 == length x.members) (sym pending ∙ over)), λ last. pending ∙ ap not (eq-eqb (x.count + 1) (length x.members) last))
  where
    every : (x : ConditionOf) (n : ℕ) → x.sort ≡ Every → is_met (record x { count = n }) ≡ (n == length x.members)
    every x n is = rw is refl

pub any_of_counted : (cond member : EventId) (c : Calendar) (v : ℤ) → IsCounting c Either cond → (event_at c member).outcome ≡ Some (outcome.Ok v) →
    is_pending (check cond member c) cond ≡ false
any_of_counted cond member c v h ok =
    let x : ConditionOf = condition_at c cond in
    pending_by_met cond member c Either h v ok ∙ ap not (ap is_met (one_more cond member c Either h) ∙ either x (x.count + 1) h.is)
  where
    either : (x : ConditionOf) (n : ℕ) → x.sort ≡ Either → is_met (record x { count = n }) ≡ true
    either x n is = rw is refl

pub counts_nothing : (cond member : EventId) (c : Calendar) → is_pending c cond ≡ false → check cond member c ≡ c
counts_nothing cond member c over = ap (λ (b : Bool). if b then judge cond member (event_at c member).outcome (count_member cond c) else c) over
