-- Once a condition is built its value is fixed, and it has in it what was processed by then.
use Rattle.std.proofs.Common.{◌≡◌, ℕ, ◌<◌, Bool, true, false, ◌&&◌, not, inl, inr, List, [], ◌∷◌, ◌++◌, length, refl, sym, subst, ap, ◌∙◌, zero, suc, if◌then◌else◌, filter}
use Rattle.std.specs.Prelude.{is_some, Some, flat_map, slice_index_or, ◌+◌}
use Rattle.std.specs.List.{list_any}
use Rattle.std.proofs.lemmas.Bool.{and_parts, and_from, not-true, not_from_false, or_cases, or_left, or_right, both_ways}
use Rattle.std.proofs.lemmas.List.Elements.{filter_agree}
use Rattle.sim_types.specs.declared.event.EventId.{EventId}
use Rattle.sim_types.specs.declared.event.EventKind.TheVariants as kind
use Rattle.sim_machine.specs.State.{EventOf, Calendar}
use Rattle.sim_machine.specs.Events.{is_same, event_at, pending_event, is_processed, is_fail}
use Rattle.sim_machine.specs.Conditions.{is_condition, condition_of, condition_at, members_of, most_weight, take_checks_within, leaves_within, first_places, value_of, fix_value, build, has}
use Rattle.sim_machine_law.specs.Members.{HasInValue}
use Rattle.sim_machine_law.proofs.Events.EventLaws.{change_event-same, is_same-yes, is_same-self}
use Rattle.sim_machine_law.proofs.Ledger.TriedQueues.{IsOneOf, contains_one, one_of_contained}
use Rattle.sim_lawful.proofs.ConditionLaws.CalledBuild.{checks_taken}

-- ---- the value is read off the events

module _ (c d : Calendar) (same : d.events ≡ c.events) where
  same_at : (e : EventId) → event_at d e ≡ event_at c e
  same_at e = ap (λ (es : List EventOf). slice_index_or es e.0 (pending_event kind.Plain)) same

  flat_same : (f g : EventId → List EventId) → ((e : EventId) → f e ≡ g e) → (es : List EventId) → flat_map f es ≡ flat_map g es
  flat_same f g h [] = refl
  flat_same f g h (e ∷ es) = ap (λ (fs : List EventId). fs ++ flat_map f es) (h e) ∙ ap (λ (fs : List EventId). g e ++ fs) (flat_same f g h es)

  same_leaves : (depth : ℕ) (e : EventId) → leaves_within depth d e ≡ leaves_within depth c e
  same_leaves zero e = refl
  same_leaves (suc depth) e =
      let whole : (EventId → List EventId) → EventOf → List EventId = λ within x. if is_some x.condition then flat_map within (condition_of x.condition).members else e ∷ [] in
      ap (whole (leaves_within depth d)) (same_at e) ∙ ap (λ (es : List EventId). if is_condition c e then es else e ∷ []) (flat_same (leaves_within depth d) (leaves_within depth c) (same_leaves depth) (members_of c e))

  same_value_within : (depth : ℕ) (cond : EventId) →
      first_places (filter (is_processed d) (leaves_within depth d cond)) ≡ first_places (filter (is_processed c) (leaves_within depth c cond))
  same_value_within depth cond =
      ap (λ (es : List EventId). first_places (filter (is_processed d) es)) (same_leaves depth cond) ∙ ap first_places (filter_agree (is_processed d) (is_processed c) (λ e. ap (λ (x : EventOf). x.processed) (same_at e)) (leaves_within depth c cond))

  same_value : (cond : EventId) → value_of cond d ≡ value_of cond c
  same_value cond = same_value_within (most_weight + 1) cond

-- ---- a condition is built

module _ (cond : EventId) (c : Calendar) where
  abbrev unchecked : Calendar
  unchecked = take_checks_within (most_weight + 1) cond c

  same_events : unchecked.events ≡ c.events
  same_events = checks_taken (λ d. d.events ≡ c.events) (λ e f d h. h) (most_weight + 1) cond c refl

  built_if : (b : Bool) → is_fail (event_at c cond).outcome ≡ b → build cond c ≡ (if b then unchecked else fix_value cond unchecked)
  built_if b is =
      ap (λ (x : Bool). if x then unchecked else fix_value cond unchecked) (ap (λ (x : EventOf). is_fail x.outcome) (same_at c unchecked same_events cond) ∙ is)

  pub value_fixed : cond.0 < length c.events → is_fail (event_at c cond).outcome ≡ false → (condition_at (build cond c) cond).value ≡ value_of cond c
  value_fixed made ok =
      let made_still : cond.0 < length unchecked.events = subst (λ (es : List EventOf). cond.0 < length es) (sym same_events) made in
      ap (λ (d : Calendar). (condition_at d cond).value) (built_if false ok) ∙ ap (λ (x : EventOf). (condition_of x.condition).value) (change_event-same cond (λ x. record x { condition = Some (record (condition_of x.condition) { value = value_of cond unchecked }) }) unchecked made_still) ∙ same_value c unchecked same_events cond

  pub value_of_failed : is_fail (event_at c cond).outcome ≡ true → (condition_at (build cond c) cond).value ≡ (condition_at c cond).value
  value_of_failed failed =
      ap (λ (d : Calendar). (condition_at d cond).value) (built_if true failed) ∙ ap (λ (x : EventOf). (condition_of x.condition).value) (same_at c unchecked same_events cond)

-- ---- what has an event in its value

any_same : (e : EventId) (es : List EventId) → list_any (is_same e) es ≡ true → IsOneOf es e
any_same e [] h = absurd (both_ways false refl h)
any_same e (x ∷ es) h = elim (or_cases (is_same e x) (list_any (is_same e) es) h) [
  | inl same ↦ inl (sym (is_same-yes e x same))
  | inr later ↦ inr (any_same e es later)
]

same_any : (e : EventId) (es : List EventId) → IsOneOf es e → list_any (is_same e) es ≡ true
same_any e [] h = absurd h
same_any e (x ∷ es) (inl same) = or_left (is_same e x) (list_any (is_same e) es) (ap (λ (y : EventId). is_same e y) same ∙ is_same-self e)
same_any e (x ∷ es) (inr later) = or_right (is_same e x) (list_any (is_same e) es) (same_any e es later)

pub has_told : (cond e : EventId) (c : Calendar) → has cond e c ≡ true → HasInValue c cond e
has_told cond e c h =
    let ok : Bool = not (is_fail (event_at c cond).outcome) in
    let any : Bool = list_any (is_same e) (condition_at c cond).value in
    let first = and_parts (is_processed c cond && ok) any h in
    let second = and_parts (is_processed c cond) ok first.0 in
    record { processed = second.0; ok = not-true (is_fail (event_at c cond).outcome) second.1; contained = contains_one (condition_at c cond).value e (any_same e (condition_at c cond).value first.1) }

pub has_where : (cond e : EventId) (c : Calendar) → HasInValue c cond e → has cond e c ≡ true
has_where cond e c h =
    let ok : Bool = not (is_fail (event_at c cond).outcome) in
    let any : Bool = list_any (is_same e) (condition_at c cond).value in
    and_from (is_processed c cond && ok) any (and_from (is_processed c cond) ok h.processed (not_from_false (is_fail (event_at c cond).outcome) h.ok)) (same_any e (condition_at c cond).value (one_of_contained (condition_at c cond).value e h.contained))
