-- Lawful conditions: they count only their members, and are built once.
use Rattle.std.specs.Prelude.{Bool, nat_lt, ◌==◌, ◌||◌, ◌&&◌, not, ℕ, List, true, false, [], ◌∷◌, length, ◌+◌, ◌≡◌, nat_le, ◌≤◌, IsTrue, count_by, All, is_some}
use Rattle.std.specs.List.{list_any, list_all, AllPass}
use Rattle.sim_types.specs.declared.event.EventId.{EventId}
use Rattle.sim_types.specs.declared.event.EventKind.{EventKind}
use Rattle.sim_types.specs.declared.event.EventKind.TheVariants as kind
use Rattle.sim_types.specs.declared.event.Callback.{Callback}
use Rattle.sim_types.specs.declared.event.Callback.TheVariants as callback
use Rattle.sim_machine.specs.State.{ConditionOf, EventOf, Calendar, Control}
use Rattle.sim_machine.specs.Events.{is_same, is_pending, is_processed, callbacks_of, is_check_of}
use Rattle.sim_machine.specs.Conditions.{is_condition, condition_at, members_of, most_weight, weight_within}
use Rattle.sim_machine.specs.Standing.{one_if, was_made, left_of, is_event_of, all_callbacks_of}

-- the kind of conditions
abbrev pub is_condition_kind : EventKind → Bool
is_condition_kind kind.Cond = true
is_condition_kind _ = false

-- an event has members, a count and a value exactly where it is a condition by its kind
abbrev pub IsConditionByKind : EventOf → Type 0
IsConditionByKind x = is_some x.condition ≡ is_condition_kind x.kind

-- whether the callback, if it builds a condition, builds one that is one
abbrev pub builds_condition : Calendar → Callback → Bool
builds_condition c (callback.Build e) = is_condition c e
builds_condition c _ = true

-- whether the callback builds the condition e
abbrev pub is_build_of : EventId → Callback → Bool
is_build_of e (callback.Build f) = is_same e f
is_build_of e _ = false

-- whether members were made before their condition, so that nesting ends, and it does not weigh too much
abbrev pub members_are_older : Calendar → EventId → Bool
members_are_older c e = list_all (λ f. nat_lt f.0 e.0) (members_of c e) && nat_le (weight_within (most_weight + 1) c e) most_weight

-- whether not all members are counted
abbrev pub is_below_all : ConditionOf → Bool
is_below_all x = nat_lt x.count (length x.members)

-- whether a condition, if it is pending, has not counted all
abbrev pub counts_well : Calendar → EventId → Bool
counts_well c e = not (is_condition c e && is_pending c e) || is_below_all (condition_at c e)

-- whether a condition is still to be built: it is not processed, or its build is still to call
abbrev pub is_to_be_built : Calendar → Control → EventId → Bool
is_to_be_built c control cond = not (is_processed c cond) || is_event_of control cond && list_any (is_build_of cond) (left_of control)

-- how often e bears a check of the condition
abbrev pub checks_at : Calendar → Control → EventId → EventId → ℕ
checks_at c control cond e = count_by (is_check_of cond) (all_callbacks_of c control e)

-- how often e stands among the members
abbrev pub times_member : Calendar → EventId → EventId → ℕ
times_member c cond e = count_by (is_same e) (members_of c cond)

-- whether a list is empty
abbrev pub is_empty : {X : Type 0} → List X → Bool
is_empty [] = true
is_empty (x ∷ xs) = false

-- whether the first callback passes the test
abbrev pub first_passes : (Callback → Bool) → List Callback → Bool
first_passes test [] = false
first_passes test (x ∷ xs) = test x

-- whether a build must be registered for this condition: it is not processed and has members
abbrev pub needs_build : Calendar → EventId → Bool
needs_build c cond = is_condition c cond && not (is_processed c cond) && not (is_empty (members_of c cond))

-- whether the build of a condition that needs one comes before all else that it calls, so that who waits finds a value
abbrev pub builds_first : Calendar → EventId → Bool
builds_first c cond = not (needs_build c cond) || first_passes (is_build_of cond) (callbacks_of cond c)

-- whether a build that is still to call is called first, and by its condition
abbrev pub builds_left_first : Control → EventId → Bool
builds_left_first control cond =
    (count_by (is_build_of cond) (left_of control) == 0)
    || (count_by (is_build_of cond) (left_of control) == 1) && is_event_of control cond && first_passes (is_build_of cond) (left_of control)

-- a condition counts only members, each as often as it stands there, and is built once, before anything else that it
-- calls; what is no condition has no members and is never built
pub record LawfulConditions (c : Calendar) (control : Control) : Type 0 where
  pub members : (e : EventId) → IsTrue (was_made c e) → IsTrue (members_are_older c e)
  pub counts : (e : EventId) → IsTrue (counts_well c e)
  pub checks : (cond e : EventId) → checks_at c control cond e ≤ times_member c cond e
  pub unbuilt : (cond e : EventId) → IsTrue (nat_lt 0 (checks_at c control cond e)) → IsTrue (is_to_be_built c control cond)
  pub builds : (cond : EventId) → count_by (λ r. is_build_of cond r.callback) c.registered ≡ one_if (needs_build c cond)
  pub first : (cond : EventId) → IsTrue (builds_first c cond)
  pub left : (cond : EventId) → IsTrue (builds_left_first control cond)
  pub left_builds : AllPass (builds_condition c) (left_of control)
  pub kinds : All IsConditionByKind c.events
