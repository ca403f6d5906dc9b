-- Conditions: events that wait for all of some events, or for one (SimPy's "Condition events").
use Rattle.std.specs.Prelude.{Bool, nat_lt, ◌==◌, ◌&&◌, not, ℕ, List, Option, true, [], ◌∷◌, filter, length, Some, None, if◌then◌else◌, ◌+◌, pos, zero, suc, fold, flat_map, sum_by, is_some}
use Rattle.std.specs.List.{list_any}
use Rattle.sim_types.specs.declared.event.EventId.{EventId}
use Rattle.sim_types.specs.declared.event.Outcome.{Outcome}
use Rattle.sim_types.specs.declared.event.EventKind.TheVariants as kind
use Rattle.sim_types.specs.declared.event.Outcome.TheVariants as outcome
use Rattle.sim_types.specs.declared.event.Callback.TheVariants as callback
use Rattle.sim_machine.specs.State.{AllOrAny, Every, Either, ConditionOf, Calendar}
use Rattle.sim_machine.specs.Events.{is_same, event_at, is_pending, is_processed, is_fail, next_event, change_event, defuse, register, unregister, is_check_of}
use Rattle.sim_machine.specs.Triggering.{make, succeed, fail}

-- what an event that is no condition has for one
abbrev pub no_condition : ConditionOf
no_condition = record { sort = Every; members = []; count = 0; value = [] }

-- what an event has as a condition
abbrev pub condition_of : Option ConditionOf → ConditionOf
condition_of None = no_condition
condition_of (Some x) = x

-- whether an event is a condition
abbrev pub is_condition : Calendar → EventId → Bool
is_condition c e = is_some (event_at c e).condition

-- what the event of this number has as a condition
abbrev pub condition_at : Calendar → EventId → ConditionOf
condition_at c e = condition_of (event_at c e).condition

-- the members of a condition; other events have none
abbrev pub members_of : Calendar → EventId → List EventId
members_of c e = (condition_at c e).members

-- what a condition has besides its event is changed
abbrev pub change_condition : EventId → (ConditionOf → ConditionOf) → Calendar → Calendar
change_condition e change c = change_event e (λ x. record x { condition = Some (change (condition_of x.condition)) }) c

-- no condition weighs more, so none is nested deeper (this project's own: SimPy has no such bound)
abbrev pub most_weight : ℕ
most_weight = 64

-- what e weighs, down to this depth: 1, and where it is a condition what its members weigh besides
abbrev pub weight_within : ℕ → Calendar → EventId → ℕ
weight_within zero c e = 1
weight_within (suc depth) c e = 1 + sum_by (weight_within depth c) (members_of c e)

-- the weight of a condition of these members; since no member weighs more than the most, none is nested deeper than
-- this
abbrev pub weight_of : List EventId → Calendar → ℕ
weight_of members c = 1 + sum_by (weight_within most_weight c) members

-- whether a condition of these members would weigh too much
abbrev pub is_too_wide : List EventId → Calendar → Bool
is_too_wide members c = nat_lt most_weight (weight_of members c)

-- whether a condition with a member just counted is met: all members are counted, or one is enough
abbrev pub is_met : ConditionOf → Bool
is_met x = elim x.sort [ Every ↦ x.count == length x.members | Either ↦ true ]

-- one member more is counted
abbrev pub count_member : EventId → Calendar → Calendar
count_member cond c = change_condition cond (λ x. record x { count = x.count + 1 }) c

-- what a member that was just counted makes of a pending condition: one that failed is defused and fails the condition
-- with the same throw; else the condition succeeds once it is met
abbrev pub judge : EventId → EventId → Option Outcome → Calendar → Calendar
judge cond member (Some (outcome.Fail t)) c = fail cond t (defuse member c)
judge cond member _ c = if is_met (condition_at c cond) then succeed cond (pos 0) c else c

-- a processed member is checked (SimPy's Condition); a condition that is not pending counts nothing and defuses nothing
abbrev pub check : EventId → EventId → Calendar → Calendar
check cond member c =
    if is_pending c cond then judge cond member (event_at c member).outcome (count_member cond c) else c

-- a member of a condition that is made: a processed one is checked at once
abbrev pub join_member : EventId → Calendar → EventId → Calendar
join_member cond c member = if is_processed c member then check cond member c else register member (callback.Check cond) c

-- the members join, and then the condition waits to be built; with none of them it succeeds at once
abbrev pub join_members : EventId → List EventId → Calendar → Calendar
join_members cond [] c = succeed cond (pos 0) c
join_members cond (e ∷ es) c = register cond (callback.Build cond) (fold (join_member cond) c (e ∷ es))

-- a condition is made, and its members join it (SimPy's AllOf and AnyOf)
abbrev pub make_condition : AllOrAny → List EventId → Calendar → Calendar
make_condition sort members c =
    let cond = next_event c in
    join_members cond members (change_event cond (λ x. record x { condition = Some (record { sort = sort; members = members; count = 0; value = [] }) }) (make kind.Cond c))

-- of each member the first check of this condition is taken out, and where the member is a condition those of its own,
-- down to this depth (this project's rule: SimPy's documentation does not say which checks stay)
abbrev pub take_checks_within : ℕ → EventId → Calendar → Calendar
take_checks_within zero cond c = c
take_checks_within (suc depth) cond c =
    fold (λ d member. take_checks_within depth member (unregister member (is_check_of cond) d)) c (members_of c cond)

-- the events that are no conditions, of which e is made, down to this depth
abbrev pub leaves_within : ℕ → Calendar → EventId → List EventId
leaves_within zero c e = []
leaves_within (suc depth) c e = if is_condition c e then flat_map (leaves_within depth c) (members_of c e) else e ∷ []

-- each event once, at its first place
abbrev pub first_places : List EventId → List EventId
first_places [] = []
first_places (e ∷ es) = e ∷ filter (λ f. not (is_same f e)) (first_places es)

-- the events of the value (SimPy's ConditionValue): the processed ones that a condition is made of, in order; that each
-- stands there once is this project's own
abbrev pub value_of : EventId → Calendar → List EventId
value_of cond c = first_places (filter (is_processed c) (leaves_within (most_weight + 1) c cond))

-- the value is what is processed by now
abbrev pub fix_value : EventId → Calendar → Calendar
fix_value cond c = change_condition cond (λ x. record x { value = value_of cond c }) c

-- the checks that are left are taken out, and where the condition is ok its value is fixed, before anyone who waits for
-- it goes on
abbrev pub build : EventId → Calendar → Calendar
build cond c =
    let d = take_checks_within (most_weight + 1) cond c in
    if is_fail (event_at d cond).outcome then d else fix_value cond d

-- whether cond is a processed condition that is ok and has e in its value (SimPy's `event in value`)
abbrev pub has : EventId → EventId → Calendar → Bool
has cond e c = is_processed c cond && not (is_fail (event_at c cond).outcome) && list_any (is_same e) (condition_at c cond).value
