-- What a processed member makes of a condition.
use Rattle.std.proofs.Common.{◌≡◌, ◌+◌, ◌<◌, Bool, true, false, refl, sym, ap, subst, ◌∙◌, Option, Some, None, pos, if◌then◌else◌}
use Rattle.std.specs.Prelude.{is_none, IsSome, IsTrue}
use Rattle.std.specs.List.{list_any}
use Rattle.std.proofs.lemmas.Bool.{false≢true}
use Rattle.sim_types.specs.declared.event.EventId.{EventId}
use Rattle.sim_types.specs.declared.event.Outcome.{Outcome}
use Rattle.sim_types.specs.declared.event.Outcome.TheVariants as outcome
use Rattle.sim_machine.specs.State.{EventOf, ConditionOf, Calendar}
use Rattle.sim_machine.specs.Events.{defuse, event_at, is_pending, is_same}
use Rattle.sim_machine.specs.Triggering.{trigger}
use Rattle.sim_machine.specs.Conditions.{condition_of, condition_at, is_met, judge, check, count_member}
use Rattle.sim_machine_law.proofs.Events.EventLaws.{change_event-same, change_event-keeps}
use Rattle.sim_happen_model.specs.TableOf.{IsKept, kept_at, kept_condition}
use Rattle.sim_happen_model.specs.HappenOf.{HappenOf}
use Rattle.sim_happen_model.specs.Shows.{Shows, Follows}
use Rattle.sim_happen_model.specs.Seen.{seen}
use Rattle.sim_happen_law.proofs.Shown.KeptPlaces.{kept_made}
use Rattle.sim_happen_law.proofs.Shown.SeenShown.{shows_seen, event_seen}
use Rattle.sim_happen_law.proofs.Changes.Following.{follows_then, turns_as, follows_none, read_is, event_then, kept_then}

-- ---- once met it succeeds

met_is : (a : HappenOf) (c : Calendar) (cond : EventId) (b : Bool) → IsKept a.events cond → is_met (kept_condition a.events cond) ≡ b → Shows a c
    → is_met (condition_at c cond) ≡ b
met_is a c cond b kept h s = ap (λ (x : EventOf). is_met (condition_of x.condition)) (sym (read_is a c cond kept s)) ∙ h

abbrev pub succeed_met : EventId → Calendar → Calendar
succeed_met cond c = if is_met (condition_at c cond) then trigger cond (outcome.Ok (pos 0)) c else c

pub met_succeeds : (a d : HappenOf) (cond : EventId) → IsKept a.events cond → is_met (kept_condition a.events cond) ≡ true
    → Follows (trigger cond (outcome.Ok (pos 0))) a d → Follows (succeed_met cond) a d
met_succeeds a d cond kept met p = turns_as (trigger cond (outcome.Ok (pos 0))) (succeed_met cond) _ a d (λ c s. rw (met_is a c cond true kept met s) refl) p

pub unmet_stays : (a : HappenOf) (cond : EventId) → IsKept a.events cond → is_met (kept_condition a.events cond) ≡ false → Follows (succeed_met cond) a a
unmet_stays a cond kept unmet = turns_as (λ c. c) (succeed_met cond) _ a a (λ c s. rw (met_is a c cond false kept unmet s) refl) (follows_none a)

-- ---- what stays of a condition

pub record IsSameCondition (x y : EventOf) : Type 0 where
  pub outcome : y.outcome ≡ x.outcome
  pub cancelled : y.cancelled ≡ x.cancelled
  pub condition : y.condition ≡ x.condition

pub defused_same : (a b : HappenOf) (cond member : EventId) → IsKept a.events cond → Follows (defuse member) a b
    → IsSameCondition (kept_at a.events cond).event (kept_at b.events cond).event
defused_same a b cond member kept t =
    let mark : EventOf → EventOf = λ y. record y { defused = true } in
    let is = event_then (defuse member) _ a b cond t (kept_then (defuse member) a b cond t kept) in
    let was = event_seen a cond in
    record {
      outcome = ap (λ (x : EventOf). x.outcome) is ∙ (change_event-keeps (λ (x : EventOf). x.outcome) member cond mark (seen a) (λ x. refl) ∙ ap (λ (x : EventOf). x.outcome) (sym was));
      cancelled = ap (λ (x : EventOf). x.cancelled) is ∙ (change_event-keeps (λ (x : EventOf). x.cancelled) member cond mark (seen a) (λ x. refl) ∙ ap (λ (x : EventOf). x.cancelled) (sym was));
      condition = ap (λ (x : EventOf). x.condition) is ∙ (change_event-keeps (λ (x : EventOf). x.condition) member cond mark (seen a) (λ x. refl) ∙ ap (λ (x : EventOf). x.condition) (sym was));
    }

-- the condition once a member more is counted
abbrev pub counted : EventOf → EventOf
counted x = record x { condition = Some (record (condition_of x.condition) { count = (condition_of x.condition).count + 1 }) }

pub counted_is : (a b : HappenOf) (cond : EventId) → IsKept a.events cond → Follows (count_member cond) a b
    → (kept_at b.events cond).event ≡ counted (kept_at a.events cond).event
counted_is a b cond kept t =
    let made : cond.0 < _ = subst (λ m. cond.0 < m) (shows_seen a).made (kept_made a.events cond kept) in
    event_then (count_member cond) _ a b cond t (kept_then (count_member cond) a b cond t kept) ∙ (change_event-same cond counted (seen a) made ∙ ap counted (sym (event_seen a cond)))

-- ---- a check

one_checked : (cond member : EventId) (o : Option Outcome) (c : Calendar) (b : Bool) → is_pending c cond ≡ b → (event_at c member).outcome ≡ o
    → check cond member c ≡ (if b then judge cond member o (count_member cond c) else c)
one_checked cond member o c true h k = rw (h, k) refl
one_checked cond member o c false h k = rw h refl

pending_is : (a : HappenOf) (c : Calendar) (cond : EventId) (o : Option Outcome) → IsKept a.events cond → (kept_at a.events cond).event.outcome ≡ o → Shows a c
    → is_pending c cond ≡ is_none o
pending_is a c cond o kept h s = ap is_none (ap (λ (x : EventOf). x.outcome) (sym (read_is a c cond kept s)) ∙ h)

pub checked_pending : (a b d : HappenOf) (cond member : EventId) (o : Option Outcome) → IsKept a.events cond → IsKept a.events member
    → (kept_at a.events cond).event.outcome ≡ None → o ≡ (kept_at a.events member).event.outcome → Follows (count_member cond) a b
    → Follows (judge cond member o) b d → Follows (check cond member) a d
checked_pending a b d cond member o kept member_kept pending is p q =
    turns_as (λ c. judge cond member o (count_member cond c)) (check cond member) _ a d
    (λ c s. sym (one_checked cond member o c true (pending_is a c cond None kept pending s) (ap (λ (x : EventOf). x.outcome) (sym (read_is a c member member_kept s)) ∙ sym is)))
    (follows_then (count_member cond) (judge cond member o) a b d p q)

pub checked_done : (a : HappenOf) (cond member : EventId) (x : Outcome) → IsKept a.events cond → (kept_at a.events cond).event.outcome ≡ Some x
    → Follows (check cond member) a a
checked_done a cond member x kept done =
    turns_as (λ c. c) (check cond member) _ a a (λ c s. sym (one_checked cond member (event_at c member).outcome c false (pending_is a c cond (Some x) kept done s) refl)) (follows_none a)

-- ---- an event with members is a condition

of_members : (e : EventId) (o : Option ConditionOf) → IsTrue (list_any (is_same e) (condition_of o).members) → IsSome o
of_members e None h = absurd (false≢true h)
of_members e (Some x) h = refl

pub is_condition_with : (e : EventId) (x : EventOf) → IsTrue (list_any (is_same e) (condition_of x.condition).members) → IsSome x.condition
is_condition_with e x h = of_members e x.condition h
