-- Members join a condition.
use Rattle.std.proofs.Common.{◌≡◌, ℕ, ◌+◌, ◌<◌, ◌≤◌, Bool, true, false, List, length, take, fold, refl, sym, ap, subst, ◌∙◌, arith, Option, Some, None, pos, if◌then◌else◌}
use Rattle.std.specs.Prelude.{slice_index_or, All, IsSome}
use Rattle.std.proofs.lemmas.List.{take_more, take_all}
use Rattle.std.proofs.lemmas.List.Sums.{fold_push}
use Rattle.sim_types.specs.declared.event.EventId.{EventId}
use Rattle.sim_types.specs.declared.event.Outcome.{Outcome}
use Rattle.sim_types.specs.declared.event.Outcome.TheVariants as outcome
use Rattle.sim_types.specs.declared.event.Callback.TheVariants as callback
use Rattle.sim_machine.specs.State.{EventOf, ConditionOf, Calendar}
use Rattle.sim_machine.specs.Events.{event_at, change_event, defuse, is_pending, is_processed, register}
use Rattle.sim_machine.specs.Triggering.{trigger}
use Rattle.sim_machine.specs.Conditions.{condition_of, condition_at, is_met, judge, check, count_member, join_member}
use Rattle.sim_machine_law.proofs.Events.EventLaws.{change_event-same, change_event-keeps}
use Rattle.sim_happen_model.specs.TableOf.{IsKept, kept_at}
use Rattle.sim_happen_model.specs.HappenOf.{HappenOf}
use Rattle.sim_happen_model.specs.Joining.{IsJoining, TakesCallbacks}
use Rattle.sim_happen_model.specs.Shows.{Shows, Follows}
use Rattle.sim_happen_model.specs.Seen.{seen}
use Rattle.sim_happen_law.proofs.Shown.KeptPlaces.{kept_made}
use Rattle.sim_happen_law.proofs.Shown.SeenShown.{shows_seen, event_seen}
use Rattle.sim_happen_law.proofs.Changes.Following.{follows_then, follows_none, turns_as, kept_then, read_is, event_then}

-- ---- in the machine

-- what a condition keeps where outcomes and marks change
record IsAlike (x y : EventOf) : Type 0 where
  condition : y.condition ≡ x.condition
  processed : y.processed ≡ x.processed
  cancelled : y.cancelled ≡ x.cancelled

alike_changed : (e f : EventId) (change : EventOf → EventOf) (c : Calendar) → ((x : EventOf) → IsAlike x (change x))
    → IsAlike (event_at c f) (event_at (change_event e change c) f)
alike_changed e f change c h = record {
  condition = change_event-keeps (λ (x : EventOf). x.condition) e f change c (λ x. (h x).condition);
  processed = change_event-keeps (λ (x : EventOf). x.processed) e f change c (λ x. (h x).processed);
  cancelled = change_event-keeps (λ (x : EventOf). x.cancelled) e f change c (λ x. (h x).cancelled);
}

alike_then : (x y z : EventOf) → IsAlike x y → IsAlike y z → IsAlike x z
alike_then x y z p q = record { condition = q.condition ∙ p.condition; processed = q.processed ∙ p.processed; cancelled = q.cancelled ∙ p.cancelled }

alike_triggered : (e f : EventId) (x : Outcome) (c : Calendar) → IsAlike (event_at c f) (event_at (trigger e x c) f)
alike_triggered e f x c =
    let a = alike_changed e f (λ y. record y { outcome = Some x }) c (λ y. record { condition = refl; processed = refl; cancelled = refl }) in
    record { condition = a.condition; processed = a.processed; cancelled = a.cancelled }

alike_defused : (e f : EventId) (c : Calendar) → IsAlike (event_at c f) (event_at (defuse e c) f)
alike_defused e f c = alike_changed e f (λ y. record y { defused = true }) c (λ y. record { condition = refl; processed = refl; cancelled = refl })

alike_met : (cond f : EventId) (c : Calendar) (b : Bool) → IsAlike (event_at c f) (event_at (if b then trigger cond (outcome.Ok (pos 0)) c else c) f)
alike_met cond f c true = alike_triggered cond f (outcome.Ok (pos 0)) c
alike_met cond f c false = record { condition = refl; processed = refl; cancelled = refl }

alike_judged : (cond member f : EventId) (o : Option Outcome) (c : Calendar) → IsAlike (event_at c f) (event_at (judge cond member o c) f)
alike_judged cond member f (Some (outcome.Fail t)) c =
    alike_then _ _ _ (alike_defused member f c) (alike_triggered cond f (outcome.Fail t) (defuse member c))
alike_judged cond member f (Some (outcome.Ok v)) c = alike_met cond f c (is_met (condition_at c cond))
alike_judged cond member f None c = alike_met cond f c (is_met (condition_at c cond))

joining_alike : (n : ℕ) (ms : List EventId) (x y : EventOf) → IsAlike x y → IsJoining n ms x → IsJoining n ms y
joining_alike n ms x y a j = record {
  condition = subst (λ (o : Option ConditionOf). IsSome o) (sym a.condition) j.condition;
  members = ap (λ o. (condition_of o).members) a.condition ∙ j.members;
  count = subst (λ o. (condition_of o).count ≤ n) (sym a.condition) j.count;
  processed = a.processed ∙ j.processed;
  cancelled = a.cancelled ∙ j.cancelled;
}

joining_more : (n : ℕ) (ms : List EventId) (x : EventOf) → IsJoining n ms x → IsJoining (n + 1) ms x
joining_more n ms x j = record { condition = j.condition; members = j.members; count = omega (arith, j.count); processed = j.processed; cancelled = j.cancelled }

joining_counted : (n : ℕ) (ms : List EventId) (cond : EventId) (c : Calendar) → cond.0 < length c.events → IsJoining n ms (event_at c cond)
    → IsJoining (n + 1) ms (event_at (count_member cond c) cond)
joining_counted n ms cond c made j =
    let counted : EventOf → EventOf = λ x. record x { condition = Some (record (condition_of x.condition) { count = (condition_of x.condition).count + 1 }) } in
    subst (IsJoining (n + 1) ms) (sym (change_event-same cond counted c made))
    (record { condition = refl; members = j.members; count = omega (arith, j.count); processed = j.processed; cancelled = j.cancelled })

joining_checked : (n : ℕ) (ms : List EventId) (cond member : EventId) (c : Calendar) (b : Bool) → cond.0 < length c.events → IsJoining n ms (event_at c cond)
    → IsJoining (n + 1) ms (event_at (if b then judge cond member (event_at c member).outcome (count_member cond c) else c) cond)
joining_checked n ms cond member c true made j =
    joining_alike (n + 1) ms _ _ (alike_judged cond member cond (event_at c member).outcome (count_member cond c)) (joining_counted n ms cond c made j)
joining_checked n ms cond member c false made j = joining_more n ms (event_at c cond) j

joining_by : (n : ℕ) (ms : List EventId) (cond member : EventId) (c : Calendar) (b : Bool) → cond.0 < length c.events → IsJoining n ms (event_at c cond)
    → IsJoining (n + 1) ms (event_at (if b then check cond member c else register member (callback.Check cond) c) cond)
joining_by n ms cond member c true made j = joining_checked n ms cond member c (is_pending c cond) made j
joining_by n ms cond member c false made j = joining_more n ms (event_at c cond) j

joining_next : (n : ℕ) (ms : List EventId) (cond member : EventId) (c : Calendar) → cond.0 < length c.events → IsJoining n ms (event_at c cond)
    → IsJoining (n + 1) ms (event_at (join_member cond c member) cond)
joining_next n ms cond member c made j = joining_by n ms cond member c (is_processed c member) made j

-- ---- in what is kept

-- what is read of a member is what is shown
processed_is : (a : HappenOf) (c : Calendar) (member : EventId) (b : Bool) → IsKept a.events member → (kept_at a.events member).event.processed ≡ b → Shows a c
    → is_processed c member ≡ b
processed_is a c member b kept h s = ap (λ (x : EventOf). x.processed) (sym (read_is a c member kept s)) ∙ h

pub joined_checked : (a b : HappenOf) (cond member : EventId) → IsKept a.events member → (kept_at a.events member).event.processed ≡ true
    → Follows (check cond member) a b → Follows (λ c. join_member cond c member) a b
joined_checked a b cond member kept h t =
    turns_as (check cond member) (λ c. join_member cond c member) _ a b (λ c s. rw (processed_is a c member true kept h s) refl) t

pub joined_registered : (a b : HappenOf) (cond member : EventId) → IsKept a.events member → (kept_at a.events member).event.processed ≡ false
    → Follows (register member (callback.Check cond)) a b → Follows (λ c. join_member cond c member) a b
joined_registered a b cond member kept h t =
    turns_as (register member (callback.Check cond)) (λ c. join_member cond c member) _ a b (λ c s. rw (processed_is a c member false kept h s) refl) t

-- so many members joined
pub record JoinsUpTo (cond : EventId) (ms : List EventId) (i : ℕ) (old now : HappenOf) : Type 0 where
  pub follows : Follows (λ c. fold (join_member cond) c (take i ms)) old now
  pub kept : IsKept now.events cond
  pub joining : IsJoining i ms (kept_at now.events cond).event
  pub members : All (IsKept old.events) ms
  pub room : TakesCallbacks i old now

pub joins_none : (cond : EventId) (ms : List EventId) (old : HappenOf) → IsKept old.events cond
    → IsJoining 0 ms (kept_at old.events cond).event → All (IsKept old.events) ms
    → JoinsUpTo cond ms 0 old old
joins_none cond ms old kept joining members = record {
  follows = follows_none old;
  kept = kept;
  joining = joining;
  members = members;
  room = record { callbacks = omega arith; events = refl; conditions = refl };
}

pub joins_next : (cond : EventId) (ms : List EventId) (i : ℕ) (d : EventId) (old now new : HappenOf) → i < length ms → JoinsUpTo cond ms i old now
    → Follows (λ c. join_member cond c (slice_index_or ms i d)) now new → TakesCallbacks 1 now new → JoinsUpTo cond ms (i + 1) old new
joins_next cond ms i d old now new within j t room =
    let m : EventId = slice_index_or ms i d in
    let done : List EventId = take i ms in
    let kept : IsKept new.events cond = kept_then (λ c. join_member cond c m) now new cond t j.kept in
    let made : cond.0 < length (seen now).events = subst (λ n. cond.0 < n) (shows_seen now).made (kept_made now.events cond j.kept) in
    let is = event_then (λ c. join_member cond c m) _ now new cond t kept in
    record {
      follows = turns_as (λ c. join_member cond (fold (join_member cond) c done) m) (λ c. fold (join_member cond) c (take (i + 1) ms)) _ old new
          (λ c s. sym (ap (fold (join_member cond) c) (take_more ms i d within) ∙ fold_push (join_member cond) c done m))
          (follows_then (λ c. fold (join_member cond) c done) (λ c. join_member cond c m) old now new j.follows t);
      kept = kept;
      joining = subst (IsJoining (i + 1) ms) (sym is) (joining_next i ms cond m (seen now) made (subst (IsJoining i ms) (event_seen now cond) j.joining));
      members = j.members;
      room = record { callbacks = omega (arith, j.room.callbacks, room.callbacks); events = room.events ∙ j.room.events; conditions = room.conditions ∙ j.room.conditions };
    }

pub joins_all : (cond : EventId) (ms : List EventId) (i : ℕ) (old now : HappenOf) → length ms ≤ i → JoinsUpTo cond ms i old now
    → Follows (λ c. fold (join_member cond) c ms) old now
joins_all cond ms i old now whole j = subst (λ xs. Follows (λ c. fold (join_member cond) c xs) old now) (take_all i ms whole) j.follows
