-- A condition that was made, and its members.
use Rattle.std.proofs.Common.{◌≡◌, ◌≢◌, ℕ, List, [], ◌∷◌, length, fold, refl, sym, ap, subst, ◌∙◌, arith, Option, Some, None}
use Rattle.std.specs.Prelude.{slice_index_or, IsSome}
use Rattle.std.specs.List.{sum_by}
use Rattle.std.proofs.lemmas.List.{length-map}
use Rattle.sim_types.specs.declared.event.EventId.{EventId}
use Rattle.sim_types.specs.declared.event.EventKind.TheVariants as kind
use Rattle.sim_types.specs.declared.event.Callback.TheVariants as callback
use Rattle.sim_machine.specs.State.{AllOrAny, EventOf, Calendar}
use Rattle.sim_machine.specs.Events.{event_at, next_event, register}
use Rattle.sim_machine.specs.Triggering.{make}
use Rattle.sim_machine.specs.Conditions.{join_member, join_members, make_condition}
use Rattle.sim_machine_law.proofs.Events.EventLaws.{change_event-same, make-new, make-length}
use Rattle.sim_happen_model.specs.TableOf.{IsKept, kept_at, new_condition, uncounted}
use Rattle.sim_happen_model.specs.HappenOf.{HappenOf, held, as_before, unheld_event, one_more_each, holding}
use Rattle.sim_happen_model.specs.Joining.{with_members, IsJoining}
use Rattle.sim_happen_model.specs.Shows.{Turns, Follows}
use Rattle.sim_happen_model.specs.Seen.{seen}
use Rattle.sim_happen_law.proofs.Shown.KeptPlaces.{at_before, kept_made}
use Rattle.sim_happen_law.proofs.Shown.SeenShown.{shows_seen}
use Rattle.sim_happen_law.proofs.Changes.Held.{held_at, holders_at, kept_of, of_kept}
use Rattle.sim_happen_law.proofs.Changes.Following.{event_then, turns_as, turns_then, follows_then}
use Rattle.sim_happen_law.proofs.Changes.NewEvents.{kept_last, next_is}
use Rattle.sim_happen_law.proofs.Changes.Soundness.{sum_less}

-- what was kept is kept where an event more is made
pub kept_beside : (a b : HappenOf) (e : EventId) → held b ≡ unheld_event (held a) → IsKept a.events e → IsKept b.events e
kept_beside a b e is kept =
    let long : length (held a) ≡ length a.events = length-map a.events holders_at in
    let differ : e.0 ≢ length (held a) = λ same. omega (arith, same, long, kept_made a.events e kept) in
    let here : slice_index_or (held b) e.0 None ≡ holders_at (slice_index_or a.events e.0 None) =
    ap (λ (hs : List (Option ℕ)). slice_index_or hs e.0 None) is ∙ (at_before (held a) (Some 0) e.0 differ ∙ held_at a e) in
    kept_of (slice_index_or b.events e.0 None) (subst IsSome (sym here ∙ held_at b e) (of_kept (slice_index_or a.events e.0 None) kept))

abbrev made_with : AllOrAny → List EventId → Calendar → Calendar
made_with sort ms c = with_members sort ms (next_event c) c

new_is : (sort : AllOrAny) (ms : List EventId) (c : Calendar) → event_at (made_with sort ms c) (next_event c) ≡ new_condition sort ms
new_is sort ms c =
    let change : EventOf → EventOf = λ x. record x { condition = Some (uncounted sort ms) } in
    change_event-same (next_event c) change (make kind.Cond c) (omega (arith, make-length kind.Cond c)) ∙ ap change (make-new kind.Cond c)

pub condition_is : (sort : AllOrAny) (ms : List EventId) (a b : HappenOf) (e : EventId) → Turns (made_with sort ms) unheld_event a b → e.0 ≡ length a.events
    → IsKept b.events e × ((kept_at b.events e).event ≡ new_condition sort ms)
condition_is sort ms a b e t same =
    let kept : IsKept b.events e = kept_last a b e t.held same in
    (kept, event_then (made_with sort ms) unheld_event a b e t kept ∙ subst (λ f. event_at (made_with sort ms (seen a)) f ≡ new_condition sort ms) (next_is a (seen a) e same (shows_seen a)) (new_is sort ms (seen a)))

pub joining_new : (sort : AllOrAny) (ms : List EventId) (x : EventOf) → x ≡ new_condition sort ms → IsJoining 0 ms x
joining_new sort ms x is = subst (IsJoining 0 ms) (sym is) (record { condition = refl; members = refl; count = omega arith; processed = refl; cancelled = refl })

-- held, made and joined
pub turns_made_condition : (sort : AllOrAny) (ms : List EventId) (a m b n : HappenOf) (cond : EventId) → Turns (λ c. c) (one_more_each ms) a m
    → Turns (made_with sort ms) unheld_event m b → Follows (join_members cond ms) b n → cond.0 ≡ length a.events
    → Turns (make_condition sort ms) (holding ms) a n
turns_made_condition sort ms a m b n cond t u v same =
    let both : Turns (made_with sort ms) (holding ms) a b = turns_then (λ c. c) (made_with sort ms) (one_more_each ms) unheld_event a m b t u in
    turns_as (λ c. join_members cond ms (made_with sort ms c)) (make_condition sort ms) (holding ms) a n
    (λ c s. ap (λ e. join_members e ms (made_with sort ms c)) (sym (next_is a c cond same s)))
    (turns_then (made_with sort ms) (join_members cond ms) (holding ms) as_before a b n both v)

pub joined_some : (cond : EventId) (ms : List EventId) (a b n : HappenOf) → (ms ≡ [] → ⊥) → Follows (λ c. fold (join_member cond) c ms) a b
    → Follows (register cond (callback.Build cond)) b n → Follows (join_members cond ms) a n
joined_some cond [] a b n some p q = absurd (some refl)
joined_some cond (m ∷ ms) a b n some p q = follows_then (λ c. fold (join_member cond) c (m ∷ ms)) (register cond (callback.Build cond)) a b n p q

pub sum_alike : (f g : EventId → ℕ) (ms : List EventId) → ((m : EventId) → f m ≡ g m) → sum_by f ms ≡ sum_by g ms
sum_alike f g ms same = omega (arith, sum_less f g (λ m. omega (arith, same m)) ms, sum_less g f (λ m. omega (arith, same m)) ms)
