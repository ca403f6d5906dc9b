-- A condition is made.
use Rattle.std.proofs.Common.{◌≡◌, ◌≢◌, ℕ, ◌+◌, ◌<◌, ◌≤◌, ◌^◌, List, [], ◌∷◌, ◌++◌, length, refl, sym, ap, subst, ◌∙◌, arith, zero, suc, Option, Some, None, ◌⊎◌, inl, inr, ⊎_elim}
use Rattle.std.specs.Prelude.{slice_index_or, slice_set, IsSome, All, count_by}
use Rattle.std.specs.List.{sum_by}
use Rattle.std.proofs.lemmas.Bool.{cases_eq}
use Rattle.sim_types.specs.declared.event.EventId.{EventId}
use Rattle.sim_types.specs.declared.event.EventKind.TheVariants as kind
use Rattle.sim_machine.specs.State.{AllOrAny, EventOf, Calendar}
use Rattle.sim_machine.specs.Events.{pending_event, next_event, is_same}
use Rattle.sim_machine.specs.Triggering.{make}
use Rattle.sim_machine.specs.Conditions.{most_weight}
use Rattle.sim_machine_law.proofs.Events.EventLaws.{same_event}
use Rattle.sim_happen_model.specs.TableOf.{Kept, IsKept, kept_at, kept_or_new, new_kept, new_condition, uncounted}
use Rattle.sim_happen_model.specs.HappenOf.{HappenOf, unheld_event}
use Rattle.sim_happen_model.specs.Holders.{members_in, member_count, memberships, AreOwed}
use Rattle.sim_happen_model.specs.Joining.{with_members}
use Rattle.sim_happen_model.specs.Shows.{Shows, Turns}
use Rattle.sim_happen_model.specs.Sound.{weight_in, AreNarrow, kept_one, IsSound}
use Rattle.sim_happen_law.proofs.Shown.KeptPlaces.{at_more, at_before, kept_made}
use Rattle.sim_happen_law.proofs.Changes.Held.{held_made}
use Rattle.sim_happen_law.proofs.Shown.Shown.{shows_made, shows_set, changed_shown, same_but_changed}
use Rattle.sim_happen_law.proofs.Changes.Following.{SameTime, shows_time}
use Rattle.sim_happen_law.proofs.Changes.Soundness.{members_at, sound_more, sum_more, past_is}
use Rattle.sim_happen_law.proofs.Conditions.Memberships.{members_kept}
use Rattle.sim_happen_law.proofs.Conditions.Weights.{sum_on}

-- ---- what is shown

set_last : {X : Type 0} (xs : List X) (x y : X) → slice_set (xs ++ x ∷ []) (length xs) y ≡ xs ++ y ∷ []
set_last [] x y = refl
set_last (z ∷ xs) x y = ap (λ ys. z ∷ ys) (set_last xs x y)

last_kept : (es : List (Option Kept)) (k : Kept) → slice_index_or (es ++ Some k ∷ []) (length es) None ≡ Some k
last_kept [] k = refl
last_kept (x ∷ es) k = last_kept es k

shows_condition : (h n : HappenOf) (c : Calendar) (sort : AllOrAny) (ms : List EventId) → SameTime h n
    → n.events ≡ h.events ++ Some (new_kept (new_condition sort ms)) ∷ [] → Shows h c → Shows n (with_members sort ms (next_event c) c)
shows_condition h n c sort ms t is s =
    let blank : Kept = new_kept (pending_event kind.Cond) in
    let k : Kept = new_kept (new_condition sort ms) in
    let m : HappenOf = record h { events = h.events ++ Some blank ∷ [] } in
    let e : EventId = record { 0 = length h.events } in
    let change : EventOf → EventOf = λ x. record x { condition = Some (uncounted sort ms) } in
    let made : Shows m (make kind.Cond c) = shows_made h m c kind.Cond refl (record { time = s.time; scheduled = s.scheduled; agenda = s.agenda }) s in
    let here : slice_index_or m.events e.0 None ≡ Some blank = last_kept h.events blank in
    let kept : IsKept m.events e = subst IsSome (sym here) refl in
    let is_blank : kept_at m.events e ≡ blank = ap kept_or_new here in
    let u = shows_time h n c t s in
    subst (λ g. Shows n (with_members sort ms g c)) (same_event e (next_event c) s.made)
    (shows_set m n (make kind.Cond c) (with_members sort ms e c) e (Some k) kept (is ∙ sym (set_last h.events (Some blank) (Some k)))
    (λ some. changed_shown m (make kind.Cond c) e change k kept made (ap (λ (j : Kept). change j.event) (sym is_blank)) (ap (λ (j : Kept). j.callbacks) (sym is_blank)))
    (same_but_changed e change (make kind.Cond c)) (record { time = u.time; scheduled = u.scheduled; agenda = u.agenda }) made)

pub turns_condition : (h n : HappenOf) (sort : AllOrAny) (ms : List EventId) → SameTime h n
    → n.events ≡ h.events ++ Some (new_kept (new_condition sort ms)) ∷ []
    → Turns (λ c. with_members sort ms (next_event c) c) unheld_event h n
turns_condition h n sort ms t is = record {
  each = λ c s. shows_condition h n c sort ms t is s;
  held = held_made h n (new_kept (new_condition sort ms)) is refl;
  left = t.left;
}

-- ---- what it weighs

-- before it was made nothing was a condition of its number
members_more : (es : List (Option Kept)) (o : Option Kept) (f : EventId) → f.0 ≢ length es → members_at (es ++ o ∷ []) f ≡ members_at es f
members_more es o f differ = ap (λ x. members_in (kept_or_new x)) (at_before es o f.0 differ)

weight_old : (es : List (Option Kept)) (o : Option Kept) → AreOwed [] es → (d : ℕ) (f : EventId) → IsKept es f → weight_in d (es ++ o ∷ []) f ≡ weight_in d es f
weight_old es o owed zero f kept = refl
weight_old es o owed (suc d) f kept =
    ap (λ ms. 1 + sum_by (weight_in d (es ++ o ∷ [])) ms) (members_more es o f (λ same. omega (arith, same, kept_made es f kept)))
    ∙ ap (λ n. 1 + n) (sum_on (IsKept es) (weight_in d (es ++ o ∷ [])) (weight_in d es) (members_at es f) (members_kept es f owed) (weight_old es o owed d))

weight_gone : (es : List (Option Kept)) (d : ℕ) (f : EventId) → members_at es f ≡ [] → weight_in d es f ≤ 1
weight_gone es zero f none = omega arith
weight_gone es (suc d) f none = subst (λ ms. 1 + sum_by (weight_in d es) ms ≤ 1) (sym none) (omega arith)

kept_or_not : (es : List (Option Kept)) (o : Option Kept) → (IsSome o) ⊎ (members_in (kept_or_new o) ≡ [])
kept_or_not es None = inr refl
kept_or_not es (Some k) = inl refl

narrow_condition : (es : List (Option Kept)) (sort : AllOrAny) (ms : List EventId) → AreOwed [] es → All (IsKept es) ms
    → 1 + sum_by (weight_in most_weight es) ms ≤ most_weight → AreNarrow es → AreNarrow (es ++ Some (new_kept (new_condition sort ms)) ∷ [])
narrow_condition es sort ms owed kept light n =
    let o : Option Kept = Some (new_kept (new_condition sort ms)) in
    let all : List (Option Kept) = es ++ o ∷ [] in
    let new : EventId = record { 0 = length es } in
    let here : members_at all new ≡ ms = ap (λ x. members_in (kept_or_new x)) (last_kept es (new_kept (new_condition sort ms))) in
    record {
      each = λ f. ⊎_elim
          (λ (same : f.0 ≡ length es). subst (λ g. weight_in (most_weight + 1) all g ≤ most_weight) (sym (same_event f new same))
          (subst (λ xs. 1 + sum_by (weight_in most_weight all) xs ≤ most_weight) (sym here)
          (omega (arith, light, sum_on (IsKept es) (weight_in most_weight all) (weight_in most_weight es) ms kept (weight_old es o owed most_weight)))))
          (λ (differ : f.0 ≢ length es). ⊎_elim
          (λ (k : IsKept es f). omega (arith, n.each f, weight_old es o owed (most_weight + 1) f k))
          (λ (none : members_at es f ≡ []). omega (arith, weight_gone all (most_weight + 1) f (members_more es o f differ ∙ none)))
          (kept_or_not es (slice_index_or es f.0 None)))
          (cases_eq f.0 (length es));
    }

-- ---- who holds its members

owed_condition : (es : List (Option Kept)) (sort : AllOrAny) (ms : List EventId) → AreOwed ms es
    → AreOwed [] (es ++ Some (new_kept (new_condition sort ms)) ∷ [])
owed_condition es sort ms owed =
    let k : Kept = new_kept (new_condition sort ms) in
    let P : EventId → Option Kept → Type 0 = λ f o. memberships es f + count_by (is_same f) ms ≤ (kept_or_new o).holders in
    let new : EventId = record { 0 = length es } in
    let none : memberships es new + count_by (is_same new) ms ≤ 0 =
    subst (λ o. memberships es new + count_by (is_same new) ms ≤ (kept_or_new o).holders) (past_is es (length es) (omega arith)) (owed.each new) in
    record { each = λ f. omega (arith, at_more P es (Some k) none (λ g differ. owed.each g) f, sum_more (member_count f) es (Some k)) }

pub sound_condition : (h n : HappenOf) (room : ℕ) (sort : AllOrAny) (ms : List EventId) → SameTime h n
    → n.events ≡ h.events ++ Some (new_kept (new_condition sort ms)) ∷ [] → length h.events < 2 ^ 62 → sum_by kept_one h.events < length h.agenda + room
    → AreOwed ms h.events → All (IsKept h.events) ms → 1 + sum_by (weight_in most_weight h.events) ms ≤ most_weight → IsSound h room → IsSound n room
sound_condition h n room sort ms t is few places owed kept light s =
    sound_more h n room (new_condition sort ms) t is refl refl few places (owed_condition h.events sort ms owed) (narrow_condition h.events sort ms s.members kept light s.narrow) s
