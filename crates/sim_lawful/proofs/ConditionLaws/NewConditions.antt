-- A condition that was just made, before its members join it: all else is as it was, and it has older members and does not
-- weigh too much.
use Rattle.std.proofs.Common.{◌≡◌, ◌≢◌, ℕ, ◌+◌, ◌<◌, ◌≤◌, Bool, true, false, ◌&&◌, not, List, [], ◌∷◌, length, Some, refl, sym, ap, subst, ◌∙◌, arith, inl, inr, zero, suc, filter}
use Rattle.std.specs.Prelude.{sum_by, count_by, nat_lt, nat_le}
use Rattle.std.specs.List.{list_all, AllPass}
use Rattle.std.proofs.lemmas.Bool.{and_parts, and_from, both_ways, ltb-true, cases_Bool, cases_eq}
use Rattle.std.proofs.lemmas.Bool.Decides.{nat_tests}
use Rattle.std.proofs.lemmas.List.Sums.{sum_by-cons}
use Rattle.std.proofs.lemmas.List.Elements.{All-head, All-tail}
use Rattle.sim_types.specs.declared.event.EventId.{EventId}
use Rattle.sim_types.specs.declared.event.EventKind.TheVariants as kind
use Rattle.sim_machine.specs.State.{AllOrAny, ConditionOf, EventOf, Registration, Calendar, Control}
use Rattle.sim_machine.specs.Events.{is_same, event_at, is_processed, pending_event, next_event, change_event}
use Rattle.sim_machine.specs.Conditions.{condition_of, members_of, most_weight, weight_within, weight_of, is_too_wide}
use Rattle.sim_machine.specs.Triggering.{make}
use Rattle.sim_machine.specs.Standing.{was_made}
use Rattle.sim_machine.specs.LawfulRegistrations.{awaits_processing}
use Rattle.sim_machine.specs.LawfulConditions.{members_are_older, checks_at, times_member}
use Rattle.sim_machine_law.proofs.Events.EventLaws.{same_event, is_same-yes, change_event-same, change_event-other, change_event-keeps, change_event-length, make-length, make-new, make-keeps}
use Rattle.sim_machine_law.proofs.KeptParts.KeptRegistrationsCalendar.{made_below}
use Rattle.sim_machine_law.proofs.KeptParts.KeptConditions.{older_everywhere, unmade_event}
use Rattle.sim_machine_law.proofs.KeptParts.LawfulBasis.{ConditionsBasis}

-- what a condition of these members is as it is made
abbrev pub fresh : AllOrAny → List EventId → ConditionOf
fresh sort members = record { sort = sort; members = members; count = 0; value = [] }

-- the calendar in which it was made, and no member has joined it
abbrev pub with_fresh : AllOrAny → List EventId → Calendar → Calendar
with_fresh sort members c = change_event (next_event c) (λ x. record x { condition = Some (fresh sort members) }) (make kind.Cond c)

-- ---- the new event, and all others

pub fresh_event : (sort : AllOrAny) (ms : List EventId) (c : Calendar)
    → event_at (with_fresh sort ms c) (next_event c) ≡ record (pending_event kind.Cond) { condition = Some (fresh sort ms) }
fresh_event sort ms c =
    let change : EventOf → EventOf = λ x. record x { condition = Some (fresh sort ms) } in
    change_event-same (next_event c) change (make kind.Cond c) (omega (arith, make-length kind.Cond c)) ∙ ap change (make-new kind.Cond c)

pub fresh_length : (sort : AllOrAny) (ms : List EventId) (c : Calendar) → length (with_fresh sort ms c).events ≡ length c.events + 1
fresh_length sort ms c = change_event-length (next_event c) (λ x. record x { condition = Some (fresh sort ms) }) (make kind.Cond c) ∙ make-length kind.Cond c

-- what does not hang on the kind alone stays at all other events
pub others_stay : {X : Type 0} (part : EventOf → X) (sort : AllOrAny) (ms : List EventId) (c : Calendar) (f : EventId)
    → part (pending_event kind.Cond) ≡ part (pending_event kind.Plain) → f.0 ≢ length c.events
    → part (event_at (with_fresh sort ms c) f) ≡ part (event_at c f)
others_stay part sort ms c f same differ =
    ap part (change_event-other (next_event c) f (λ x. record x { condition = Some (fresh sort ms) }) (make kind.Cond c) differ) ∙ make-keeps part kind.Cond c f same

pub all_processed : (sort : AllOrAny) (ms : List EventId) (c : Calendar) (f : EventId) → is_processed (with_fresh sort ms c) f ≡ is_processed c f
all_processed sort ms c f =
    change_event-keeps (λ x. x.processed) (next_event c) f (λ x. record x { condition = Some (fresh sort ms) }) (make kind.Cond c) (λ x. refl) ∙ make-keeps (λ x. x.processed) kind.Cond c f refl

-- ---- weights

sum_same : {X : Type 0} (f g : X → ℕ) (test : X → Bool) (xs : List X) → ((x : X) → test x ≡ true → f x ≡ g x)
    → list_all test xs ≡ true → sum_by f xs ≡ sum_by g xs
sum_same f g test [] same h = refl
sum_same f g test (x ∷ xs) same h =
    let both = and_parts (test x) (list_all test xs) h in
    omega (arith, sum_by-cons f x xs, sum_by-cons g x xs, same x both.0, sum_same f g test xs same both.1)

-- older events weigh what they weighed
weight_stays : (sort : AllOrAny) (ms : List EventId) (c : Calendar) (k : Control) → ConditionsBasis c k → (n : ℕ) (f : EventId)
    → f.0 < length c.events → weight_within n (with_fresh sort ms c) f ≡ weight_within n c f
weight_stays sort ms c k h zero f made = refl
weight_stays sort ms c k h (suc n) f made =
    let d : Calendar = with_fresh sort ms c in
    let same : members_of d f ≡ members_of c f = others_stay (λ x. (condition_of x.condition).members) sort ms c f refl (λ e. omega (arith, e, made)) in
    let older = and_parts (list_all (λ (m : EventId). nat_lt m.0 f.0) (members_of c f)) (nat_le (weight_within (most_weight + 1) c f) most_weight) (older_everywhere c k f h) in
    let sums : sum_by (weight_within n d) (members_of c f) ≡ sum_by (weight_within n c) (members_of c f) =
    sum_same (weight_within n d) (weight_within n c) (λ (m : EventId). nat_lt m.0 f.0) (members_of c f) (λ m below. weight_stays sort ms c k h n m (omega (arith, made, ltb-true m.0 f.0 below))) older.0 in
    ap (λ (xs : List EventId). 1 + sum_by (weight_within n d) xs) same ∙ ap (λ (w : ℕ). 1 + w) sums

below_most : (n m : ℕ) → nat_lt m n ≡ false → nat_le n m ≡ true
below_most n m h = grind (arith, nat_tests)

older_fresh : (sort : AllOrAny) (ms : List EventId) (c : Calendar) (k : Control) → list_all (was_made c) ms ≡ true
    → is_too_wide ms c ≡ false → ConditionsBasis c k → members_are_older (with_fresh sort ms c) (next_event c) ≡ true
older_fresh sort ms c k made narrow h =
    let d : Calendar = with_fresh sort ms c in
    let e : EventId = next_event c in
    let own : members_of d e ≡ ms = ap (λ (x : EventOf). (condition_of x.condition).members) (fresh_event sort ms c) in
    let sums : sum_by (weight_within most_weight d) ms ≡ sum_by (weight_within most_weight c) ms =
    sum_same (weight_within most_weight d) (weight_within most_weight c) (was_made c) ms (λ m w. weight_stays sort ms c k h most_weight m (made_below c m w)) made in
    let weight : weight_within (most_weight + 1) d e ≡ weight_of ms c = ap (λ (xs : List EventId). 1 + sum_by (weight_within most_weight d) xs) own ∙ ap (λ (w : ℕ). 1 + w) sums in
    and_from (list_all (λ (m : EventId). nat_lt m.0 e.0) (members_of d e)) (nat_le (weight_within (most_weight + 1) d e) most_weight)
    (ap (list_all (λ (m : EventId). nat_lt m.0 e.0)) own ∙ made)
    (ap (λ (w : ℕ). nat_le w most_weight) weight ∙ below_most (weight_of ms c) most_weight narrow)

older_still : (sort : AllOrAny) (ms : List EventId) (c : Calendar) (k : Control) (f : EventId) → ConditionsBasis c k
    → f.0 < length c.events → members_are_older (with_fresh sort ms c) f ≡ true
older_still sort ms c k f h made =
    let d : Calendar = with_fresh sort ms c in
    let same : members_of d f ≡ members_of c f = others_stay (λ x. (condition_of x.condition).members) sort ms c f refl (λ e. omega (arith, e, made)) in
    ap (λ (xs : List EventId). list_all (λ (m : EventId). nat_lt m.0 f.0) xs && nat_le (weight_within (most_weight + 1) d f) most_weight) same
    ∙ (ap (λ (w : ℕ). list_all (λ (m : EventId). nat_lt m.0 f.0) (members_of c f) && nat_le w most_weight) (weight_stays sort ms c k h (most_weight + 1) f made) ∙ older_everywhere c k f h)

pub all_older : (sort : AllOrAny) (ms : List EventId) (c : Calendar) (k : Control) → list_all (was_made c) ms ≡ true
    → is_too_wide ms c ≡ false → ConditionsBasis c k → (f : EventId) → was_made (with_fresh sort ms c) f ≡ true
    → members_are_older (with_fresh sort ms c) f ≡ true
all_older sort ms c k made narrow h f was =
    let d : Calendar = with_fresh sort ms c in
    elim (cases_eq f.0 (length c.events)) [
      | inl same ↦ (let P : EventId → Type 0 = λ g. members_are_older d g ≡ true in
          subst P (same_event (next_event c) f (sym same)) (older_fresh sort ms c k made narrow h))
      | inr differ ↦ older_still sort ms c k f h (omega (arith, differ, made_below d f was, fresh_length sort ms c))
    ]

-- ---- nothing stands at an event that was not made

pub no_member : (c : Calendar) (e : EventId) → length c.events ≤ e.0 → members_of c e ≡ []
no_member c e unmade = ap (λ (x : EventOf). (condition_of x.condition).members) (unmade_event c e unmade)

pub none_registered : (c : Calendar) (e : EventId) (rs : List Registration) → was_made c e ≡ false
    → AllPass (awaits_processing c) rs → filter (λ r. is_same r.event e) rs ≡ []
none_registered c e [] unmade h = refl
none_registered c e (r ∷ rs) unmade h =
    let first : was_made c r.event ≡ true = (and_parts (was_made c r.event) (not (is_processed c r.event)) (All-head (λ q. awaits_processing c q ≡ true) r rs h)).0 in
    elim (cases_Bool (is_same r.event e)) [
      | inl same ↦ absurd (both_ways (was_made c e) unmade (subst (λ f. was_made c f ≡ true) (is_same-yes r.event e same) first))
      | inr differ ↦ rw differ (none_registered c e rs unmade (All-tail (λ q. awaits_processing c q ≡ true) r rs h))
    ]

-- ---- the checks, as they were

pub checks_stay : (sort : AllOrAny) (ms : List EventId) (c : Calendar) (k : Control) (other f : EventId) → ConditionsBasis c k
    → checks_at c k other f ≤ times_member (with_fresh sort ms c) other f
checks_stay sort ms c k other f h =
    elim (cases_eq other.0 (length c.events)) [
      | inl same ↦ omega (arith, h.checks other f, ap (λ (xs : List EventId). count_by (is_same f) xs) (no_member c other (omega (arith, same))))
      | inr differ ↦ omega (arith, h.checks other f, ap (λ (xs : List EventId). count_by (is_same f) xs) (others_stay (λ x. (condition_of x.condition).members) sort ms c other refl differ))
    ]

pub no_checks : (c : Calendar) (k : Control) (f : EventId) → ConditionsBasis c k → checks_at c k (next_event c) f ≡ 0
no_checks c k f h = omega (arith, h.checks (next_event c) f, ap (λ (xs : List EventId). count_by (is_same f) xs) (no_member c (next_event c) (omega arith)))
