-- Where the accounts are right, just those events are kept that the machine calls kept.
use Rattle.std.proofs.Common.{◌≡◌, ◌≢◌, ℕ, ◌+◌, ◌<◌, ◌≤◌, Bool, true, false, ◌||◌, not, List, [], ◌∷◌, drop, length, refl, sym, ap, subst, ◌∙◌, arith, ⊎_elim, zero, suc, Option, Some, None, get_or, if◌then◌else◌}
use Rattle.std.specs.Prelude.{is_some, IsSome, nat_lt, slice_index_or, All}
use Rattle.std.specs.List.{list_any}
use Rattle.std.proofs.lemmas.Bool.{both_ways, cases_eq, false≢true, ne_eqb, or_cases, not-true, ltb-true}
use Rattle.std.proofs.lemmas.List.Sums.{sum_by-cons}
use Rattle.std.proofs.lemmas.List.Elements.{All-head, All-tail}
use Rattle.std.proofs.lemmas.List.{drop_more}
use Rattle.sim_types.specs.declared.event.EventId.{EventId}
use Rattle.sim_machine.specs.State.{EventOf, Calendar, State}
use Rattle.sim_machine.specs.Events.{is_same}
use Rattle.sim_machine.specs.Conditions.{condition_of, members_of}
use Rattle.sim_machine.specs.Standing.{one_if}
use Rattle.sim_machine.specs.KeptEvents.{is_closed, is_kept_alone, is_member_of_any, kept_below, kept_events, is_kept}
use Rattle.sim_machine.specs.Tellings.{Telling}
use Rattle.sim_machine_law.proofs.Events.EventLaws.{same_event, is_same-yes, is_same-self}
use Rattle.sim_machine_law.proofs.Events.CallbackLaws.{count_by-cons}
use Rattle.sim_lawful.proofs.Reached.KeptReasons.{or_first, or_second}
use Rattle.sim_happen_model.specs.TableOf.{Kept, IsKept, kept_at, kept_or_new, kept_count}
use Rattle.sim_happen_model.specs.HappenOf.{HappenOf}
use Rattle.sim_happen_model.specs.Shows.{Shows}
use Rattle.sim_happen_model.specs.Holders.{members_in, member_count, memberships}
use Rattle.sim_happen_law.proofs.Shown.KeptPlaces.{kept_made}
use Rattle.sim_happen_law.proofs.Changes.Soundness.{past_is}
use Rattle.sim_happen_law.proofs.Changes.Shutting.{kept_if_held}
use Rattle.sim_happen_model.specs.Naming.{held_alone}
use Rattle.sim_happen_model.specs.Accounts.{Accounts}
use Rattle.sim_accounts.proofs.Counts.{one_pos, count_any, any_count}
use Rattle.sim_accounts.proofs.NamedEvents.{alone_if_held, alone_if_open, held_if_alone}

-- ---- members of conditions that are kept

-- where e is a member of what is kept, some condition is kept that has it as a member
record FoundCondition (e : EventId) (es : List (Option Kept)) : Type 0 where
  number : ℕ
  kept : IsSome (get_or es number None)
  member : list_any (is_same e) (members_in (kept_or_new (get_or es number None))) ≡ true

later_condition : (e : EventId) (o : Option Kept) (es : List (Option Kept)) → FoundCondition e es → FoundCondition e (o ∷ es)
later_condition e o es f = record { number = suc f.number; kept = f.kept; member = f.member }

condition_found : (e : EventId) (es : List (Option Kept)) → 0 < memberships es e → FoundCondition e es
condition_found e [] h = absurd (omega (arith, h))
condition_found e (o ∷ es) h =
    ⊎_elim (λ here. first_found o here) (λ later. later_condition e o es (condition_found e es later))
    (one_pos (member_count e o) (memberships es e) (omega (arith, h, sum_by-cons (member_count e) o es)))
  where
    first_found : (o : Option Kept) → 0 < member_count e o → FoundCondition e (o ∷ es)
    first_found None h = absurd (omega (arith, h))
    first_found (Some k) h = record { number = 0; kept = refl; member = count_any (is_same e) (members_in k) h }

found_counts : (e : EventId) (es : List (Option Kept)) (n : ℕ) → n < length es → list_any (is_same e) (members_in (kept_or_new (get_or es n None))) ≡ true
    → 0 < memberships es e
found_counts e [] n made h = absurd (omega (arith, made))
found_counts e (o ∷ es) zero made h = omega (arith, any_count (is_same e) (members_in (kept_or_new o)) h, sum_by-cons (member_count e) o es)
found_counts e (o ∷ es) (suc n) made h = omega (arith, found_counts e es n (omega (arith, made)) h, sum_by-cons (member_count e) o es)

-- ---- lists of events

record Passing (p : EventId → Bool) (xs : List EventId) : Type 0 where
  event : EventId
  passes : p event ≡ true
  listed : list_any (is_same event) xs ≡ true

passing : (p : EventId → Bool) (xs : List EventId) → list_any p xs ≡ true → Passing p xs
passing p [] h = absurd (false≢true h)
passing p (x ∷ xs) h =
    ⊎_elim (λ q. record { event = x; passes = q; listed = or_first (is_same x x) (list_any (is_same x) xs) (is_same-self x) })
    (λ q. let r = passing p xs q in record { event = r.event; passes = r.passes; listed = or_second (is_same r.event x) (list_any (is_same r.event) xs) r.listed })
    (or_cases (p x) (list_any p xs) h)

listed_passes : (p : EventId → Bool) (x : EventId) (xs : List EventId) → list_any (is_same x) xs ≡ true → p x ≡ true → list_any p xs ≡ true
listed_passes p x [] h k = absurd (false≢true h)
listed_passes p x (y ∷ xs) h k =
    ⊎_elim (λ q. or_first (p y) (list_any p xs) (subst (λ z. p z ≡ true) (is_same-yes x y q) k)) (λ q. or_second (p y) (list_any p xs) (listed_passes p x xs q k))
    (or_cases (is_same x y) (list_any (is_same x) xs) h)

listed_all : (P : EventId → Type 0) (x : EventId) (xs : List EventId) → All P xs → list_any (is_same x) xs ≡ true → P x
listed_all P x [] h k = absurd (false≢true k)
listed_all P x (y ∷ xs) h k =
    ⊎_elim (λ q. subst P (sym (is_same-yes x y q)) (All-head P y xs h)) (λ q. listed_all P x xs (All-tail P y xs h) q) (or_cases (is_same x y) (list_any (is_same x) xs) k)

-- ---- one event after the other

-- of the events from a number on just those are found that are kept
record Found (n : ℕ) (es : List (Option Kept)) (found : List EventId) : Type 0 where
  all : (f : EventId) → n ≤ f.0 → list_any (is_same f) found ≡ is_some (slice_index_or es f.0 None)
  only : (f : EventId) → list_any (is_same f) found ≡ true → n ≤ f.0
  count : length found ≡ kept_count (drop n es)

same_tests : (a b : Bool) → (a ≡ true → b ≡ true) → (b ≡ true → a ≡ true) → a ≡ b
same_tests true b p q = sym (p refl)
same_tests false true p q = q refl
same_tests false false p q = refl

none_of : (o : Option Kept) → is_some o ≡ false → o ≡ None
none_of None h = refl
none_of (Some k) h = absurd (false≢true (sym h))

by_test : (b : Bool) (P : Type 0) → (b ≡ true → P) → (b ≡ false → P) → P
by_test true P on off = on refl
by_test false P on off = off refl

counted_from : (es : List (Option Kept)) (n : ℕ) → n < length es → kept_count (drop n es) ≡ one_if (is_some (get_or es n None)) + kept_count (drop (n + 1) es)
counted_from es n below = ap kept_count (drop_more es n None below) ∙ count_by-cons is_some (get_or es n None) (drop (n + 1) es)

-- one number further down
found_more : (n : ℕ) (es : List (Option Kept)) (found : List EventId) (b : Bool) → n < length es → b ≡ is_some (get_or es n None) → Found (n + 1) es found
    → Found n es (if b then record { 0 = n } ∷ found else found)
found_more n es found true below is f = record {
  all = λ g from. ⊎_elim
      (λ (same : g.0 ≡ n). let e : EventId = record { 0 = n } in
      or_first (is_same g e) (list_any (is_same g) found) (subst (λ d. is_same d e ≡ true) (sym (same_event g e same)) (is_same-self e)) ∙ (is ∙ ap (λ d. is_some (get_or es d None)) (sym same)))
      (λ (differ : g.0 ≢ n). rw (ne_eqb g.0 n differ) (f.all g (omega (arith, from, differ))))
      (cases_eq g.0 n);
  only = λ g h. ⊎_elim (λ q. omega (arith, ap (λ (d : EventId). d.0) (is_same-yes g (record { 0 = n }) q))) (λ q. omega (arith, f.only g q)) (or_cases (is_same g (record { 0 = n })) (list_any (is_same g) found) h);
  count = omega (arith, f.count, counted_from es n below, ap one_if is);
}
found_more n es found false below is f = record {
  all = λ g from. ⊎_elim
      (λ (same : g.0 ≡ n).
      by_test (list_any (is_same g) found) (list_any (is_same g) found ≡ is_some (get_or es g.0 None)) (λ q. absurd (omega (arith, f.only g q, same))) (λ q. q ∙ (is ∙ ap (λ d. is_some (get_or es d None)) (sym same))))
      (λ (differ : g.0 ≢ n). f.all g (omega (arith, from, differ)))
      (cases_eq g.0 n);
  only = λ g h. omega (arith, f.only g h);
  count = omega (arith, f.count, counted_from es n below, ap one_if is);
}

module _ {B : Type 0} (named : ℕ) (tell : Telling B) (h : HappenOf) (s : State B) (shows : Shows h s.facilities.calendar) (a : Accounts named tell h.events s) where
  abbrev c : Calendar
  c = s.facilities.calendar

  abbrev kept_now : EventId → Bool
  kept_now e = is_some (slice_index_or h.events e.0 None)

  abbrev has_reason : EventId → List EventId → Bool
  has_reason e found = is_kept_alone named tell s e || is_member_of_any c e found

  -- members of what is kept are those that the calendar tells
  members_shown : (e : EventId) → IsKept h.events e → members_in (kept_at h.events e) ≡ members_of c e
  members_shown e kept = ap (λ (x : EventOf). (condition_of x.condition).members) (shows.kept e kept).event

  held_kept : (e : EventId) → 0 < held_alone named tell s e + memberships h.events e → kept_now e ≡ true
  held_kept e pos = kept_if_held (slice_index_or h.events e.0 None) (omega (arith, pos, a.balanced.each e))

  -- what has a reason is kept
  kept_by_reason : (e : EventId) (found : List EventId) → e.0 < length h.events → Found (e.0 + 1) h.events found → has_reason e found ≡ true → kept_now e ≡ true
  kept_by_reason e found made f reason =
      ⊎_elim
      (λ alone. ⊎_elim
      (λ (open_ : is_closed c e ≡ false). by_test (kept_now e) (kept_now e ≡ true) (λ q. q) (λ q. absurd (both_ways (is_closed c e) open_ (a.gone.each e made (none_of (slice_index_or h.events e.0 None) q)))))
      (λ held. held_kept e (omega (arith, held)))
      (held_if_alone named tell s e alone))
      (λ member.
      let r = passing (λ cond. list_any (is_same e) (members_of c cond)) found member in
      let there : IsKept h.events r.event = sym (f.all r.event (f.only r.event r.listed)) ∙ r.listed in
      let within : list_any (is_same e) (members_in (kept_at h.events r.event)) ≡ true = ap (list_any (is_same e)) (members_shown r.event there) ∙ r.passes in
      held_kept e (omega (arith, found_counts e h.events r.event.0 (kept_made h.events r.event there) within)))
      (or_cases (is_kept_alone named tell s e) (is_member_of_any c e found) reason)

  -- and what is kept has one
  reason_for_kept : (e : EventId) (found : List EventId) → Found (e.0 + 1) h.events found → kept_now e ≡ true → has_reason e found ≡ true
  reason_for_kept e found f kept =
      let k : Kept = kept_at h.events e in
      let alone : is_kept_alone named tell s e ≡ true → has_reason e found ≡ true = or_first (is_kept_alone named tell s e) (is_member_of_any c e found) in
      let shut : (k.event.processed || k.event.cancelled) ≡ is_closed c e = ap (λ (x : EventOf). x.processed || x.cancelled) (shows.kept e kept).event in
      ⊎_elim
      (λ open_. alone (alone_if_open named tell s e (sym shut ∙ not-true (k.event.processed || k.event.cancelled) open_)))
      (λ some. ⊎_elim
      (λ held. alone (alone_if_held named tell s e held))
      (λ members.
      let r = condition_found e h.events members in
      let cond : EventId = record { 0 = r.number } in
      let older : e.0 < r.number = listed_all (λ m. m.0 < r.number) e (members_in (kept_at h.events cond)) (a.balanced.older cond) r.member in
      or_second (is_kept_alone named tell s e) (is_member_of_any c e found)
      (listed_passes (λ d. list_any (is_same e) (members_of c d)) cond found (f.all cond (omega (arith, older)) ∙ r.kept) (ap (list_any (is_same e)) (sym (members_shown cond r.kept)) ∙ r.member)))
      (one_pos (held_alone named tell s e) (memberships h.events e) (omega (arith, ltb-true 0 k.holders some, a.balanced.each e))))
      (or_cases (not (k.event.processed || k.event.cancelled)) (nat_lt 0 k.holders) (a.needed e kept))

  found_all : (n : ℕ) (found : List EventId) → n ≤ length h.events → Found n h.events found → Found 0 h.events (kept_below named tell s n found)
  found_all zero found within f = f
  found_all (suc n) found within f =
      let e : EventId = record { 0 = n } in
      let g : Found (n + 1) h.events found = subst (λ m. Found m h.events found) (omega arith) f in
      let below : n < length h.events = omega (arith, within) in
      found_all n (if has_reason e found then e ∷ found else found) (omega (arith, within))
      (found_more n h.events found (has_reason e found) below (same_tests (has_reason e found) (kept_now e) (kept_by_reason e found below g) (reason_for_kept e found g)) g)

  past_end : (xs : List (Option Kept)) → drop (length xs) xs ≡ []
  past_end [] = refl
  past_end (x ∷ xs) = past_end xs

  whole : Found 0 h.events (kept_events named tell s)
  whole =
      let none : Found (length h.events) h.events [] = record {
        all = λ f from. sym (ap is_some (past_is h.events f.0 from));
        only = λ f any. absurd (false≢true any);
        count = sym (ap kept_count (past_end h.events));
      } in
      subst (λ n. Found 0 h.events (kept_below named tell s n [])) shows.made (found_all (length h.events) [] (omega arith) none)

  pub kept_exactly : (e : EventId) → is_kept named tell s e ≡ is_some (slice_index_or h.events e.0 None)
  kept_exactly e = whole.all e (omega arith)

  pub kept_counted : kept_count h.events ≡ length (kept_events named tell s)
  kept_counted = sym whole.count
