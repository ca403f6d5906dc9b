-- What an event is kept for.
use Rattle.std.proofs.Common.{◌≡◌, ℕ, ◌<◌, ◌≤◌, Bool, true, false, ◌||◌, not, length, List, [], ◌∷◌, refl, sym, ap, subst, arith, ◌⊎◌, inl, inr, ⊎_elim, zero, suc, if◌then◌else◌}
use Rattle.std.specs.Prelude.{nat_le}
use Rattle.std.specs.List.{list_any}
use Rattle.std.proofs.lemmas.Bool.{both_ways, or_cases, cases_eq, le-leb}
use Rattle.sim_types.specs.declared.event.EventId.{EventId}
use Rattle.sim_machine.specs.State.{Calendar, State}
use Rattle.sim_machine.specs.Events.{event_at, is_same, is_processed}
use Rattle.sim_machine.specs.Conditions.{members_of}
use Rattle.sim_machine.specs.Tellings.{Telling}
use Rattle.sim_machine.specs.KeptEvents.{is_closed, is_in_process, is_in_body, is_to_be_triggered, is_kept_alone, is_member_of_any, kept_below, is_kept}
use Rattle.sim_machine_law.proofs.Events.EventLaws.{is_same-self, is_same-yes, same_event}
use Rattle.sim_machine_law.proofs.KeptParts.KeptTimesCases.{if_cases}

-- ---- lists

pub or_first : (a b : Bool) → a ≡ true → (a || b) ≡ true
or_first a b h = rw h refl

pub or_second : (a b : Bool) → b ≡ true → (a || b) ≡ true
or_second true b h = refl
or_second false b h = h

pub any_weaker : {X : Type 0} (p q : X → Bool) (xs : List X) → ((x : X) → p x ≡ true → q x ≡ true) → list_any p xs ≡ true → list_any q xs ≡ true
any_weaker p q [] each h = h
any_weaker p q (x ∷ xs) each h =
    ⊎_elim (λ here. or_first (q x) (list_any q xs) (each x here)) (λ later. or_second (q x) (list_any q xs) (any_weaker p q xs each later)) (or_cases (p x) (list_any p xs) h)

first_of_six : (a b c d e f : Bool) → a ≡ true → (a || b || c || d || e || f) ≡ true
first_of_six a b c d e f h = grind arith

second_of_six : (a b c d e f : Bool) → b ≡ true → (a || b || c || d || e || f) ≡ true
second_of_six a b c d e f h = grind arith

third_of_six : (a b c d e f : Bool) → c ≡ true → (a || b || c || d || e || f) ≡ true
third_of_six a b c d e f h = grind arith

fourth_of_six : (a b c d e f : Bool) → d ≡ true → (a || b || c || d || e || f) ≡ true
fourth_of_six a b c d e f h = grind arith

sixth_of_six : (a b c d e f : Bool) → f ≡ true → (a || b || c || d || e || f) ≡ true
sixth_of_six a b c d e f h = grind arith

neither_closes : (a b : Bool) → a ≡ false → b ≡ false → not (a || b) ≡ true
neither_closes a b p q = rw (p, q) refl

fifth_of_six : (a b c d e f : Bool) → e ≡ true → (a || b || c || d || e || f) ≡ true
fifth_of_six a b c d e f h = grind arith

-- ---- one event after the other is judged

-- e is one of these
abbrev IsFound : EventId → List EventId → Type 0
IsFound e found = list_any (is_same e) found ≡ true

module _ {B : Type 0} (named : ℕ) (tell : Telling B) (s : State B) where
  -- whether the event of number n is kept, where these of greater numbers are
  abbrev is_chosen : ℕ → List EventId → Bool
  is_chosen n found = let e : EventId = record { 0 = n } in is_kept_alone named tell s e || is_member_of_any s.facilities.calendar e found

  abbrev chosen : ℕ → List EventId → List EventId
  chosen n found = if is_chosen n found then record { 0 = n } ∷ found else found

  stays_chosen : (n : ℕ) (found : List EventId) (e : EventId) → IsFound e found → IsFound e (chosen n found)
  stays_chosen n found e h =
      if_cases (λ xs. list_any (is_same e) xs ≡ true) (is_chosen n found) (record { 0 = n } ∷ found) found (λ yes. or_second (is_same e (record { 0 = n })) (list_any (is_same e) found) h) (λ no. h)

  is_chosen_now : (n : ℕ) (found : List EventId) → is_chosen n found ≡ true → IsFound (record { 0 = n }) (chosen n found)
  is_chosen_now n found is =
      let e : EventId = record { 0 = n } in
      if_cases (λ xs. list_any (is_same e) xs ≡ true) (is_chosen n found) (e ∷ found) found (λ yes. or_first (is_same e e) (list_any (is_same e) found) (is_same-self e)) (λ no. absurd (both_ways (is_chosen n found) no is))

  stays_kept : (n : ℕ) (found : List EventId) (e : EventId) → IsFound e found → IsFound e (kept_below named tell s n found)
  stays_kept zero found e h = h
  stays_kept (suc n) found e h = stays_kept n (chosen n found) e (stays_chosen n found e h)

  kept_now : (n : ℕ) (found : List EventId) (e : EventId) → e.0 ≡ n → is_kept_alone named tell s e ≡ true → IsFound e (kept_below named tell s (suc n) found)
  kept_now n found e same alone =
      let f : EventId = record { 0 = n } in
      let is : is_chosen n found ≡ true = or_first (is_kept_alone named tell s f) (is_member_of_any s.facilities.calendar f found) (subst (λ x. is_kept_alone named tell s x ≡ true) (same_event e f same) alone) in
      stays_kept n (chosen n found) e (subst (λ x. list_any (is_same x) (chosen n found) ≡ true) (sym (same_event e f same)) (is_chosen_now n found is))

  kept_in_time : (n : ℕ) (found : List EventId) (e : EventId) → e.0 < n → is_kept_alone named tell s e ≡ true → IsFound e (kept_below named tell s n found)
  kept_in_time zero found e below alone = absurd (omega (arith, below))
  kept_in_time (suc n) found e below alone =
      ⊎_elim (λ same. kept_now n found e same alone) (λ differ. kept_in_time n (chosen n found) e (omega (arith, below, differ)) alone) (cases_eq e.0 n)

  -- what was made and is kept for itself is kept
  pub kept_alone : (e : EventId) → e.0 < length s.facilities.calendar.events → is_kept_alone named tell s e ≡ true → is_kept named tell s e ≡ true
  kept_alone e made alone = kept_in_time (length s.facilities.calendar.events) [] e made alone

  -- ---- members

  -- where the condition is found, its member is found or still to be judged
  abbrev IsAwaited : EventId → EventId → ℕ → List EventId → Type 0
  IsAwaited cond m n found = IsFound cond found → (m.0 < n) ⊎ IsFound m found

  abbrev IsMember : EventId → EventId → Type 0
  IsMember cond m = list_any (is_same m) (members_of s.facilities.calendar cond) ≡ true

  abbrev IsOlderMember : EventId → EventId → Type 0
  IsOlderMember cond m = (m.0 < cond.0) × IsMember cond m

  module _ (cond m : EventId) where
    awaits_on : (n : ℕ) (found : List EventId) → IsOlderMember cond m → IsAwaited cond m (suc n) found → IsAwaited cond m n (chosen n found)
    awaits_on n found (older, is) h =
        let e : EventId = record { 0 = n } in
        let c : Calendar = s.facilities.calendar in
        let old : list_any (is_same cond) found ≡ true → (m.0 < n) ⊎ (list_any (is_same m) (chosen n found) ≡ true) = λ there.
        ⊎_elim (λ below. elim (cases_eq m.0 n) [
          | inl same ↦ inr (subst (λ x. list_any (is_same x) (chosen n found) ≡ true) (sym (same_event m e same)) (is_chosen_now n found (or_second (is_kept_alone named tell s e) (is_member_of_any c e found)
              (any_weaker (is_same cond) (λ f. list_any (is_same e) (members_of c f)) found (λ f at. subst (λ x. list_any (is_same x) (members_of c f) ≡ true) (same_event m e same) (subst (λ x. list_any (is_same m) (members_of c x) ≡ true) (is_same-yes cond f at) is)) there))))
          | inr differ ↦ inl (omega (arith, below, differ))
        ]) (λ here. inr (stays_chosen n found m here)) (h there) in
        if_cases (λ xs. list_any (is_same cond) xs ≡ true → (m.0 < n) ⊎ (list_any (is_same m) (chosen n found) ≡ true)) (is_chosen n found) (e ∷ found) found
        (λ yes some. ⊎_elim (λ at. inl (omega (arith, older, ap (λ (x : EventId). x.0) (is_same-yes cond e at)))) old (or_cases (is_same cond e) (list_any (is_same cond) found) some)) (λ no some. old some)

    awaited : (n : ℕ) (found : List EventId) → IsOlderMember cond m → IsAwaited cond m n found → IsAwaited cond m 0 (kept_below named tell s n found)
    awaited zero found is h = h
    awaited (suc n) found is h = awaited n (chosen n found) is (awaits_on n found is h)

  -- a member of a kept condition is kept
  pub kept_member : (cond m : EventId) → m.0 < cond.0 → IsMember cond m → is_kept named tell s cond ≡ true → is_kept named tell s m ≡ true
  kept_member cond m older is kept =
      ⊎_elim (λ below. absurd (omega (arith, below))) (λ here. here) (awaited cond m (length s.facilities.calendar.events) [] (older, is) (λ none. absurd (both_ways false refl none)) kept)

-- ---- the reasons

module _ {B : Type 0} (named : ℕ) (tell : Telling B) (s : State B) (e : EventId) (made : e.0 < length s.facilities.calendar.events) where
  abbrev is_open : Bool
  is_open = not (is_closed s.facilities.calendar e)

  abbrev has_name : Bool
  has_name = nat_le e.0 named

  abbrev in_process : Bool
  in_process = is_in_process s.control e

  abbrev in_body : Bool
  in_body = list_any (is_in_body tell e) s.processes

  abbrev in_scope : Bool
  in_scope = list_any (λ x. is_same x.request e) s.scopes

  abbrev is_awaited : Bool
  is_awaited = is_to_be_triggered e s

  pub kept_open : is_processed s.facilities.calendar e ≡ false → (event_at s.facilities.calendar e).cancelled ≡ false → is_kept named tell s e ≡ true
  kept_open unprocessed uncancelled =
      kept_alone named tell s e made (first_of_six is_open has_name in_process in_body in_scope is_awaited (neither_closes (is_processed s.facilities.calendar e) (event_at s.facilities.calendar e).cancelled unprocessed uncancelled))

  pub kept_named : e.0 ≤ named → is_kept named tell s e ≡ true
  kept_named few = kept_alone named tell s e made (second_of_six is_open has_name in_process in_body in_scope is_awaited (le-leb e.0 named few))

  pub kept_in_process : is_in_process s.control e ≡ true → is_kept named tell s e ≡ true
  kept_in_process is = kept_alone named tell s e made (third_of_six is_open has_name in_process in_body in_scope is_awaited is)

  pub kept_in_body : list_any (is_in_body tell e) s.processes ≡ true → is_kept named tell s e ≡ true
  kept_in_body is = kept_alone named tell s e made (fourth_of_six is_open has_name in_process in_body in_scope is_awaited is)

  pub kept_in_scope : list_any (λ x. is_same x.request e) s.scopes ≡ true → is_kept named tell s e ≡ true
  kept_in_scope is = kept_alone named tell s e made (fifth_of_six is_open has_name in_process in_body in_scope is_awaited is)

  pub kept_triggered : is_to_be_triggered e s ≡ true → is_kept named tell s e ≡ true
  kept_triggered is = kept_alone named tell s e made (sixth_of_six is_open has_name in_process in_body in_scope is_awaited is)
