-- Lists of kept events, as one event changes, comes or goes.
use Rattle.std.proofs.Common.{◌≡◌, ◌+◌, ◌<◌, Bool, true, false, List, [], ◌∷◌, ◌++◌, length, get_or, set, Option, Some, None, is_some, IsSome, IsTrue, cond, refl, sym, ap, ◌∙◌, inl, inr, arith, not, ◌||◌}
use Rattle.std.proofs.lemmas.Bool.{cases_eq, cases_lt, false≢true, lt-ltb}
use Rattle.std.proofs.lemmas.List.{get_or-set_same, get_or-set_other, get_or_append_left, get_or_push, get_or_past, length_push, set-set, set-get_or}
use Rattle.std.proofs.lemmas.List.Sums.{sum_by-set}
use Rattle.sim_types.specs.declared.event.EventId.{EventId}
use Rattle.sim_happen_model.specs.TableOf.{Kept, kept_at, kept_or_new, IsKept, IsInOrder, AreInOrder, is_needed, is_settled, kept_count}
use Rattle.sim_happen_model.specs.Changes.{change_kept, change_or_forget, some_if_needed}

pub kept_within : (events : List (Option Kept)) (e : EventId) → IsKept events e → e.0 < length events
kept_within events e kept =
    elim (cases_lt e.0 (length events)) [
      | inl here ↦ here
      | inr past ↦ absurd (false≢true (rw (get_or_past events e.0 None past) at kept))
    ]

-- an event that is kept is what it is read as
pub kept_is : (events : List (Option Kept)) (e : EventId) → IsKept events e → get_or events e.0 None ≡ Some (kept_at events e)
kept_is events e kept = go (get_or events e.0 None) kept
  where
    go : (o : Option Kept) → IsSome o → o ≡ Some (kept_or_new o)
    go None h = absurd (false≢true h)
    go (Some k) h = refl

module _ (events : List (Option Kept)) (e : EventId) (change : Kept → Kept) (kept : IsKept events e) where
  now_kept : get_or (change_kept e change events) e.0 None ≡ Some (change (kept_at events e))
  now_kept = get_or-set_same events e.0 (Some (change (kept_at events e))) None (kept_within events e kept)

  pub still_kept : IsKept (change_kept e change events) e
  still_kept = rw now_kept refl

  pub kept_changed : kept_at (change_kept e change events) e ≡ change (kept_at events e)
  kept_changed = ap kept_or_new now_kept

  pub count_changed : kept_count (change_kept e change events) ≡ kept_count events
  count_changed =
      let counts = sum_by-set (λ (o : Option Kept). cond (is_some o) 1 0) events e.0 (Some (change (kept_at events e))) None (kept_within events e kept) in
      omega (arith, rw kept at counts)

  -- a change, and then it goes where it is not to be kept
  pub forgotten_changed : (mid new : List (Option Kept)) → mid ≡ change_kept e change events → new ≡ change_or_forget e (λ k. k) mid
      → new ≡ change_or_forget e change events
  forgotten_changed mid new is forgets =
      forgets ∙ ap (λ es. change_or_forget e (λ k. k) es) is
      ∙ ap (λ k. set (change_kept e change events) e.0 (some_if_needed k)) kept_changed
      ∙ set-set events e.0 (Some (change (kept_at events e))) (some_if_needed (change (kept_at events e)))

-- one change, and then another
pub changed_twice : (events : List (Option Kept)) (e : EventId) (first then : Kept → Kept) → IsKept events e
    → change_kept e (λ k. then (first k)) events ≡ change_kept e then (change_kept e first events)
changed_twice events e first then kept =
    ap (λ k. set events e.0 (Some (then k))) (sym (kept_changed events e first kept))
    ∙ sym (set-set events e.0 (Some (first (kept_at events e))) (Some (then (kept_at (change_kept e first events) e))))

-- an event that is to be kept stays as it is
pub forgotten_needed : (events : List (Option Kept)) (e : EventId) → IsKept events e → is_needed (kept_at events e) ≡ true
    → events ≡ change_or_forget e (λ k. k) events
forgotten_needed events e kept needed =
    rw needed (sym (ap (λ (o : Option Kept). set events e.0 o) (sym (kept_is events e kept)) ∙ set-get_or events e.0 None))

-- one that is not is taken out
pub forgotten_unneeded : (events : List (Option Kept)) (e : EventId) → is_needed (kept_at events e) ≡ false
    → set events e.0 None ≡ change_or_forget e (λ k. k) events
forgotten_unneeded events e needed = rw needed refl

pub count_forgotten : (events : List (Option Kept)) (e : EventId) → IsKept events e → kept_count (set events e.0 None) + 1 ≡ kept_count events
count_forgotten events e kept =
    let counts = sum_by-set (λ (o : Option Kept). cond (is_some o) 1 0) events e.0 None None (kept_within events e kept) in
    omega (arith, rw kept at counts)

-- ---- what is kept is in order

module _ (events : List (Option Kept)) (e : EventId) (now : Option Kept) (ordered : AreInOrder events) where
  -- the event of one number is now this
  ordered_set : IsKept events e → (IsSome now → IsInOrder (kept_or_new now)) → AreInOrder (set events e.0 now)
  ordered_set kept here = λ f there. elim (cases_eq f.0 e.0) [
    | inl same ↦
        let is : get_or (set events e.0 now) f.0 None ≡ now = ap (λ n. get_or (set events e.0 now) n None) same ∙ get_or-set_same events e.0 now None (kept_within events e kept) in
        rw is (here (rw is at there))
    | inr apart ↦
        let is : get_or (set events e.0 now) f.0 None ≡ get_or events f.0 None = get_or-set_other events e.0 f.0 now None apart in
        rw is (ordered f (rw is at there))
  ]

pub ordered_changed : (events : List (Option Kept)) (e : EventId) (change : Kept → Kept) → AreInOrder events → IsKept events e
    → IsInOrder (change (kept_at events e)) → AreInOrder (change_kept e change events)
ordered_changed events e change ordered kept here = ordered_set events e (Some (change (kept_at events e))) ordered kept (λ h. here)

pub ordered_forgotten : (events : List (Option Kept)) (e : EventId) (change : Kept → Kept) → AreInOrder events → IsKept events e
    → IsTrue (is_settled (change (kept_at events e))) → AreInOrder (change_or_forget e change events)
ordered_forgotten events e change ordered kept settled =
    let k = change (kept_at events e) in
    ordered_set events e (some_if_needed k) ordered kept (go (is_needed k) refl)
  where
    go : (b : Bool) → is_needed (change (kept_at events e)) ≡ b → IsSome (cond b (Some (change (kept_at events e))) None)
        → IsInOrder (kept_or_new (cond b (Some (change (kept_at events e))) None))
    go true is h = (is, settled)
    go false is h = absurd (false≢true h)

pub ordered_made : (events : List (Option Kept)) (k : Kept) → AreInOrder events → IsInOrder k → AreInOrder (events ++ Some k ∷ [])
ordered_made events k ordered here = λ f there. elim (cases_lt f.0 (length events)) [
  | inl earlier ↦
      let is : get_or (events ++ Some k ∷ []) f.0 None ≡ get_or events f.0 None = get_or_append_left events (Some k ∷ []) None f.0 earlier in
      rw is (ordered f (rw is at there))
  | inr past ↦ elim (cases_eq f.0 (length events)) [
    | inl last ↦
        let is : get_or (events ++ Some k ∷ []) f.0 None ≡ Some k = get_or_push events (Some k) None f.0 (sym last) in
        rw is here
    | inr further ↦ absurd (false≢true (rw (get_or_past (events ++ Some k ∷ []) f.0 None (omega (arith, length_push events (Some k)))) at there))
  ]
]

-- an event that is held is to be kept
pub held_needed : (k : Kept) → 0 < k.holders → IsTrue (is_needed k)
held_needed k h = rw (lt-ltb 0 k.holders h) (go (not (k.event.processed || k.event.cancelled)))
  where
    go : (b : Bool) → b || true ≡ true
    go true = refl
    go false = refl
