-- One place of the events is changed.
use Rattle.std.proofs.Common.{◌≡◌, ◌≢◌, ℕ, ◌+◌, ◌<◌, List, [], ◌∷◌, ◌++◌, length, refl, sym, ap, subst, arith, ⊎_elim, zero, suc, Option, Some, None, get_or}
use Rattle.std.specs.Prelude.{slice_index_or, slice_set, IsSome}
use Rattle.std.specs.List.{sum_by}
use Rattle.std.proofs.lemmas.Bool.{cases_eq}
use Rattle.std.proofs.lemmas.List.{get_or-set_other}
use Rattle.std.proofs.lemmas.Grind.{get_or-set_at}
use Rattle.std.proofs.lemmas.List.Sums.{sum_by-set}
use Rattle.sim_types.specs.declared.event.EventId.{EventId}
use Rattle.sim_machine_law.proofs.Events.EventLaws.{same_event}
use Rattle.sim_happen_model.specs.TableOf.{Kept, IsKept, kept_at, kept_or_new}

-- what is kept was made
pub made_at : (es : List (Option Kept)) (n : ℕ) → IsSome (get_or es n None) → n < length es
made_at [] n h = absurd (cc)
made_at (x ∷ es) zero h = omega arith
made_at (x ∷ es) (suc n) h = omega (arith, made_at es n h)

pub kept_made : (es : List (Option Kept)) (e : EventId) → IsKept es e → e.0 < length es
kept_made es e h = made_at es e.0 h

pub some_is : (o : Option Kept) → IsSome o → o ≡ Some (kept_or_new o)
some_is None h = absurd (cc)
some_is (Some k) h = refl

pub kept_is : (es : List (Option Kept)) (e : EventId) → IsKept es e → slice_index_or es e.0 None ≡ Some (kept_at es e)
kept_is es e h = some_is (slice_index_or es e.0 None) h

pub set_same : (es : List (Option Kept)) (e : EventId) (o : Option Kept) → e.0 < length es → slice_index_or (slice_set es e.0 o) e.0 None ≡ o
set_same es e o made = get_or-set_at es e.0 e.0 o None refl made

pub kept_of_set : (es : List (Option Kept)) (e : EventId) (k : Kept) → e.0 < length es → kept_at (slice_set es e.0 (Some k)) e ≡ k
kept_of_set es e k made = ap kept_or_new (set_same es e (Some k) made)

pub set_other : (es : List (Option Kept)) (e f : EventId) (o : Option Kept) → f.0 ≢ e.0
    → slice_index_or (slice_set es e.0 o) f.0 None ≡ slice_index_or es f.0 None
set_other es e f o differ = get_or-set_other es e.0 f.0 o None differ

-- what holds of the changed place and of all others holds of all
pub at_set : (P : EventId → Option Kept → Type 0) (es : List (Option Kept)) (e : EventId) (o : Option Kept) → e.0 < length es
    → P e o → ((f : EventId) → f.0 ≢ e.0 → P f (slice_index_or es f.0 None))
    → (f : EventId) → P f (slice_index_or (slice_set es e.0 o) f.0 None)
at_set P es e o made here others f =
    ⊎_elim
    (λ (same : f.0 ≡ e.0). subst (λ g. P g (slice_index_or (slice_set es e.0 o) g.0 None)) (sym (same_event f e same)) (subst (P e) (sym (set_same es e o made)) here))
    (λ (differ : f.0 ≢ e.0). subst (P f) (sym (set_other es e f o differ)) (others f differ))
    (cases_eq f.0 e.0)

-- the same where an event more is made
pub at_end : {X : Type 0} (xs : List (Option X)) (o : Option X) → get_or (xs ++ o ∷ []) (length xs) None ≡ o
at_end [] o = refl
at_end (x ∷ xs) o = at_end xs o

pub at_before : {X : Type 0} (xs : List (Option X)) (o : Option X) (n : ℕ) → n ≢ length xs → get_or (xs ++ o ∷ []) n None ≡ get_or xs n None
at_before [] o zero differ = absurd (differ refl)
at_before [] o (suc n) differ = refl
at_before (x ∷ xs) o zero differ = refl
at_before (x ∷ xs) o (suc n) differ = at_before xs o n (λ same. differ (omega (arith, same)))

pub at_more : (P : EventId → Option Kept → Type 0) (es : List (Option Kept)) (o : Option Kept)
    → P (record { 0 = length es }) o → ((f : EventId) → f.0 ≢ length es → P f (slice_index_or es f.0 None))
    → (f : EventId) → P f (slice_index_or (es ++ o ∷ []) f.0 None)
at_more P es o here others f =
    let new : EventId = record { 0 = length es } in
    ⊎_elim
    (λ (same : f.0 ≡ length es). subst (λ g. P g (slice_index_or (es ++ o ∷ []) g.0 None)) (sym (same_event f new same)) (subst (P new) (sym (at_end es o)) here))
    (λ (differ : f.0 ≢ length es). subst (P f) (sym (at_before es o f.0 differ)) (others f differ))
    (cases_eq f.0 (length es))

-- ---- sums

-- a sum once a place of what is kept is changed
pub sum_set : (f : Option Kept → ℕ) (es : List (Option Kept)) (e : EventId) (o : Option Kept) → IsKept es e
    → sum_by f (slice_set es e.0 o) + f (Some (kept_at es e)) ≡ sum_by f es + f o
sum_set f es e o h = subst (λ x. sum_by f (slice_set es e.0 o) + f x ≡ sum_by f es + f o) (kept_is es e h) (sum_by-set f es e.0 o None (kept_made es e h))

pub sum_same : (f : Option Kept → ℕ) (es : List (Option Kept)) (e : EventId) (o : Option Kept) → IsKept es e
    → f o ≡ f (Some (kept_at es e)) → sum_by f (slice_set es e.0 o) ≡ sum_by f es
sum_same f es e o h same = omega (arith, sum_set f es e o h, same)
