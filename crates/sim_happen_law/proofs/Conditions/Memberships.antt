-- Members of what is kept are kept.
use Rattle.std.proofs.Common.{◌≡◌, ℕ, ◌<◌, ◌≤◌, List, [], ◌∷◌, length, ap, arith, zero, suc, Option, None, ◌⊎◌, inl, inr, get_or}
use Rattle.std.specs.Prelude.{slice_index_or, All, count_by}
use Rattle.std.proofs.lemmas.Bool.{cases_lt}
use Rattle.sim_types.specs.declared.event.EventId.{EventId}
use Rattle.sim_machine.specs.Events.{is_same}
use Rattle.sim_machine_law.proofs.Events.EventLaws.{is_same-self}
use Rattle.sim_machine_law.proofs.Events.CallbackLaws.{count_by-cons, counts_one}
use Rattle.sim_happen_model.specs.TableOf.{Kept, IsKept, kept_or_new, kept_condition}
use Rattle.sim_happen_model.specs.Holders.{members_in, member_count, AreOwed}
use Rattle.sim_happen_law.proofs.Changes.Shutting.{kept_if_held}
use Rattle.sim_happen_law.proofs.Changes.Soundness.{one_in, past_is}

counted_in : (ms : List EventId) (k : ℕ) (d : EventId) → k < length ms → 1 ≤ count_by (is_same (get_or ms k d)) ms
counted_in [] k d h = absurd (omega (arith, h))
counted_in (m ∷ ms) zero d h = omega (arith, count_by-cons (is_same m) m ms, counts_one (is_same m m) (is_same-self m))
counted_in (m ∷ ms) (suc k) d h = omega (arith, count_by-cons (is_same (get_or ms k d)) m ms, counted_in ms k d (omega (arith, h)))

no_members : (es : List (Option Kept)) (e : EventId) → length es ≤ e.0 → (kept_condition es e).members ≡ []
no_members es e past = ap (λ o. members_in (kept_or_new o)) (past_is es e.0 past)

member_held : (es : List (Option Kept)) (e : EventId) (k : ℕ) (d : EventId) → k < length (kept_condition es e).members → AreOwed [] es
    → (e.0 < length es) ⊎ (length es ≤ e.0) → IsKept es (get_or (kept_condition es e).members k d)
member_held es e k d within owed (inl made) =
    let m : EventId = get_or (kept_condition es e).members k d in
    kept_if_held (slice_index_or es m.0 None) (omega (arith, owed.each m, one_in (member_count m) es e.0 made, counted_in (kept_condition es e).members k d within))
member_held es e k d within owed (inr past) = absurd (omega (arith, within, ap (λ (ms : List EventId). length ms) (no_members es e past)))

pub members_kept : (es : List (Option Kept)) (e : EventId) → AreOwed [] es → All (IsKept es) (kept_condition es e).members
members_kept es e owed = λ k d within. member_held es e k d within owed (cases_lt e.0 (length es))
