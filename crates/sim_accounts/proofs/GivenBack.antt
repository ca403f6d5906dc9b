-- A holder that is given back leaves the accounts balanced.
use Rattle.std.proofs.Common.{◌≡◌, ◌≢◌, ℕ, ◌+◌, ◌<◌, Bool, true, false, List, [], ◌∷◌, ◌++◌, fold, refl, sym, subst, arith, zero, suc, Option, Some, None}
use Rattle.std.specs.Prelude.{slice_index_or, slice_set, count_by, All}
use Rattle.std.proofs.lemmas.Bool.{ne_eqb}
use Rattle.std.proofs.lemmas.List.Elements.{All-nil, All-head, All-tail, All-weaker}
use Rattle.sim_types.specs.declared.event.EventId.{EventId}
use Rattle.sim_machine.specs.Events.{is_same}
use Rattle.sim_machine_law.proofs.Events.EventLaws.{is_same-self}
use Rattle.sim_machine_law.proofs.Events.CallbackLaws.{count_by-cons, count_by-append, counts_one, counts_none}
use Rattle.sim_happen_model.specs.TableOf.{Kept, IsKept, kept_at, kept_or_new, is_needed}
use Rattle.sim_happen_model.specs.Changes.{without_holder}
use Rattle.sim_happen_model.specs.Holders.{HasOwnHolder, members_in, member_count, memberships, unheld_within, unheld}
use Rattle.sim_happen_law.proofs.Shown.KeptPlaces.{kept_made, at_set, sum_set}
use Rattle.sim_happen_law.proofs.Changes.Soundness.{memberships_set}
use Rattle.sim_happen_law.proofs.Changes.Shutting.{kept_if_held, unneeded_is, by_need}
use Rattle.sim_happen_model.specs.Accounts.{Balanced}

-- an event of which a holder is to be given back is kept
pub owed_kept : (alone : EventId → ℕ) (e : EventId) (todo : List EventId) (es : List (Option Kept)) → Balanced alone (e ∷ todo) es → IsKept es e
owed_kept alone e todo es b =
    kept_if_held (slice_index_or es e.0 None) (omega (arith, b.each e, count_by-cons (is_same e) e todo, counts_one (is_same e e) (is_same-self e)))

-- and that one is no condition
pub owed_own : (alone : EventId → ℕ) (e : EventId) (todo : List EventId) (es : List (Option Kept)) → Balanced alone (e ∷ todo) es → HasOwnHolder es e
owed_own alone e todo es b = omega (arith, b.each e, count_by-cons (is_same e) e todo, counts_one (is_same e e) (is_same-self e))

-- and so is one that is held, or of which a holder is to be given back
pub held_kept : (alone : EventId → ℕ) (e : EventId) (todo : List EventId) (es : List (Option Kept)) → Balanced alone todo es
    → 0 < alone e + count_by (is_same e) todo → IsKept es e
held_kept alone e todo es b h = kept_if_held (slice_index_or es e.0 None) (omega (arith, b.each e, h))

-- how often another event stands in a list with one more in front
pub other_counts : (e f : EventId) (todo : List EventId) → f.0 ≢ e.0 → count_by (is_same f) (e ∷ todo) ≡ count_by (is_same f) todo
other_counts e f todo differ = omega (arith, count_by-cons (is_same f) e todo, counts_none (is_same f e) (ne_eqb f.0 e.0 differ))

pub same_counts : (e : EventId) (todo : List EventId) → count_by (is_same e) (e ∷ todo) ≡ count_by (is_same e) todo + 1
same_counts e todo = omega (arith, count_by-cons (is_same e) e todo, counts_one (is_same e e) (is_same-self e))

-- members of what is kept then were members before
abbrev IsOlder : EventId → Option Kept → Type 0
IsOlder e o = All (λ m. m.0 < e.0) (members_in (kept_or_new o))

-- ---- it stays, with one holder fewer

stays : (alone : EventId → ℕ) (e : EventId) (todo : List EventId) (es : List (Option Kept)) → Balanced alone (e ∷ todo) es
    → Balanced alone todo (slice_set es e.0 (Some (without_holder (kept_at es e))))
stays alone e todo es b =
    let kept : IsKept es e = owed_kept alone e todo es b in
    let made : e.0 < _ = kept_made es e kept in
    let j : Kept = without_holder (kept_at es e) in
    let P : EventId → Option Kept → Type 0 = λ f o. (kept_or_new o).holders ≡ alone f + memberships es f + count_by (is_same f) todo in
    record {
      each = λ f. omega (
        arith,
        memberships_set es e f j kept refl,
        at_set P es e (Some j) made (omega (arith, b.each e, same_counts e todo)) (λ g differ. omega (arith, b.each g, other_counts e g todo differ)) f,
      );
      older = at_set IsOlder es e (Some j) made (b.older e) (λ g differ. b.older g);
    }

-- ---- it goes, and its members are to be given back

memberships_gone : (es : List (Option Kept)) (e f : EventId) → IsKept es e
    → memberships (slice_set es e.0 None) f + count_by (is_same f) (members_in (kept_at es e)) ≡ memberships es f
memberships_gone es e f kept = omega (arith, sum_set (member_count f) es e None kept)

goes : (alone : EventId → ℕ) (e : EventId) (todo : List EventId) (es : List (Option Kept)) → (without_holder (kept_at es e)).holders ≡ 0
    → Balanced alone (e ∷ todo) es → Balanced alone (members_in (kept_at es e) ++ todo) (slice_set es e.0 None)
goes alone e todo es last b =
    let kept : IsKept es e = owed_kept alone e todo es b in
    let made : e.0 < _ = kept_made es e kept in
    let ms : List EventId = members_in (kept_at es e) in
    let P : EventId → Option Kept → Type 0 = λ f o. (kept_or_new o).holders ≡ alone f + memberships es f + count_by (is_same f) todo in
    record {
      each = λ f. omega (
        arith,
        memberships_gone es e f kept,
        count_by-append (is_same f) ms todo,
        at_set P es e None made (omega (arith, b.each e, last, same_counts e todo)) (λ g differ. omega (arith, b.each g, other_counts e g todo differ)) f,
      );
      older = at_set IsOlder es e None made (All-nil (λ m. m.0 < e.0)) (λ g differ. b.older g);
    }

-- ---- and so on through what it held

-- what stays true where an event that is kept has a holder fewer, or goes once it is not to be kept
pub record StaysTrue (P : List (Option Kept) → Type 0) : Type 0 where
  pub fewer : (e : EventId) (es : List (Option Kept)) → IsKept es e → P es → P (slice_set es e.0 (Some (without_holder (kept_at es e))))
  pub gone : (e : EventId) (es : List (Option Kept)) → IsKept es e → is_needed (without_holder (kept_at es e)) ≡ false → P es → P (slice_set es e.0 None)

-- the accounts balance, and this holds besides
pub record BalancedWith (P : List (Option Kept) → Type 0) (alone : EventId → ℕ) (todo : List EventId) (es : List (Option Kept)) : Type 0 where
  pub balanced : Balanced alone todo es
  pub besides : P es

module _ (P : List (Option Kept) → Type 0) (stays_true : StaysTrue P) (alone : EventId → ℕ) where
  abbrev With : List EventId → List (Option Kept) → Type 0
  With todo es = BalancedWith P alone todo es

  abbrev GivesBack : ℕ → Type 0
  GivesBack depth = (e : EventId) (todo : List EventId) (es : List (Option Kept)) → e.0 < depth → With (e ∷ todo) es → With todo (unheld_within depth e es)

  module _ (depth : ℕ) (back : GivesBack depth) where
    all_back : (ms todo : List EventId) (es : List (Option Kept)) → All (λ m. m.0 < depth) ms → With (ms ++ todo) es
        → With todo (fold (λ fs m. unheld_within depth m fs) es ms)
    all_back [] todo es small b = b
    all_back (m ∷ ms) todo es small b =
        all_back ms todo (unheld_within depth m es) (All-tail (λ n. n.0 < depth) m ms small) (back m (ms ++ todo) es (All-head (λ n. n.0 < depth) m ms small) b)

    by_needed : (e : EventId) (todo : List EventId) (es : List (Option Kept)) (b : Bool) → is_needed (without_holder (kept_at es e)) ≡ b
        → e.0 < suc depth → With (e ∷ todo) es → With todo (unheld_within (suc depth) e es)
    by_needed e todo es true h deep b =
        subst (With todo) (sym (by_need es depth e true h))
        (record { balanced = stays alone e todo es b.balanced; besides = stays_true.fewer e es (owed_kept alone e todo es b.balanced) b.besides })
    by_needed e todo es false h deep b =
        let ms : List EventId = members_in (kept_at es e) in
        let small : All (λ m. m.0 < depth) ms = All-weaker (λ m. m.0 < e.0) (λ m. m.0 < depth) (λ m less. omega (arith, less, deep)) ms (b.balanced.older e) in
        subst (With todo) (sym (by_need es depth e false h))
        (all_back ms todo (slice_set es e.0 None) small
        (record { balanced = goes alone e todo es (unneeded_is (without_holder (kept_at es e)) h).0 b.balanced; besides = stays_true.gone e es (owed_kept alone e todo es b.balanced) h b.besides }))

  given_back : (depth : ℕ) → GivesBack depth
  given_back zero e todo es deep b = absurd (omega (arith, deep))
  given_back (suc depth) e todo es deep b = by_needed depth (given_back depth) e todo es (is_needed (without_holder (kept_at es e))) refl deep b

  pub unheld_with : (e : EventId) (todo : List EventId) (es : List (Option Kept)) → With (e ∷ todo) es → With todo (unheld e es)
  unheld_with e todo es b = given_back (e.0 + 1) e todo es (omega arith) b

-- a holder fewer, and all that goes with it gone: the accounts balance with what is to be given back then
pub unheld_balanced : (alone : EventId → ℕ) (e : EventId) (todo : List EventId) (es : List (Option Kept)) → Balanced alone (e ∷ todo) es
    → Balanced alone todo (unheld e es)
unheld_balanced alone e todo es b =
    (unheld_with (λ fs. fs ≡ fs) (record { fewer = λ f fs kept h. refl; gone = λ f fs kept off h. refl }) alone e todo es (record { balanced = b; besides = refl })).balanced
