-- Events get a holder more, one after the other.
use Rattle.std.proofs.Common.{◌≡◌, ℕ, ◌+◌, ◌<◌, ◌≤◌, ◌^◌, List, [], ◌∷◌, ◌++◌, length, take, refl, sym, ap, subst, ◌∙◌, arith, Option, Some}
use Rattle.std.specs.Prelude.{slice_index_or, IsSome, All, count_by}
use Rattle.std.proofs.lemmas.Bool.{ne_eqb}
use Rattle.std.proofs.Math.ListN.{length-set}
use Rattle.std.proofs.lemmas.List.{take_more, take_all}
use Rattle.std.proofs.lemmas.List.Sums.{fold_push}
use Rattle.sim_types.specs.declared.event.EventId.{EventId}
use Rattle.sim_machine.specs.Events.{is_same}
use Rattle.sim_machine_law.proofs.Events.EventLaws.{is_same-self}
use Rattle.sim_machine_law.proofs.Events.CallbackLaws.{count_by-append, count_by-one, counts_one, counts_none}
use Rattle.sim_happen_model.specs.TableOf.{Kept, IsKept, kept_at, kept_or_new}
use Rattle.sim_happen_model.specs.Changes.{change_kept, with_holder}
use Rattle.sim_happen_model.specs.HappenOf.{HappenOf, held, AreHeldByFew, one_more, one_more_each}
use Rattle.sim_happen_model.specs.Holders.{members_in, memberships, AreOwed}
use Rattle.sim_happen_model.specs.Shows.{Turns}
use Rattle.sim_happen_model.specs.Sound.{weight_in}
use Rattle.sim_happen_law.proofs.Shown.KeptPlaces.{kept_made, at_set}
use Rattle.sim_happen_law.proofs.Changes.Soundness.{members_at, memberships_set}
use Rattle.sim_happen_law.proofs.Changes.Following.{turns_then}
use Rattle.sim_happen_law.proofs.Conditions.Weights.{weight_same}

-- a holder more is owed to whom it is for
owed_held : (todo : List EventId) (es : List (Option Kept)) (m : EventId) → IsKept es m → AreOwed todo es
    → AreOwed (todo ++ m ∷ []) (change_kept m with_holder es)
owed_held todo es m kept owed =
    let k : Kept = with_holder (kept_at es m) in
    let P : EventId → Option Kept → Type 0 = λ f o. memberships es f + count_by (is_same f) (todo ++ m ∷ []) ≤ (kept_or_new o).holders in
    record {
      each = λ f.
          let same = memberships_set es m f k kept refl in
          let less = at_set P es m (Some k) (kept_made es m kept)
          (omega (arith, owed.each m, count_by-append (is_same m) todo (m ∷ []), count_by-one (is_same m) m, counts_one (is_same m m) (is_same-self m)))
          (λ g differ. omega (arith, owed.each g, count_by-append (is_same g) todo (m ∷ []), count_by-one (is_same g) m, counts_none (is_same g m) (ne_eqb g.0 m.0 differ))) f in
          omega (arith, same, less);
    }

members_held : (es : List (Option Kept)) (m f : EventId) → IsKept es m → members_at (change_kept m with_holder es) f ≡ members_at es f
members_held es m f kept =
    let P : EventId → Option Kept → Type 0 = λ g o. members_in (kept_or_new o) ≡ members_at es g in
    at_set P es m (Some (with_holder (kept_at es m))) (kept_made es m kept) refl (λ g differ. refl) f

few_held : (es : List (Option Kept)) (m f : EventId) → IsKept es m → (kept_at (change_kept m with_holder es) f).holders ≤ (kept_at es f).holders + 1
few_held es m f kept =
    let P : EventId → Option Kept → Type 0 = λ g o. (kept_or_new o).holders ≤ (kept_at es g).holders + 1 in
    at_set P es m (Some (with_holder (kept_at es m))) (kept_made es m kept) (omega arith) (λ g differ. omega arith) f

still_kept : (es : List (Option Kept)) (m f : EventId) → IsKept es m → IsKept es f → IsKept (change_kept m with_holder es) f
still_kept es m f kept here =
    let P : EventId → Option Kept → Type 0 = λ g o. IsKept es g → IsSome o in
    at_set P es m (Some (with_holder (kept_at es m))) (kept_made es m kept) (λ k. refl) (λ g differ k. k) f here

-- so many have a holder more
pub record HeldUpTo (ms : List EventId) (i : ℕ) (old now : HappenOf) : Type 0 where
  pub turns : Turns (λ c. c) (one_more_each (take i ms)) old now
  pub owed : AreOwed (take i ms) now.events
  pub weights : (depth : ℕ) (e : EventId) → weight_in depth now.events e ≡ weight_in depth old.events e
  pub few : (e : EventId) → (kept_at now.events e).holders ≤ (kept_at old.events e).holders + i
  pub kept : (e : EventId) → IsKept old.events e → IsKept now.events e
  pub made : length now.events ≡ length old.events
  pub spare : now.spare ≡ old.spare

pub held_none : (ms : List EventId) (old : HappenOf) → AreOwed [] old.events → HeldUpTo ms 0 old old
held_none ms old owed = record {
  turns = record { each = λ c s. s; held = refl; left = refl };
  owed = owed;
  weights = λ d e. refl;
  few = λ e. omega arith;
  kept = λ e k. k;
  made = refl;
  spare = refl;
}

pub held_next : (ms : List EventId) (i : ℕ) (d : EventId) (old now new : HappenOf) → i < length ms → All (IsKept old.events) ms → HeldUpTo ms i old now
    → Turns (λ c. c) (one_more (slice_index_or ms i d)) now new → new.events ≡ change_kept (slice_index_or ms i d) with_holder now.events
    → new.spare ≡ now.spare
    → HeldUpTo ms (i + 1) old new
held_next ms i d old now new within all h t is spare =
    let m : EventId = slice_index_or ms i d in
    let done : List EventId = take i ms in
    let next : take (i + 1) ms ≡ done ++ m ∷ [] = take_more ms i d within in
    let kept : IsKept now.events m = h.kept m (all i d within) in
    let both : Turns (λ c. c) (λ hs. one_more m (one_more_each done hs)) old new = turns_then (λ c. c) (λ c. c) (one_more_each done) (one_more m) old now new h.turns t in
    record {
      turns = record {
        each = both.each;
        held = both.held ∙ sym (ap (λ xs. one_more_each xs (held old)) next ∙ fold_push (λ gs e. one_more e gs) (held old) done m);
        left = both.left;
      };
      owed = subst (λ xs. AreOwed xs new.events) (sym next) (subst (AreOwed (done ++ m ∷ [])) (sym is) (owed_held done now.events m kept h.owed));
      weights = λ depth e. subst (λ es. weight_in depth es e ≡ weight_in depth old.events e) (sym is)
          (weight_same now.events (change_kept m with_holder now.events) (λ f. members_held now.events m f kept) depth e ∙ h.weights depth e);
      few = λ e. subst (λ es. (kept_at es e).holders ≤ (kept_at old.events e).holders + (i + 1)) (sym is) (omega (arith, few_held now.events m e kept, h.few e));
      kept = λ e k. subst (λ es. IsKept es e) (sym is) (still_kept now.events m e kept (h.kept e k));
      made = ap (λ (es : List (Option Kept)). length es) is ∙ (length-set now.events m.0 (Some (with_holder (kept_at now.events m))) ∙ h.made);
      spare = spare ∙ h.spare;
    }

pub few_enough : (ms : List EventId) (i : ℕ) (e : EventId) (old now : HappenOf) → i ≤ 16 → AreHeldByFew old.events → HeldUpTo ms i old now
    → (kept_at now.events e).holders < 2 ^ 61
few_enough ms i e old now small few h = omega (arith, small, few e, h.few e)

pub held_all : (ms : List EventId) (i : ℕ) (old now : HappenOf) → length ms ≤ i → HeldUpTo ms i old now
    → Turns (λ c. c) (one_more_each ms) old now × AreOwed ms now.events
held_all ms i old now whole h =
    let all : take i ms ≡ ms = take_all i ms whole in
    (subst (λ xs. Turns (λ c. c) (one_more_each xs) old now) all h.turns, subst (λ xs. AreOwed xs now.events) all h.owed)
