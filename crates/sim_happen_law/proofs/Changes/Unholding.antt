-- Holders are given back one after the other.
use Rattle.std.proofs.Common.{◌≡◌, ℕ, ◌+◌, ◌-◌, ◌<◌, ◌≤◌, false, List, [], length, take, drop, fold, refl, sym, ap, subst, ◌∙◌, arith, zero, suc, Option, None}
use Rattle.std.specs.Prelude.{slice_index_or, slice_set}
use Rattle.std.proofs.lemmas.List.{append-nil, take_more, drop_more, take_all}
use Rattle.std.proofs.lemmas.List.Sums.{fold_push}
use Rattle.sim_types.specs.declared.event.EventId.{EventId}
use Rattle.sim_happen_model.specs.TableOf.{Kept, IsKept, kept_at, is_needed}
use Rattle.sim_happen_model.specs.Changes.{some_if_needed, without_holder}
use Rattle.sim_happen_model.specs.HappenOf.{HappenOf, KeepsRoom}
use Rattle.sim_happen_model.specs.Holders.{members_in, AreOwed, HasOwnHolder, unheld_within}
use Rattle.sim_happen_law.proofs.Changes.Shutting.{own_kept, own_owed, owed_own, owed_goes, owed_unheld, unneeded_is, by_need}

pub room_then : (a b d : HappenOf) → KeepsRoom a b → KeepsRoom b d → KeepsRoom a d
room_then a b d p q = record { events = q.events ∙ p.events; callbacks = omega (arith, p.callbacks, q.callbacks); conditions = omega (arith, p.conditions, q.conditions) }

-- ---- the members of an event that is gone

-- so many of the members have a holder fewer, and the others have one to give back
pub record UnheldUpTo (depth : ℕ) (e : EventId) (ms : List EventId) (i : ℕ) (old now : HappenOf) : Type 0 where
  pub events : now.events ≡ fold (λ es m. unheld_within depth m es) (slice_set old.events e.0 None) (take i ms)
  pub owed : AreOwed (drop i ms) now.events
  pub rest : now ≡ record old { events = now.events; spare = now.spare }
  pub room : KeepsRoom old now
  pub gone : is_needed (without_holder (kept_at old.events e)) ≡ false
  pub members : ms ≡ members_in (kept_at old.events e)

none_needed : (j : Kept) → is_needed j ≡ false → some_if_needed j ≡ None
none_needed j h = rw h refl

pub unheld_start : (depth : ℕ) (e : EventId) (ms : List EventId) (old now : HappenOf) → HasOwnHolder old.events e → AreOwed [] old.events
    → now.events ≡ slice_set old.events e.0 (some_if_needed (without_holder (kept_at old.events e)))
    → now ≡ record old { events = now.events; spare = now.spare }
    → is_needed (without_holder (kept_at old.events e)) ≡ false → ms ≡ members_in (kept_at old.events e) → KeepsRoom old now → UnheldUpTo depth e ms 0 old now
unheld_start depth e ms old now own owed is rest off members room =
    let kept : IsKept old.events e = own_kept old.events e own in
    let gone : now.events ≡ slice_set old.events e.0 None = is ∙ ap (slice_set old.events e.0) (none_needed (without_holder (kept_at old.events e)) off) in
    record {
      events = gone;
      owed = subst (λ ns. AreOwed ns now.events) (sym members) (subst (AreOwed (members_in (kept_at old.events e))) (sym gone)
          (subst (λ ns. AreOwed ns (slice_set old.events e.0 None)) (append-nil (members_in (kept_at old.events e))) (owed_goes [] old.events e kept (unneeded_is (without_holder (kept_at old.events e)) off).0 (owed_own old.events e own owed))));
      rest = rest;
      room = room;
      gone = off;
      members = members;
    }

pub unheld_owns : (depth : ℕ) (e : EventId) (ms : List EventId) (i : ℕ) (d : EventId) (old now : HappenOf) → i < length ms → UnheldUpTo depth e ms i old now
    → HasOwnHolder now.events (slice_index_or ms i d)
unheld_owns depth e ms i d old now within u =
    own_owed now.events (slice_index_or ms i d) (drop (i + 1) ms) (subst (λ ns. AreOwed ns now.events) (drop_more ms i d within) u.owed)

pub unheld_more : (depth : ℕ) (e : EventId) (ms : List EventId) (i : ℕ) (d : EventId) (old now new : HappenOf) → i < length ms → UnheldUpTo depth e ms i old now
    → new.events ≡ unheld_within depth (slice_index_or ms i d) now.events → new ≡ record now { events = new.events; spare = new.spare }
    → KeepsRoom now new → UnheldUpTo depth e ms (i + 1) old new
unheld_more depth e ms i d old now new within u is rest room =
    let m : EventId = slice_index_or ms i d in
    let each : List (Option Kept) → EventId → List (Option Kept) = λ es x. unheld_within depth x es in
    let begin_ : List (Option Kept) = slice_set old.events e.0 None in
    record {
      events = is ∙ (ap (unheld_within depth m) u.events ∙ (sym (fold_push each begin_ (take i ms) m) ∙ ap (fold each begin_) (sym (take_more ms i d within))));
      owed = subst (AreOwed (drop (i + 1) ms)) (sym is) (owed_unheld depth m (drop (i + 1) ms) now.events (subst (λ ns. AreOwed ns now.events) (drop_more ms i d within) u.owed));
      rest = rest ∙ ap (λ (h : HappenOf). let n : HappenOf = record h { events = new.events; spare = new.spare } in n) u.rest;
      room = room_then old now new u.room room;
      gone = u.gone;
      members = u.members;
    }

pub unheld_end : (depth : ℕ) (e : EventId) (ms : List EventId) (i : ℕ) (old now : HappenOf) → 0 < depth → length ms ≤ i → UnheldUpTo (depth - 1) e ms i old now
    → now.events ≡ unheld_within depth e old.events
unheld_end zero e ms i old now deep whole u = absurd (omega (arith, deep))
unheld_end (suc depth) e ms i old now deep whole u =
    let P : ℕ → List EventId → Type 0 = λ n ns. now.events ≡ fold (λ es m. unheld_within n m es) (slice_set old.events e.0 None) ns in
    let all : P depth (members_in (kept_at old.events e)) = subst (P depth) (take_all i ms whole ∙ u.members) (subst (λ n. P n (take i ms)) (omega arith) u.events) in
    all ∙ sym (by_need old.events depth e false u.gone)
