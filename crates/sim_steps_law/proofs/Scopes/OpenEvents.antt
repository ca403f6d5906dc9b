-- What is open in the state that a kernel stands for is kept and open in the kernel, where its accounts balance.
use Rattle.std.proofs.Common.{◌≡◌, ◌≢◌, ℕ, ◌<◌, Bool, true, false, ◌||◌, List, [], ◌∷◌, Option, Some, None, filter, refl, sym, ap, subst, ◌∙◌, inl, inr, All}
use Rattle.std.specs.Prelude.{◌==◌, slice_index_or, IsSome}
use Rattle.std.specs.List.{list_any}
use Rattle.std.proofs.lemmas.Bool.{both_ways, eqb-true, false_from_ne_true, or_parts}
use Rattle.std.proofs.lemmas.List.Elements.{All-head, All-tail}
use Rattle.sim_types.specs.declared.event.EventId.{EventId}
use Rattle.sim_machine.specs.State.{EventOf, Calendar, Facilities, Waiter}
use Rattle.sim_machine.specs.Events.{is_same, event_at}
use Rattle.sim_machine.specs.KeptEvents.{is_closed}
use Rattle.sim_machine_law.proofs.Events.EventLaws.{is_same-yes}
use Rattle.sim_machine_law.proofs.KeptParts.KeptTimesCases.{if_cases}
use Rattle.sim_lawful.proofs.Waiting.PolledCancel.{any_gives}
use Rattle.sim_machine_law.proofs.Ledger.TriedQueues.{IsOneOf}
use Rattle.sim_happen_model.specs.TableOf.{Kept, IsKept, kept_at}
use Rattle.sim_happen_model.specs.HappenOf.{HappenOf, IsOpen}
use Rattle.sim_happen_model.specs.Shows.{Shows}
use Rattle.sim_happen_law.proofs.Changes.Following.{read_is}
use Rattle.sim_shared_model.specs.Resources.{waiting_at}
use Rattle.sim_shared_model.specs.SharedOf.{SharedOf}
use Rattle.sim_shared_model.specs.ShowsAll.{ShowsAll}
use Rattle.sim_shared_model.specs.Waiting.{AreAllOpen, WaitsAtMostAt}
use Rattle.sim_shared_law.proofs.Waiters.CancelledEvents.{waits_there}
use Rattle.sim_shared_law.proofs.Waiters.JoinedEvents.{all_from_each}
use Rattle.sim_shared_law.proofs.Waiters.WaitingEvents.{is_at, is_of, waits_shown}
use Rattle.sim_happen_model.specs.Accounts.{AreGoneClosed}
use Rattle.sim_steps_model.specs.Dropping.{IsOpenIn}

-- ---- one event

-- what is gone is closed, so what is not closed is kept
open_kept : (h : HappenOf) (c : Calendar) (e : EventId) → Shows h c → AreGoneClosed h.events c → IsOpenIn c e → IsKept h.events e
open_kept h c e shows gone is_open = at (slice_index_or h.events e.0 None) refl
  where
    at : (o : Option Kept) → slice_index_or h.events e.0 None ≡ o → IsSome o
    at None none = absurd (both_ways (is_closed c e) is_open.not_closed (gone.each e (subst (λ n. e.0 < n) (sym shows.made) is_open.made) none))
    at (Some k) some = refl

pub open_in : (h : HappenOf) (c : Calendar) (e : EventId) → Shows h c → AreGoneClosed h.events c → IsOpenIn c e → IsOpen h e
open_in h c e shows gone is_open =
    let kept : IsKept h.events e = open_kept h c e shows gone is_open in
    let same : (kept_at h.events e).event ≡ event_at c e = read_is h c e kept shows in
    record {
      kept = kept;
      pending = ap (λ (x : EventOf). x.outcome) same ∙ is_open.pending;
      not_cancelled = ap (λ (x : EventOf). x.cancelled) same ∙ (or_parts (event_at c e).processed (event_at c e).cancelled is_open.not_closed).1;
    }

-- ---- what waits

pub all_open_in : (h : SharedOf) (f : Facilities) → ShowsAll h f → AreGoneClosed h.happen.events f.calendar →
    All (λ w. IsOpenIn f.calendar w.event) f.waiters → AreAllOpen h
all_open_in h f shown gone waiting =
    record {
      each = λ res x there. all_from_each (IsOpen h.happen) (waiting_at x) (λ e among.
          any_gives (λ (w : Waiter). IsOpenIn f.calendar w.event) (IsOpen h.happen e) (is_of e) f.waiters
          (λ w is_open same. subst (IsOpen h.happen) (is_same-yes w.event e same)
          (open_in h.happen f.calendar w.event shown.calendar gone is_open)) waiting
          (waits_there h f res x e shown there among));
    }

none_elsewhere : (e : EventId) (res n : ℕ) (ws : List Waiter) → n ≢ res → All (λ w. is_same w.event e ≡ true → w.res ≡ res) ws →
    list_any (is_of e) (filter (is_at n) ws) ≡ false
none_elsewhere e res n [] differ h = refl
none_elsewhere e res n (w ∷ ws) differ h =
    let P : Waiter → Type 0 = λ v. is_same v.event e ≡ true → v.res ≡ res in
    let later : list_any (is_of e) (filter (is_at n) ws) ≡ false = none_elsewhere e res n ws differ (All-tail P w ws h) in
    if_cases (λ vs. list_any (is_of e) vs ≡ false) (w.res == n) (w ∷ filter (is_at n) ws) (filter (is_at n) ws)
    (λ here. rw (false_from_ne_true (is_same w.event e) (λ same. differ (sym (eqb-true w.res n here) ∙ All-head P w ws h same))) later)
    (λ away. later)

-- who waits at one resource in the state waits at no other in the kernel
pub alone_shown : (h : SharedOf) (f : Facilities) (e : EventId) (res : ℕ) → ShowsAll h f →
    All (λ w. is_same w.event e ≡ true → w.res ≡ res) f.waiters →
    WaitsAtMostAt e res h
alone_shown h f e res shown alone =
    record { elsewhere = λ n x differ there. waits_shown h.setup n x f e (shown.resources n x there) ∙ none_elsewhere e res n f.waiters differ alone }

-- ---- one of a list

pub any_one : {X : Type 0} (test : X → Bool) (xs : List X) (x : X) → test x ≡ true → IsOneOf xs x → list_any test xs ≡ true
any_one test [] x passes none = absurd none
any_one test (y ∷ ys) x passes (inl same) = rw (ap test same ∙ passes) refl
any_one test (y ∷ ys) x passes (inr later) = or_second (test y) (list_any test ys) (any_one test ys x passes later)
  where
    or_second : (a b : Bool) → b ≡ true → (a || b) ≡ true
    or_second true b h = refl
    or_second false b h = h
