-- An event that was just made, and what is done to it first.
use Rattle.std.proofs.Common.{◌≡◌, ℕ, ◌<◌, ℤ, pos, true, false, List, [], ◌∷◌, ◌++◌, length, refl, sym, ap, subst, ◌∙◌, Option, Some, None, get_or}
use Rattle.std.specs.Prelude.{slice_index_or, IsSome, IsErr, OnOk, ◌↔◌}
use Rattle.std.proofs.Common.{Result, Ok, Err}
use Rattle.std.proofs.lemmas.List.{length-map}
use Rattle.std.proofs.lemmas.Option.{none-some}
use Rattle.sim_types.specs.declared.event.EventId.{EventId}
use Rattle.sim_types.specs.declared.event.EventKind.{EventKind}
use Rattle.sim_types.specs.declared.event.Callback.{Callback}
use Rattle.sim_types.specs.declared.event.Outcome.{Outcome}
use Rattle.sim_machine.specs.State.{EventOf, Calendar}
use Rattle.sim_machine.specs.Events.{event_at, pending_event, next_event, defuse, register}
use Rattle.sim_types.specs.declared.event.ProcId.{ProcId}
use Rattle.sim_types.specs.declared.event.Throw.{Throw}
use Rattle.sim_types.specs.declared.event.EventKind.TheVariants as kind
use Rattle.sim_types.specs.declared.event.Callback.TheVariants as callback
use Rattle.sim_types.specs.declared.event.Outcome.TheVariants as outcome
use Rattle.sim_machine.specs.Triggering.{make, schedule, urgent, make_interruption}
use Rattle.sim_machine_law.proofs.Events.EventLaws.{same_event, change_event-same, make-new}
use Rattle.sim_happen_model.specs.TableOf.{IsKept, kept_at}
use Rattle.sim_happen_model.specs.HappenOf.{HappenOf, held, as_before, unheld_event}
use Rattle.sim_happen_model.specs.Shows.{Shows, Turns, Follows}
use Rattle.sim_happen_model.specs.Seen.{seen}
use Rattle.sim_happen_law.proofs.Shown.KeptPlaces.{at_end, kept_made}
use Rattle.sim_happen_law.proofs.Shown.SeenShown.{shows_seen, event_seen}
use Rattle.sim_happen_law.proofs.Changes.Held.{held_at, kept_of, holders_at}
use Rattle.sim_happen_law.proofs.Changes.Following.{event_then, kept_then, turns_as, turns_then, follows_then}

-- kept, pending, not cancelled, and so not processed
pub record IsNew (h : HappenOf) (e : EventId) : Type 0 where
  pub kept : IsKept h.events e
  pub pending : (kept_at h.events e).event.outcome ≡ None
  pub unprocessed : (kept_at h.events e).event.processed ≡ false
  pub uncancelled : (kept_at h.events e).event.cancelled ≡ false

pub kept_last : (a b : HappenOf) (e : EventId) → held b ≡ unheld_event (held a) → e.0 ≡ length a.events → IsKept b.events e
kept_last a b e is same =
    let long : length (held a) ≡ length a.events = length-map a.events holders_at in
    let here : slice_index_or (held b) e.0 None ≡ Some 0 = ap (λ (hs : List (Option ℕ)). slice_index_or hs e.0 None) is ∙ subst (λ n. get_or (held a ++ Some 0 ∷ []) n None ≡ Some 0) (long ∙ sym same) (at_end (held a) (Some 0)) in
    kept_of (slice_index_or b.events e.0 None) (subst IsSome (sym here ∙ held_at b e) refl)

pub next_is : (a : HappenOf) (c : Calendar) (e : EventId) → e.0 ≡ length a.events → Shows a c → next_event c ≡ e
next_is a c e same s = same_event (next_event c) e (sym s.made ∙ sym same)

pub new_made : (k : EventKind) (a b : HappenOf) (e : EventId) → Turns (make k) unheld_event a b → e.0 ≡ length a.events
    → IsKept b.events e × ((kept_at b.events e).event ≡ pending_event k)
new_made k a b e t same =
    let kept : IsKept b.events e = kept_last a b e t.held same in
    (kept, event_then (make k) unheld_event a b e t kept ∙ subst (λ f. event_at (make k (seen a)) f ≡ pending_event k) (next_is a (seen a) e same (shows_seen a)) (make-new k (seen a)))

pub is_new : (k : EventKind) (a b : HappenOf) (e : EventId) → Turns (make k) unheld_event a b → e.0 ≡ length a.events → IsNew b e
is_new k a b e t same =
    let made = new_made k a b e t same in
    record {
      kept = made.0;
      pending = ap (λ (x : EventOf). x.outcome) made.1;
      unprocessed = ap (λ (x : EventOf). x.processed) made.1;
      uncancelled = ap (λ (x : EventOf). x.cancelled) made.1;
    }

-- what leaves an event as it is, but for its mark of a defused one
abbrev IsAlike : EventOf → EventOf → Type 0
IsAlike x y = record x { defused = true } ≡ record y { defused = true }

still_new : (a b : HappenOf) (e : EventId) → IsKept b.events e → IsAlike (kept_at b.events e).event (kept_at a.events e).event → IsNew a e → IsNew b e
still_new a b e kept same n = record {
  kept = kept;
  pending = ap (λ (x : EventOf). x.outcome) same ∙ n.pending;
  unprocessed = ap (λ (x : EventOf). x.processed) same ∙ n.unprocessed;
  uncancelled = ap (λ (x : EventOf). x.cancelled) same ∙ n.uncancelled;
}

pub new_registered : (x : Callback) (a b : HappenOf) (e : EventId) → Follows (register e x) a b → IsNew a e → IsNew b e
new_registered x a b e t n =
    let kept = kept_then (register e x) a b e t n.kept in
    let same = event_then (register e x) _ a b e t kept ∙ sym (event_seen a e) in
    still_new a b e kept (ap (λ (y : EventOf). let z : EventOf = record y { defused = true } in z) same) n

pub new_defused : (a b : HappenOf) (e : EventId) → Follows (defuse e) a b → IsNew a e → IsNew b e
new_defused a b e t n =
    let kept = kept_then (defuse e) a b e t n.kept in
    let mark : EventOf → EventOf = λ y. record y { defused = true } in
    let made : e.0 < length (seen a).events = subst (λ m. e.0 < m) (shows_seen a).made (kept_made a.events e n.kept) in
    let same = event_then (defuse e) _ a b e t kept ∙ (change_event-same e mark (seen a) made ∙ ap mark (sym (event_seen a e))) in
    still_new a b e kept (ap mark same) n

none_some : (o : Option Outcome) → IsSome o → o ≡ None → ⊥
none_some None h none = cc
none_some (Some x) h none = absurd (none-some x (sym none))

-- an event that has no outcome is not refused
pub not_refused : {T E : Type 0} (r : Result T E) (o : Option Outcome) (P : Type 0) → (IsErr r ↔ IsSome o) → o ≡ None → OnOk r P → P
not_refused (Ok x) o P h none p = p
not_refused (Err e) o P h none p = absurd (none_some o (h.0 refl) none)

-- the new event gets its outcome and an entry
pub turns_scheduled : (k : EventKind) (x : Outcome) (priority : ℕ) (delay : ℤ) (a m b : HappenOf) (e : EventId) → Turns (make k) unheld_event a m
    → e.0 ≡ length a.events → Follows (schedule e x priority delay) m b
    → Turns (λ c. schedule (next_event c) x priority delay (make k c)) unheld_event a b
turns_scheduled k x priority delay a m b e t same f =
    turns_as (λ c. schedule e x priority delay (make k c)) (λ c. schedule (next_event c) x priority delay (make k c)) unheld_event a b
    (λ c s. ap (λ g. schedule g x priority delay (make k c)) (sym (next_is a c e same s)))
    (turns_then (make k) (schedule e x priority delay) unheld_event as_before a m b t f)

-- an interruption, step by step
abbrev interruption : ProcId → Throw → EventId → Calendar → Calendar
interruption p t e c = schedule e (outcome.Fail t) urgent (pos 0) (defuse e (register e (callback.Strike p) (make kind.Interrupt c)))

pub turns_interruption : (p : ProcId) (what : Throw) (a m r d b : HappenOf) (e : EventId) → Turns (make kind.Interrupt) unheld_event a m
    → e.0 ≡ length a.events → Follows (register e (callback.Strike p)) m r → Follows (defuse e) r d
    → Follows (schedule e (outcome.Fail what) urgent (pos 0)) d b
    → Turns (make_interruption p what) unheld_event a b
turns_interruption p what a m r d b e t same f g h =
    let strike : Calendar → Calendar = register e (callback.Strike p) in
    let rest : Follows (λ c. schedule e (outcome.Fail what) urgent (pos 0) (defuse e (strike c))) m b =
    follows_then (λ c. defuse e (strike c)) (schedule e (outcome.Fail what) urgent (pos 0)) m d b (follows_then strike (defuse e) m r d f g) h in
    turns_as (interruption p what e) (make_interruption p what) unheld_event a b (λ c s. ap (λ i. interruption p what i c) (sym (next_is a c e same s)))
    (turns_then (make kind.Interrupt) (λ c. schedule e (outcome.Fail what) urgent (pos 0) (defuse e (strike c))) unheld_event as_before a m b t rest)
