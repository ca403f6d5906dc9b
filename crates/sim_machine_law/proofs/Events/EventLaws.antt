-- An event that is changed or made, and all others as they were.
use Rattle.std.proofs.Common.{◌≡◌, ◌≢◌, ℕ, ◌+◌, ◌<◌, ◌≤◌, Bool, true, List, [], ◌∷◌, ◌++◌, length, refl, sym, ap, ◌∙◌, arith, ◌⊎◌, inl, inr, zero, suc, length-append, get_or}
use Rattle.std.specs.Prelude.{slice_index_or, slice_set}
use Rattle.std.proofs.lemmas.Bool.Decides.{nat_tests}
use Rattle.std.proofs.lemmas.Bool.{cases_eq, cases_lt}
use Rattle.std.specs.List.{AllPass}
use Rattle.std.proofs.lemmas.List.Elements.{All-set}
use Rattle.std.proofs.lemmas.List.{get_or-set_other}
use Rattle.std.proofs.lemmas.Grind.{get_or-set_at}
use Rattle.std.proofs.Math.ListN.{length-set}
use Rattle.sim_types.specs.declared.event.EventId.{EventId}
use Rattle.sim_types.specs.declared.event.EventKind.{EventKind}
use Rattle.sim_types.specs.declared.event.EventKind.TheVariants as kind
use Rattle.sim_machine.specs.State.{EventOf, Calendar}
use Rattle.sim_machine.specs.Events.{is_same, event_at, pending_event, next_event, change_event}
use Rattle.sim_machine.specs.Triggering.{make}

-- the event just made is there and is pending
pub made_last : (xs : List EventOf) (x : EventOf) → get_or (xs ++ x ∷ []) (length xs) (pending_event kind.Plain) ≡ x
made_last [] x = refl
made_last (y ∷ xs) x = made_last xs x

-- two ids of one number are one
pub same_event : (e f : EventId) → e.0 ≡ f.0 → e ≡ f
same_event e f h =
    let P : ℕ → EventId = λ n. record { 0 = n } in
    ap P h

pub is_same-yes : (e f : EventId) → is_same e f ≡ true → e ≡ f
is_same-yes e f h = same_event e f (grind (arith, nat_tests))

pub is_same-self : (e : EventId) → is_same e e ≡ true
is_same-self e = grind (arith, nat_tests)

-- ---- one event is changed

pub change_event-same : (e : EventId) (change : EventOf → EventOf) (c : Calendar) → e.0 < length c.events
    → event_at (change_event e change c) e ≡ change (event_at c e)
change_event-same e change c made = get_or-set_at c.events e.0 e.0 (change (event_at c e)) (pending_event kind.Plain) refl made

pub change_event-other : (e f : EventId) (change : EventOf → EventOf) (c : Calendar) → f.0 ≢ e.0 → event_at (change_event e change c) f ≡ event_at c f
change_event-other e f change c differ = get_or-set_other c.events e.0 f.0 (change (event_at c e)) (pending_event kind.Plain) differ

pub change_event-length : (e : EventId) (change : EventOf → EventOf) (c : Calendar) → length (change_event e change c).events ≡ length c.events
change_event-length e change c = length-set c.events e.0 (change (event_at c e))

set_past : {X : Type 0} (xs : List X) (n : ℕ) (y : X) → (n < length xs → ⊥) → slice_set xs n y ≡ xs
set_past [] n y h = refl
set_past (x ∷ xs) zero y h = absurd (h (omega arith))
set_past (x ∷ xs) (suc n) y h = ap (λ ys. x ∷ ys) (set_past xs n y (λ l. h (omega (arith, l))))

changed_part : {X : Type 0} (part : EventOf → X) (e f : EventId) (change : EventOf → EventOf) (c : Calendar)
    → ((x : EventOf) → part (change x) ≡ part x) → (f.0 ≡ e.0) ⊎ (f.0 ≢ e.0)
    → (e.0 < length c.events) ⊎ (length c.events ≤ e.0) → part (event_at (change_event e change c) f) ≡ part (event_at c f)
changed_part part e f change c keeps (inr differ) made = ap part (change_event-other e f change c differ)
changed_part part e f change c keeps (inl same) (inl made) =
    ap part (get_or-set_at c.events e.0 f.0 (change (event_at c e)) (pending_event kind.Plain) same made) ∙ (keeps (event_at c e) ∙ ap (λ g. part (event_at c g)) (same_event e f (sym same)))
changed_part part e f change c keeps (inl same) (inr unmade) =
    let P : List EventOf → EventOf = λ xs. slice_index_or xs f.0 (pending_event kind.Plain) in
    ap (λ xs. part (P xs)) (set_past c.events e.0 (change (event_at c e)) (λ l. omega (arith, l, unmade)))

-- what a change leaves of an event as it was, it leaves so at every event
pub change_event-keeps : {X : Type 0} (part : EventOf → X) (e f : EventId) (change : EventOf → EventOf) (c : Calendar)
    → ((x : EventOf) → part (change x) ≡ part x) → part (event_at (change_event e change c) f) ≡ part (event_at c f)
change_event-keeps part e f change c keeps = changed_part part e f change c keeps (cases_eq f.0 e.0) (cases_lt e.0 (length c.events))

-- what all events have, they have after a change that keeps it
pub change_event-AllPass : (test : EventOf → Bool) (e : EventId) (change : EventOf → EventOf) (c : Calendar)
    → test (change (event_at c e)) ≡ true → AllPass test c.events → AllPass test (change_event e change c).events
change_event-AllPass test e change c keeps h = All-set (λ x. test x ≡ true) c.events e.0 (change (event_at c e)) keeps h

-- ---- an event is made

pub make-length : (k : EventKind) (c : Calendar) → length (make k c).events ≡ length c.events + 1
make-length k c = length-append c.events (pending_event k ∷ [])

made_old : (xs : List EventOf) (x : EventOf) (n : ℕ) → n < length xs
    → get_or (xs ++ x ∷ []) n (pending_event kind.Plain) ≡ get_or xs n (pending_event kind.Plain)
made_old [] x n h = absurd (omega (arith, h))
made_old (y ∷ xs) x zero h = refl
made_old (y ∷ xs) x (suc n) h = made_old xs x n (omega (arith, h))

-- all that were made before stay as they were
pub make-old : (k : EventKind) (c : Calendar) (f : EventId) → f.0 < length c.events → event_at (make k c) f ≡ event_at c f
make-old k c f h = made_old c.events (pending_event k) f.0 h

-- the new one is pending
pub make-new : (k : EventKind) (c : Calendar) → event_at (make k c) (next_event c) ≡ pending_event k
make-new k c = made_last c.events (pending_event k)

made_part : {X : Type 0} (part : EventOf → X) (xs : List EventOf) (x : EventOf) (n : ℕ)
    → part x ≡ part (pending_event kind.Plain)
    → part (get_or (xs ++ x ∷ []) n (pending_event kind.Plain)) ≡ part (get_or xs n (pending_event kind.Plain))
made_part part [] x zero h = h
made_part part [] x (suc n) h = refl
made_part part (y ∷ xs) x zero h = refl
made_part part (y ∷ xs) x (suc n) h = made_part part xs x n h

-- and but for its kind it is as an event that was not made
pub make-keeps : {X : Type 0} (part : EventOf → X) (k : EventKind) (c : Calendar) (f : EventId)
    → part (pending_event k) ≡ part (pending_event kind.Plain) → part (event_at (make k c) f) ≡ part (event_at c f)
make-keeps part k c f h = made_part part c.events (pending_event k) f.0 h
