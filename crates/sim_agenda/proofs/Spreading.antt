-- The entries of the backlog and of the window, and the room for them.
use Rattle.std.proofs.Common.{◌≡◌, ℕ, ◌+◌, ◌-◌, ◌≤◌, List, [], ◌∷◌, length, Option, Some, None, ap, arith}
use Rattle.std.specs.Prelude.{MatchOption, IfSome}
use Rattle.std.specs.List.Sorted.{IsPermutation}
use Rattle.std.proofs.lemmas.List.Sorted.{length_permutation}
use Rattle.sim_types.specs.declared.event.Entry.{Entry}
use Rattle.sim_happen_model.specs.Agendas.{AgendaOf, TakesFirst}
use Rattle.sim_agenda.specs.Windows.{IsSpread}

pub backlog_put : (old new : AgendaOf) (near left : List Entry) (x : Entry) → 1 ≤ old.spare - length near → IsPermutation (x ∷ old.entries) new.entries
    → new.spare + 1 ≡ old.spare → left ≡ near → IsSpread old near → IsSpread new left
backlog_put old new near left x room moved less same h =
    let long = length_permutation (x ∷ old.entries) new.entries moved in
    record {
      room = omega (arith, h.room, ap length same);
      few = omega (arith, h.few, long);
    }

pub window_put_spread : (old : AgendaOf) (near more : List Entry) (x : Entry) → 1 ≤ old.spare - length near → IsPermutation (x ∷ near) more → IsSpread old near
    → IsSpread old more
window_put_spread old near more x room moved h =
    record {
      room = omega (arith, h.room, length_permutation (x ∷ near) more moved);
      few = h.few;
    }

pub window_put_spare : (spare : ℕ) (near more : List Entry) (x : Entry) → 1 ≤ spare - length near → IsPermutation (x ∷ near) more
    → spare - length more + 1 ≡ spare - length near
window_put_spare spare near more x room moved = omega (arith, length_permutation (x ∷ near) more moved)

pub window_pop_spread : (result : Option Entry) (old : AgendaOf) (near left : List Entry)
    → MatchOption result ((near ≡ []) × (left ≡ [])) (λ x. TakesFirst near x left) → IsSpread old near → IsSpread old left
window_pop_spread None old near left (some, none) h = record { room = omega (arith, ap length none); few = h.few }
window_pop_spread (Some x) old near left takes h =
    record { room = omega (arith, h.room, length_permutation near (x ∷ left) takes.others); few = h.few }

pub window_pop_spare : (result : Option Entry) (spare : ℕ) (near left : List Entry) → length near ≤ spare
    → MatchOption result ((near ≡ []) × (left ≡ [])) (λ x. TakesFirst near x left) → IfSome result (λ x. spare - length left ≡ spare - length near + 1)
window_pop_spare None spare near left room takes = tt
window_pop_spare (Some x) spare near left room takes = omega (arith, length_permutation near (x ∷ left) takes.others)

pub backlog_pop : (old new : AgendaOf) (near left : List Entry) (x : Entry) → TakesFirst old.entries x new.entries → new.spare ≡ old.spare + 1 → left ≡ near
    → IsSpread old near → IsSpread new left
backlog_pop old new near left x takes more same h =
    record {
      room = omega (arith, h.room, ap length same);
      few = omega (arith, h.few, length_permutation old.entries (x ∷ new.entries) takes.others);
    }
