-- The room that there is.
use Rattle.std.proofs.Common.{◌≡◌, ℕ, ◌+◌, ◌≤◌, Bool, true, false, List, [], ◌∷◌, length, refl, sym, subst, ap, ◌∙◌, arith, Option, Some, None}
use Rattle.std.specs.Prelude.{min}
use Rattle.std.specs.List.{sum_by}
use Rattle.std.specs.List.Sorted.{IsPermutation}
use Rattle.std.proofs.lemmas.List.Sorted.{length_permutation}
use Rattle.sim_types.specs.declared.event.Entry.{Entry}
use Rattle.sim_happen_model.specs.Agendas.{AgendaOf}
use Rattle.sim_happen_model.specs.TableOf.{Kept, IsKept, TableOf, Spare, kept_count}
use Rattle.sim_types.specs.declared.event.EventId.{EventId}
use Rattle.sim_happen_law.proofs.Shown.KeptPlaces.{sum_set}
use Rattle.std.specs.Prelude.{is_some, slice_set}
use Rattle.std.proofs.lemmas.List.Sums.{sum_by-cons}
use Rattle.sim_machine_law.proofs.Events.CallbackLaws.{count_by-cons}
use Rattle.sim_machine.specs.Standing.{one_if}
use Rattle.sim_happen_model.specs.Sound.{awaits, awaiting_one, kept_one, places_for, spare_in}

-- as many places of the agenda, as many events that are kept, and as much room in the table
pub spare_same : (a b : AgendaOf) (t u : TableOf) → u.spare ≡ t.spare → sum_by kept_one u.events ≡ sum_by kept_one t.events
    → length b.entries + b.spare ≡ length a.entries + a.spare → spare_in b u ≡ spare_in a t
spare_same a b t u spare kept places =
    let fit : places_for b u.events ≡ places_for a t.events = omega (arith, kept, places) in
    let P : Spare → ℕ → Spare = λ s n. record s { events = min s.events n } in
    ap (λ s. P s (places_for b u.events)) spare ∙ ap (P t.spare) fit

-- a place that is taken is one entry more, and one that is given back is one fewer
pub places_pushed : (a b : AgendaOf) (x : Entry) → IsPermutation (x ∷ a.entries) b.entries → b.spare + 1 ≡ a.spare
    → length b.entries + b.spare ≡ length a.entries + a.spare
places_pushed a b x same spare = omega (arith, length_permutation (x ∷ a.entries) b.entries same, spare)

pub places_popped : (a b : AgendaOf) (x : Entry) → IsPermutation a.entries (x ∷ b.entries) → b.spare ≡ a.spare + 1
    → length b.entries + b.spare ≡ length a.entries + a.spare
places_popped a b x same spare = omega (arith, length_permutation a.entries (x ∷ b.entries) same, spare)

-- what is kept, counted either way
pub kept_sum : (es : List (Option Kept)) → kept_count es ≡ sum_by kept_one es
kept_sum [] = refl
kept_sum (k ∷ es) = omega (arith, kept_sum es, count_by-cons is_some k es, sum_by-cons kept_one k es)

-- the room of what goes is given again
pub spare_given : (a : AgendaOf) (t u : TableOf) → kept_count u.events + u.spare.events ≡ kept_count t.events + t.spare.events
    → sum_by kept_one t.events ≤ length a.entries + a.spare → kept_count u.events ≤ kept_count t.events
    → kept_count u.events + (spare_in a u).events ≡ kept_count t.events + (spare_in a t).events
spare_given a t u same fit less = omega (arith, same, fit, less, kept_sum t.events, kept_sum u.events)

pub kept_fewer : (es fs : List (Option Kept)) (e : EventId) (o : Option Kept) → IsKept es e → fs ≡ slice_set es e.0 o
    → kept_one o ≤ 1 → kept_count fs ≤ kept_count es
kept_fewer es fs e o kept is one =
    subst (λ gs. kept_count gs ≤ kept_count es) (sym is) (omega (arith, kept_sum es, kept_sum (slice_set es e.0 o), sum_set kept_one es e o kept, one))

-- what is scheduled is kept
one_at_most : (b : Bool) → one_if b ≤ 1
one_at_most true = omega arith
one_at_most false = omega arith

scheduled_one : (o : Option Kept) → awaiting_one o ≤ kept_one o
scheduled_one None = omega arith
scheduled_one (Some k) = one_at_most (awaits k)

pub scheduled_sum : (es : List (Option Kept)) → sum_by awaiting_one es ≤ kept_count es
scheduled_sum [] = omega arith
scheduled_sum (k ∷ es) = omega (arith, scheduled_sum es, scheduled_one k, count_by-cons is_some k es, sum_by-cons awaiting_one k es)

-- no more are kept than were made
pub kept_few : (es : List (Option Kept)) → kept_count es ≤ length es
kept_few [] = omega arith
kept_few (k ∷ es) = omega (arith, kept_few es, one_at_most (is_some k), count_by-cons is_some k es)

-- room for n more events: each that is kept has a place in the agenda
module _ (a : AgendaOf) (t : TableOf) (n : ℕ) where
  pub spare_is : kept_count t.events + n ≤ length a.entries + a.spare → n ≤ t.spare.events → n ≤ (spare_in a t).events
  spare_is places events = omega (arith, places, events, kept_sum t.events)

  pub places_are : sum_by kept_one t.events ≤ length a.entries + a.spare → n ≤ (spare_in a t).events
      → kept_count t.events + n ≤ length a.entries + a.spare
  places_are fit events = omega (arith, fit, events, kept_sum t.events)

  pub events_are : n ≤ (spare_in a t).events → n ≤ t.spare.events
  events_are events = omega (arith, events)
