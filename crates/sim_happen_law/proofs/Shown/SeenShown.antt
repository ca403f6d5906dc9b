-- Some calendar is always shown.
use Rattle.std.proofs.Common.{◌≡◌, ◌≢◌, ℕ, ◌+◌, ◌<◌, ◌≤◌, true, List, [], ◌∷◌, ◌++◌, length, refl, sym, ap, subst, ◌∙◌, arith, zero, suc, Option, Some, None, get_or, map, filter}
use Rattle.std.specs.Prelude.{IsSome}
use Rattle.std.proofs.lemmas.Bool.{ne_eqb}
use Rattle.std.proofs.lemmas.List.{map-append, append-nil}
use Rattle.std.proofs.lemmas.List.Elements.{filter-append}
use Rattle.std.proofs.lemmas.List.Sorted.{IsPermutation-refl}
use Rattle.sim_types.specs.declared.event.EventId.{EventId}
use Rattle.sim_types.specs.declared.event.EventKind.TheVariants as kind
use Rattle.sim_types.specs.declared.event.Callback.{Callback}
use Rattle.sim_machine.specs.State.{Registration}
use Rattle.sim_machine.specs.Events.{is_same, event_at, pending_event}
use Rattle.sim_machine_law.proofs.Events.EventLaws.{is_same-self}
use Rattle.sim_happen_model.specs.TableOf.{Kept, kept_or_new, kept_at}
use Rattle.sim_happen_model.specs.HappenOf.{HappenOf}
use Rattle.sim_happen_model.specs.Shows.{Shows}
use Rattle.sim_happen_model.specs.Seen.{event_or_blank, registered_from, seen}

abbrev at_number : ℕ → Registration → Type 0
at_number n r = is_same r.event (record { 0 = n }) ≡ true

abbrev registered_at : ℕ → Callback → Registration
registered_at n x = record { event = record { 0 = n }; callback = x }

-- at one number all pass, at another none
all_at : (n : ℕ) (xs : List Callback)
    → map (λ (r : Registration). r.callback) (filter (λ r. is_same r.event (record { 0 = n })) (map (registered_at n) xs)) ≡ xs
all_at n [] = refl
all_at n (x ∷ xs) = rw (is_same-self (record { 0 = n })) (ap (λ ys. x ∷ ys) (all_at n xs))

none_at : (n m : ℕ) (xs : List Callback) → n ≢ m → filter (λ r. is_same r.event (record { 0 = m })) (map (registered_at n) xs) ≡ []
none_at n m [] differ = refl
none_at n m (x ∷ xs) differ = rw (ne_eqb n m differ) (none_at n m xs differ)

abbrev calls_at : ℕ → List Registration → List Callback
calls_at m rs = map (λ (r : Registration). r.callback) (filter (λ r. is_same r.event (record { 0 = m })) rs)

calls_two : (m : ℕ) (rs qs : List Registration) → calls_at m (rs ++ qs) ≡ calls_at m rs ++ calls_at m qs
calls_two m rs qs =
    let call : Registration → Callback = λ r. r.callback in
    ap (λ xs. map call xs) (filter-append (λ r. is_same r.event (record { 0 = m })) rs qs) ∙ map-append call _ _

-- an event's own callbacks come before those of later ones
calls_first : (n m : ℕ) (k : Kept) (es : List (Option Kept))
    → calls_at m (registered_from n (Some k ∷ es)) ≡ calls_at m (map (registered_at n) k.callbacks) ++ calls_at m (registered_from (n + 1) es)
calls_first n m k es = calls_two m (map (registered_at n) k.callbacks) (registered_from (n + 1) es)

calls_not : (n m : ℕ) (k : Kept) (es : List (Option Kept)) → n ≢ m → calls_at m (registered_from n (Some k ∷ es)) ≡ calls_at m (registered_from (n + 1) es)
calls_not n m k es differ =
    calls_first n m k es ∙ ap (λ rs. map (λ (r : Registration). r.callback) rs ++ calls_at m (registered_from (n + 1) es)) (none_at n m k.callbacks differ)

-- before the first number there is nothing
calls_before : (n m : ℕ) (es : List (Option Kept)) → m < n → calls_at m (registered_from n es) ≡ []
calls_before n m [] h = refl
calls_before n m (None ∷ es) h = calls_before (n + 1) m es (omega (arith, h))
calls_before n m (Some k ∷ es) h = calls_not n m k es (λ same. omega (arith, same, h)) ∙ calls_before (n + 1) m es (omega (arith, h))

-- at each number its callbacks
calls_there : (n i : ℕ) (es : List (Option Kept)) → IsSome (get_or es i None)
    → calls_at (n + i) (registered_from n es) ≡ (kept_or_new (get_or es i None)).callbacks
calls_there n i [] h = absurd (cc)
calls_there n zero (None ∷ es) h = absurd (cc)
calls_there n zero (Some j ∷ es) h =
    subst (λ m. calls_at m (registered_from n (Some j ∷ es)) ≡ j.callbacks) (omega arith)
    (calls_first n n j es ∙ (ap (λ xs. xs ++ calls_at n (registered_from (n + 1) es)) (all_at n j.callbacks) ∙ (ap (λ xs. j.callbacks ++ xs) (calls_before (n + 1) n es (omega arith)) ∙ append-nil j.callbacks)))
calls_there n (suc i) (None ∷ es) h = subst (λ m. calls_at m (registered_from (n + 1) es) ≡ (kept_or_new (get_or es i None)).callbacks) (omega arith) (calls_there (n + 1) i es h)
calls_there n (suc i) (Some j ∷ es) h =
    subst (λ m. calls_at m (registered_from n (Some j ∷ es)) ≡ (kept_or_new (get_or es i None)).callbacks) (omega arith)
    (calls_not n (n + 1 + i) j es (λ same. omega (arith, same)) ∙ calls_there (n + 1) i es h)

-- and past the last nothing
calls_past : (n m : ℕ) (es : List (Option Kept)) → n + length es ≤ m → calls_at m (registered_from n es) ≡ []
calls_past n m [] h = refl
calls_past n m (None ∷ es) h = calls_past (n + 1) m es (omega (arith, h))
calls_past n m (Some k ∷ es) h = calls_not n m k es (λ same. omega (arith, same, h)) ∙ calls_past (n + 1) m es (omega (arith, h))

event_there : (es : List (Option Kept)) (i : ℕ) → (kept_or_new (get_or es i None)).event ≡ get_or (map event_or_blank es) i (pending_event kind.Plain)
event_there [] i = refl
event_there (x ∷ es) zero = refl
event_there (x ∷ es) (suc i) = event_there es i

-- what is kept of an event is what is seen, and of others nothing
pub event_seen : (h : HappenOf) (e : EventId) → (kept_at h.events e).event ≡ event_at (seen h) e
event_seen h e = event_there h.events e.0

pub made_seen : (es : List (Option Kept)) → length es ≡ length (map event_or_blank es)
made_seen [] = refl
made_seen (x ∷ es) = omega (arith, made_seen es)

pub shows_seen : (h : HappenOf) → Shows h (seen h)
shows_seen h = record {
  time = refl;
  scheduled = refl;
  agenda = IsPermutation-refl h.agenda;
  made = made_seen h.events;
  kept = λ e is. record { event = event_seen h e; callbacks = sym (subst (λ m. calls_at m (registered_from 0 h.events) ≡ (kept_at h.events e).callbacks) (omega arith) (calls_there 0 e.0 h.events is)) };
  unmade = λ e past. calls_past 0 e.0 h.events (omega (arith, past, made_seen h.events));
}
