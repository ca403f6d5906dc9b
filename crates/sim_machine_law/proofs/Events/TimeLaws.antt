-- An event that is scheduled stands in the agenda once, and all others stand there as before.
use Rattle.std.proofs.Common.{◌≡◌, ◌≢◌, ℕ, ◌+◌, ◌<◌, ◌^◌, ℤ, pos, ◌≤ℤ◌, ◌+ℤ◌, Bool, true, false, ◌&&◌, not, length, Some, refl, sym, subst, ◌∙◌, arith, ◌⊎◌, inl, inr, zero, suc, ap, ◌++◌, length-append, get_or, [], ◌∷◌, List}
use Rattle.std.specs.Prelude.{Option, None, is_none, is_some, ◌==◌, count_by, slice_index_or, slice_set, cond}
use Rattle.std.proofs.lemmas.Int.{ints}
use Rattle.std.proofs.lemmas.Bool.Decides.{nat_tests}
use Rattle.std.proofs.lemmas.Bool.{cases_eq, false≢true}
use Rattle.std.proofs.lemmas.List.{get_or-set_other}
use Rattle.std.proofs.lemmas.Grind.{get_or-set_at}
use Rattle.std.proofs.lemmas.List.Elements.{All-cons, All-weaker}
use Rattle.std.proofs.lemmas.List.Kept.{AllPairs-cons}
use Rattle.std.proofs.lemmas.List.Sums.{sum_by-cons}
use Rattle.sim_types.specs.declared.event.EventId.{EventId}
use Rattle.sim_types.specs.declared.event.Entry.{Entry}
use Rattle.sim_types.specs.declared.event.Outcome.{Outcome}
use Rattle.sim_types.specs.declared.event.Outcome.TheVariants as outcome
use Rattle.sim_types.specs.declared.event.EventKind.{EventKind}
use Rattle.sim_types.specs.declared.event.EventKind.TheVariants as kind
use Rattle.sim_machine.specs.State.{EventOf, Calendar}
use Rattle.sim_machine.specs.Events.{is_same, event_at, is_pending, is_processed, is_triggered, next_event, pending_event}
use Rattle.sim_machine.specs.Triggering.{schedule, make, make_timeout, normal}
use Rattle.sim_machine.specs.Standing.{one_if}
use Rattle.sim_machine.specs.LawfulTimes.{LawfulTimes, outcomes}
use Rattle.sim_machine_law.proofs.Events.EventLaws.{made_last}
use Rattle.sim_machine_law.proofs.Events.ScheduledOnce.{outcomes_triggered, outcomes_made}

abbrev is_triggered_event : EventOf → Bool
is_triggered_event x = not (is_none x.outcome) && not x.processed

abbrev new_entry : Calendar → EventId → ℕ → ℤ → Entry
new_entry c e priority delay = record { key = record { time = c.time +ℤ delay; priority = priority; number = c.scheduled }; event = e }

abbrev with_outcome : Outcome → EventOf → EventOf
with_outcome x y = record y { outcome = Some x }

pub is_one : (a b : ℕ) → b ≡ a → cond {A = ℕ} (a == b) 1 0 ≡ 1
is_one a b h = grind (arith, nat_tests)

pub is_zero : (a b : ℕ) → (b ≡ a → ⊥) → cond {A = ℕ} (a == b) 1 0 ≡ 0
is_zero a b h = grind (arith, nat_tests)

pending_counts_none : (a b : Bool) → a ≡ true → one_if (not a && b) ≡ 0
pending_counts_none a b h = rw h refl

triggered_counts_once : (b : Bool) → b ≡ false → one_if (not false && not b) ≡ 1
triggered_counts_once b h = rw h refl

counted_at : (e f : EventId) (n : ℕ) (c : Calendar) (x : Outcome) → e.0 < length c.events → is_pending c e ≡ true
    → is_processed c e ≡ false → n ≡ one_if (is_triggered c f) → (f.0 ≡ e.0) ⊎ ((f.0 ≡ e.0) → ⊥)
    → cond {A = ℕ} (e.0 == f.0) 1 0 + n
    ≡ one_if (is_triggered_event (slice_index_or (slice_set c.events e.0 (with_outcome x (event_at c e))) f.0 (pending_event kind.Plain)))
counted_at e f n c x made pending unprocessed h (inl same) =
    let d : EventOf = pending_event kind.Plain in
    let P : ℕ → Type 0 = λ k. is_none (slice_index_or c.events k d).outcome ≡ true in
    let none : n ≡ 0 = h ∙ pending_counts_none (is_pending c f) (not (is_processed c f)) (subst P (sym same) pending) in
    let one : cond {A = ℕ} (e.0 == f.0) 1 0 ≡ 1 = is_one e.0 f.0 same in
    let new : one_if (is_triggered_event (with_outcome x (event_at c e))) ≡ 1 = triggered_counts_once (is_processed c e) unprocessed in
    rw (get_or-set_at c.events e.0 f.0 (with_outcome x (event_at c e)) d same made) (omega (arith, none, one) ∙ sym new)
counted_at e f n c x made pending unprocessed h (inr differ) =
    rw (get_or-set_other c.events e.0 f.0 (with_outcome x (event_at c e)) (pending_event kind.Plain) differ) (omega (arith, is_zero e.0 f.0 differ) ∙ h)

pending_is_none : (o : Option Outcome) → is_none o ≡ true → is_some o ≡ false
pending_is_none None h = refl
pending_is_none (Some x) h = absurd (false≢true h)

pub schedule_lawful : (e : EventId) (x : Outcome) (priority : ℕ) (delay : ℤ) (c : Calendar) → e.0 < length c.events
    → is_pending c e ≡ true → is_processed c e ≡ false → pos 0 ≤ℤ delay → (c.time +ℤ delay) ≤ℤ pos (2 ^ 62) → LawfulTimes c
    → LawfulTimes (schedule e x priority delay c)
schedule_lawful e x priority delay c made pending unprocessed low high h =
    let new : Entry = new_entry c e priority delay in
    record {
      not_negative = h.not_negative;
      in_limit = h.in_limit;
      distinct = AllPairs-cons (λ a b. a.key.number ≢ b.key.number) new c.agenda (All-weaker (λ b. b.key.number < c.scheduled) (λ b. c.scheduled ≢ b.key.number) (λ b below. λ same. omega (arith, below, same)) c.agenda h.numbers) h.distinct;
      numbers = All-cons (λ b. b.key.number < c.scheduled + 1) new c.agenda (omega arith) (All-weaker (λ b. b.key.number < c.scheduled) (λ b. b.key.number < c.scheduled + 1) (λ b n. omega arith) c.agenda h.numbers);
      later = All-cons (λ b. c.time ≤ℤ b.key.time) new c.agenda (omega (arith, ints)) h.later;
      in_time = All-cons (λ b. b.key.time ≤ℤ pos (2 ^ 62)) new c.agenda high h.in_time;
      triggered = λ f. rw (sum_by-cons (λ y. cond (is_same y.event f) 1 0) new c.agenda) (counted_at e f (count_by (λ y. is_same y.event f) c.agenda) c x made pending unprocessed (h.triggered f) (cases_eq f.0 e.0));
      scheduled = ap (λ n. n + 1) h.scheduled ∙ sym (outcomes_triggered e (with_outcome x) c made (pending_is_none (event_at c e).outcome pending) refl);
    }

-- ---- a new event stands nowhere in the agenda

made_same : (xs : List EventOf) (k : EventKind) (n : ℕ)
    → is_triggered_event (get_or (xs ++ pending_event k ∷ []) n (pending_event kind.Plain))
    ≡ is_triggered_event (get_or xs n (pending_event kind.Plain))
made_same [] k zero = refl
made_same [] k (suc n) = refl
made_same (x ∷ xs) k zero = refl
made_same (x ∷ xs) k (suc n) = made_same xs k n

-- events that are changed but neither triggered nor processed
pub events_changed : (c : Calendar) (xs : List EventOf)
    → ((f : EventId) → is_triggered (record c { events = xs }) f ≡ is_triggered c f)
    → outcomes (record c { events = xs }) ≡ outcomes c → LawfulTimes c → LawfulTimes (record c { events = xs })
events_changed c xs same counted h =
    record {
      not_negative = h.not_negative;
      in_limit = h.in_limit;
      distinct = h.distinct;
      numbers = h.numbers;
      later = h.later;
      in_time = h.in_time;
      triggered = λ f. h.triggered f ∙ ap one_if (sym (same f));
      scheduled = h.scheduled ∙ sym counted;
    }

pub make_lawful : (k : EventKind) (c : Calendar) → LawfulTimes c → LawfulTimes (make k c)
make_lawful k c h = events_changed c (c.events ++ pending_event k ∷ []) (λ f. made_same c.events k f.0) (outcomes_made k c) h

length_made : (xs : List EventOf) (x : EventOf) → length xs < length (xs ++ x ∷ [])
length_made xs x = rw (length-append xs (x ∷ [])) (omega arith)

pub timeout_lawful : (delay value : ℤ) (c : Calendar) → pos 0 ≤ℤ delay → (c.time +ℤ delay) ≤ℤ pos (2 ^ 62) → LawfulTimes c
    → LawfulTimes (make_timeout delay value c)
timeout_lawful delay value c low high h =
    let new : EventOf = pending_event kind.Timeout in
    let last : get_or (c.events ++ new ∷ []) (length c.events) (pending_event kind.Plain) ≡ new = made_last c.events new in
    schedule_lawful (next_event c) (outcome.Ok value) normal delay (make kind.Timeout c) (length_made c.events new)
    (ap (λ (x : EventOf). is_none x.outcome) last) (ap (λ (x : EventOf). x.processed) last) low high (make_lawful kind.Timeout c h)
