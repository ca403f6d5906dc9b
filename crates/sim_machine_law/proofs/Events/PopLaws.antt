-- The pop of the entry that is due leaves all others in the agenda, and its time is never in the past.
use Rattle.std.proofs.Common.{◌≡◌, ◌≢◌, ℕ, suc, ◌+◌, ◌≤◌, ◌<◌, ◌^◌, pos, ◌≤ℤ◌, Bool, true, false, ◌&&◌, not, List, [], ◌∷◌, length, Some, refl, sym, subst, ap, ◌∙◌, arith, ◌⊎◌, inl, inr}
use Rattle.std.specs.Prelude.{is_none, ◌==◌, count_by, slice_index_or, slice_set, All, AllPairs, cond}
use Rattle.std.proofs.lemmas.Int.{ints}
use Rattle.std.proofs.lemmas.Bool.Decides.{nat_tests}
use Rattle.std.proofs.lemmas.Bool.{cases_eq}
use Rattle.std.proofs.lemmas.List.{get_or-set_other}
use Rattle.std.proofs.lemmas.Grind.{get_or-set_at}
use Rattle.std.proofs.lemmas.List.Elements.{All-filter, All-weaker, All-head, All-tail, All-from_recursion}
use Rattle.std.proofs.lemmas.List.Kept.{AllPairs-filter}
use Rattle.std.proofs.lemmas.List.Sums.{sum_by-cons}
use Rattle.sim_types.specs.Keys.{KeyOf, IsLess}
use Rattle.sim_types.specs.declared.event.EventId.{EventId}
use Rattle.sim_types.specs.declared.event.Entry.{Entry}
use Rattle.sim_types.specs.declared.event.EventKind.TheVariants as kind
use Rattle.sim_machine.specs.State.{EventOf, Calendar}
use Rattle.sim_machine.specs.Events.{is_same, event_at, is_pending, is_triggered, pending_event}
use Rattle.sim_machine.specs.Agenda.{due, without_entry, popped}
use Rattle.sim_machine.specs.Standing.{one_if}
use Rattle.sim_machine.specs.LawfulTimes.{LawfulTimes}
use Rattle.sim_machine_law.proofs.Events.AgendaLaws.{Among, due_among, due_least}
use Rattle.sim_machine_law.proofs.Events.ScheduledOnce.{outcomes_changed}
use Rattle.sim_machine_law.proofs.Events.TimeLaws.{is_zero, is_one}

pub AllPairs-head : {X : Type 0} (R : X → X → Type 0) (x : X) (xs : List X) → AllPairs R (x ∷ xs) → All (R x) xs
AllPairs-head R x xs h = λ k d below. h 0 (suc k) d (omega arith) (omega (arith, below))

pub AllPairs-tail : {X : Type 0} (R : X → X → Type 0) (x : X) (xs : List X) → AllPairs R (x ∷ xs) → AllPairs R xs
AllPairs-tail R x xs h = λ i j d before below. h (suc i) (suc j) d (omega (arith, before)) (omega (arith, below))

-- what holds of all entries holds of one among them
pub among_has : (P : Entry → Type 0) (es : List Entry) (m : Entry) → All P es → Among es m → P m
among_has P [] m h a = absurd a
among_has P (x ∷ xs) m h (inl same) = subst P (sym same) (All-head P x xs h)
among_has P (x ∷ xs) m h (inr a) = among_has P xs m (All-tail P x xs h) a

abbrev Differ : Entry → Entry → Type 0
Differ x y = x.key.number ≢ y.key.number

keeps_entry : (e x : Entry) (xs : List Entry) → Differ x e → without_entry e (x ∷ xs) ≡ x ∷ without_entry e xs
keeps_entry e x xs differ = grind (arith, nat_tests)

drops_entry : (e : Entry) (xs : List Entry) → without_entry e (e ∷ xs) ≡ without_entry e xs
drops_entry e xs = grind (arith, nat_tests)

keeps_all : (e : Entry) (xs : List Entry) → All (λ y. Differ y e) xs → without_entry e xs ≡ xs
keeps_all e [] h = refl
keeps_all e (x ∷ xs) h = keeps_entry e x xs (All-head (λ y. Differ y e) x xs h) ∙ ap (λ ys. x ∷ ys) (keeps_all e xs (All-tail (λ y. Differ y e) x xs h))

abbrev entries_at : EventId → List Entry → ℕ
entries_at f es = count_by (λ y. is_same y.event f) es

abbrev one_at : EventId → Entry → ℕ
one_at f y = cond (is_same y.event f) 1 0

-- the entry taken out counts for its own event alone
pub entries_without : (e : Entry) (f : EventId) (es : List Entry) → AllPairs Differ es → Among es e
    → entries_at f (without_entry e es) + one_at f e ≡ entries_at f es
entries_without e f [] h a = absurd a
entries_without e f (x ∷ xs) h (inl same) =
    let P : Entry → Type 0 = λ y. entries_at f (without_entry e (y ∷ xs)) + one_at f e ≡ entries_at f (y ∷ xs) in
    let Q : Entry → Type 0 = λ y. All (Differ y) xs in
    let others : All (Differ e) xs = subst Q (sym same) (AllPairs-head Differ x xs h) in
    let kept : without_entry e xs ≡ xs = keeps_all e xs (All-weaker (Differ e) (λ y. Differ y e) (λ y d. λ s. d (sym s)) xs others) in
    subst P same (rw (drops_entry e xs) (rw kept (rw (sum_by-cons (one_at f) e xs) (omega arith))))
entries_without e f (x ∷ xs) h (inr a) =
    let differ : Differ x e = among_has (Differ x) xs e (AllPairs-head Differ x xs h) a in
    let before : entries_at f (without_entry e xs) + one_at f e ≡ entries_at f xs = entries_without e f xs (AllPairs-tail Differ x xs h) a in
    rw (keeps_entry e x xs differ) (rw (sum_by-cons (one_at f) x (without_entry e xs)) (rw (sum_by-cons (one_at f) x xs) (omega (arith, before))))

abbrev is_triggered_event : EventOf → Bool
is_triggered_event x = not (is_none x.outcome) && not x.processed

abbrev done_with : EventOf → EventOf
done_with x = record x { processed = true }

one_at_most : (b : Bool) → one_if b ≤ 1
one_at_most true = omega arith
one_at_most false = omega arith

done_counts_none : (b : Bool) → one_if (b && not true) ≡ 0
done_counts_none true = refl
done_counts_none false = refl

left_at : (e : Entry) (f : EventId) (n old : ℕ) (c : Calendar) → e.event.0 < length c.events → n + one_at f e ≡ old
    → old ≡ one_if (is_triggered c f) → (f.0 ≡ e.event.0) ⊎ ((f.0 ≡ e.event.0) → ⊥)
    → n
    ≡ one_if (is_triggered_event (slice_index_or (slice_set c.events e.event.0 (done_with (event_at c e.event))) f.0 (pending_event kind.Plain)))
left_at e f n old c made sum h (inl same) =
    let d : EventOf = pending_event kind.Plain in
    let one : cond {A = ℕ} (e.event.0 == f.0) 1 0 ≡ 1 = is_one e.event.0 f.0 same in
    let most : one_if (is_triggered c f) ≤ 1 = one_at_most (is_triggered c f) in
    let none : n ≡ 0 = omega (arith, sum, one, most, h) in
    rw (get_or-set_at c.events e.event.0 f.0 (done_with (event_at c e.event)) d same made) (none ∙ sym (done_counts_none (not (is_pending c e.event))))
left_at e f n old c made sum h (inr differ) =
    let zero_one : cond {A = ℕ} (e.event.0 == f.0) 1 0 ≡ 0 = is_zero e.event.0 f.0 differ in
    rw (get_or-set_other c.events e.event.0 f.0 (done_with (event_at c e.event)) (pending_event kind.Plain) differ) (omega (arith, sum, zero_one) ∙ h)

not_before : (a b : KeyOf) → ¬ IsLess a b → b.time ≤ℤ a.time
not_before a b h = grind (arith, ints)

pub popped_lawful : (e : Entry) (c : Calendar) → due c.agenda ≡ Some e → e.event.0 < length c.events → LawfulTimes c → LawfulTimes (popped e c)
popped_lawful e c h made l =
    let here : Among c.agenda e = due_among c.agenda e h in
    let since : c.time ≤ℤ e.key.time = among_has (λ y. c.time ≤ℤ y.key.time) c.agenda e l.later here in
    let until_last : e.key.time ≤ℤ pos (2 ^ 62) = among_has (λ y. y.key.time ≤ℤ pos (2 ^ 62)) c.agenda e l.in_time here in
    let first : All (λ y. ¬ IsLess y.key e.key) c.agenda = All-from_recursion (λ y. ¬ IsLess y.key e.key) c.agenda (due_least c.agenda e h) in
    let low : pos 0 ≤ℤ c.time = l.not_negative in
    record {
      not_negative = omega (arith, ints, low, since);
      in_limit = until_last;
      distinct = AllPairs-filter Differ _ c.agenda l.distinct;
      numbers = All-filter _ (λ y. y.key.number < c.scheduled) c.agenda l.numbers;
      later = All-filter _ (λ y. e.key.time ≤ℤ y.key.time) c.agenda (All-weaker (λ y. ¬ IsLess y.key e.key) (λ y. e.key.time ≤ℤ y.key.time) (λ y n. not_before y.key e.key n) c.agenda first);
      in_time = All-filter _ (λ y. y.key.time ≤ℤ pos (2 ^ 62)) c.agenda l.in_time;
      triggered = λ f. left_at e f (entries_at f (without_entry e c.agenda)) (entries_at f c.agenda) c made (entries_without e f c.agenda l.distinct here) (l.triggered f) (cases_eq f.0 e.event.0);
      scheduled = l.scheduled ∙ sym (outcomes_changed e.event done_with c (λ y. refl));
    }
