-- The entry that is due, and what its pop leaves.
use Rattle.std.proofs.Common.{◌≡◌, ◌≢◌, ℕ, ◌+◌, Bool, true, false, List, [], ◌∷◌, length, refl, sym, ap, arith, ◌⊎◌, inl, inr, Option, Some, None}
use Rattle.std.specs.Prelude.{All, AllPairs, IsSome, is_some, not, ◌&&◌, slice_index_or}
use Rattle.std.specs.List.{sum_by}
use Rattle.std.specs.List.Sorted.{IsPermutation}
use Rattle.std.proofs.lemmas.Int.{ints}
use Rattle.std.proofs.lemmas.Bool.{false≢true}
use Rattle.std.proofs.lemmas.List.Elements.{All-cons, All-head, All-from_recursion}
use Rattle.std.proofs.lemmas.List.Sorted.{IsPermutation-trans, IsPermutation-sym, All-permutation, length_permutation, sum_by_popped}
use Rattle.sim_types.specs.Keys.{KeyOf, IsLess}
use Rattle.sim_types.specs.declared.event.EventId.{EventId}
use Rattle.sim_types.specs.declared.event.Entry.{Entry}
use Rattle.sim_types.specs.declared.event.Outcome.{Outcome}
use Rattle.sim_types.proofs.Permutations.{AllPairs-head, AllPairs-IsPermutation, IsPermutation-without}
use Rattle.sim_machine.specs.Agenda.{due, without_entry}
use Rattle.sim_machine.specs.Standing.{one_if}
use Rattle.sim_machine_law.proofs.Events.AgendaLaws.{due_least, due_among}
use Rattle.sim_machine_law.proofs.Events.EventLaws.{is_same-self}
use Rattle.sim_machine_law.proofs.Events.PopLaws.{among_has}
use Rattle.sim_happen_model.specs.Agendas.{TakesFirst}
use Rattle.sim_happen_model.specs.TableOf.{Kept, IsKept, kept_at, kept_or_new}
use Rattle.sim_happen_model.specs.Sound.{awaits, entry_one, AreScheduled}

same_number : (a b : KeyOf) → ¬ IsLess a b → ¬ IsLess b a → a.number ≡ b.number
same_number a b p q = grind (arith, ints)

-- no two entries have the same number
abbrev pub AreApart : List Entry → Type 0
AreApart xs = AllPairs (λ y z. y.key.number ≢ z.key.number) xs

pub apart_permuted : (xs ys : List Entry) → IsPermutation xs ys → AreApart xs → AreApart ys
apart_permuted xs ys h apart = AllPairs-IsPermutation (λ y z. y.key.number ≢ z.key.number) (λ y z d. λ e. d (sym e)) xs ys h apart

-- an entry is this one, or has another number and does not come before it
abbrev IsThisOrLater : Entry → Entry → Type 0
IsThisOrLater x y = (y ≡ x) ⊎ ((x.key.number ≢ y.key.number) × (¬ IsLess y.key x.key))

this_one : (x m : Entry) → ¬ IsLess x.key m.key → IsThisOrLater x m → m ≡ x
this_one x m least (inl same) = same
this_one x m least (inr other) = absurd (other.0 (same_number x.key m.key least other.1))

due_of : (xs : List Entry) (x : Entry) (o : Option Entry) → ((m : Entry) → o ≡ Some m → m ≡ x) → (o ≡ None → ⊥) → o ≡ Some x
due_of xs x None only some = absurd (some refl)
due_of xs x (Some m) only some = ap (λ y. Some y) (only m refl)

none_due : (xs : List Entry) → due xs ≡ None → length xs ≡ 0
none_due [] h = refl
none_due (x ∷ xs) h = cc

-- the entry that no other comes before is the one that is due, in whatever order the agenda is
pub is_due : (xs : List Entry) (x : Entry) (ys : List Entry) → IsPermutation xs (x ∷ ys) → All (λ y. ¬ IsLess y.key x.key) ys → AreApart xs → due xs ≡ Some x
is_due xs x ys others first distinct =
    let differ : All (λ y. x.key.number ≢ y.key.number) ys = AllPairs-head (λ y z. y.key.number ≢ z.key.number) x ys (apart_permuted xs (x ∷ ys) others distinct) in
    let later : All (IsThisOrLater x) ys = λ k d below. inr (differ k d below, first k d below) in
    let each : All (IsThisOrLater x) xs = All-permutation (IsThisOrLater x) (x ∷ ys) xs (IsPermutation-sym xs (x ∷ ys) others) (All-cons (IsThisOrLater x) x ys (inl refl) later) in
    due_of xs x (due xs)
    (λ m h.
    let least : All (λ y. ¬ IsLess y.key m.key) xs = All-from_recursion (λ y. ¬ IsLess y.key m.key) xs (due_least xs m h) in
    let here : ¬ IsLess x.key m.key = All-head (λ y. ¬ IsLess y.key m.key) x ys (All-permutation (λ y. ¬ IsLess y.key m.key) xs (x ∷ ys) others least) in
    this_one x m here (among_has (IsThisOrLater x) xs m each (due_among xs m h)))
    (λ h. let none : length xs ≡ 0 = none_due xs h in omega (arith, none, length_permutation xs (x ∷ ys) others))

-- ---- of any agenda that is the same but for its order

pub due_shown : (xs old new : List Entry) (x : Entry) → IsPermutation xs old → TakesFirst old x new → AreApart old → due xs ≡ Some x
due_shown xs old new x same takes apart =
    is_due xs x new (IsPermutation-trans _ _ _ same takes.others) takes.first (apart_permuted old xs (IsPermutation-sym xs old same) apart)

pub others_shown : (xs old new : List Entry) (x : Entry) → IsPermutation xs old → TakesFirst old x new → AreApart old → IsPermutation (without_entry x xs) new
others_shown xs old new x same takes apart =
    IsPermutation-without (λ (y : Entry). y.key.number) x xs new (apart_permuted old xs (IsPermutation-sym xs old same) apart) (IsPermutation-trans _ _ _ same takes.others)

-- ---- its event

entry_here : (x : Entry) → entry_one x.event x ≡ 1
entry_here x = ap one_if (is_same-self x.event)

pub entries_left : (old new : List Entry) (x : Entry) (f : EventId) → TakesFirst old x new → sum_by (entry_one f) new + entry_one f x ≡ sum_by (entry_one f) old
entries_left old new x f takes = sum_by_popped (entry_one f) x old new takes.others

one_at_most : (b : Bool) (n : ℕ) → n + 1 ≡ one_if b → (b ≡ true) × (n ≡ 0)
one_at_most true n h = (refl, omega (arith, h))
one_at_most false n h = absurd (omega (arith, h))

-- the event of an entry awaits its pop, and has no other entry
pub entry_awaits : (old new : List Entry) (x : Entry) (es : List (Option Kept)) → TakesFirst old x new → AreScheduled old es
    → (awaits (kept_at es x.event) ≡ true) × (sum_by (entry_one x.event) new ≡ 0)
entry_awaits old new x es takes a =
    one_at_most (awaits (kept_at es x.event)) (sum_by (entry_one x.event) new) (omega (arith, entries_left old new x x.event takes, entry_here x, a.each x.event))

kept_if_awaits : (o : Option Kept) → awaits (kept_or_new o) ≡ true → IsSome o
kept_if_awaits None h = absurd (false≢true h)
kept_if_awaits (Some k) h = refl

pub awaiting_kept : (es : List (Option Kept)) (e : EventId) → awaits (kept_at es e) ≡ true → IsKept es e
awaiting_kept es e h = kept_if_awaits (slice_index_or es e.0 None) h

parts_await : (o : Option Outcome) (p : Bool) → (is_some o && not p) ≡ true → IsSome o × (p ≡ false)
parts_await None p h = absurd (false≢true h)
parts_await (Some x) true h = absurd (false≢true h)
parts_await (Some x) false h = (refl, refl)

pub awaits_parts : (es : List (Option Kept)) (e : EventId) → awaits (kept_at es e) ≡ true
    → IsSome (kept_at es e).event.outcome × ((kept_at es e).event.processed ≡ false)
awaits_parts es e h = parts_await (kept_at es e).event.outcome (kept_at es e).event.processed h
