-- Time, agenda and table still fit together, one lemma for each way in which they change.
use Rattle.std.proofs.Common.{◌≡◌, ◌≢◌, ℕ, ◌+◌, ◌<◌, ◌≤◌, ◌^◌, Bool, true, false, List, [], ◌∷◌, ◌++◌, length, refl, sym, ap, subst, ◌∙◌, arith, zero, suc, Option, Some, None, length-append, ◌⊎◌, inl, inr, ⊎_elim}
use Rattle.std.specs.Prelude.{slice_index_or, slice_set, IsSome, is_some, is_none, not, ◌&&◌, All, count_by}
use Rattle.std.specs.List.{sum_by}
use Rattle.std.specs.List.Sorted.{IsPermutation}
use Rattle.std.proofs.lemmas.Bool.{false≢true, ne_eqb}
use Rattle.std.proofs.lemmas.Option.{none-some}
use Rattle.std.proofs.Math.ListN.{length-set}
use Rattle.std.proofs.lemmas.List.Sums.{sum_by-append, sum_by-cons}
use Rattle.std.proofs.lemmas.List.Sorted.{sum_by_pushed, length_permutation, All-permutation}
use Rattle.std.proofs.lemmas.List.Elements.{All-cons, All-head, All-tail}
use Rattle.std.proofs.lemmas.List.Kept.{AllPairs-cons}
use Rattle.sim_types.proofs.Permutations.{AllPairs-IsPermutation, AllPairs-tail}
use Rattle.sim_types.specs.declared.event.EventId.{EventId}
use Rattle.sim_types.specs.declared.event.EventKind.{EventKind}
use Rattle.sim_types.specs.declared.event.Outcome.{Outcome}
use Rattle.sim_types.specs.declared.event.Entry.{Entry}
use Rattle.sim_machine.specs.State.{EventOf}
use Rattle.sim_machine.specs.Events.{is_same, pending_event}
use Rattle.sim_machine.specs.Conditions.{most_weight}
use Rattle.sim_machine.specs.Standing.{one_if}
use Rattle.sim_machine_law.proofs.Events.EventLaws.{is_same-self}
use Rattle.sim_happen_model.specs.TableOf.{Kept, IsKept, kept_at, kept_or_new, kept_condition, new_kept}
use Rattle.sim_happen_model.specs.Changes.{with_outcome, with_processed, with_holder}
use Rattle.sim_happen_model.specs.Agendas.{TakesFirst}
use Rattle.sim_happen_model.specs.HappenOf.{HappenOf}
use Rattle.sim_happen_model.specs.Holders.{members_in, member_count, memberships, AreOwed}
use Rattle.sim_happen_model.specs.Sound.{awaits, kept_one, awaiting_one, pending_one, entry_one, IsTime, weight_in, AreNarrow, IsInOrder, AreInOrder, AreScheduled, AreEntries, IsSound}
use Rattle.sim_happen_law.proofs.Shown.KeptPlaces.{kept_made, kept_is, at_set, at_more, sum_set, sum_same}
use Rattle.sim_happen_law.proofs.Changes.Following.{SameTime}
use Rattle.sim_happen_law.proofs.Entries.Due.{apart_permuted, entries_left, entry_awaits, awaiting_kept, awaits_parts}

-- ---- weights

abbrev pub members_at : List (Option Kept) → EventId → List EventId
members_at es e = (kept_condition es e).members

pub sum_less : (f g : EventId → ℕ) → ((e : EventId) → g e ≤ f e) → (ms : List EventId) → sum_by g ms ≤ sum_by f ms
sum_less f g less [] = omega arith
sum_less f g less (m ∷ ms) = omega (arith, less m, sum_less f g less ms, sum_by-cons f m ms, sum_by-cons g m ms)

-- where members stay or are gone, nothing weighs more
pub weighs_less : (es fs : List (Option Kept)) → ((e : EventId) → (members_at fs e ≡ members_at es e) ⊎ (members_at fs e ≡ [])) → (depth : ℕ) (e : EventId)
    → weight_in depth fs e ≤ weight_in depth es e
weighs_less es fs h zero e = omega arith
weighs_less es fs h (suc depth) e =
    ⊎_elim
    (λ (same : members_at fs e ≡ members_at es e).
    let less : sum_by (weight_in depth fs) (members_at es e) ≤ sum_by (weight_in depth es) (members_at es e) = sum_less (weight_in depth es) (weight_in depth fs) (weighs_less es fs h depth) (members_at es e) in
    subst (λ ms. 1 + sum_by (weight_in depth fs) ms ≤ 1 + sum_by (weight_in depth es) (members_at es e)) (sym same) (omega (arith, less)))
    (λ (gone : members_at fs e ≡ []). subst (λ ms. 1 + sum_by (weight_in depth fs) ms ≤ 1 + sum_by (weight_in depth es) (members_at es e)) (sym gone) (omega arith))
    (h e)

pub narrow_less : (es fs : List (Option Kept)) → ((e : EventId) → (members_at fs e ≡ members_at es e) ⊎ (members_at fs e ≡ [])) → AreNarrow es → AreNarrow fs
narrow_less es fs h n = record { each = λ e. omega (arith, n.each e, weighs_less es fs h (most_weight + 1) e) }

-- ---- an event changes quietly: it has the same members, and no fewer holders

pub record IsQuiet (k j : Kept) : Type 0 where
  pub outcome : j.event.outcome ≡ k.event.outcome
  pub processed : j.event.processed ≡ k.event.processed
  pub cancelled : j.event.cancelled ≡ k.event.cancelled
  pub members : members_in j ≡ members_in k
  pub holders : k.holders ≤ j.holders

pub memberships_set : (es : List (Option Kept)) (e f : EventId) (k : Kept) → IsKept es e → members_in k ≡ members_in (kept_at es e)
    → memberships (slice_set es e.0 (Some k)) f ≡ memberships es f
memberships_set es e f k kept same = sum_same (member_count f) es e (Some k) kept (ap (λ ms. count_by (is_same f) ms) same)

pub owed_with : (todo : List EventId) (es : List (Option Kept)) (e : EventId) (k : Kept) → IsKept es e → members_in k ≡ members_in (kept_at es e)
    → (kept_at es e).holders ≤ k.holders → AreOwed todo es → AreOwed todo (slice_set es e.0 (Some k))
owed_with todo es e k kept members holders owed =
    let P : EventId → Option Kept → Type 0 = λ f o. memberships es f + count_by (is_same f) todo ≤ (kept_or_new o).holders in
    record {
      each = λ f.
          let same = memberships_set es e f k kept members in
          let less = at_set P es e (Some k) (kept_made es e kept) (omega (arith, owed.each e, holders)) (λ g differ. owed.each g) f in
          omega (arith, same, less);
    }

narrow_quiet : (es : List (Option Kept)) (e : EventId) (k : Kept) → IsKept es e → members_in k ≡ members_in (kept_at es e) → AreNarrow es
    → AreNarrow (slice_set es e.0 (Some k))
narrow_quiet es e k kept same n =
    let P : EventId → Option Kept → Type 0 = λ f o. (members_in (kept_or_new o) ≡ members_at es f) ⊎ (members_in (kept_or_new o) ≡ []) in
    narrow_less es (slice_set es e.0 (Some k)) (at_set P es e (Some k) (kept_made es e kept) (inl same) (λ g differ. inl refl)) n

order_set : (es : List (Option Kept)) (e : EventId) (o : Option Kept) → IsKept es e → IsInOrder (kept_or_new o)
    → AreInOrder es → AreInOrder (slice_set es e.0 o)
order_set es e o kept here order =
    let P : EventId → Option Kept → Type 0 = λ f x. IsInOrder (kept_or_new x) in
    record { each = at_set P es e o (kept_made es e kept) here (λ g differ. order.each g) }

-- the agenda has the same entries, where e awaits its pop as before
scheduled_set : (agenda : List Entry) (es : List (Option Kept)) (e : EventId) (o : Option Kept) → IsKept es e → awaits (kept_or_new o) ≡ awaits (kept_at es e)
    → AreScheduled agenda es → AreScheduled agenda (slice_set es e.0 o)
scheduled_set agenda es e o kept same a =
    let P : EventId → Option Kept → Type 0 = λ f x. sum_by (entry_one f) agenda ≡ one_if (awaits (kept_or_new x)) in
    record {
      each = at_set P es e o (kept_made es e kept) (a.each e ∙ ap one_if (sym same)) (λ g differ. a.each g);
      all = a.all ∙ sym (sum_same awaiting_one es e o kept (ap one_if same));
    }

-- an event that awaits its pop as before, is pending at most as before, and is kept or gone
pub sound_set : (h n : HappenOf) (room : ℕ) (e : EventId) (o : Option Kept) → IsKept h.events e → SameTime h n → n.events ≡ slice_set h.events e.0 o
    → awaits (kept_or_new o) ≡ awaits (kept_at h.events e) → pending_one o ≤ pending_one (Some (kept_at h.events e)) → kept_one o ≤ 1
    → IsInOrder (kept_or_new o) → AreOwed [] (slice_set h.events e.0 o) → AreNarrow (slice_set h.events e.0 o)
    → IsSound h room → IsSound n room
sound_set h n room e o kept t is same pending one order owed narrow s =
    let len = length-set h.events e.0 o in
    record {
      clock = subst IsTime (sym t.time) s.clock;
      entries = subst (λ m. AreEntries n.agenda m) (sym t.scheduled) (subst (λ xs. AreEntries xs h.scheduled) (sym t.agenda) s.entries);
      awaiting = subst (AreScheduled n.agenda) (sym is) (subst (λ xs. AreScheduled xs (slice_set h.events e.0 o)) (sym t.agenda) (scheduled_set h.agenda h.events e o kept same s.awaiting));
      order = subst AreInOrder (sym is) (order_set h.events e o kept order s.order);
      once = subst (λ m. m + sum_by pending_one n.events ≤ length n.events) (sym t.scheduled) (subst (λ es. h.scheduled + sum_by pending_one es ≤ length es) (sym is) (omega (arith, s.once, len, sum_set pending_one h.events e o kept, pending)));
      few = subst (λ es. length es ≤ 2 ^ 62) (sym is) (omega (arith, s.few, len));
      places = subst (λ xs. sum_by kept_one n.events ≤ length xs + room) (sym t.agenda) (subst (λ es. sum_by kept_one es ≤ length h.agenda + room) (sym is) (omega (arith, s.places, sum_set kept_one h.events e o kept, one)));
      members = subst (AreOwed []) (sym is) owed;
      narrow = subst AreNarrow (sym is) narrow;
    }

awaits_same : (k j : Kept) → IsQuiet k j → awaits j ≡ awaits k
awaits_same k j q = rw (q.outcome, q.processed) refl

order_same : (k j : Kept) → IsQuiet k j → IsInOrder k → IsInOrder j
order_same k j q o = record {
  cancelled = λ c. q.outcome ∙ o.cancelled (sym q.cancelled ∙ c);
  pending = λ p. q.processed ∙ o.pending (sym q.outcome ∙ p);
}

pub sound_quiet : (h n : HappenOf) (room : ℕ) (e : EventId) (k : Kept) → IsKept h.events e → SameTime h n → n.events ≡ slice_set h.events e.0 (Some k)
    → IsQuiet (kept_at h.events e) k → IsSound h room → IsSound n room
sound_quiet h n room e k kept t is q s =
    let same : pending_one (Some k) ≡ pending_one (Some (kept_at h.events e)) = ap (λ (x : Option Outcome). one_if (is_none x)) q.outcome in
    sound_set h n room e (Some k) kept t is (awaits_same (kept_at h.events e) k q) (omega (arith, same)) (omega arith)
    (order_same (kept_at h.events e) k q (s.order.each e)) (owed_with [] h.events e k kept q.members q.holders s.members) (narrow_quiet h.events e k kept q.members s.narrow) s

-- ---- an event more

entries_none : (agenda : List Entry) (es : List (Option Kept)) (e : EventId) → AreScheduled agenda es
    → awaits (kept_at es e) ≡ false → sum_by (entry_one e) agenda ≡ 0
entries_none agenda es e a h = a.each e ∙ ap one_if h

pub past_is : (es : List (Option Kept)) (n : ℕ) → length es ≤ n → slice_index_or es n None ≡ None
past_is [] n h = refl
past_is (x ∷ es) zero h = absurd (omega (arith, h))
past_is (x ∷ es) (suc n) h = past_is es n (omega (arith, h))

pub sum_more : (f : Option Kept → ℕ) (es : List (Option Kept)) (o : Option Kept) → sum_by f (es ++ o ∷ []) ≡ sum_by f es + f o
sum_more f es o = omega (arith, sum_by-append f es (o ∷ []), sum_by-cons f o [])

-- a pending event is made, whose members have holders enough and that is not too heavy
pub sound_more : (h n : HappenOf) (room : ℕ) (x : EventOf) → SameTime h n → n.events ≡ h.events ++ Some (new_kept x) ∷ [] → x.outcome ≡ None
    → x.processed ≡ false → length h.events < 2 ^ 62 → sum_by kept_one h.events < length h.agenda + room
    → AreOwed [] (h.events ++ Some (new_kept x) ∷ []) → AreNarrow (h.events ++ Some (new_kept x) ∷ []) → IsSound h room → IsSound n room
sound_more h n room x t is pending unprocessed few places owed narrow s =
    let k : Kept = new_kept x in
    let es : List (Option Kept) = h.events ++ Some k ∷ [] in
    let new : EventId = record { 0 = length h.events } in
    let len : length es ≡ length h.events + 1 = length-append h.events (Some k ∷ []) in
    let blank : awaits (kept_at h.events new) ≡ false = ap (λ o. awaits (kept_or_new o)) (past_is h.events (length h.events) (omega arith)) in
    let quiet : awaits k ≡ false = rw pending refl in
    let one : pending_one (Some k) ≡ 1 = rw pending refl in
    let P : EventId → Option Kept → Type 0 = λ f o. sum_by (entry_one f) h.agenda ≡ one_if (awaits (kept_or_new o)) in
    let Q : EventId → Option Kept → Type 0 = λ f o. IsInOrder (kept_or_new o) in
    let awaiting : AreScheduled h.agenda es = record {
      each = at_more P h.events (Some k) (entries_none h.agenda h.events new s.awaiting blank ∙ ap one_if (sym quiet)) (λ g differ. s.awaiting.each g);
      all = omega (arith, s.awaiting.all, sum_more awaiting_one h.events (Some k), ap one_if quiet);
    } in
    record {
      clock = subst IsTime (sym t.time) s.clock;
      entries = subst (λ m. AreEntries n.agenda m) (sym t.scheduled) (subst (λ xs. AreEntries xs h.scheduled) (sym t.agenda) s.entries);
      awaiting = subst (AreScheduled n.agenda) (sym is) (subst (λ xs. AreScheduled xs es) (sym t.agenda) awaiting);
      order = subst AreInOrder (sym is) (record { each = at_more Q h.events (Some k) (record { cancelled = λ c. pending; pending = λ p. unprocessed }) (λ g differ. s.order.each g) });
      once = subst (λ m. m + sum_by pending_one n.events ≤ length n.events) (sym t.scheduled) (subst (λ ys. h.scheduled + sum_by pending_one ys ≤ length ys) (sym is) (omega (arith, s.once, len, sum_more pending_one h.events (Some k), one)));
      few = subst (λ ys. length ys ≤ 2 ^ 62) (sym is) (omega (arith, few, len));
      places = subst (λ xs. sum_by kept_one n.events ≤ length xs + room) (sym t.agenda) (subst (λ ys. sum_by kept_one ys ≤ length h.agenda + room) (sym is) (omega (arith, places, sum_more kept_one h.events (Some k))));
      members = subst (AreOwed []) (sym is) owed;
      narrow = subst AreNarrow (sym is) narrow;
    }

-- an event that is no condition
pub sound_made : (h n : HappenOf) (room : ℕ) (kind : EventKind) → SameTime h n → n.events ≡ h.events ++ Some (new_kept (pending_event kind)) ∷ []
    → length h.events < 2 ^ 62 → sum_by kept_one h.events < length h.agenda + room → IsSound h room → IsSound n room
sound_made h n room kind t is few places s =
    let k : Kept = new_kept (pending_event kind) in
    let es : List (Option Kept) = h.events ++ Some k ∷ [] in
    let P : EventId → Option Kept → Type 0 = λ f o. memberships h.events f + 0 ≤ (kept_or_new o).holders in
    let new : EventId = record { 0 = length h.events } in
    let none : memberships h.events new + 0 ≤ 0 = subst (λ o. memberships h.events new + 0 ≤ (kept_or_new o).holders) (past_is h.events (length h.events) (omega arith)) (s.members.each new) in
    let Q : EventId → Option Kept → Type 0 = λ f o. (members_in (kept_or_new o) ≡ members_at h.events f) ⊎ (members_in (kept_or_new o) ≡ []) in
    sound_more h n room (pending_event kind) t is refl refl few places
    (record { each = λ f. omega (arith, at_more P h.events (Some k) (omega (arith, none)) (λ g differ. s.members.each g) f, sum_more (member_count f) h.events (Some k)) })
    (narrow_less h.events es (at_more Q h.events (Some k) (inr refl) (λ g differ. inl refl)) s.narrow) s

-- ---- an event gets its outcome and an entry

entry_at : (x : Entry) (e : EventId) → x.event ≡ e → entry_one e x ≡ 1
entry_at x e same = subst (λ f. one_if (is_same f e) ≡ 1) (sym same) (ap one_if (is_same-self e))

entry_not : (x : Entry) (f : EventId) → f.0 ≢ x.event.0 → entry_one f x ≡ 0
entry_not x f differ = ap one_if (ne_eqb x.event.0 f.0 (λ same. differ (sym same)))

unlike : (x y : Entry) (n : ℕ) → x.key.number ≡ n → y.key.number < n → x.key.number ≢ y.key.number
unlike x y n is below same = omega (arith, is, below, same)

entries_pushed : (old new : List Entry) (x : Entry) (n : ℕ) → IsPermutation (x ∷ old) new → x.key.number ≡ n
    → IsTime x.key.time → AreEntries old n → AreEntries new (n + 1)
entries_pushed old new x n same is time a =
    let below : All (λ y. y.key.number < n + 1) old = λ i d within. omega (arith, a.numbers i d within) in
    let apart : All (λ y. x.key.number ≢ y.key.number) old = λ i d within. unlike x (slice_index_or old i d) n is (a.numbers i d within) in
    record {
      times = All-permutation (λ y. IsTime y.key.time) (x ∷ old) new same (All-cons (λ y. IsTime y.key.time) x old time a.times);
      numbers = All-permutation (λ y. y.key.number < n + 1) (x ∷ old) new same (All-cons (λ y. y.key.number < n + 1) x old (omega (arith, is)) below);
      distinct = AllPairs-IsPermutation (λ y z. y.key.number ≢ z.key.number) (λ y z d. λ e. d (sym e)) (x ∷ old) new same (AllPairs-cons (λ y z. y.key.number ≢ z.key.number) x old apart a.distinct);
    }

-- what is triggered and what is pending are different events
of_outcome : (x : Option Outcome) (p : Bool) → one_if (is_some x && not p) + one_if (is_none x) ≤ 1
of_outcome None p = omega arith
of_outcome (Some x) true = omega arith
of_outcome (Some x) false = omega arith

pub of_outcome_not : (x : Option Outcome) (p : Bool) → p ≡ true → (is_some x && not p) ≡ false
of_outcome_not None p h = refl
of_outcome_not (Some x) true h = refl
of_outcome_not (Some x) false h = absurd (false≢true h)

some_not_none : (x : Option Outcome) → IsSome x → x ≡ None → ⊥
some_not_none None h p = cc
some_not_none (Some x) h p = none-some x (sym p)

counted_apart : (k : Option Kept) → awaiting_one k + pending_one k ≤ kept_one k
counted_apart None = omega arith
counted_apart (Some k) = of_outcome k.event.outcome k.event.processed

sums_apart : (es : List (Option Kept)) → sum_by awaiting_one es + sum_by pending_one es ≤ sum_by kept_one es
sums_apart [] = omega arith
sums_apart (k ∷ es) = omega (arith, sums_apart es, counted_apart k, sum_by-cons awaiting_one k es, sum_by-cons pending_one k es, sum_by-cons kept_one k es)

pub one_in : (f : Option Kept → ℕ) (es : List (Option Kept)) (n : ℕ) → n < length es → f (slice_index_or es n None) ≤ sum_by f es
one_in f [] n h = absurd (omega (arith, h))
one_in f (x ∷ es) zero h = omega (arith, sum_by-cons f x es)
one_in f (x ∷ es) (suc n) h = omega (arith, sum_by-cons f x es, one_in f es n (omega (arith, h)))

one_of : (f : Option Kept → ℕ) (es : List (Option Kept)) (e : EventId) → IsKept es e → f (Some (kept_at es e)) ≤ sum_by f es
one_of f es e kept = subst (λ o. f o ≤ sum_by f es) (kept_is es e kept) (one_in f es e.0 (kept_made es e kept))

pending_is : (k : Kept) → k.event.outcome ≡ None → pending_one (Some k) ≡ 1
pending_is k h = rw h refl

-- a pending event finds a place in the agenda
pub place_found : (h : HappenOf) (room : ℕ) (e : EventId) → IsKept h.events e → (kept_at h.events e).event.outcome ≡ None → IsSound h room → 0 < room
place_found h room e kept pending s =
    omega (arith, s.places, s.awaiting.all, sums_apart h.events, one_of pending_one h.events e kept, pending_is (kept_at h.events e) pending)

-- and a number of scheduling
pub number_found : (h : HappenOf) (room : ℕ) (e : EventId) → IsKept h.events e → (kept_at h.events e).event.outcome ≡ None
    → IsSound h room → h.scheduled < 2 ^ 62
number_found h room e kept pending s =
    omega (arith, s.once, s.few, one_of pending_one h.events e kept, pending_is (kept_at h.events e) pending)

pub awaits_pending : (k : Kept) → k.event.outcome ≡ None → awaits k ≡ false
awaits_pending k h = rw h refl

awaits_put : (k : Kept) (x : Outcome) → k.event.processed ≡ false → awaits (with_outcome x k) ≡ true
awaits_put k x h = rw h refl

-- of entries of which one has e, e has one more
entries_more : (old new : List Entry) (x : Entry) (f : EventId) → IsPermutation (x ∷ old) new
    → sum_by (entry_one f) new ≡ entry_one f x + sum_by (entry_one f) old
entries_more old new x f same = sum_by_pushed (entry_one f) x old new same

pub sound_put : (h n : HappenOf) (room left : ℕ) (e : EventId) (x : Outcome) (y : Entry) → IsKept h.events e → (kept_at h.events e).event.outcome ≡ None
    → (kept_at h.events e).event.cancelled ≡ false → y.event ≡ e → y.key.number ≡ h.scheduled → IsTime y.key.time
    → n.time ≡ h.time → n.scheduled ≡ h.scheduled + 1 → IsPermutation (y ∷ h.agenda) n.agenda
    → n.events ≡ slice_set h.events e.0 (Some (with_outcome x (kept_at h.events e))) → left + 1 ≡ room → IsSound h room → IsSound n left
sound_put h n room left e x y kept pending uncancelled here number time clock scheduled agenda is one s =
    let k : Kept = kept_at h.events e in
    let j : Kept = with_outcome x k in
    let es : List (Option Kept) = slice_set h.events e.0 (Some j) in
    let len = length-set h.events e.0 (Some j) in
    let longer : length n.agenda ≡ length h.agenda + 1 = omega (arith, length_permutation (y ∷ h.agenda) n.agenda agenda) in
    let unprocessed : k.event.processed ≡ false = (s.order.each e).pending pending in
    let yes : awaits j ≡ true = awaits_put k x unprocessed in
    let no : awaits k ≡ false = awaits_pending k pending in
    let P : EventId → Option Kept → Type 0 = λ f o. sum_by (entry_one f) n.agenda ≡ one_if (awaits (kept_or_new o)) in
    let awaiting : AreScheduled n.agenda es = record {
      each = at_set P h.events e (Some j) (kept_made h.events e kept)
          (omega (arith, entries_more h.agenda n.agenda y e agenda, entry_at y e here, s.awaiting.each e, ap one_if no, ap one_if yes))
          (λ g differ. omega (arith, entries_more h.agenda n.agenda y g agenda, entry_not y g (λ same. differ (same ∙ ap (λ (f : EventId). f.0) here)), s.awaiting.each g));
      all = omega (arith, longer, s.awaiting.all, sum_set awaiting_one h.events e (Some j) kept, ap one_if no, ap one_if yes);
    } in
    record {
      clock = subst IsTime (sym clock) s.clock;
      entries = subst (AreEntries n.agenda) (sym scheduled) (entries_pushed h.agenda n.agenda y h.scheduled agenda number time s.entries);
      awaiting = subst (AreScheduled n.agenda) (sym is) awaiting;
      order = subst AreInOrder (sym is) (order_set h.events e (Some j) kept (record { cancelled = λ c. absurd (false≢true (sym uncancelled ∙ c)); pending = λ p. unprocessed }) s.order);
      once = subst (λ m. m + sum_by pending_one n.events ≤ length n.events) (sym scheduled) (subst (λ ys. h.scheduled + 1 + sum_by pending_one ys ≤ length ys) (sym is) (omega (arith, s.once, len, sum_set pending_one h.events e (Some j) kept, pending_is k pending)));
      few = subst (λ ys. length ys ≤ 2 ^ 62) (sym is) (omega (arith, s.few, len));
      places = subst (λ ys. sum_by kept_one ys ≤ length n.agenda + left) (sym is) (omega (arith, s.places, longer, one, sum_same kept_one h.events e (Some j) kept refl));
      members = subst (AreOwed []) (sym is) (owed_with [] h.events e j kept refl (omega arith) s.members);
      narrow = subst AreNarrow (sym is) (narrow_quiet h.events e j kept refl s.narrow);
    }

-- ---- an entry is popped, and its event is processed and held

entries_left_over : (old new : List Entry) (x : Entry) (n : ℕ) → TakesFirst old x new → AreEntries old n → AreEntries new n
entries_left_over old new x n takes a = record {
  times = All-tail (λ y. IsTime y.key.time) x new (All-permutation (λ y. IsTime y.key.time) old (x ∷ new) takes.others a.times);
  numbers = All-tail (λ y. y.key.number < n) x new (All-permutation (λ y. y.key.number < n) old (x ∷ new) takes.others a.numbers);
  distinct = AllPairs-tail (λ y z. y.key.number ≢ z.key.number) x new (apart_permuted old (x ∷ new) takes.others a.distinct);
}

entry_time : (old new : List Entry) (x : Entry) → TakesFirst old x new → All (λ y. IsTime y.key.time) old → IsTime x.key.time
entry_time old new x takes times = All-head (λ y. IsTime y.key.time) x new (All-permutation (λ y. IsTime y.key.time) old (x ∷ new) takes.others times)

awaits_not : (k : Kept) → k.event.processed ≡ true → awaits k ≡ false
awaits_not k h = of_outcome_not k.event.outcome k.event.processed h

pub sound_popped : (h n : HappenOf) (room more : ℕ) (x : Entry) → TakesFirst h.agenda x n.agenda → n.time ≡ x.key.time → n.scheduled ≡ h.scheduled
    → n.events ≡ slice_set h.events x.event.0 (Some (with_processed (with_holder (kept_at h.events x.event)))) → more ≡ room + 1 → IsSound h room
    → IsSound n more
sound_popped h n room more x takes clock scheduled is one s =
    let e : EventId = x.event in
    let k : Kept = kept_at h.events e in
    let j : Kept = with_processed (with_holder k) in
    let es : List (Option Kept) = slice_set h.events e.0 (Some j) in
    let due = entry_awaits h.agenda n.agenda x h.events takes s.awaiting in
    let kept : IsKept h.events e = awaiting_kept h.events e due.0 in
    let parts = awaits_parts h.events e due.0 in
    let len = length-set h.events e.0 (Some j) in
    let shorter : length n.agenda + 1 ≡ length h.agenda = omega (arith, length_permutation h.agenda (x ∷ n.agenda) takes.others) in
    let no : awaits j ≡ false = awaits_not j refl in
    let P : EventId → Option Kept → Type 0 = λ f o. sum_by (entry_one f) n.agenda ≡ one_if (awaits (kept_or_new o)) in
    let awaiting : AreScheduled n.agenda es = record {
      each = at_set P h.events e (Some j) (kept_made h.events e kept) (due.1 ∙ sym (ap one_if no))
          (λ g differ. omega (arith, entries_left h.agenda n.agenda x g takes, entry_not x g differ, s.awaiting.each g));
      all = omega (arith, shorter, s.awaiting.all, sum_set awaiting_one h.events e (Some j) kept, ap one_if no, ap one_if due.0);
    } in
    record {
      clock = subst IsTime (sym clock) (entry_time h.agenda n.agenda x takes s.entries.times);
      entries = subst (AreEntries n.agenda) (sym scheduled) (entries_left_over h.agenda n.agenda x h.scheduled takes s.entries);
      awaiting = subst (AreScheduled n.agenda) (sym is) awaiting;
      order = subst AreInOrder (sym is) (order_set h.events e (Some j) kept (record { cancelled = (s.order.each e).cancelled; pending = λ p. absurd (some_not_none k.event.outcome parts.0 p) }) s.order);
      once = subst (λ m. m + sum_by pending_one n.events ≤ length n.events) (sym scheduled) (subst (λ ys. h.scheduled + sum_by pending_one ys ≤ length ys) (sym is) (omega (arith, s.once, len, sum_same pending_one h.events e (Some j) kept refl)));
      few = subst (λ ys. length ys ≤ 2 ^ 62) (sym is) (omega (arith, s.few, len));
      places = subst (λ ys. sum_by kept_one ys ≤ length n.agenda + more) (sym is) (omega (arith, s.places, shorter, one, sum_same kept_one h.events e (Some j) kept refl));
      members = subst (AreOwed []) (sym is) (owed_with [] h.events e j kept refl (omega arith) s.members);
      narrow = subst AreNarrow (sym is) (narrow_quiet h.events e j kept refl s.narrow);
    }
