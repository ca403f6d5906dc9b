-- Who holds what changes as the state does.
use Rattle.std.proofs.Common.{◌≡◌, ◌≢◌, ℕ, ◌+◌, Bool, true, false, ◌&&◌, not, List, [], ◌∷◌, ◌++◌, map, filter, refl, sym, ap, ◌∙◌, arith, ⊎_elim, Some, if◌then◌else◌}
use Rattle.std.specs.Prelude.{◌==◌, count_by, find, All, AllPairs}
use Rattle.std.specs.List.{sum_by}
use Rattle.std.proofs.lemmas.Bool.{cases_eq, ne_eqb, eqb-true, false≢true}
use Rattle.std.proofs.lemmas.Option.{none-some, same_Some}
use Rattle.std.proofs.lemmas.List.Sums.{sum_by-cons}
use Rattle.std.proofs.lemmas.List.Elements.{All-head, All-tail}
use Rattle.sim_types.proofs.Permutations.{AllPairs-head, AllPairs-tail}
use Rattle.sim_types.specs.declared.event.EventId.{EventId}
use Rattle.sim_machine.specs.State.{State}
use Rattle.sim_machine.specs.Events.{is_same}
use Rattle.sim_machine.specs.Tellings.{Telling}
use Rattle.sim_machine_law.proofs.Events.CallbackLaws.{count_by-cons, count_by-append, counts_none}
use Rattle.sim_happen_model.specs.Naming.{times_named, but_zero}
use Rattle.sim_happen_model.specs.HolderChanges.{Trades, StatesTrade}
use Rattle.sim_accounts.proofs.Counts.{count_same, count_filter}
use Rattle.sim_accounts.proofs.NamedEvents.{awaiting, zero_alone, other_alone}

-- ---- event 0 is not counted

count_none : {X : Type 0} (p : X → Bool) → ((x : X) → p x ≡ false) → (xs : List X) → count_by p xs ≡ 0
count_none p none [] = refl
count_none p none (x ∷ xs) = omega (arith, count_by-cons p x xs, counts_none (p x) (none x), count_none p none xs)

zero_apart : (e y : EventId) (b : Bool) → e.0 ≡ 0 → (y.0 == 0) ≡ b → (not b && (e.0 == y.0)) ≡ false
zero_apart e y true zero is = refl
zero_apart e y false zero is = rw zero (swapped y is)
  where
    swapped : (y : EventId) → (y.0 == 0) ≡ false → (0 == y.0) ≡ false
    swapped y h = ne_eqb 0 y.0 (λ same. false≢true (sym h ∙ rw (← same) refl))

pub zero_uncounted : (e : EventId) (xs : List EventId) → e.0 ≡ 0 → count_by (is_same e) (but_zero xs) ≡ 0
zero_uncounted e xs zero =
    count_filter (is_same e) (λ y. not (y.0 == 0)) xs ∙ count_none (λ y. not (y.0 == 0) && is_same e y) (λ y. zero_apart e y (y.0 == 0) zero refl) xs

other_alike : (e y : EventId) (b : Bool) → e.0 ≢ 0 → (y.0 == 0) ≡ b → (not b && (e.0 == y.0)) ≡ (e.0 == y.0)
other_alike e y true other is = sym (ne_eqb e.0 y.0 (λ same. other (same ∙ eqb-true y.0 0 is)))
other_alike e y false other is = refl

-- any other is
pub other_counted : (e : EventId) (xs : List EventId) → e.0 ≢ 0 → count_by (is_same e) (but_zero xs) ≡ count_by (is_same e) xs
other_counted e xs other =
    count_filter (is_same e) (λ y. not (y.0 == 0)) xs ∙ count_same (λ y. not (y.0 == 0) && is_same e y) (is_same e) (λ y. other_alike e y (y.0 == 0) other refl) xs

-- each event is named by these more, and by those fewer; and so do callbacks change that pass outcomes on
pub states_trade : {B : Type 0} (named : ℕ) (tell : Telling B) (gained lost more less : List EventId) (s t : State B)
    → ((e : EventId) → times_named named tell t e + count_by (is_same e) lost ≡ times_named named tell s e + count_by (is_same e) gained)
    → ((e : EventId) → awaiting t e + count_by (is_same e) less ≡ awaiting s e + count_by (is_same e) more)
    → StatesTrade named tell (but_zero gained ++ more) (but_zero lost ++ less) s t
states_trade named tell gained lost more less s t names calls = record {
  each = λ e. ⊎_elim
      (λ zero. omega (arith, calls e, zero_alone named tell s e zero, zero_alone named tell t e zero, zero_uncounted e gained zero, zero_uncounted e lost zero, count_by-append (is_same e) (but_zero gained) more, count_by-append (is_same e) (but_zero lost) less))
      (λ other. omega (arith, names e, calls e, other_alone named tell s e other, other_alone named tell t e other, other_counted e gained other, other_counted e lost other, count_by-append (is_same e) (but_zero gained) more, count_by-append (is_same e) (but_zero lost) less))
      (cases_eq e.0 0);
}

-- where callbacks stay
pub names_trade : {B : Type 0} (named : ℕ) (tell : Telling B) (gained lost : List EventId) (s t : State B)
    → ((e : EventId) → times_named named tell t e + count_by (is_same e) lost ≡ times_named named tell s e + count_by (is_same e) gained)
    → ((e : EventId) → awaiting t e ≡ awaiting s e) → StatesTrade named tell (but_zero gained) (but_zero lost) s t
names_trade named tell gained lost s t names calls =
    let both : StatesTrade named tell (but_zero gained ++ []) (but_zero lost ++ []) s t = states_trade named tell gained lost [] [] s t names (λ e. omega (arith, calls e)) in
    record { each = λ e. omega (arith, both.each e, count_by-append (is_same e) (but_zero gained) [], count_by-append (is_same e) (but_zero lost) []) }

-- where names stay
pub calls_trade : {B : Type 0} (named : ℕ) (tell : Telling B) (more less : List EventId) (s t : State B)
    → ((e : EventId) → times_named named tell t e ≡ times_named named tell s e)
    → ((e : EventId) → awaiting t e + count_by (is_same e) less ≡ awaiting s e + count_by (is_same e) more) → StatesTrade named tell more less s t
calls_trade named tell more less s t names calls = states_trade named tell [] [] more less s t (λ e. omega (arith, names e)) calls

-- ---- one change after another

pub trades_then : (gained lost gained' lost' : List EventId) (old now new : EventId → ℕ) → Trades gained lost old now → Trades gained' lost' now new
    → Trades (gained ++ gained') (lost ++ lost') old new
trades_then gained lost gained' lost' old now new h k =
    record { each = λ e. omega (arith, h.each e, k.each e, count_by-append (is_same e) gained gained', count_by-append (is_same e) lost lost') }

-- and then nothing
pub trades_quietly : (gained lost : List EventId) (old now new : EventId → ℕ) → Trades gained lost old now → Trades [] [] now new → Trades gained lost old new
trades_quietly gained lost old now new h k = record { each = λ e. omega (arith, h.each e, k.each e) }

pub trades_nothing : (old new : EventId → ℕ) → ((e : EventId) → new e ≡ old e) → Trades [] [] old new
trades_nothing old new same = record { each = λ e. omega (arith, same e) }

-- ---- sums once an element is left out or another

module _ {X : Type 0} (key : X → ℕ) (n : ℕ) (f : X → ℕ) where
  others_stay : (xs : List X) → All (λ x. key x ≢ n) xs → sum_by f (filter (λ x. not (key x == n)) xs) ≡ sum_by f xs
  others_stay [] h = refl
  others_stay (x ∷ xs) h =
      rw (ne_eqb (key x) n (All-head (λ y. key y ≢ n) x xs h))
      (omega (arith, sum_by-cons f x (filter (λ y. not (key y == n)) xs), sum_by-cons f x xs, others_stay xs (All-tail (λ y. key y ≢ n) x xs h)))

  pub sum_without : (xs : List X) (y : X) → AllPairs (λ a b. key a ≢ key b) xs → find (λ x. key x == n) xs ≡ Some y
      → sum_by f (filter (λ x. not (key x == n)) xs) + f y ≡ sum_by f xs
  sum_without [] y apart h = absurd (none-some y h)
  sum_without (x ∷ xs) y apart h = at (key x == n) refl (sum_without xs y (AllPairs-tail (λ a b. key a ≢ key b) x xs apart))
    where
      at : (b : Bool) → (key x == n) ≡ b → (find (λ z. key z == n) xs ≡ Some y → sum_by f (filter (λ z. not (key z == n)) xs) + f y ≡ sum_by f xs)
          → sum_by f (filter (λ z. not (key z == n)) (x ∷ xs)) + f y ≡ sum_by f (x ∷ xs)
      at true is rest =
          let same : x ≡ y = same_Some x y (rw is at h) in
          let others : All (λ z. key z ≢ n) xs = λ i d below e. AllPairs-head (λ a b. key a ≢ key b) x xs apart i d below (eqb-true (key x) n is ∙ sym e) in
          rw is (omega (arith, sum_by-cons f x xs, ap f same, others_stay xs others))
      at false is rest =
          rw is (omega (arith, sum_by-cons f x (filter (λ z. not (key z == n)) xs), sum_by-cons f x xs, rest (rw is at h)))

  abbrev changed_at : (X → X) → List X → List X
  changed_at change xs = map (λ x. if key x == n then change x else x) xs

  others_unchanged : (change : X → X) (xs : List X) → All (λ x. key x ≢ n) xs → sum_by f (changed_at change xs) ≡ sum_by f xs
  others_unchanged change [] h = refl
  others_unchanged change (x ∷ xs) h =
      rw (ne_eqb (key x) n (All-head (λ y. key y ≢ n) x xs h))
      (omega (arith, sum_by-cons f x (changed_at change xs), sum_by-cons f x xs, others_unchanged change xs (All-tail (λ y. key y ≢ n) x xs h)))

  pub sum_changed : (change : X → X) (xs : List X) (y : X) → AllPairs (λ a b. key a ≢ key b) xs → find (λ x. key x == n) xs ≡ Some y
      → sum_by f (changed_at change xs) + f y ≡ sum_by f xs + f (change y)
  sum_changed change [] y apart h = absurd (none-some y h)
  sum_changed change (x ∷ xs) y apart h = at (key x == n) refl (sum_changed change xs y (AllPairs-tail (λ a b. key a ≢ key b) x xs apart))
    where
      at : (b : Bool) → (key x == n) ≡ b → (find (λ z. key z == n) xs ≡ Some y → sum_by f (changed_at change xs) + f y ≡ sum_by f xs + f (change y))
          → sum_by f (changed_at change (x ∷ xs)) + f y ≡ sum_by f (x ∷ xs) + f (change y)
      at true is rest =
          let same : x ≡ y = same_Some x y (rw is at h) in
          let others : All (λ z. key z ≢ n) xs = λ i d below e. AllPairs-head (λ a b. key a ≢ key b) x xs apart i d below (eqb-true (key x) n is ∙ sym e) in
          rw is (omega (arith, sum_by-cons f x xs, sum_by-cons f (change x) (changed_at change xs), others_unchanged change xs others, ap f same, ap (λ z. f (change z)) same))
      at false is rest =
          rw is (omega (arith, sum_by-cons f x (changed_at change xs), sum_by-cons f x xs, rest (rw is at h)))
