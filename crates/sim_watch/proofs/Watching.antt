-- What is watched tells of further units, where nothing changes before the last of them.
use Rattle.std.proofs.Common.{◌≡◌, ◌≤◌, ◌<◌, ℕ, ◌+◌, zero, suc, ℤ, pos, ◌+ℤ◌, ◌-ℤ◌, ◌*ℤ◌, max, refl, sym, subst, ap, ◌∙◌, arith, add-zero}
use Rattle.std.specs.Int.{int_max, int_min}
use Rattle.std.proofs.lemmas.Int.{ints, clamps}
use Rattle.std.proofs.Math.IntN.{*ℤ-zero}
use Rattle.sim_types.specs.declared.line.Measure.{Measure}
use Rattle.sim_types.specs.declared.line.WatchRow.{WatchRow}
use Rattle.sim_machine.specs.Measures.{over_time, over_all, row_of}
use Rattle.sim_watch.specs.Watched.{WatchedOf, IsWatched, IsSteady, row_at}
use Rattle.sim_watch.proofs.Sums.{times_sum}

-- ---- one number over units of which only the last changes something

-- in no time nothing is added
no_time : (number a b : ℤ) → b ≡ a → number *ℤ (b -ℤ a) ≡ pos 0
no_time number a b h = let none : b -ℤ a ≡ pos 0 = omega (arith, ints, h) in ap (λ x. number *ℤ x) none ∙ *ℤ-zero number

none_added : (sum product : ℤ) → product ≡ pos 0 → sum +ℤ product ≡ sum
none_added sum product h = omega (arith, ints, h)

-- a sum goes on from one time to a later one
sum_on : (sum number since then now total : ℤ) → sum +ℤ (number *ℤ (then -ℤ since)) ≡ total →
    sum +ℤ (number *ℤ (now -ℤ since)) ≡ total +ℤ (number *ℤ (now -ℤ then))
sum_on sum number since then now total h =
    let all : now -ℤ since ≡ (then -ℤ since) +ℤ (now -ℤ then) = omega (arith, ints) in
    let both : number *ℤ (now -ℤ since) ≡ (number *ℤ (then -ℤ since)) +ℤ (number *ℤ (now -ℤ then)) = ap (λ x. number *ℤ x) all ∙ times_sum number (then -ℤ since) (now -ℤ then) in
    omega (arith, ints, h, both)

module _ (time number : ℕ → ℤ) (k : ℕ) where
  over_time_next : (n j : ℕ) → j ≡ suc n → over_time time number j ≡ over_time time number n +ℤ (number n *ℤ (time j -ℤ time n))
  over_time_next n j h = rw h refl

  over_time_kept : (n : ℕ) → ((i : ℕ) → i < suc n → time (k + i) ≡ time k) → over_time time number (k + n) ≡ over_time time number k
  over_time_kept zero same = ap (over_time time number) (add-zero k)
  over_time_kept (suc n) same =
      let last : time (k + suc n) ≡ time (k + n) = same (suc n) (omega arith) ∙ sym (same n (omega arith)) in
      over_time_next (k + n) (k + suc n) (omega arith)
      ∙ none_added (over_time time number (k + n)) (number (k + n) *ℤ (time (k + suc n) -ℤ time (k + n))) (no_time (number (k + n)) (time (k + n)) (time (k + suc n)) last)
      ∙ over_time_kept n (λ i less. same i (omega (arith, less)))

  pub over_time_on : (n : ℕ) → ((i : ℕ) → i < n → time (k + i) ≡ time k) → ((i : ℕ) → i < n → number (k + i) ≡ number k) → 1 ≤ n
      → over_time time number (k + n) ≡ over_time time number k +ℤ (number k *ℤ (time (k + n) -ℤ time k))
  over_time_on zero same steady some = absurd (omega (arith, some))
  over_time_on (suc n) same steady some =
      over_time_next (k + n) (k + suc n) (omega arith) ∙ rw (over_time_kept n same, steady n (omega arith), same n (omega arith)) refl

module _ {X : Type 0} (pick : X → X → X) (idem : (x : X) → pick x x ≡ x) (absorbs : (x y : X) → pick (pick x y) y ≡ pick x y) (number : ℕ → X) where
  pub over_all_again : (k : ℕ) → pick (over_all pick number k) (number k) ≡ over_all pick number k
  over_all_again zero = idem (number zero)
  over_all_again (suc k) = absorbs (over_all pick number k) (number (suc k))

  over_all_next : (n j : ℕ) → j ≡ suc n → over_all pick number j ≡ pick (over_all pick number n) (number j)
  over_all_next n j h = rw h refl

  over_all_kept : (k n : ℕ) → ((i : ℕ) → i < suc n → number (k + i) ≡ number k) → over_all pick number (k + n) ≡ over_all pick number k
  over_all_kept k zero steady = ap (over_all pick number) (add-zero k)
  over_all_kept k (suc n) steady =
      over_all_next (k + n) (k + suc n) (omega arith)
      ∙ rw (over_all_kept k n (λ i less. steady i (omega (arith, less))), steady (suc n) (omega arith)) (over_all_again k)

  pub over_all_on : (k n : ℕ) → ((i : ℕ) → i < n → number (k + i) ≡ number k) → 1 ≤ n
      → over_all pick number (k + n) ≡ pick (over_all pick number k) (number (k + n))
  over_all_on k zero steady some = absurd (omega (arith, some))
  over_all_on k (suc n) steady some = over_all_next (k + n) (k + suc n) (omega arith) ∙ ap (λ x. pick x (number (k + suc n))) (over_all_kept k n steady)

max_same : (x : ℕ) → max x x ≡ x
max_same x = omega arith

max_absorbs : (x y : ℕ) → max (max x y) y ≡ max x y
max_absorbs x y = omega arith

int_max_same : (x : ℤ) → int_max x x ≡ x
int_max_same x = omega (arith, ints, clamps)

int_max_absorbs : (x y : ℤ) → int_max (int_max x y) y ≡ int_max x y
int_max_absorbs x y = omega (arith, ints, clamps)

int_min_same : (x : ℤ) → int_min x x ≡ x
int_min_same x = omega (arith, ints, clamps)

int_min_absorbs : (x y : ℤ) → int_min (int_min x y) y ≡ int_min x y
int_min_absorbs x y = omega (arith, ints, clamps)

-- ---- a row

abbrev row_with : ℤ → ℕ → ℤ → ℕ → ℤ → ℤ → ℤ → WatchRow
row_with psum pmost gsum gmost hsum hleast hmost =
    record { psum = psum; pmost = pmost; gsum = gsum; gmost = gmost; hsum = hsum; hleast = hleast; hmost = hmost }

same_rows : (a b : WatchRow) → a.psum ≡ b.psum → a.pmost ≡ b.pmost → a.gsum ≡ b.gsum → a.gmost ≡ b.gmost → a.hsum ≡ b.hsum → a.hleast ≡ b.hleast
    → a.hmost ≡ b.hmost → row_with a.psum a.pmost a.gsum a.gmost a.hsum a.hleast a.hmost ≡ row_with b.psum b.pmost b.gsum b.gmost b.hsum b.hleast b.hmost
same_rows a b e1 e2 e3 e4 e5 e6 e7 = rw (e1, e2, e3, e4, e5, e6, e7) refl

-- what a change makes of what is watched
abbrev pub changed : ℤ → Measure → WatchedOf → WatchedOf
changed now measure w =
    let row = row_at now w in
    record {
      measure = measure;
      since = now;
      row = record row {
        pmost = max row.pmost measure.puts;
        gmost = max row.gmost measure.gets;
        hleast = int_min row.hleast measure.held;
        hmost = int_max row.hmost measure.held;
      };
    }

-- a sum up to now does not grow in no time
up_to_now : (sum number now total : ℤ) → sum ≡ total → sum +ℤ (number *ℤ (now -ℤ now)) ≡ total
up_to_now sum number now total h = none_added sum (number *ℤ (now -ℤ now)) (no_time number now now refl) ∙ h

module _ (time : ℕ → ℤ) (m : ℕ → Measure) (k : ℕ) (w : WatchedOf) (h : IsWatched time m k w) where
  abbrev puts : ℕ → ℤ
  puts i = pos (m i).puts

  abbrev gets : ℕ → ℤ
  gets i = pos (m i).gets

  abbrev stands : ℕ → ℤ
  stands i = (m i).held

  abbrev most_puts : ℕ → ℕ
  most_puts i = (m i).puts

  abbrev most_gets : ℕ → ℕ
  most_gets i = (m i).gets

  psum_is : w.row.psum +ℤ (puts k *ℤ (time k -ℤ w.since)) ≡ over_time time puts k
  psum_is = subst (λ x. w.row.psum +ℤ (pos x.puts *ℤ (time k -ℤ w.since)) ≡ over_time time puts k) h.measure (ap (λ r. r.psum) h.row)

  gsum_is : w.row.gsum +ℤ (gets k *ℤ (time k -ℤ w.since)) ≡ over_time time gets k
  gsum_is = subst (λ x. w.row.gsum +ℤ (pos x.gets *ℤ (time k -ℤ w.since)) ≡ over_time time gets k) h.measure (ap (λ r. r.gsum) h.row)

  hsum_is : w.row.hsum +ℤ (stands k *ℤ (time k -ℤ w.since)) ≡ over_time time stands k
  hsum_is = subst (λ x. w.row.hsum +ℤ (x.held *ℤ (time k -ℤ w.since)) ≡ over_time time stands k) h.measure (ap (λ r. r.hsum) h.row)

  pmost_is : w.row.pmost ≡ over_all max most_puts k
  pmost_is = ap (λ r. r.pmost) h.row

  gmost_is : w.row.gmost ≡ over_all max most_gets k
  gmost_is = ap (λ r. r.gmost) h.row

  hleast_is : w.row.hleast ≡ over_all int_min stands k
  hleast_is = ap (λ r. r.hleast) h.row

  hmost_is : w.row.hmost ≡ over_all int_max stands k
  hmost_is = ap (λ r. r.hmost) h.row

  -- ---- after n units more, of which only the last changes something

  module _ (n : ℕ) (steady : IsSteady time m k n) (some : 1 ≤ n) where
    sum_then : (sum : ℤ) (number : ℕ → ℤ) → ((i : ℕ) → i < n → number (k + i) ≡ number k)
        → sum +ℤ (number k *ℤ (time k -ℤ w.since)) ≡ over_time time number k
        → sum +ℤ (number k *ℤ (time (k + n) -ℤ w.since)) ≡ over_time time number (k + n)
    sum_then sum number same is =
        sum_on sum (number k) w.since (time k) (time (k + n)) (over_time time number k) is ∙ sym (over_time_on time number k n steady.same_time same some)

    psum_then : w.row.psum +ℤ (puts k *ℤ (time (k + n) -ℤ w.since)) ≡ over_time time puts (k + n)
    psum_then = sum_then w.row.psum puts (λ i less. ap (λ (x : Measure). pos x.puts) (steady.same_measure i less)) psum_is

    gsum_then : w.row.gsum +ℤ (gets k *ℤ (time (k + n) -ℤ w.since)) ≡ over_time time gets (k + n)
    gsum_then = sum_then w.row.gsum gets (λ i less. ap (λ (x : Measure). pos x.gets) (steady.same_measure i less)) gsum_is

    hsum_then : w.row.hsum +ℤ (stands k *ℤ (time (k + n) -ℤ w.since)) ≡ over_time time stands (k + n)
    hsum_then = sum_then w.row.hsum stands (λ i less. ap (λ (x : Measure). x.held) (steady.same_measure i less)) hsum_is

    pmost_then : max w.row.pmost (most_puts (k + n)) ≡ over_all max most_puts (k + n)
    pmost_then = ap (λ x. max x (most_puts (k + n))) pmost_is
        ∙ sym (over_all_on max max_same max_absorbs most_puts k n (λ i less. ap (λ (x : Measure). x.puts) (steady.same_measure i less)) some)

    gmost_then : max w.row.gmost (most_gets (k + n)) ≡ over_all max most_gets (k + n)
    gmost_then = ap (λ x. max x (most_gets (k + n))) gmost_is
        ∙ sym (over_all_on max max_same max_absorbs most_gets k n (λ i less. ap (λ (x : Measure). x.gets) (steady.same_measure i less)) some)

    hleast_then : int_min w.row.hleast (stands (k + n)) ≡ over_all int_min stands (k + n)
    hleast_then = ap (λ x. int_min x (stands (k + n))) hleast_is
        ∙ sym (over_all_on int_min int_min_same int_min_absorbs stands k n (λ i less. ap (λ (x : Measure). x.held) (steady.same_measure i less)) some)

    hmost_then : int_max w.row.hmost (stands (k + n)) ≡ over_all int_max stands (k + n)
    hmost_then = ap (λ x. int_max x (stands (k + n))) hmost_is
        ∙ sym (over_all_on int_max int_max_same int_max_absorbs stands k n (λ i less. ap (λ (x : Measure). x.held) (steady.same_measure i less)) some)

    -- something else is measured then
    changed_row : row_at (time (k + n)) (changed (time (k + n)) (m (k + n)) w) ≡ row_of time m (k + n)
    changed_row =
        let now : ℤ = time (k + n) in
        let sums : (sum number total : ℤ) → sum ≡ total → sum +ℤ (number *ℤ (now -ℤ now)) ≡ total = λ sum number. up_to_now sum number now in
        same_rows (row_at now (changed now (m (k + n)) w)) (row_of time m (k + n))
        (sums _ (puts (k + n)) _ (ap (λ (x : Measure). w.row.psum +ℤ (pos x.puts *ℤ (now -ℤ w.since))) h.measure ∙ psum_then))
        pmost_then
        (sums _ (gets (k + n)) _ (ap (λ (x : Measure). w.row.gsum +ℤ (pos x.gets *ℤ (now -ℤ w.since))) h.measure ∙ gsum_then))
        gmost_then
        (sums _ (stands (k + n)) _ (ap (λ (x : Measure). w.row.hsum +ℤ (x.held *ℤ (now -ℤ w.since))) h.measure ∙ hsum_then))
        hleast_then
        hmost_then

    pub changed_watched : (now : ℤ) (measure : Measure) → time (k + n) ≡ now → m (k + n) ≡ measure → IsWatched time m (k + n) (changed now measure w)
    changed_watched now measure is now_is =
        subst (λ x. IsWatched time m (k + n) (changed x measure w)) is
        (subst (λ x. IsWatched time m (k + n) (changed (time (k + n)) x w)) now_is (record { measure = refl; row = changed_row }))

    -- the same is measured then
    pub stays_watched : m (k + n) ≡ m k → IsWatched time m (k + n) w
    stays_watched same =
        let now : ℤ = time (k + n) in
        record {
          measure = h.measure ∙ sym same;
          row =
              same_rows (row_at now w) (row_of time m (k + n))
              (ap (λ (x : Measure). w.row.psum +ℤ (pos x.puts *ℤ (now -ℤ w.since))) h.measure ∙ psum_then)
              (kept max max_same max_absorbs w.row.pmost most_puts (ap (λ (x : Measure). x.puts) same) pmost_is pmost_then)
              (ap (λ (x : Measure). w.row.gsum +ℤ (pos x.gets *ℤ (now -ℤ w.since))) h.measure ∙ gsum_then)
              (kept max max_same max_absorbs w.row.gmost most_gets (ap (λ (x : Measure). x.gets) same) gmost_is gmost_then)
              (ap (λ (x : Measure). w.row.hsum +ℤ (x.held *ℤ (now -ℤ w.since))) h.measure ∙ hsum_then)
              (kept int_min int_min_same int_min_absorbs w.row.hleast stands (ap (λ (x : Measure). x.held) same) hleast_is hleast_then)
              (kept int_max int_max_same int_max_absorbs w.row.hmost stands (ap (λ (x : Measure). x.held) same) hmost_is hmost_then);
        }
      where
        kept : {X : Type 0} (pick : X → X → X) (idem : (x : X) → pick x x ≡ x) (absorbs : (x y : X) → pick (pick x y) y ≡ pick x y) (found : X)
            (number : ℕ → X) → number (k + n) ≡ number k → found ≡ over_all pick number k → pick found (number (k + n)) ≡ over_all pick number (k + n)
            → found ≡ over_all pick number (k + n)
        kept pick idem absorbs found number same is then_is =
            is ∙ sym (over_all_again pick idem absorbs number k) ∙ rw (← is, ← same) then_is

  -- ---- after the same units, where what was said is said again

  pub again_watched : (now : ℤ) (measure : Measure) → time k ≡ now → m k ≡ measure → IsWatched time m k (changed now measure w)
  again_watched now measure is now_is =
      subst (λ x. IsWatched time m k (changed x measure w)) is
      (subst (λ x. IsWatched time m k (changed (time k) x w)) now_is (record { measure = refl; row = again_row }))
    where
      again_row : row_at (time k) (changed (time k) (m k) w) ≡ row_of time m k
      again_row =
          let now : ℤ = time k in
          let sums : (sum number total : ℤ) → sum ≡ total → sum +ℤ (number *ℤ (now -ℤ now)) ≡ total = λ sum number. up_to_now sum number now in
          same_rows (row_at now (changed now (m k) w)) (row_of time m k)
          (sums _ (puts k) _ (ap (λ r. r.psum) h.row))
          (ap (λ x. max x (most_puts k)) pmost_is ∙ over_all_again max max_same max_absorbs most_puts k)
          (sums _ (gets k) _ (ap (λ r. r.gsum) h.row))
          (ap (λ x. max x (most_gets k)) gmost_is ∙ over_all_again max max_same max_absorbs most_gets k)
          (sums _ (stands k) _ (ap (λ r. r.hsum) h.row))
          (ap (λ x. int_min x (stands k)) hleast_is ∙ over_all_again int_min int_min_same int_min_absorbs stands k)
          (ap (λ x. int_max x (stands k)) hmost_is ∙ over_all_again int_max int_max_same int_max_absorbs stands k)
