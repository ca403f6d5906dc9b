-- What runs log, added up.
--     logs_on, total_on      the sums over the first runs, with the next one
--     next_within      their bounds
use Rattle.std.proofs.Common.{◌≡◌, ◌≤◌, ◌<◌, ◌≤ℤ◌, ◌*◌, ◌^◌, ℕ, suc, ◌+◌, ◌-◌, ℤ, pos, ◌+ℤ◌, List, [], ◌∷◌, ◌++◌, length, take, sym, ap, subst, ◌∙◌, arith}
use Rattle.std.specs.Prelude.{All, slice_index_or}
use Rattle.std.proofs.lemmas.Int.{ints}
use Rattle.std.proofs.Math.IntN.{+ℤ_comm, +ℤ_assoc}
use Rattle.std.proofs.Math.Nat.{suc-mul}
use Rattle.std.proofs.lemmas.List.{length-take, take_more}
use Rattle.std.proofs.lemmas.List.Sums.{sum_by-append, sum_by-cons}
use Rattle.std.proofs.lemmas.List.Elements.{All-head, All-tail, All-take}
use Rattle.std.proofs.lemmas.Nat.{mul-le}
use Rattle.sim_types.specs.declared.line.Summary.{Summary}
use Rattle.sim_trace.specs.SummaryTexts.{all_logs, all_total}
use Rattle.sim_engine.specs.Counting.{LogsAtMost, IsWithin}

-- ---- one run more

logs_more : (ss : List Summary) (s : Summary) → all_logs (ss ++ s ∷ []) ≡ all_logs ss + s.logs
logs_more ss s = sum_by-append (λ x. x.logs) ss (s ∷ []) ∙ ap (λ n. all_logs ss + n) (omega arith)

total_more : (ss : List Summary) (s : Summary) → all_total (ss ++ s ∷ []) ≡ all_total ss +ℤ s.total
total_more [] s = +ℤ_comm s.total (pos 0)
total_more (x ∷ ss) s = ap (λ n. x.total +ℤ n) (total_more ss s) ∙ sym (+ℤ_assoc x.total (all_total ss) s.total)

logs_next : (ss : List Summary) (i : ℕ) (d : Summary) → i < length ss → all_logs (take (i + 1) ss) ≡ all_logs (take i ss) + (slice_index_or ss i d).logs
logs_next ss i d below = ap all_logs (take_more ss i d below) ∙ logs_more (take i ss) (slice_index_or ss i d)

total_next : (ss : List Summary) (i : ℕ) (d : Summary) → i < length ss
    → all_total (take (i + 1) ss) ≡ all_total (take i ss) +ℤ (slice_index_or ss i d).total
total_next ss i d below = ap all_total (take_more ss i d below) ∙ total_more (take i ss) (slice_index_or ss i d)

-- the same of sums that are those of the first runs
module _ (ss : List Summary) (i : ℕ) (d : Summary) (below : i < length ss) where
  pub logs_on : (logs later : ℕ) → later ≡ logs + (slice_index_or ss i d).logs → logs ≡ all_logs (take i ss) → later ≡ all_logs (take (i + 1) ss)
  logs_on logs later added is = added ∙ (ap (λ n. n + (slice_index_or ss i d).logs) is ∙ sym (logs_next ss i d below))

  pub total_on : (total later : ℤ) → later ≡ total +ℤ (slice_index_or ss i d).total → total ≡ all_total (take i ss) → later ≡ all_total (take (i + 1) ss)
  total_on total later added is = added ∙ (ap (λ n. n +ℤ (slice_index_or ss i d).total) is ∙ sym (total_next ss i d below))

-- ---- bounds

none_logged : (units : ℕ) → LogsAtMost units 0 (pos 0)
none_logged units = record { few = omega arith; low = grind (arith, ints); high = grind (arith, ints) }

both_logged : (n m logs more : ℕ) (sum value : ℤ) → LogsAtMost n logs sum → LogsAtMost m more value → LogsAtMost (n + m) (logs + more) (sum +ℤ value)
both_logged n m logs more sum value h k =
    let low : pos 0 ≤ℤ (sum +ℤ pos (logs * 2 ^ 63)) = h.low in
    let high : sum ≤ℤ pos (logs * 2 ^ 63) = h.high in
    let low_more : pos 0 ≤ℤ (value +ℤ pos (more * 2 ^ 63)) = k.low in
    let high_more : value ≤ℤ pos (more * 2 ^ 63) = k.high in
    record {
      few = omega (arith, h.few, k.few);
      low = grind (arith, ints);
      high = grind (arith, ints);
    }

-- of the runs that made so many units each
all_within : (limit : ℕ) (ss : List Summary) → All (IsWithin limit) ss → LogsAtMost (length ss * limit) (all_logs ss) (all_total ss)
all_within limit [] h = none_logged _
all_within limit (s ∷ ss) h =
    subst (λ n. LogsAtMost (suc (length ss) * limit) n (s.total +ℤ all_total ss)) (sym (sum_by-cons (λ x. x.logs) s ss))
    (subst (λ n. LogsAtMost n (s.logs + all_logs ss) (s.total +ℤ all_total ss)) (one_more (length ss) limit)
    (both_logged limit (length ss * limit) s.logs (all_logs ss) s.total (all_total ss) (All-head (IsWithin limit) s ss h)
    (all_within limit ss (All-tail (IsWithin limit) s ss h))))
  where
    one_more : (n m : ℕ) → m + n * m ≡ suc n * m
    one_more n m = omega (arith, suc-mul n m)

-- so of the first of fewer than 2^32 runs
within_sums : (limit : ℕ) (ss : List Summary) (i : ℕ) → All (IsWithin limit) ss → length ss < 2 ^ 32 → limit < 2 ^ 32
    → LogsAtMost (2 ^ 64 - 1) (all_logs (take i ss)) (all_total (take i ss))
within_sums limit ss i h few small =
    let front : List Summary = take i ss in
    let k = all_within limit front (All-take (IsWithin limit) i ss h) in
    let short : length front ≤ length ss = grind (arith, length-take i ss) in
    let most : length front * limit ≤ (2 ^ 32 - 1) * (2 ^ 32 - 1) = mul-le (length front) limit (2 ^ 32 - 1) (2 ^ 32 - 1) (omega (arith, short, few)) (omega (arith, small)) in
    record { few = omega (arith, k.few, most); low = k.low; high = k.high }

pub next_within : (limit : ℕ) (ss : List Summary) (i : ℕ) (d : Summary) → All (IsWithin limit) ss → length ss < 2 ^ 32 → limit < 2 ^ 32 → i < length ss
    → LogsAtMost (2 ^ 64 - 1) (all_logs (take i ss) + (slice_index_or ss i d).logs) (all_total (take i ss) +ℤ (slice_index_or ss i d).total)
next_within limit ss i d h few small below = rw (← logs_next ss i d below, ← total_next ss i d below) (within_sums limit ss (i + 1) h few small)
