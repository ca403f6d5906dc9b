-- The texts that tell what runs come to.
--     replication_text index s     the line of one replication
--     load_text size s             the line of a machine shop of this size
--     batch_answer summaries       the lines of all replications, and a last one with their sums
use Rattle.std.specs.Prelude.{ℕ, ◌+◌, ℤ, pos, ◌+ℤ◌, List, [], ◌∷◌, ◌++◌, length, sum_by, codes, decimal}
use Rattle.std.specs.Fmt.{signed_decimal}
use Rattle.sim_types.specs.declared.line.Summary.{Summary}
use Rattle.sim_trace.specs.Texts.{written, end_word}

-- how the run ended and when, how many events were processed, how many numbers were logged, and their sum
abbrev pub summary_words : Summary → List (List ℕ)
summary_words s = end_word s.end ∷ signed_decimal s.time ∷ decimal s.processed ∷ decimal s.logs ∷ signed_decimal s.total ∷ []

abbrev pub replication_text : ℕ → Summary → List ℕ
replication_text index s = written (codes "rep" ∷ decimal index ∷ summary_words s)

abbrev pub load_text : ℕ → Summary → List ℕ
load_text size s = written (codes "load" ∷ decimal size ∷ summary_words s)

-- how many replications there were, how many numbers they logged, and the sum of these numbers
abbrev pub batch_text : ℕ → ℕ → ℤ → List ℕ
batch_text count logs total = written (codes "batch" ∷ decimal count ∷ decimal logs ∷ signed_decimal total ∷ [])

-- the lines on some things in a row, each with its number, from this one on
abbrev pub numbered : {X : Type 0} → (ℕ → X → List ℕ) → ℕ → List X → List ℕ
numbered text n [] = []
numbered text n (x ∷ xs) = text n x ++ numbered text (n + 1) xs

-- ---- a batch

-- the lines of the replications, numbered from this index on
abbrev pub replications_text : ℕ → List Summary → List ℕ
replications_text index summaries = numbered replication_text index summaries

-- how many numbers all runs logged
abbrev pub all_logs : List Summary → ℕ
all_logs summaries = sum_by (λ s. s.logs) summaries

-- the sum of the numbers that all runs logged
abbrev pub all_total : List Summary → ℤ
all_total [] = pos 0
all_total (s ∷ ss) = s.total +ℤ all_total ss

abbrev pub batch_answer : List Summary → List ℕ
batch_answer summaries =
    replications_text 0 summaries ++ batch_text (length summaries) (all_logs summaries) (all_total summaries)
