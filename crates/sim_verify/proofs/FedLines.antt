-- The lines of a text, each with its line feed.
--     fed_first, fed_last     the first line ends at the first line feed, or with the text
--     first_line              it begins with the first byte
--     fed_unended             bytes without a line feed are the front of the first line
--     concat_fed              together they are the text
use Rattle.std.proofs.Common.{◌≡◌, ℕ, zero, suc, ◌<◌, ◌≤◌, Bool, true, false, List, [], ◌∷◌, ◌++◌, length, take, drop, get_or, refl, sym, ap, ◌∙◌, append-nil, Some, None, arith}
use Rattle.std.specs.List.{concat, list_any, position, position_or_len}
use Rattle.std.proofs.lemmas.Bool.{true≢false}
use Rattle.std.proofs.lemmas.List.Quantifiers.{position-Some}
use Rattle.sim_language.specs.Lines.{is_line_feed, onto_first}
use Rattle.sim_words.proofs.Fronts.{none_is_far}
use Rattle.sim_verify.specs.TraceLines.{fed_lines}

fed_at : (p z : List ℕ) (at : ℕ) → at < length p → is_line_feed (get_or p at 0) ≡ true → ((k : ℕ) → k < at → is_line_feed (get_or p k 0) ≡ false)
    → fed_lines (p ++ z) ≡ take (suc at) p ∷ fed_lines (drop (suc at) p ++ z)
fed_at [] z at lt here before = absurd (omega arith)
fed_at (x ∷ xs) z zero lt here before = rw here refl
fed_at (x ∷ xs) z (suc at) lt here before =
    let rest = fed_at xs z at (omega arith) here (λ k p. before (suc k) (omega arith)) in
    rw (before 0 (omega arith)) (ap (onto_first x) rest)

pub fed_first : (p z : List ℕ) (at : ℕ) → position is_line_feed p ≡ Some at → fed_lines (p ++ z) ≡ take (suc at) p ∷ fed_lines (drop (suc at) p ++ z)
fed_first p z at found =
    let h = position-Some is_line_feed p at 0 found in
    fed_at p z at h.0 h.1 h.2

-- ---- the first line of bytes

-- it begins with the first byte
pub record FirstLine (x : ℕ) (xs : List ℕ) : Type 0 where
  pub more : List ℕ
  pub rest : List (List ℕ)
  pub is : fed_lines (x ∷ xs) ≡ (x ∷ more) ∷ rest

pub first_line : (x : ℕ) (xs : List ℕ) → FirstLine x xs
first_line x xs = by (is_line_feed x) (fed_lines xs) refl refl
  where
    by : (feed : Bool) (ls : List (List ℕ)) → is_line_feed x ≡ feed → fed_lines xs ≡ ls → FirstLine x xs
    by true ls e f = record { more = []; rest = fed_lines xs; is = rw e refl }
    by false [] e f = record { more = []; rest = []; is = rw (e, f) refl }
    by false (l ∷ ls) e f = record { more = l; rest = ls; is = rw (e, f) refl }

-- ---- bytes without a line feed

-- in front of these lines
abbrev pub onto_lines : List ℕ → List (List ℕ) → List (List ℕ)
onto_lines p [] = p ∷ []
onto_lines p (l ∷ ls) = (p ++ l) ∷ ls

no_feed : (x : ℕ) (xs : List ℕ) → list_any is_line_feed (x ∷ xs) ≡ false → (is_line_feed x ≡ false) × (list_any is_line_feed xs ≡ false)
no_feed x xs none = by (is_line_feed x) (list_any is_line_feed xs) refl refl
  where
    by : (a b : Bool) → is_line_feed x ≡ a → list_any is_line_feed xs ≡ b → (is_line_feed x ≡ false) × (list_any is_line_feed xs ≡ false)
    by true b e f = absurd (true≢false (rw e at none))
    by false true e f = absurd (true≢false (rw (e, f) at none))
    by false false e f = (e, f)

onto_onto : (x : ℕ) (xs : List ℕ) (ls : List (List ℕ)) → onto_first x (onto_lines xs ls) ≡ onto_lines (x ∷ xs) ls
onto_onto x xs [] = refl
onto_onto x xs (l ∷ ls) = refl

onto_first_line : (x : ℕ) (ls : List (List ℕ)) → onto_first x ls ≡ onto_lines (x ∷ []) ls
onto_first_line x [] = refl
onto_first_line x (l ∷ ls) = refl

pub fed_unended : (x : ℕ) (xs z : List ℕ) → list_any is_line_feed (x ∷ xs) ≡ false → fed_lines ((x ∷ xs) ++ z) ≡ onto_lines (x ∷ xs) (fed_lines z)
fed_unended x [] z none = rw (no_feed x [] none).0 (onto_first_line x (fed_lines z))
fed_unended x (y ∷ ys) z none =
    let h = no_feed x (y ∷ ys) none in
    rw h.0 (ap (onto_first x) (fed_unended y ys z h.1) ∙ onto_onto x (y ∷ ys) (fed_lines z))

unended_far : (p : List ℕ) → length p ≤ position_or_len is_line_feed p → list_any is_line_feed p ≡ false
unended_far [] far = refl
unended_far (x ∷ xs) far = by (is_line_feed x) refl (unended_far xs)
  where
    by : (b : Bool) → is_line_feed x ≡ b → (length xs ≤ position_or_len is_line_feed xs → list_any is_line_feed xs ≡ false)
        → list_any is_line_feed (x ∷ xs) ≡ false
    by true e rest = absurd (omega (arith, rw e at far))
    by false e rest = rw e (rest (omega (arith, rw e at far)))

pub unended : (p : List ℕ) → position is_line_feed p ≡ None → list_any is_line_feed p ≡ false
unended p none = unended_far p (none_is_far is_line_feed p none)

pub fed_last : (x : ℕ) (xs : List ℕ) → position is_line_feed (x ∷ xs) ≡ None → fed_lines (x ∷ xs) ≡ (x ∷ xs) ∷ []
fed_last x xs none = ap fed_lines (sym (append-nil (x ∷ xs))) ∙ fed_unended x xs [] (unended (x ∷ xs) none)

-- they are the last line
pub last_line : (p : List ℕ) → 0 < length p → list_any is_line_feed p ≡ false → fed_lines p ≡ p ∷ []
last_line [] some none = absurd (omega arith)
last_line (x ∷ xs) some none = ap fed_lines (sym (append-nil (x ∷ xs))) ∙ fed_unended x xs [] none

pub only_line : (p first : List ℕ) (rest : List (List ℕ)) → list_any is_line_feed p ≡ false → fed_lines p ≡ first ∷ rest → first ≡ p
only_line [] first rest none is = absurd (cc)
only_line (x ∷ xs) first rest none is =
    let last : fed_lines (x ∷ xs) ≡ (x ∷ xs) ∷ [] = last_line (x ∷ xs) (omega arith) none in
    cc

-- the first line begins with them, and with the byte after them
pub record BegunLine (p : List ℕ) (x : ℕ) (xs : List ℕ) : Type 0 where
  pub more : List ℕ
  pub rest : List (List ℕ)
  pub is : fed_lines (p ++ x ∷ xs) ≡ (p ++ x ∷ more) ∷ rest

pub begun_line : (p : List ℕ) (x : ℕ) (xs : List ℕ) → list_any is_line_feed p ≡ false → BegunLine p x xs
begun_line [] x xs none = let h = first_line x xs in record { more = h.more; rest = h.rest; is = h.is }
begun_line (c ∷ cs) x xs none =
    let h = first_line x xs in
    record { more = h.more; rest = h.rest; is = fed_unended c cs (x ∷ xs) none ∙ ap (onto_lines (c ∷ cs)) h.is }

-- ---- the text

concat_onto : (c : ℕ) (ls : List (List ℕ)) → concat (onto_first c ls) ≡ c ∷ concat ls
concat_onto c [] = refl
concat_onto c (l ∷ ls) = refl

pub concat_fed : (text : List ℕ) → concat (fed_lines text) ≡ text
concat_fed [] = refl
concat_fed (c ∷ cs) = by (is_line_feed c) refl (concat_fed cs)
  where
    by : (b : Bool) → is_line_feed c ≡ b → concat (fed_lines cs) ≡ cs → concat (fed_lines (c ∷ cs)) ≡ c ∷ cs
    by true e rest = rw e (ap (λ l. c ∷ l) rest)
    by false e rest = rw e (concat_onto c (fed_lines cs) ∙ ap (λ l. c ∷ l) rest)
