-- Bytes that are cut at spaces.
--     cut_found, rest_found, cut_none, rest_none     at the first space, by its place
--     last_found, last_none                          at the last space, by its place
--     first_word, first_rest                         a word and what stands behind it
--     last_front, last_word                          a word and what stands in front of it
use Rattle.std.proofs.Common.{◌≡◌, ◌≢◌, ◌+◌, ◌-◌, ℕ, ◌<◌, ◌≤◌, Bool, true, false, List, [], ◌∷◌, ◌++◌, take, drop, length, length-drop, position, Some, None, nat_lt, get_or, refl, sym, ap, ◌∙◌, arith, not, reverse, append_assoc}
use Rattle.std.specs.List.{position_or_len, before_first, after_first, before_last, after_last, suffix_len, list_any}
use Rattle.std.proofs.Math.ListN.{drop_of_length-le}
use Rattle.std.proofs.Math.Seq.{take-length, take-append_seam, drop-append-add}
use Rattle.std.proofs.lemmas.Bool.Decides.{nat_tests}
use Rattle.std.proofs.lemmas.List.{reverse-append, length-append, length-reverse}
use Rattle.std.proofs.lemmas.List.Folds.{list_any-append}
use Rattle.std.proofs.lemmas.List.Sums.{prefix_len-le-length, suffix_len_is}
use Rattle.std.proofs.lemmas.Option.{cond_some}
use Rattle.sim_trace_reader.specs.Readings.{is_space}

pub take_rest : (k : ℕ) (l : List ℕ) → take (length l - k) (drop k l) ≡ drop k l
take_rest k l = rw (← length-drop k l) (take-length (drop k l))

-- ---- at the first space

at_first : (bytes : List ℕ) (at : ℕ) → position is_space bytes ≡ Some at → at ≡ position_or_len is_space bytes
at_first bytes at found = sym (cond_some (nat_lt (position_or_len is_space bytes) (length bytes)) (position_or_len is_space bytes) at found).1

none_is_far : (bytes : List ℕ) → position is_space bytes ≡ None → position_or_len is_space bytes ≡ length bytes
none_is_far bytes none = let le = prefix_len-le-length (λ x. not (is_space x)) bytes in grind (arith, nat_tests)

pub cut_found : (bytes : List ℕ) (at : ℕ) → position is_space bytes ≡ Some at → take at bytes ≡ before_first is_space bytes
cut_found bytes at found = ap (λ n. take n bytes) (at_first bytes at found)

pub rest_found : (bytes : List ℕ) (at : ℕ) → position is_space bytes ≡ Some at
    → take (length bytes - (at + 1)) (drop (at + 1) bytes) ≡ after_first is_space bytes
rest_found bytes at found = take_rest (at + 1) bytes ∙ ap (λ n. drop (n + 1) bytes) (at_first bytes at found)

pub cut_none : (bytes : List ℕ) → position is_space bytes ≡ None → bytes ≡ before_first is_space bytes
cut_none bytes none = sym (take-length bytes) ∙ ap (λ n. take n bytes) (sym (none_is_far bytes none))

pub rest_none : (bytes : List ℕ) → position is_space bytes ≡ None → [] ≡ after_first is_space bytes
rest_none bytes none =
    let far = none_is_far bytes none in
    let past : length bytes ≤ position_or_len is_space bytes + 1 = omega (arith, far) in
    sym (drop_of_length-le bytes past)

-- ---- at the last space

space_not : (c : ℕ) → c ≡ 32 → not (is_space c) ≡ false
space_not c e = grind (arith, nat_tests)

other_is : (c : ℕ) → c ≢ 32 → not (is_space c) ≡ true
other_is c ne = grind (arith, nat_tests)

-- how many bytes stand behind the last space
abbrev length_behind : List ℕ → ℕ
length_behind bytes = suffix_len (λ c. not (is_space c)) bytes

behind_last : (bytes : List ℕ) (at : ℕ) → at < length bytes → get_or bytes at 0 ≡ 32
    → ((k : ℕ) → at + 1 ≤ k → k < length bytes → get_or bytes k 0 ≢ 32)
    → length_behind bytes ≡ length bytes - (at + 1)
behind_last bytes at inside here after =
    let e : at + 1 - 1 ≡ at = omega arith in
    suffix_len_is (λ c. not (is_space c)) bytes (at + 1) 0 (omega arith) (λ k le lt. other_is (get_or bytes k 0) (after k le lt))
    (λ some. space_not (get_or bytes (at + 1 - 1) 0) (rw e here))

pub last_found : (bytes : List ℕ) (at : ℕ) → at < length bytes → get_or bytes at 0 ≡ 32
    → ((k : ℕ) → at + 1 ≤ k → k < length bytes → get_or bytes k 0 ≢ 32)
    → (take at bytes ≡ before_last is_space bytes) × (drop (at + 1) bytes ≡ after_last is_space bytes)
last_found bytes at inside here after =
    let e = behind_last bytes at inside here after in
    let front : at ≡ length bytes - length_behind bytes - 1 = omega (arith, e) in
    let back : at + 1 ≡ length bytes - length_behind bytes = omega (arith, e) in
    (ap (λ n. take n bytes) front, ap (λ n. drop n bytes) back)

pub last_none : (bytes : List ℕ) → ((k : ℕ) → k < length bytes → get_or bytes k 0 ≢ 32)
    → (◌≡◌ {A = List ℕ} [] (before_last is_space bytes)) × (bytes ≡ after_last is_space bytes)
last_none bytes none =
    let e : length_behind bytes ≡ length bytes - 0 =
    suffix_len_is (λ c. not (is_space c)) bytes 0 0 (omega arith) (λ k le lt. other_is (get_or bytes k 0) (none k lt)) (λ some. absurd (omega arith)) in
    let front : 0 ≡ length bytes - length_behind bytes - 1 = omega (arith, e) in
    let back : 0 ≡ length bytes - length_behind bytes = omega (arith, e) in
    (ap (λ n. take n bytes) front, ap (λ n. drop n bytes) back)

-- ---- words

-- no byte of it is a space
abbrev pub IsWord : List ℕ → Type 0
IsWord w = list_any is_space w ≡ false

to_space : (w rest : List ℕ) → IsWord w → position_or_len is_space (w ++ 32 ∷ rest) ≡ length w
to_space [] rest none = refl
to_space (c ∷ w) rest none = by (is_space c) refl (to_space w rest)
  where
    by : (b : Bool) → is_space c ≡ b → (IsWord w → position_or_len is_space (w ++ 32 ∷ rest) ≡ length w)
        → position_or_len is_space ((c ∷ w) ++ 32 ∷ rest) ≡ length (c ∷ w)
    by true e later = absurd (let h = rw e at none in cc)
    by false e later =
        let one : 1 + position_or_len is_space (w ++ 32 ∷ rest) ≡ length (c ∷ w) = omega (arith, later (rw e at none)) in
        rw e one

pub first_word : (w rest : List ℕ) → IsWord w → before_first is_space (w ++ 32 ∷ rest) ≡ w
first_word w rest none = ap (λ n. take n (w ++ 32 ∷ rest)) (to_space w rest none) ∙ take-append_seam w (32 ∷ rest)

pub first_rest : (w rest : List ℕ) → IsWord w → after_first is_space (w ++ 32 ∷ rest) ≡ rest
first_rest w rest none = ap (λ n. drop (n + 1) (w ++ 32 ∷ rest)) (to_space w rest none) ∙ drop-append-add w (32 ∷ rest) 1

word_reversed : (w : List ℕ) → IsWord w → IsWord (reverse w)
word_reversed [] none = refl
word_reversed (c ∷ w) none = by (is_space c) refl (word_reversed w)
  where
    by : (b : Bool) → is_space c ≡ b → (IsWord w → IsWord (reverse w)) → IsWord (reverse (c ∷ w))
    by true e later = absurd (let h = rw e at none in cc)
    by false e later =
        ap (list_any is_space) (reverse-append (c ∷ []) w) ∙ list_any-append is_space (reverse w) (c ∷ [])
        ∙ rw (later (rw e at none), e) refl

from_space : (w v : List ℕ) → IsWord v → length_behind (w ++ 32 ∷ v) ≡ length v
from_space w v none =
    let turned : reverse (w ++ 32 ∷ v) ≡ reverse v ++ 32 ∷ reverse w =
    reverse-append w (32 ∷ v) ∙ ap (λ l. l ++ reverse w) (reverse-append (32 ∷ []) v) ∙ append_assoc (reverse v) (32 ∷ []) (reverse w) in
    ap (position_or_len is_space) turned ∙ to_space (reverse v) (reverse w) (word_reversed v none) ∙ length-reverse v

pub last_front : (w v : List ℕ) → IsWord v → before_last is_space (w ++ 32 ∷ v) ≡ w
last_front w v none =
    let at : length (w ++ 32 ∷ v) - length_behind (w ++ 32 ∷ v) - 1 ≡ length w =
    omega (arith, from_space w v none, length-append w (32 ∷ v)) in
    ap (λ n. take n (w ++ 32 ∷ v)) at ∙ take-append_seam w (32 ∷ v)

pub last_word : (w v : List ℕ) → IsWord v → after_last is_space (w ++ 32 ∷ v) ≡ v
last_word w v none =
    let at : length (w ++ 32 ∷ v) - length_behind (w ++ 32 ∷ v) ≡ length w + 1 =
    omega (arith, from_space w v none, length-append w (32 ∷ v)) in
    ap (λ n. drop n (w ++ 32 ∷ v)) at ∙ drop-append-add w (32 ∷ v) 1
