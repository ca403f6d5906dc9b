-- Entries, one poster after another.
use Rattle.std.proofs.Common.{◌≡◌, ℕ, zero, suc, ◌+◌, ◌-◌, ◌<◌, ◌≤◌, List, [], ◌∷◌, ◌++◌, length, drop, take, get_or, refl, sym, ap, ◌∙◌, subst, arith}
use Rattle.std.proofs.lemmas.Grind.{common_steps, flat_map-append}
use Rattle.std.proofs.lemmas.List.{append-nil, length-append, take-append-drop}
use Rattle.std.specs.List.{flat_map, range_with_len}
use Rattle.sim_types.specs.declared.setup.Post.{Post}
use Rattle.sim_inbox.specs.Closing.{AreLeft, in_order}
use Rattle.sim_inbox.specs.Lists.{entries_by, numbered, untaken}
use Rattle.sim_inbox.specs.declared.taken.Taken.{Taken}
use Rattle.sim_inbox.proofs.Lists.{entries_append, entries_own}
use Rattle.sim_inbox.proofs.Untaken.{take_next}

range_append : (a k m n : ℕ) → n ≡ k + m → range_with_len a n ≡ range_with_len a k ++ range_with_len (a + k) m
range_append a zero m n e = let first : a ≡ a + 0 = omega arith in let all : n ≡ m = omega (arith, e) in λ i. range_with_len (first i) (all i)
range_append a (suc k) m zero e = absurd (omega (arith, e))
range_append a (suc k) m (suc n) e =
    let next : (a + 1) + k ≡ a + suc k = omega arith in
    ap (λ (l : List ℕ). a ∷ l) (range_append (a + 1) k m n (omega (arith, e)) ∙ ap (λ (j : ℕ). range_with_len (a + 1) k ++ range_with_len j m) next)

-- with one poster more
pub in_order_next : (count next : ℕ) (entries : List Taken) → next ≡ count + 1 → in_order next entries ≡ in_order count entries ++ entries_by count entries
in_order_next count next entries e =
    let of : ℕ → List Taken = λ p. entries_by p entries in
    let here : 0 + count ≡ count = omega arith in
    ap (flat_map of) (range_append 0 count 1 next e) ∙ flat_map-append of (range_with_len 0 count) (range_with_len (0 + count) 1)
    ∙ ap (λ (l : List Taken). in_order count entries ++ l) (append-nil (of (0 + count)) ∙ ap of here)

-- those of fewer posters are within those of more
pub in_order_within : (p count : ℕ) (entries : List Taken) → p < count
    → length (in_order p entries) + length (entries_by p entries) ≤ length (in_order count entries)
in_order_within p count entries less =
    let of : ℕ → List Taken = λ q. entries_by q entries in
    let m : ℕ = count - (p + 1) in
    let apart = range_append 0 (p + 1) m count (omega (arith, less)) in
    let a : length (in_order count entries) ≡ length (in_order (p + 1) entries) + length (flat_map of (range_with_len (0 + (p + 1)) m)) =
    ap (λ (l : List ℕ). length (flat_map of l)) apart ∙ ap (λ (l : List Taken). length l) (flat_map-append of (range_with_len 0 (p + 1)) (range_with_len (0 + (p + 1)) m))
    ∙ length-append (in_order (p + 1) entries) (flat_map of (range_with_len (0 + (p + 1)) m)) in
    let b : length (in_order (p + 1) entries) ≡ length (in_order p entries) + length (entries_by p entries) =
    ap (λ (l : List Taken). length l) (in_order_next p (p + 1) entries refl) ∙ length-append (in_order p entries) (entries_by p entries) in
    omega (arith, a, b)

-- ---- the entries of one poster, as a loop passes them
-- before an entry of this poster there are fewer of it than in the whole
pub fewer_before : (p i : ℕ) (entries : List Taken) (d : Taken) → i < length entries → (get_or entries i d).poster ≡ p
    → length (entries_by p (take i entries)) < length (entries_by p entries)
fewer_before p i entries d less own =
    let x : Taken = get_or entries i d in
    let front : List Taken = take (i + 1) entries in
    let one : length (entries_by p front) ≡ length (entries_by p (take i entries)) + 1 =
    ap (λ (l : List Taken). length (entries_by p l)) (take_next entries i d less) ∙ ap (λ (l : List Taken). length l) (entries_own p (take i entries) x own)
    ∙ length-append (entries_by p (take i entries)) (x ∷ []) in
    let all : length (entries_by p entries) ≡ length (entries_by p front) + length (entries_by p (drop (i + 1) entries)) =
    ap (λ (l : List Taken). length (entries_by p l)) (sym (take-append-drop (i + 1) entries)) ∙ ap (λ (l : List Taken). length l) (entries_append p front (drop (i + 1) entries))
    ∙ length-append (entries_by p front) (entries_by p (drop (i + 1) entries)) in
    omega (arith, one, all)

-- all entries were passed
pub in_order_passed : (p i : ℕ) (entries : List Taken) → length entries ≤ i → in_order p entries ++ entries_by p (take i entries) ≡ in_order (p + 1) entries
in_order_passed p i entries le =
    let all : take i entries ≡ entries = grind (arith, common_steps) in
    ap (λ (l : List Taken). in_order p entries ++ entries_by p l) all ∙ sym (in_order_next p (p + 1) entries refl)

-- ---- entries that are what is left
left_from : (taken : ℕ → List Post) (entries : List Taken) (k : ℕ) (lists : List (List Post))
    → ((i : ℕ) → i < length lists → entries_by (k + i) entries ≡ numbered (k + i) (length (taken (k + i))) (drop (length (taken (k + i))) (get_or lists i [])))
    → flat_map (λ p. entries_by p entries) (range_with_len k (length lists)) ≡ untaken taken k lists
left_from taken entries k [] h = refl
left_from taken entries k (x ∷ xs) h =
    let here : k + 0 ≡ k = omega arith in
    let next : k + 1 ≡ suc k = omega arith in
    let own : entries_by k entries ≡ numbered k (length (taken k)) (drop (length (taken k)) x) =
    subst (λ (q : ℕ). entries_by q entries ≡ numbered q (length (taken q)) (drop (length (taken q)) x)) here (h 0 (omega arith)) in
    let rest = left_from taken entries (suc k) xs (λ i less. let e : k + suc i ≡ suc k + i = omega arith in
    subst (λ (q : ℕ). entries_by q entries ≡ numbered q (length (taken q)) (drop (length (taken q)) (get_or xs i []))) e (h (suc i) (omega arith))) in
    (λ j. own j ++ flat_map (λ p. entries_by p entries) (range_with_len (next j) (length xs))) ∙ ap (λ (l : List Taken). numbered k (length (taken k)) (drop (length (taken k)) x) ++ l) rest

pub in_order_left : (taken : ℕ → List Post) (lists : List (List Post)) (entries : List Taken) (count : ℕ) → count ≡ length lists → AreLeft taken lists entries
    → in_order count entries ≡ untaken taken 0 lists
in_order_left taken lists entries count e left =
    ap (λ (n : ℕ). in_order n entries) e ∙ left_from taken entries 0 lists (λ i less. let here : i ≡ 0 + i = omega arith in
    subst (λ (q : ℕ). entries_by q entries ≡ numbered q (length (taken q)) (drop (length (taken q)) (get_or lists i []))) here (left.left i less))
