-- What is left of several lists.
use Rattle.std.proofs.Common.{◌≡◌, ◌≢◌, ℕ, zero, suc, ◌+◌, ◌-◌, ◌<◌, ◌≤◌, List, [], ◌∷◌, ◌++◌, length, take, drop, get_or, refl, sym, ap, ◌∙◌, subst, arith, append_assoc}
use Rattle.std.proofs.lemmas.List.{append-nil, length-append, length-drop, take-append-drop}
use Rattle.std.proofs.lemmas.Grind.{common_steps}
use Rattle.sim_types.specs.declared.setup.Post.{Post}
use Rattle.sim_inbox.specs.declared.taken.Taken.{Taken}
use Rattle.sim_inbox.specs.Lists.{entries_by, numbered, untaken}
use Rattle.sim_inbox.proofs.Lists.{entries_append, entries_not_numbered, entries_numbered, length_numbered}

pub take_next : {A : Type 0} (xs : List A) (i : ℕ) (d : A) → i < length xs → take (i + 1) xs ≡ take i xs ++ get_or xs i d ∷ []
take_next xs i d h = grind (arith, common_steps)

pub take_length : {A : Type 0} (xs : List A) (i : ℕ) → i ≤ length xs → length (take i xs) ≡ i
take_length xs i h = grind (arith, common_steps)

pub untaken_append : (taken : ℕ → List Post) (k : ℕ) (xs ys : List (List Post))
    → untaken taken k (xs ++ ys) ≡ untaken taken k xs ++ untaken taken (k + length xs) ys
untaken_append taken k [] ys = let e : k ≡ k + 0 = omega arith in ap (λ (n : ℕ). untaken taken n ys) e
untaken_append taken k (x ∷ xs) ys =
    let e : suc k + length xs ≡ k + length (x ∷ xs) = omega arith in
    let here = numbered k (length (taken k)) (drop (length (taken k)) x) in
    ap (λ (l : List Taken). here ++ l) (untaken_append taken (suc k) xs ys ∙ ap (λ (n : ℕ). untaken taken (suc k) xs ++ untaken taken n ys) e)
    ∙ sym (append_assoc here (untaken taken (suc k) xs) (untaken taken (k + length (x ∷ xs)) ys))

untaken_one : (taken : ℕ → List Post) (n p : ℕ) (y : List Post) → n ≡ p → untaken taken n (y ∷ []) ≡ numbered p (length (taken p)) (drop (length (taken p)) y)
untaken_one taken n p y e =
    append-nil (numbered n (length (taken n)) (drop (length (taken n)) y)) ∙ ap (λ (k : ℕ). numbered k (length (taken k)) (drop (length (taken k)) y)) e

-- the lists of one poster more
pub untaken_next : (taken : ℕ → List Post) (lists : List (List Post)) (p : ℕ) (d : List Post) → p < length lists
    → untaken taken 0 (take (p + 1) lists) ≡ untaken taken 0 (take p lists) ++ numbered p (length (taken p)) (drop (length (taken p)) (get_or lists p d))
untaken_next taken lists p d h =
    let long = take_length lists p (let l : p ≤ length lists = omega arith in l) in
    ap (untaken taken 0) (take_next lists p d h) ∙ untaken_append taken 0 (take p lists) (get_or lists p d ∷ [])
    ∙ ap (λ (l : List Taken). untaken taken 0 (take p lists) ++ l) (untaken_one taken (0 + length (take p lists)) p (get_or lists p d) (omega (arith, long)))

pub length_untaken_next : (taken : ℕ → List Post) (lists : List (List Post)) (p : ℕ) (d : List Post) → p < length lists
    → length (untaken taken 0 (take (p + 1) lists)) ≡ length (untaken taken 0 (take p lists)) + (length (get_or lists p d) - length (taken p))
length_untaken_next taken lists p d h =
    let gone = drop (length (taken p)) (get_or lists p d) in
    ap (λ (l : List Taken). length l) (untaken_next taken lists p d h) ∙ length-append (untaken taken 0 (take p lists)) (numbered p (length (taken p)) gone)
    ∙ ap (λ (n : ℕ). length (untaken taken 0 (take p lists)) + n) (length_numbered p (length (taken p)) gone ∙ length-drop (length (taken p)) (get_or lists p d))

-- of fewer lists no more is left
pub untaken_within : (taken : ℕ → List Post) (lists : List (List Post)) (p : ℕ) → length (untaken taken 0 (take p lists)) ≤ length (untaken taken 0 lists)
untaken_within taken lists p =
    let e : length (untaken taken 0 lists) ≡ length (untaken taken 0 (take p lists)) + length (untaken taken (0 + length (take p lists)) (drop p lists)) =
    ap (λ (l : List (List Post)). length (untaken taken 0 l)) (sym (take-append-drop p lists))
    ∙ ap (λ (l : List Taken). length l) (untaken_append taken 0 (take p lists) (drop p lists))
    ∙ length-append (untaken taken 0 (take p lists)) (untaken taken (0 + length (take p lists)) (drop p lists)) in
    omega (arith, e)

-- where as much was taken of each, as much is left
pub untaken_same : (taken taken' : ℕ → List Post) (k : ℕ) (lists : List (List Post)) → ((p : ℕ) → k ≤ p → taken' p ≡ taken p)
    → untaken taken' k lists ≡ untaken taken k lists
untaken_same taken taken' k [] e = refl
untaken_same taken taken' k (x ∷ xs) e =
    λ i. numbered k (length (e k (omega arith) i)) (drop (length (e k (omega arith) i)) x) ++ untaken_same taken taken' (suc k) xs (λ p le. e p (omega arith)) i

pub length_untaken : (taken : ℕ → List Post) (k : ℕ) (x : List Post) (xs : List (List Post))
    → length (untaken taken k (x ∷ xs)) ≡ (length x - length (taken k)) + length (untaken taken (suc k) xs)
length_untaken taken k x xs =
    let gone = drop (length (taken k)) x in
    length-append (numbered k (length (taken k)) gone) (untaken taken (suc k) xs)
    ∙ ap (λ (n : ℕ). n + length (untaken taken (suc k) xs)) (length_numbered k (length (taken k)) gone ∙ length-drop (length (taken k)) x)

-- where one item more was taken of a poster of which some was left, one fewer is left
pub untaken_fewer : (taken taken' : ℕ → List Post) (p k : ℕ) (x : Post) (lists : List (List Post)) → taken' (k + p) ≡ taken (k + p) ++ x ∷ []
    → ((q : ℕ) → q ≢ k + p → taken' q ≡ taken q) → p < length lists → length (taken (k + p)) < length (get_or lists p [])
    → length (untaken taken' k lists) + 1 ≡ length (untaken taken k lists)
untaken_fewer taken taken' p k x [] own others less more = absurd (omega arith)
untaken_fewer taken taken' zero k x (l ∷ ls) own others less more =
    let e : k + 0 ≡ k = omega arith in
    let own' : taken' k ≡ taken k ++ x ∷ [] = subst (λ (q : ℕ). taken' q ≡ taken q ++ x ∷ []) e own in
    let more' : length (taken k) < length l = subst (λ (q : ℕ). length (taken q) < length l) e more in
    let n : length (taken' k) ≡ length (taken k) + 1 = ap (λ (y : List Post). length y) own' ∙ length-append (taken k) (x ∷ []) in
    let rest : untaken taken' (suc k) ls ≡ untaken taken (suc k) ls = untaken_same taken taken' (suc k) ls (λ q le. others q (λ z. omega (arith, z, le))) in
    let a : length (untaken taken' k (l ∷ ls)) ≡ (length l - length (taken' k)) + length (untaken taken' (suc k) ls) = length_untaken taken' k l ls in
    let b : length (untaken taken k (l ∷ ls)) ≡ (length l - length (taken k)) + length (untaken taken (suc k) ls) = length_untaken taken k l ls in
    let c : length (untaken taken' (suc k) ls) ≡ length (untaken taken (suc k) ls) = ap (λ (y : List Taken). length y) rest in
    omega (arith, a, b, c, n, more')
untaken_fewer taken taken' (suc p) k x (l ∷ ls) own others less more =
    let e : k + suc p ≡ suc k + p = omega arith in
    let r = untaken_fewer taken taken' p (suc k) x ls (subst (λ (q : ℕ). taken' q ≡ taken q ++ x ∷ []) e own) (λ q ne. others q (λ z. ne (z ∙ e))) (omega arith) (subst (λ (q : ℕ). length (taken q) < length (get_or ls p [])) e more) in
    let here : taken' k ≡ taken k = others k (λ z. omega (arith, z)) in
    let a = length_untaken taken' k l ls in let b = length_untaken taken k l ls in
    let n : length (taken' k) ≡ length (taken k) = ap (λ (y : List Post). length y) here in
    omega (arith, r, a, b, n)

-- ---- the entries of one poster among what is left
none_before : (taken : ℕ → List Post) (k p : ℕ) (lists : List (List Post)) → p < k → entries_by p (untaken taken k lists) ≡ []
none_before taken k p [] less = refl
none_before taken k p (x ∷ xs) less =
    let here : List Taken = numbered k (length (taken k)) (drop (length (taken k)) x) in
    let ne : k ≢ p = λ e. omega (arith, e, less) in
    entries_append p here (untaken taken (suc k) xs)
    ∙ (λ i. entries_not_numbered p k (length (taken k)) (drop (length (taken k)) x) ne i ++ none_before taken (suc k) p xs (omega (arith, less)) i)

pub entries_untaken : (taken : ℕ → List Post) (k i p : ℕ) (lists : List (List Post)) → p ≡ k + i → i < length lists
    → entries_by p (untaken taken k lists) ≡ numbered p (length (taken p)) (drop (length (taken p)) (get_or lists i []))
entries_untaken taken k i p [] e less = absurd (omega arith)
entries_untaken taken k zero p (x ∷ xs) e less =
    let here : p ≡ k = omega (arith, e) in
    let left : List Post = drop (length (taken k)) x in
    let own = entries_append k (numbered k (length (taken k)) left) (untaken taken (suc k) xs)
    ∙ (λ j. entries_numbered k (length (taken k)) left j ++ none_before taken (suc k) k xs (omega arith) j)
    ∙ append-nil (numbered k (length (taken k)) left) in
    subst (λ (q : ℕ). entries_by q (untaken taken k (x ∷ xs)) ≡ numbered q (length (taken q)) (drop (length (taken q)) x)) (sym here) own
entries_untaken taken k (suc i) p (x ∷ xs) e less =
    let left : List Post = drop (length (taken k)) x in
    let ne : k ≢ p = λ same. omega (arith, e, same) in
    entries_append p (numbered k (length (taken k)) left) (untaken taken (suc k) xs)
    ∙ ap (λ (l : List Taken). l ++ entries_by p (untaken taken (suc k) xs)) (entries_not_numbered p k (length (taken k)) left ne)
    ∙ entries_untaken taken (suc k) i p xs (omega (arith, e)) (omega (arith, less))
