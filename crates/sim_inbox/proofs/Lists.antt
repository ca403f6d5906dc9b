-- Numbered items, and the entries of one poster among those of several.
use Rattle.std.proofs.Common.{◌≡◌, ◌≢◌, ◌==◌, ℕ, suc, ◌+◌, Bool, cond, eq-eqb, ne_eqb, List, [], ◌∷◌, ◌++◌, length, map, get_or, refl, sym, ap, ◌∙◌, arith}
use Rattle.std.proofs.lemmas.List.{append-nil, map-append}
use Rattle.std.proofs.lemmas.List.Elements.{filter-append}
use Rattle.sim_types.specs.declared.setup.Post.{Post}
use Rattle.sim_inbox.specs.declared.taken.Taken.{Taken}
use Rattle.sim_inbox.specs.Lists.{entry, numbered, entries_by, items_by}

-- ---- numbered items
-- one item more has the next serial
pub numbered_snoc : (p n : ℕ) (xs : List Post) (x : Post) → numbered p n (xs ++ x ∷ []) ≡ numbered p n xs ++ entry p (n + length xs) x ∷ []
numbered_snoc p n [] x = let e : n ≡ n + 0 = omega arith in ap (λ (k : ℕ). entry p k x ∷ []) e
numbered_snoc p n (y ∷ ys) x =
    let e : suc n + length ys ≡ n + length (y ∷ ys) = omega arith in
    ap (λ (l : List Taken). entry p n y ∷ l) (numbered_snoc p (suc n) ys x ∙ ap (λ (k : ℕ). numbered p (suc n) ys ++ entry p k x ∷ []) e)

pub numbered_append : (p n : ℕ) (xs ys : List Post) → numbered p n (xs ++ ys) ≡ numbered p n xs ++ numbered p (n + length xs) ys
numbered_append p n [] ys = let e : n ≡ n + 0 = omega arith in ap (λ (k : ℕ). numbered p k ys) e
numbered_append p n (x ∷ xs) ys =
    let e : suc n + length xs ≡ n + length (x ∷ xs) = omega arith in
    ap (λ (l : List Taken). entry p n x ∷ l) (numbered_append p (suc n) xs ys ∙ ap (λ (k : ℕ). numbered p (suc n) xs ++ numbered p k ys) e)

pub length_numbered : (p n : ℕ) (xs : List Post) → length (numbered p n xs) ≡ length xs
length_numbered p n [] = refl
length_numbered p n (x ∷ xs) = ap suc (length_numbered p (suc n) xs)

pub items_numbered : (p n : ℕ) (xs : List Post) → map (λ t. t.item) (numbered p n xs) ≡ xs
items_numbered p n [] = refl
items_numbered p n (x ∷ xs) = ap (λ (l : List Post). x ∷ l) (items_numbered p (suc n) xs)

abbrev tail_of : List Taken → List Taken
tail_of [] = []
tail_of (x ∷ xs) = xs

no_entries : (t : Taken) (ts : List Taken) → [] ≢ t ∷ ts
no_entries t ts e = let n : 0 ≡ suc (length ts) = ap (λ (l : List Taken). length l) e in omega (arith, n)

-- an entry behind others of a numbered list has their count as its serial
pub serial_at : (p n : ℕ) (before : List Taken) (t : Taken) (after : List Taken) (items : List Post) → before ++ t ∷ after ≡ numbered p n items
    → t.serial ≡ n + length before
serial_at p n [] t after [] e = absurd (no_entries t after (sym e))
serial_at p n [] t after (x ∷ xs) e = ap (λ (l : List Taken). (get_or l 0 t).serial) e ∙ (let k : n ≡ n + 0 = omega arith in k)
serial_at p n (b ∷ bs) t after [] e = absurd (no_entries b (bs ++ t ∷ after) (sym e))
serial_at p n (b ∷ bs) t after (x ∷ xs) e = serial_at p (suc n) bs t after xs (ap tail_of e) ∙ (let k : suc n + length bs ≡ n + length (b ∷ bs) = omega arith in k)

-- ---- entries of one poster
pub entries_append : (p : ℕ) (xs ys : List Taken) → entries_by p (xs ++ ys) ≡ entries_by p xs ++ entries_by p ys
entries_append p xs ys = filter-append (λ t. t.poster == p) xs ys

-- with an entry of this poster
pub entries_own : (p : ℕ) (xs : List Taken) (x : Taken) → x.poster ≡ p → entries_by p (xs ++ x ∷ []) ≡ entries_by p xs ++ x ∷ []
entries_own p xs x e = entries_append p xs (x ∷ []) ∙ ap (λ (b : Bool). entries_by p xs ++ cond b (x ∷ []) []) (eq-eqb x.poster p e)

-- with an entry of another poster
pub entries_other : (p : ℕ) (xs : List Taken) (x : Taken) → x.poster ≢ p → entries_by p (xs ++ x ∷ []) ≡ entries_by p xs
entries_other p xs x ne =
    entries_append p xs (x ∷ []) ∙ ap (λ (b : Bool). entries_by p xs ++ cond b (x ∷ []) []) (ne_eqb x.poster p ne) ∙ append-nil (entries_by p xs)

-- where an entry of this poster comes first
pub entries_first : (p : ℕ) (x : Taken) (xs : List Taken) → x.poster ≡ p → entries_by p (x ∷ xs) ≡ x ∷ entries_by p xs
entries_first p x xs e = ap (λ (b : Bool). cond b (x ∷ entries_by p xs) (entries_by p xs)) (eq-eqb x.poster p e)

-- where an entry of another poster comes first
pub entries_later : (p : ℕ) (x : Taken) (xs : List Taken) → x.poster ≢ p → entries_by p (x ∷ xs) ≡ entries_by p xs
entries_later p x xs ne = ap (λ (b : Bool). cond b (x ∷ entries_by p xs) (entries_by p xs)) (ne_eqb x.poster p ne)

-- numbered items are all of their poster
pub entries_numbered : (p n : ℕ) (xs : List Post) → entries_by p (numbered p n xs) ≡ numbered p n xs
entries_numbered p n [] = refl
entries_numbered p n (x ∷ xs) = entries_first p (entry p n x) (numbered p (suc n) xs) refl ∙ ap (λ (l : List Taken). entry p n x ∷ l) (entries_numbered p (suc n) xs)

-- and none is of another
pub entries_not_numbered : (p q n : ℕ) (xs : List Post) → q ≢ p → entries_by p (numbered q n xs) ≡ []
entries_not_numbered p q n [] ne = refl
entries_not_numbered p q n (x ∷ xs) ne = entries_later p (entry q n x) (numbered q (suc n) xs) ne ∙ entries_not_numbered p q (suc n) xs ne

-- ---- items of one poster
pub items_append : (p : ℕ) (xs ys : List Taken) → items_by p (xs ++ ys) ≡ items_by p xs ++ items_by p ys
items_append p xs ys = ap (map (λ t. t.item)) (entries_append p xs ys) ∙ map-append (λ t. t.item) (entries_by p xs) (entries_by p ys)

-- with an entry of this poster
pub items_own : (p : ℕ) (xs : List Taken) (x : Taken) → x.poster ≡ p → items_by p (xs ++ x ∷ []) ≡ items_by p xs ++ x.item ∷ []
items_own p xs x e = ap (map (λ t. t.item)) (entries_own p xs x e) ∙ map-append (λ t. t.item) (entries_by p xs) (x ∷ [])

-- with an entry of another poster
pub items_other : (p : ℕ) (xs : List Taken) (x : Taken) → x.poster ≢ p → items_by p (xs ++ x ∷ []) ≡ items_by p xs
items_other p xs x ne = ap (map (λ t. t.item)) (entries_other p xs x ne)
