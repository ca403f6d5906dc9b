-- The entries of the heap and those of the series as one list.
use Rattle.std.proofs.Common.{◌≡◌, ℕ, ◌<◌, List, [], ◌∷◌, ◌++◌, length, get_or, length-append, Bor, Option, Some, None, refl, sym, ap, subst, ◌∙◌, append_assoc, arith}
use Rattle.std.specs.Prelude.{option_to_list, slice_index_or, slice_set, IsSome, IfSome, MatchOption}
use Rattle.std.specs.List.Sorted.{IsPermutation}
use Rattle.std.proofs.lemmas.List.Elements.{All-append, All-cons, All-head}
use Rattle.std.proofs.lemmas.List.Sorted.{IsPermutation-to_front, IsPermutation-sym, IsPermutation-trans, IsPermutation-cons, IsPermutation-append_left, IsPermutation-append_right, IsPermutation-append_comm, length_permutation, All-permutation}
use Rattle.sim_types.specs.Keys.{IsLess}
use Rattle.sim_types.specs.declared.event.Entry.{Entry}
use Rattle.sim_types.proofs.KeyLemmas.{IsLess-irrefl}
use Rattle.sim_happen_model.specs.Agendas.{TakesFirst, PopsFirst}
use Rattle.sim_agenda.specs.Heaps.{IsHeap}
use Rattle.std.specs.Slice.{IsItemAt}
use Rattle.sim_agenda.specs.Series.{Rises, IsDue, IsFirst, FrontIsDue, FirstIsDue}
use Rattle.sim_agenda.proofs.Rising.{all_behind, front_first, top_first}
use Rattle.sim_agenda.proofs.Keys.{not_before}

-- an entry stands before others, or among them
pub through : (xs ys : List Entry) (x : Entry) → IsPermutation (x ∷ xs ++ ys) (xs ++ x ∷ ys)
through xs ys x =
    IsPermutation-trans (x ∷ xs ++ ys) (x ∷ ys ++ xs) (xs ++ x ∷ ys) (IsPermutation-cons x (xs ++ ys) (ys ++ xs) (IsPermutation-append_comm xs ys))
    (IsPermutation-append_comm (x ∷ ys) xs)

-- one more stands behind the series
pub put_behind : (xs ys zs : List Entry) (x : Entry) → zs ≡ ys ++ x ∷ [] → IsPermutation (x ∷ (xs ++ ys)) (xs ++ zs)
put_behind xs ys zs x is =
    subst (IsPermutation (x ∷ (xs ++ ys))) (append_assoc xs ys (x ∷ []) ∙ ap (λ us. xs ++ us) (sym is))
    (IsPermutation-sym ((xs ++ ys) ++ x ∷ []) (x ∷ (xs ++ ys)) (IsPermutation-to_front (xs ++ ys) x))

-- one more stands in the heap
pub put_among : (xs ys zs : List Entry) (x : Entry) → IsPermutation (x ∷ xs) zs → IsPermutation (x ∷ (xs ++ ys)) (zs ++ ys)
put_among xs ys zs x moved = IsPermutation-append_left ys (x ∷ xs) zs moved

-- an entry is put in for the only other one
pub exchanged_only : (xs : List Entry) (x other put : Entry) → length xs ≡ 1 → other ≡ slice_index_or xs 0 other → put ≡ x
    → IsPermutation (x ∷ xs) (other ∷ slice_set xs 0 put)
exchanged_only [] x other put one at is = absurd (omega (arith, one))
exchanged_only (y ∷ []) x other put one at is = rw (at, is) (IsPermutation-to_front (x ∷ []) y)
exchanged_only (y ∷ z ∷ zs) x other put one at is = absurd (omega (arith, one))

-- an entry is put among the latter, and another of them in the heap
pub put_for_other : (xs ys us zs : List Entry) (x other : Entry) → IsPermutation (x ∷ ys) (other ∷ us) → IsPermutation (other ∷ xs) zs
    → IsPermutation (x ∷ (xs ++ ys)) (zs ++ us)
put_for_other xs ys us zs x other moved among =
    IsPermutation-trans (x ∷ (xs ++ ys)) (xs ++ x ∷ ys) (zs ++ us) (through xs ys x)
    (IsPermutation-trans (xs ++ x ∷ ys) (xs ++ other ∷ us) (zs ++ us) (IsPermutation-append_right xs (x ∷ ys) (other ∷ us) moved)
    (IsPermutation-trans (xs ++ other ∷ us) (other ∷ (xs ++ us)) (zs ++ us) (IsPermutation-sym (other ∷ (xs ++ us)) (xs ++ other ∷ us) (through xs us other))
    (put_among xs us zs other among)))

-- the front of the series is taken out
front_taken : (xs ys rest : List Entry) (x : Entry) → ys ≡ x ∷ rest → Rises ys → FrontIsDue ys xs → TakesFirst (xs ++ ys) x (xs ++ rest)
front_taken xs ys rest x is rises front =
    record {
      others = subst (λ us. IsPermutation (xs ++ us) (x ∷ xs ++ rest)) (sym is) (IsPermutation-sym (x ∷ xs ++ rest) (xs ++ x ∷ rest) (through xs rest x));
      first = All-append (λ y. ¬ IsLess y.key x.key) xs rest (front.due x rest is) (all_behind x rest (subst Rises is rises));
    }

-- the first of the former is taken out
pub top_taken : (xs ys zs : List Entry) (x : Entry) → TakesFirst xs x zs → FirstIsDue ys xs → TakesFirst (xs ++ ys) x (zs ++ ys)
top_taken xs ys zs x takes first =
    let some : 0 < length xs = omega (arith, length_permutation xs (x ∷ zs) takes.others) in
    let all : IsDue x xs = All-permutation (λ y. ¬ IsLess y.key x.key) (x ∷ zs) xs (IsPermutation-sym xs (x ∷ zs) takes.others)
    (All-cons (λ y. ¬ IsLess y.key x.key) x zs (IsLess-irrefl x.key) takes.first) in
    record {
      others = IsPermutation-append_left ys xs (x ∷ zs) takes.others;
      first = All-append (λ y. ¬ IsLess y.key x.key) zs ys takes.first (first.due x some all);
    }

-- the first of the latter is taken out
pub latter_taken : (xs ys zs : List Entry) (x : Entry) → TakesFirst ys x zs → FirstIsDue xs ys → TakesFirst (xs ++ ys) x (xs ++ zs)
latter_taken xs ys zs x takes first =
    let some : 0 < length ys = omega (arith, length_permutation ys (x ∷ zs) takes.others) in
    let all : IsDue x ys = All-permutation (λ y. ¬ IsLess y.key x.key) (x ∷ zs) ys (IsPermutation-sym ys (x ∷ zs) takes.others)
    (All-cons (λ y. ¬ IsLess y.key x.key) x zs (IsLess-irrefl x.key) takes.first) in
    record {
      others = IsPermutation-trans (xs ++ ys) (xs ++ x ∷ zs) (x ∷ xs ++ zs) (IsPermutation-append_right xs ys (x ∷ zs) takes.others)
          (IsPermutation-sym (x ∷ xs ++ zs) (xs ++ x ∷ zs) (through xs zs x));
      first = All-append (λ y. ¬ IsLess y.key x.key) xs zs (first.due x some all) takes.first;
    }

-- one more among the latter
pub put_latter : (xs ys zs : List Entry) (x : Entry) → IsPermutation (x ∷ ys) zs → IsPermutation (x ∷ xs ++ ys) (xs ++ zs)
put_latter xs ys zs x moved =
    IsPermutation-trans (x ∷ xs ++ ys) (xs ++ x ∷ ys) (xs ++ zs) (through xs ys x) (IsPermutation-append_right xs (x ∷ ys) zs moved)

-- the front of the series is the first of all
pub front_is_first : (xs ys : List Entry) (result : Option (Bor Entry)) → IsSome result → IfSome result (λ x. x.now ≡ get_or ys 0 x.now)
    → FrontIsDue ys xs → Rises ys → MatchOption result (xs ++ ys ≡ []) (λ x. IsFirst x.now (xs ++ ys))
front_is_first xs ys None some is front rises = absurd (cc some)
front_is_first xs [] (Some x) some is front rises = absurd (omega (arith, front.some))
front_is_first xs (y ∷ rest) (Some x) some is front rises =
    let all : IsDue x.now (y ∷ rest) = front_first (y ∷ rest) x.now is rises in
    record {
      some = omega (arith, length-append xs (y ∷ rest));
      due = All-append (λ u. ¬ IsLess u.key x.now.key) xs (y ∷ rest) (front.due x.now rest (ap (λ u. u ∷ rest) (sym is))) all;
      among = λ z due. subst (λ (u : Entry). ¬ IsLess u.key z.key) (sym is)
          (All-head (λ u. ¬ IsLess u.key z.key) y (rest ++ xs)
          (All-permutation (λ u. ¬ IsLess u.key z.key) (xs ++ y ∷ rest) (y ∷ rest ++ xs) (IsPermutation-append_comm xs (y ∷ rest)) due));
    }

-- the first of the heap is the first of all
pub top_is_first : (xs ys : List Entry) (result : Option (Bor Entry)) → IsItemAt xs 0 result → FirstIsDue ys xs → IsHeap xs
    → MatchOption result (xs ++ ys ≡ []) (λ x. IsFirst x.now (xs ++ ys))
top_is_first [] ys None item first heap = first.none refl
top_is_first (x ∷ xs) ys None item first heap = absurd (omega (arith, item))
top_is_first [] ys (Some u) item first heap = absurd (omega (arith, item))
top_is_first (x ∷ xs) ys (Some u) item first heap =
    let all : IsDue u.now (x ∷ xs) = top_first (x ∷ xs) u.now item.1 heap in
    record {
      some = omega arith;
      due = All-append (λ v. ¬ IsLess v.key u.now.key) (x ∷ xs) ys all (first.due u.now (omega arith) all);
      among = λ z due. subst (λ (v : Entry). ¬ IsLess v.key z.key) (sym item.1) (All-head (λ v. ¬ IsLess v.key z.key) x (xs ++ ys) due);
    }

-- of two first ones, one does not come before the other
pub first_before : (xs ys : List Entry) (x y : Entry) → IsFirst x xs → IsFirst y ys → ¬ IsLess y.key x.key → FirstIsDue ys xs
first_before xs ys x y h i before =
    record {
      none = λ none. absurd (omega (arith, h.some, ap length none));
      due = λ z some due. λ k d inside. not_before z.key x.key (get_or ys k d).key (h.among z due)
          (not_before x.key y.key (get_or ys k d).key before (i.due k d inside));
    }

pub series_pops : (result : Option Entry) (xs ys rest : List Entry) (spare left : ℕ) → IsSome result → ys ≡ option_to_list result ++ rest
    → Rises ys → FrontIsDue ys xs → PopsFirst result (record { entries = xs ++ ys; spare = spare }) (record { entries = xs ++ rest; spare = left })
series_pops None xs ys rest spare left some is rises front = absurd (cc)
series_pops (Some x) xs ys rest spare left some is rises front = front_taken xs ys rest x is rises front

pub heap_pops : (result : Option Entry) (xs ys zs : List Entry) (spare left : ℕ) → MatchOption result ((xs ≡ []) × (zs ≡ [])) (λ x. TakesFirst xs x zs)
    → MatchOption result (left ≡ spare) (λ _. Unit) → FirstIsDue ys xs
    → PopsFirst result (record { entries = xs ++ ys; spare = spare }) (record { entries = zs ++ ys; spare = left })
heap_pops None xs ys zs spare left (none, nothing) same first = rw (none, nothing, first.none none, same) (refl, refl)
heap_pops (Some x) xs ys zs spare left takes same first = top_taken xs ys zs x takes first

-- what depends on a number that stays where nothing is taken
pub none_keeps : (result : Option Entry) (P : Entry → Type 0) (f : ℕ → ℕ) (m n : ℕ) → MatchOption result (m ≡ n) P → MatchOption result (f m ≡ f n) (λ _. Unit)
none_keeps None P f m n same = ap f same
none_keeps (Some x) P f m n same = tt

pub latter_pops : (result : Option Entry) (xs ys zs : List Entry) (spare left : ℕ) → 0 < length ys
    → MatchOption result ((ys ≡ []) × (zs ≡ [])) (λ x. TakesFirst ys x zs) → FirstIsDue xs ys
    → PopsFirst result (record { entries = xs ++ ys; spare = spare }) (record { entries = xs ++ zs; spare = left })
latter_pops None xs ys zs spare left some (none, nothing) first = absurd (omega (arith, some, ap length none))
latter_pops (Some x) xs ys zs spare left some takes first = latter_taken xs ys zs x takes first
