-- A queue for each of the next times.
use Rattle.std.proofs.Common.{◌≡◌, ◌≢◌, ℕ, zero, suc, ℤ, pos, ◌+ℤ◌, ◌+◌, ◌<◌, List, [], ◌∷◌, ◌++◌, length, get_or, set, min}
use Rattle.std.proofs.Common.{refl, sym, ap, subst, ◌∙◌, inl, inr, append_assoc, arith, All, length-append, map, Global, Bor, Option, Some, None, IfSome, MatchOption}
use Rattle.std.specs.declared.collections.VecDeque.{VecDeque}
use Rattle.std.proofs.Math.Seq.{map-set_same}
use Rattle.std.specs.Prelude.{IsSome}
use Rattle.std.specs.List.Sorted.{IsPermutation}
use Rattle.std.proofs.lemmas.Bool.{cases_eq, cases_lt}
use Rattle.std.proofs.lemmas.Grind.{get_or-set_at}
use Rattle.std.proofs.lemmas.Int.{ints}
use Rattle.std.proofs.lemmas.List.{length-set, get_or-set_other, get_or_past, get_or-map, map-set, length-map}
use Rattle.std.proofs.lemmas.List.Elements.{All-append, All-push, All-cons, All-nil, All-tail, All-head}
use Rattle.std.proofs.lemmas.List.Sorted.{IsPermutation-trans, IsPermutation-refl, IsPermutation-append_right, length_permutation}
use Rattle.sim_types.specs.Keys.{IsLess}
use Rattle.sim_types.specs.declared.event.Entry.{Entry}
use Rattle.sim_types.proofs.KeyLemmas.{IsLess-irrefl}
use Rattle.sim_happen_model.specs.Agendas.{TakesFirst}
use Rattle.sim_agenda.specs.Series.{Rises, IsDue, IsFirst}
use Rattle.sim_agenda.specs.Windows.{joined, IsWindow}
use Rattle.sim_agenda.proofs.Joining.{through}
use Rattle.sim_agenda.proofs.Rising.{all_behind}

-- what holds of all in each queue holds of all
all_joined : (P : Entry → Type 0) (xss : List (List Entry)) → ((i : ℕ) → All P (get_or xss i [])) → All P (joined xss)
all_joined P [] h = All-nil P
all_joined P (xs ∷ xss) h = All-append P xs (joined xss) (h 0) (all_joined P xss (λ i. h (suc i)))

-- where there are no entries, no queue has one
pub none_joined : (xss : List (List Entry)) (i : ℕ) → length (joined xss) ≡ 0 → get_or xss i [] ≡ []
none_joined [] i none = refl
none_joined ([] ∷ xss) zero none = refl
none_joined ((x ∷ xs) ∷ xss) zero none = absurd (omega (arith, none))
none_joined (xs ∷ xss) (suc i) none = none_joined xss i (omega (arith, none, length-append xs (joined xss)))

-- where no queue has an entry, there is none
pub joined_none : (xss : List (List Entry)) → ((i : ℕ) → get_or xss i [] ≡ []) → joined xss ≡ []
joined_none [] h = refl
joined_none (xs ∷ xss) h = ap (λ us. us ++ joined xss) (h 0) ∙ joined_none xss (λ i. h (suc i))

-- with no queue there is no entry
pub no_queues : (xss : List (List Entry)) → length xss ≡ 0 → joined xss ≡ []
no_queues xss none = joined_none xss (λ i. get_or_past xss i [] (omega (arith, none)))

-- an entry more in one of the queues
pub put_joined : (xss : List (List Entry)) (i : ℕ) (x : Entry) → i < length xss
    → IsPermutation (x ∷ joined xss) (joined (set xss i (get_or xss i [] ++ x ∷ [])))
put_joined [] i x within = absurd (omega (arith, within))
put_joined (xs ∷ xss) zero x within = subst (IsPermutation (x ∷ xs ++ joined xss)) (sym (append_assoc xs (x ∷ []) (joined xss))) (through xs (joined xss) x)
put_joined (xs ∷ xss) (suc i) x within =
    let rest : List Entry = joined (set xss i (get_or xss i [] ++ x ∷ [])) in
    IsPermutation-trans (x ∷ xs ++ joined xss) (xs ++ x ∷ joined xss) (xs ++ rest) (through xs (joined xss) x)
    (IsPermutation-append_right xs (x ∷ joined xss) rest (put_joined xss i x (omega (arith, within))))

-- the front of the first queue that is not empty
pub taken_joined : (xss : List (List Entry)) (i : ℕ) (x : Entry) (rest : List Entry) → ((j : ℕ) → j < i → get_or xss j [] ≡ []) → get_or xss i [] ≡ x ∷ rest
    → joined xss ≡ x ∷ joined (set xss i rest)
taken_joined [] i x rest before at = absurd (cc)
taken_joined (xs ∷ xss) zero x rest before at = ap (λ us. us ++ joined xss) at
taken_joined (xs ∷ xss) (suc i) x rest before at =
    let none : xs ≡ [] = before 0 (omega arith) in
    ap (λ us. us ++ joined xss) none ∙ taken_joined xss i x rest (λ j less. before (suc j) (omega (arith, less))) at
    ∙ ap (λ us. x ∷ us ++ joined (set xss i rest)) (sym none)

later_after : (x y : Entry) (start : ℤ) (i j : ℕ) → x.key.time ≡ start +ℤ pos i → y.key.time ≡ start +ℤ pos j → i < j → ¬ IsLess y.key x.key
later_after x y start i j at later less = λ r. grind (arith, ints)

module _ (xss : List (List Entry)) (start : ℤ) (first many : ℕ) (h : IsWindow xss start first many) where
  -- the front of the first queue is due
  front_due : (x : Entry) (rest : List Entry) → get_or xss first [] ≡ x ∷ rest → IsDue x (joined (set xss first rest))
  front_due x rest at =
      let within : first < length xss = (elim (cases_lt first (length xss)) [ inl less ↦ less | inr past ↦ absurd (cc (get_or_past xss first [] past)) ]) in
      all_joined (λ y. ¬ IsLess y.key x.key) (set xss first rest) (λ i. elim (cases_eq i first) [
        | inl same ↦ subst (All (λ y. ¬ IsLess y.key x.key)) (sym (get_or-set_at xss first i rest [] same within)) (all_behind x rest (subst Rises at (h.rises first)))
        | inr other ↦ subst (All (λ y. ¬ IsLess y.key x.key)) (sym (get_or-set_other xss first i rest [] other)) (elim (cases_lt i first) [
          | inl less ↦ subst (All (λ y. ¬ IsLess y.key x.key)) (sym (h.before i less)) (All-nil (λ y. ¬ IsLess y.key x.key))
          | inr more ↦ λ k d inside. later_after x (get_or (get_or xss i []) k d) start first i
              (All-head (λ u. u.key.time ≡ start +ℤ pos first) x rest (subst (All (λ u. u.key.time ≡ start +ℤ pos first)) at (h.times first)))
              (h.times i k d inside) (omega (arith, more, other))
        ])
      ])

  pub window_takes : (x : Entry) (rest : List Entry) → get_or xss first [] ≡ x ∷ rest → TakesFirst (joined xss) x (joined (set xss first rest))
  window_takes x rest at =
      record {
        others = subst (IsPermutation (joined xss)) (taken_joined xss first x rest h.before at) (IsPermutation-refl (joined xss));
        first = front_due x rest at;
      }

  -- one entry more
  pub window_put : (i : ℕ) (x : Entry) (zs : List Entry) → i < length xss → x.key.time ≡ start +ℤ pos i → zs ≡ get_or xss i [] ++ x ∷ [] → Rises zs
      → IsWindow (set xss i zs) start (min first i) (many + 1)
  window_put i x zs within at is rises =
      let here : (j : ℕ) → j ≡ i → get_or (set xss i zs) j [] ≡ zs = λ j same. get_or-set_at xss i j zs [] same within in
      let there : (j : ℕ) → j ≢ i → get_or (set xss i zs) j [] ≡ get_or xss j [] = λ j other. get_or-set_other xss i j zs [] other in
      let some : 0 < length zs = omega (arith, ap length is, length-append (get_or xss i []) (x ∷ [])) in
      record {
        rises = λ j. elim (cases_eq j i) [ inl same ↦ subst Rises (sym (here j same)) rises | inr other ↦ subst Rises (sym (there j other)) (h.rises j) ];
        times = λ j. elim (cases_eq j i) [
          | inl same ↦ subst (All (λ u. u.key.time ≡ start +ℤ pos j)) (sym (here j same ∙ is))
              (All-push (λ u. u.key.time ≡ start +ℤ pos j) (get_or xss i []) x
              (subst (λ n. All (λ u. u.key.time ≡ start +ℤ pos n) (get_or xss i [])) (sym same) (h.times i)) (subst (λ n. x.key.time ≡ start +ℤ pos n) (sym same) at))
          | inr other ↦ subst (All (λ u. u.key.time ≡ start +ℤ pos j)) (sym (there j other)) (h.times j)
        ];
        before = λ j less. there j (λ same. absurd (omega arith)) ∙ h.before j (omega arith);
        filled = λ less. elim (cases_eq (min first i) i) [
          | inl same ↦ subst (λ us. 0 < length us) (sym (here (min first i) same)) some
          | inr other ↦ subst (λ us. 0 < length us) (sym (there (min first i) other)) (let e : min first i ≡ first = omega arith in
              subst (λ n. 0 < length (get_or xss n [])) (sym e) (h.filled (omega (arith, less, e, length-set xss i zs))))
        ];
        all = omega (
          arith,
          h.all,
          length_permutation (x ∷ joined xss) (joined (set xss i (get_or xss i [] ++ x ∷ []))) (put_joined xss i x within),
          ap (λ us. length (joined (set xss i us))) is,
        );
      }

  -- with no entries, it may begin at any time
  pub window_moved : (time : ℤ) → many ≡ 0 → IsWindow xss time first many
  window_moved time none =
      record {
        rises = h.rises;
        times = λ i. subst (All (λ u. u.key.time ≡ time +ℤ pos i)) (sym (none_joined xss i (omega (arith, h.all, none)))) (All-nil (λ u. u.key.time ≡ time +ℤ pos i));
        before = h.before;
        filled = h.filled;
        all = h.all;
      }

  -- past the last queue there is nothing
  pub window_some : 0 < many → first < length xss
  window_some some = elim (cases_lt first (length xss)) [
    | inl less ↦ less
    | inr past ↦ absurd (omega (
      arith,
      some,
      h.all,
      ap length (joined_none xss (λ i. elim (cases_lt i first) [
        | inl less ↦ h.before i less
        | inr more ↦ get_or_past xss i [] (omega (arith, past, more))
      ])),
    ))
  ]

  -- what the first queue lends
  pub window_front : (xs : List Entry) (result : Option (Bor Entry)) → get_or xss first [] ≡ xs → first < length xss
      → (0 < length xs → IsSome result) → IfSome result (λ x. x.now ≡ get_or xs 0 x.now)
      → MatchOption result (joined xss ≡ []) (λ x. IsFirst x.now (joined xss))
  window_front xs None at within some is = absurd (cc (some (omega (arith, h.filled within, ap length at))))
  window_front [] (Some x) at within some is = absurd (omega (arith, h.filled within, ap length at))
  window_front (y ∷ rest) (Some x) at within some is =
      let here : get_or xss first [] ≡ x.now ∷ rest = at ∙ ap (λ u. u ∷ rest) (sym is) in
      subst (IsFirst x.now) (sym (taken_joined xss first x.now rest h.before here)) (record {
        some = omega arith;
        due = All-cons (λ y. ¬ IsLess y.key x.now.key) x.now (joined (set xss first rest)) (IsLess-irrefl x.now.key) (front_due x.now rest here);
        among = λ z due. All-head (λ y. ¬ IsLess y.key z.key) x.now (joined (set xss first rest)) due;
      })

-- empty queues
pub window_opens : (xss : List (List Entry)) (start : ℤ) (first many : ℕ) → ((i : ℕ) → get_or xss i [] ≡ []) → length xss ≡ first → many ≡ 0
    → IsWindow xss start first many
window_opens xss start first many empty all none =
    record {
      rises = λ i. subst Rises (sym (empty i)) (λ j k d before inside. absurd (omega (arith, inside)));
      times = λ i. subst (All (λ u. u.key.time ≡ start +ℤ pos i)) (sym (empty i)) (All-nil (λ u. u.key.time ≡ start +ℤ pos i));
      before = λ i less. empty i;
      filled = λ less. absurd (omega (arith, less, all));
      all = none ∙ sym (ap length (joined_none xss empty));
    }

-- ---- the queues as they are written

-- what is read
pub read_at : (qs : List (VecDeque Entry Global)) (i : ℕ) (q : VecDeque Entry Global) → i < length qs → q ≡ get_or qs i q
    → get_or (map (λ (u : VecDeque Entry Global). u.items) qs) i [] ≡ q.items
read_at qs i q within is =
    get_or-map (λ (u : VecDeque Entry Global). u.items) qs i q [] within ∙ ap (λ (u : VecDeque Entry Global). u.items) (sym is)

-- what is written
pub written_at : (qs : List (VecDeque Entry Global)) (i : ℕ) (q : VecDeque Entry Global)
    → map (λ (u : VecDeque Entry Global). u.items) (set qs i q) ≡ set (map (λ (u : VecDeque Entry Global). u.items) qs) i q.items
written_at qs i q = map-set (λ (u : VecDeque Entry Global). u.items) qs i q

-- another queue of the same entries
pub same_at : (qs : List (VecDeque Entry Global)) (i : ℕ) (old new : VecDeque Entry Global) → old ≡ get_or qs i old → new.items ≡ old.items
    → map (λ (u : VecDeque Entry Global). u.items) (set qs i new) ≡ map (λ (u : VecDeque Entry Global). u.items) qs
same_at qs i old new is kept =
    map-set_same (λ (u : VecDeque Entry Global). u.items) qs i new old (kept ∙ ap (λ (u : VecDeque Entry Global). u.items) is)

pub as_many : (qs : List (VecDeque Entry Global)) → length (map (λ (u : VecDeque Entry Global). u.items) qs) ≡ length qs
as_many qs = length-map qs (λ (u : VecDeque Entry Global). u.items)

-- empty queues, as they are read
pub empty_at : (qs : List (VecDeque Entry Global)) → All (λ (u : VecDeque Entry Global). u.items ≡ []) qs → (i : ℕ)
    → get_or (map (λ (u : VecDeque Entry Global). u.items) qs) i [] ≡ []
empty_at [] h i = refl
empty_at (q ∷ qs) h zero = All-head (λ (u : VecDeque Entry Global). u.items ≡ []) q qs h
empty_at (q ∷ qs) h (suc i) = empty_at qs (All-tail (λ (u : VecDeque Entry Global). u.items ≡ []) q qs h) i
