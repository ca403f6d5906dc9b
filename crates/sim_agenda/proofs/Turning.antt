-- A ring of queues, as they stand from a place on.
use Rattle.std.proofs.Common.{◌≡◌, ℕ, ℤ, pos, ◌+ℤ◌, ◌+◌, ◌-◌, ◌%◌, ◌<◌, List, [], ◌∷◌, ◌++◌}
use Rattle.std.proofs.Common.{length, get_or, set, take, drop, min, sym, ap, subst, ◌∙◌, inl, inr, arith, All, length-append, map, Global}
use Rattle.std.specs.List.Sorted.{IsPermutation}
use Rattle.std.specs.declared.collections.VecDeque.{VecDeque}
use Rattle.std.proofs.lemmas.Bool.{cases_eq, cases_lt}
use Rattle.std.proofs.lemmas.Grind.{get_or-set_at, flat_map-append}
use Rattle.std.proofs.lemmas.Int.{ints}
use Rattle.std.proofs.lemmas.List.{length-set, length-drop, length-take, get_or-set_other, get_or_past}
use Rattle.std.proofs.lemmas.List.{get_or-drop, get_or-take, get_or_append_left, get_or-append_right, ext_get_or, take-append-drop, append-nil}
use Rattle.std.proofs.lemmas.List.Elements.{All-nil, All-tail, All-head}
use Rattle.sim_types.specs.Keys.{IsLess}
use Rattle.sim_types.specs.declared.event.Entry.{Entry}
use Rattle.sim_types.proofs.Permutations.{AllPairs-tail}
use Rattle.sim_happen_model.specs.Agendas.{TakesFirst}
use Rattle.sim_agenda.specs.Series.{Rises}
use Rattle.sim_agenda.specs.Windows.{joined, turned, IsWindow, IsRing}
use Rattle.sim_agenda.proofs.Queues.{read_at, as_many, joined_none, taken_joined, put_joined, window_takes, window_put, window_moved, window_some, window_opens}

-- as many queues as in the ring
pub length_turned : (t : ℕ) (xss : List (List Entry)) → length (turned t xss) ≡ length xss
length_turned t xss = omega (arith, length-append (drop t xss) (take t xss), length-drop t xss, length-take t xss)

-- where each stands in the ring
pub turned_at : (t : ℕ) (xss : List (List Entry)) (i : ℕ) → length xss ≡ 64 → t < 64 → i < 64 → get_or (turned t xss) i [] ≡ get_or xss ((t + i) % 64) []
turned_at t xss i all within less =
    elim (cases_lt i (64 - t)) [
      | inl under ↦
          let before : i < length (drop t xss) = omega (arith, under, all, length-drop t xss) in
          let here : t + i ≡ (t + i) % 64 = omega (arith, under) in
          get_or_append_left (drop t xss) (take t xss) [] i before ∙ get_or-drop t xss i [] ∙ ap (λ m. get_or xss m []) here
      | inr over ↦
          let long : length (drop t xss) ≡ 64 - t = omega (arith, all, length-drop t xss) in
          let below : i - (64 - t) < t = omega (arith, over, less, within) in
          let here : i - (64 - t) ≡ (t + i) % 64 = omega (arith, over, less, within) in
          get_or-append_right (drop t xss) (take t xss) (64 - t) i [] long over ∙ get_or-take t xss (i - (64 - t)) [] below ∙ ap (λ m. get_or xss m []) here
    ]

-- where all are empty, all that are turned are
pub turned_none : (t : ℕ) (xss : List (List Entry)) → ((i : ℕ) → get_or xss i [] ≡ []) → length xss ≡ 64 → t < 64 → (i : ℕ) → get_or (turned t xss) i [] ≡ []
turned_none t xss empty all within i = elim (cases_lt i 64) [
  | inl less ↦ turned_at t xss i all within less ∙ empty ((t + i) % 64)
  | inr past ↦ get_or_past (turned t xss) i [] (omega (arith, past, all, length_turned t xss))
]

same_number : (t i j : ℕ) → t < 64 → i < 64 → j < 64 → (t + j) % 64 ≡ (t + i) % 64 → j ≡ i
same_number t i j within less few e = omega arith

-- another queue in the ring
pub turned_set : (t : ℕ) (xss : List (List Entry)) (i place : ℕ) (ys : List Entry) → length xss ≡ 64 → t < 64 → i < 64 → place ≡ (t + i) % 64
    → turned t (set xss place ys) ≡ set (turned t xss) i ys
turned_set t xss i place ys all within less is =
    let long : length (set xss place ys) ≡ 64 = length-set xss place ys ∙ all in
    let long_left : length (turned t (set xss place ys)) ≡ 64 = length_turned t (set xss place ys) ∙ long in
    let long_turned : length (turned t xss) ≡ 64 = length_turned t xss ∙ all in
    ext_get_or [] (turned t (set xss place ys)) (set (turned t xss) i ys) (long_left ∙ sym (length-set (turned t xss) i ys ∙ long_turned)) (λ j inside.
    let few : j < 64 = omega (arith, inside, long_left) in
    turned_at t (set xss place ys) j long within few ∙ elim (cases_eq j i) [
      | inl same ↦ get_or-set_at xss place ((t + j) % 64) ys [] (ap (λ m. (t + m) % 64) same ∙ sym is) (omega (arith, is, all))
          ∙ sym (get_or-set_at (turned t xss) i j ys [] same (omega (arith, less, long_turned)))
      | inr other ↦ get_or-set_other xss place ((t + j) % 64) ys [] (λ e. other (same_number t i j within less few (e ∙ is)))
          ∙ sym (turned_at t xss j all within few) ∙ sym (get_or-set_other (turned t xss) i j ys [] other)
    ])

same_place : (t i j : ℕ) → (t + (i + j) % 64) % 64 ≡ ((t + i) % 64 + j) % 64
same_place t i j = omega arith

-- what is turned is turned on
pub turned_twice : (t i : ℕ) (xss : List (List Entry)) → length xss ≡ 64 → t < 64 → i < 64 → turned i (turned t xss) ≡ turned ((t + i) % 64) xss
turned_twice t i xss all within less =
    let long : length (turned t xss) ≡ 64 = length_turned t xss ∙ all in
    let long_twice : length (turned i (turned t xss)) ≡ 64 = length_turned i (turned t xss) ∙ long in
    ext_get_or [] (turned i (turned t xss)) (turned ((t + i) % 64) xss) (long_twice ∙ sym (length_turned ((t + i) % 64) xss ∙ all)) (λ j inside.
    let few : j < 64 = omega (arith, inside, long_twice) in
    turned_at i (turned t xss) j long less few ∙ turned_at t xss ((i + j) % 64) all within (omega arith) ∙ ap (λ m. get_or xss m []) (same_place t i j)
    ∙ sym (turned_at ((t + i) % 64) xss j all (omega arith) few))

-- where those that are turned away are empty, the entries are the same
pub joined_turned : (n : ℕ) (xss : List (List Entry)) → ((j : ℕ) → j < n → get_or xss j [] ≡ []) → joined (turned n xss) ≡ joined xss
joined_turned n xss empty =
    let none : joined (take n xss) ≡ [] = joined_none (take n xss) (λ j. elim (cases_lt j n) [
      | inl less ↦ get_or-take n xss j [] less ∙ empty j less
      | inr over ↦ get_or_past (take n xss) j [] (omega (arith, over, length-take n xss))
    ]) in
    let left : joined (turned n xss) ≡ joined (drop n xss) =
    flat_map-append (λ xs. xs) (drop n xss) (take n xss) ∙ ap (λ us. joined (drop n xss) ++ us) none ∙ append-nil (joined (drop n xss)) in
    let right : joined xss ≡ joined (drop n xss) =
    ap joined (sym (take-append-drop n xss)) ∙ flat_map-append (λ xs. xs) (take n xss) (drop n xss) ∙ ap (λ us. us ++ joined (drop n xss)) none in
    left ∙ sym right

further : (start time : ℤ) (i j m : ℕ) → time ≡ start +ℤ pos i → m ≡ i + j → start +ℤ pos m ≡ time +ℤ pos j
further start time i j m at is = grind (arith, ints)

-- the front of the first queue is taken, and the window begins at its time
module _ (xss : List (List Entry)) (start : ℤ) (first many : ℕ) (h : IsWindow xss start first many) (all : length xss ≡ 64) (within : first < 64)
    (x : Entry) (rest : List Entry) (at : get_or xss first [] ≡ x ∷ rest) where
  here : (j : ℕ) → j ≡ first → get_or (set xss first rest) j [] ≡ rest
  here j same = get_or-set_at xss first j rest [] same (omega (arith, within, all))

  there : (j : ℕ) → ¬ (j ≡ first) → get_or (set xss first rest) j [] ≡ get_or xss j []
  there j other = get_or-set_other xss first j rest [] other

  left_rises : (j : ℕ) → Rises (get_or (set xss first rest) j [])
  left_rises j = elim (cases_eq j first) [
    | inl same ↦ subst Rises (sym (here j same)) (AllPairs-tail (λ (u v : Entry). IsLess u.key v.key) x rest (subst Rises at (h.rises first)))
    | inr other ↦ subst Rises (sym (there j other)) (h.rises j)
  ]

  left_times : (j : ℕ) → All (λ u. u.key.time ≡ start +ℤ pos j) (get_or (set xss first rest) j [])
  left_times j = elim (cases_eq j first) [
    | inl same ↦ subst (All (λ u. u.key.time ≡ start +ℤ pos j)) (sym (here j same)) (subst (λ n. All (λ u. u.key.time ≡ start +ℤ pos n) rest) (sym same)
        (All-tail (λ u. u.key.time ≡ start +ℤ pos first) x rest (subst (All (λ u. u.key.time ≡ start +ℤ pos first)) at (h.times first))))
    | inr other ↦ subst (All (λ u. u.key.time ≡ start +ℤ pos j)) (sym (there j other)) (h.times j)
  ]

  left_none : (j : ℕ) → j < first → get_or (set xss first rest) j [] ≡ []
  left_none j under = there j (λ same. absurd (omega (arith, under, same))) ∙ h.before j under

  pub slid_joined : joined (turned first (set xss first rest)) ≡ joined (set xss first rest)
  slid_joined = joined_turned first (set xss first rest) left_none

  pub slid_len : (left : ℕ) → left + 1 ≡ many → left ≡ length (joined (turned first (set xss first rest)))
  slid_len left fewer = omega (arith, fewer, h.all, ap length (taken_joined xss first x rest h.before at), ap length slid_joined)

  slid_time : x.key.time ≡ start +ℤ pos first
  slid_time = All-head (λ u. u.key.time ≡ start +ℤ pos first) x rest (subst (All (λ u. u.key.time ≡ start +ℤ pos first)) at (h.times first))

  long : length (set xss first rest) ≡ 64
  long = length-set xss first rest ∙ all

  slid_rises : (i : ℕ) → Rises (get_or (turned first (set xss first rest)) i [])
  slid_rises i = elim (cases_lt i 64) [
    | inl less ↦ subst Rises (sym (turned_at first (set xss first rest) i long within less)) (left_rises ((first + i) % 64))
    | inr past ↦ subst Rises (sym (get_or_past (turned first (set xss first rest)) i [] (omega (arith, past, long, length_turned first (set xss first rest)))))
        (λ j k d before inside. absurd (omega (arith, inside)))
  ]

  slid_times : (i : ℕ) → All (λ u. u.key.time ≡ x.key.time +ℤ pos i) (get_or (turned first (set xss first rest)) i [])
  slid_times i =
      let slid_at : List Entry = get_or (turned first (set xss first rest)) i [] in
      let none : slid_at ≡ [] → All (λ u. u.key.time ≡ x.key.time +ℤ pos i) slid_at =
      λ e. subst (All (λ u. u.key.time ≡ x.key.time +ℤ pos i)) (sym e) (All-nil (λ u. u.key.time ≡ x.key.time +ℤ pos i)) in
      elim (cases_lt i 64) [
        | inl less ↦
            let place : get_or (turned first (set xss first rest)) i [] ≡ get_or (set xss first rest) ((first + i) % 64) [] =
            turned_at first (set xss first rest) i long within less in
            elim (cases_lt (first + i) 64) [
              | inl under ↦ subst (All (λ u. u.key.time ≡ x.key.time +ℤ pos i)) (sym place)
                  (subst (λ z. All (λ u. u.key.time ≡ z) (get_or (set xss first rest) ((first + i) % 64) []))
                  (further start x.key.time first i ((first + i) % 64) slid_time (omega (arith, under))) (left_times ((first + i) % 64)))
              | inr over ↦ none (place ∙ left_none ((first + i) % 64) (omega (arith, over, less, within)))
            ]
        | inr past ↦ none (get_or_past (turned first (set xss first rest)) i [] (omega (arith, past, long, length_turned first (set xss first rest))))
      ]

  pub slid : (next left : ℕ) → ((i : ℕ) → i < next → get_or (turned first (set xss first rest)) i [] ≡ [])
      → (next < 64 → 0 < length (get_or (turned first (set xss first rest)) next [])) → left + 1 ≡ many
      → IsWindow (turned first (set xss first rest)) x.key.time next left
  slid next left before filled fewer =
      record {
        rises = slid_rises;
        times = slid_times;
        before = before;
        filled = λ less. filled (omega (arith, less, long, length_turned first (set xss first rest)));
        all = slid_len left fewer;
      }

-- ---- the ring

module _ (xss : List (List Entry)) (turn : ℕ) (start : ℤ) (first many : ℕ) (h : IsRing xss turn start first many) where
  pub ring_some : 0 < many → first < length xss
  ring_some some = omega (arith, window_some (turned turn xss) start first many h.window some, length_turned turn xss)

  pub ring_full : 0 < many → length xss ≡ 64
  ring_full some = h.size (omega (arith, ring_some some))

  pub ring_first : 0 < many → first < 64
  ring_first some = omega (arith, ring_some some, ring_full some)

  pub ring_at : (place : ℕ) → 0 < many → place ≡ (turn + first) % 64 → get_or (turned turn xss) first [] ≡ get_or xss place []
  ring_at place some is = turned_at turn xss first (ring_full some) h.within (ring_first some) ∙ ap (λ m. get_or xss m []) (sym is)

  -- with no entries, it may begin at any time
  pub ring_moved : (time : ℤ) → many ≡ 0 → IsRing xss turn time first many
  ring_moved time none = record { window = window_moved (turned turn xss) start first many h.window time none; size = h.size; within = h.within }

  -- one entry more
  module _ (i place : ℕ) (x : Entry) (zs : List Entry) (inner : i < length xss) (is : place ≡ (turn + i) % 64) (put : zs ≡ get_or xss place [] ++ x ∷ []) where
    put_less : i < 64
    put_less = omega (arith, inner, h.size (omega (arith, inner)))

    put_full : length xss ≡ 64
    put_full = h.size (omega (arith, inner))

    put_set : turned turn (set xss place zs) ≡ set (turned turn xss) i zs
    put_set = turned_set turn xss i place zs put_full h.within put_less is

    put_inside : i < length (turned turn xss)
    put_inside = omega (arith, inner, length_turned turn xss)

    put_is : zs ≡ get_or (turned turn xss) i [] ++ x ∷ []
    put_is = put ∙ ap (λ us. us ++ x ∷ []) (sym (turned_at turn xss i put_full h.within put_less ∙ ap (λ m. get_or xss m []) (sym is)))

    pub ring_put : x.key.time ≡ start +ℤ pos i → Rises zs → IsRing (set xss place zs) turn start (min first i) (many + 1)
    ring_put at rises =
        record {
          window = subst (λ us. IsWindow us start (min first i) (many + 1)) (sym put_set)
              (window_put (turned turn xss) start first many h.window i x zs put_inside at put_is rises);
          size = λ _. length-set xss place zs ∙ put_full;
          within = h.within;
        }

    pub ring_joined : IsPermutation (x ∷ joined (turned turn xss)) (joined (turned turn (set xss place zs)))
    ring_joined = subst (λ us. IsPermutation (x ∷ joined (turned turn xss)) (joined us)) (ap (λ us. set (turned turn xss) i us) (sym put_is) ∙ sym put_set)
        (put_joined (turned turn xss) i x put_inside)

  -- one entry fewer, and the window slides to its time
  module _ (place : ℕ) (some : 0 < many) (is : place ≡ (turn + first) % 64) (x : Entry) (rest : List Entry) (at : get_or xss place [] ≡ x ∷ rest) where
    taken_at : get_or (turned turn xss) first [] ≡ x ∷ rest
    taken_at = ring_at place some is ∙ at

    taken_full : length (turned turn xss) ≡ 64
    taken_full = length_turned turn xss ∙ ring_full some

    taken_set : turned place (set xss place rest) ≡ turned first (set (turned turn xss) first rest)
    taken_set = ap (λ m. turned m (set xss place rest)) is
        ∙ sym (turned_twice turn first (set xss place rest) (length-set xss place rest ∙ ring_full some) h.within (ring_first some))
        ∙ ap (λ us. turned first us) (turned_set turn xss first place rest (ring_full some) h.within (ring_first some) is)

    pub ring_takes : TakesFirst (joined (turned turn xss)) x (joined (turned place (set xss place rest)))
    ring_takes = subst (λ us. TakesFirst (joined (turned turn xss)) x us)
        (sym (ap joined taken_set ∙ slid_joined (turned turn xss) start first many h.window taken_full (ring_first some) x rest taken_at))
        (window_takes (turned turn xss) start first many h.window x rest taken_at)

    pub ring_len : (left : ℕ) → left + 1 ≡ many → left ≡ length (joined (turned place (set xss place rest)))
    ring_len left fewer = slid_len (turned turn xss) start first many h.window taken_full (ring_first some) x rest taken_at left fewer
        ∙ sym (ap (λ us. length (joined us)) taken_set)

    pub ring_slides : (time : ℤ) (next left : ℕ) → time ≡ x.key.time → ((i : ℕ) → i < next → get_or (turned place (set xss place rest)) i [] ≡ [])
        → (next < 64 → 0 < length (get_or (turned place (set xss place rest)) next [])) → left + 1 ≡ many
        → IsRing (set xss place rest) place time next left
    ring_slides time next left now before filled fewer =
        record {
          window = subst (λ z. IsWindow (turned place (set xss place rest)) z next left) (sym now)
              (subst (λ us. IsWindow us x.key.time next left) (sym taken_set)
              (slid (turned turn xss) start first many h.window taken_full (ring_first some) x rest taken_at next left
              (subst (λ us. (i : ℕ) → i < next → get_or us i [] ≡ []) taken_set before)
              (subst (λ us. next < 64 → 0 < length (get_or us next [])) taken_set filled) fewer));
          size = λ _. length-set xss place rest ∙ ring_full some;
          within = omega (arith, is);
        }

-- 64 empty queues
pub ring_opens : (xss : List (List Entry)) (turn : ℕ) (start : ℤ) (many : ℕ) → ((i : ℕ) → get_or xss i [] ≡ []) → length xss ≡ 64 → turn < 64 → many ≡ 0
    → IsRing xss turn start 64 many
ring_opens xss turn start many empty all within none =
    record {
      window = window_opens (turned turn xss) start 64 many (turned_none turn xss empty all within) (length_turned turn xss ∙ all) none;
      size = λ _. all;
      within = within;
    }

-- ---- the queues as they are written

pub ring_read : (qs : List (VecDeque Entry Global)) (turn i place : ℕ) (q : VecDeque Entry Global) → length qs ≡ 64 → turn < 64
    → i < 64 → place ≡ (turn + i) % 64 → q ≡ get_or qs place q → get_or (turned turn (map (λ (u : VecDeque Entry Global). u.items) qs)) i [] ≡ q.items
ring_read qs turn i place q all within less is here =
    turned_at turn (map (λ (u : VecDeque Entry Global). u.items) qs) i (as_many qs ∙ all) within less
    ∙ ap (λ m. get_or (map (λ (u : VecDeque Entry Global). u.items) qs) m []) (sym is) ∙ read_at qs place q (omega (arith, is, all)) here

module _ (qs : List (VecDeque Entry Global)) (turn : ℕ) (start : ℤ) (first many : ℕ)
    (h : IsRing (map (λ (u : VecDeque Entry Global). u.items) qs) turn start first many) where
  ring_all : (i : ℕ) → i < length qs → length qs ≡ 64
  ring_all i less = sym (as_many qs) ∙ h.size (omega (arith, less, as_many qs))

  -- the place of a queue that there is
  pub ring_within : (i place : ℕ) → i < length qs → place ≡ (turn + i) % 64 → place < length qs
  ring_within i place less is = omega (arith, is, ring_all i less)

  -- what is read of it
  pub ring_reads : (i place : ℕ) → i < length qs → place ≡ (turn + i) % 64 → (q : VecDeque Entry Global) → q ≡ get_or qs place q
      → get_or (turned turn (map (λ (u : VecDeque Entry Global). u.items) qs)) i [] ≡ q.items
  ring_reads i place less is q here = ring_read qs turn i place q (ring_all i less) h.within (omega (arith, less, ring_all i less)) is here

  -- the first queue has entries
  pub ring_filled : 0 < many → (place : ℕ) → place ≡ (turn + first) % 64 → (q : VecDeque Entry Global) → q ≡ get_or qs place q → 0 < length q.items
  ring_filled some place is q here =
      let inner : first < length (map (λ (u : VecDeque Entry Global). u.items) qs) =
      ring_some (map (λ (u : VecDeque Entry Global). u.items) qs) turn start first many h some in
      omega (
        arith,
        h.window.filled (omega (arith, inner, length_turned turn (map (λ (u : VecDeque Entry Global). u.items) qs))),
        ap length (ring_reads first place (omega (arith, inner, as_many qs)) is q here),
      )
