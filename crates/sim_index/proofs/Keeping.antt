-- An index stays sound, and which numbers have which places.
use Rattle.std.proofs.Common.{◌≡◌, ℕ, ◌+◌, ◌-◌, ◌*◌, ◌<◌, ◌≤◌, Bool, true, false, List, [], ◌∷◌, ◌++◌, length, get_or, set, filter, replicate, Option, Some, None, is_some, IsSome, cond, refl, sym, ap, ◌∙◌, inl, inr, arith, All, count_by, zero-add}
use Rattle.std.proofs.lemmas.Bool.{cases_lt, cases_eq}
use Rattle.std.proofs.lemmas.List.{length-set, length-append, length-replicate, get_or_past, get_or-set_same, get_or-set_other, get_or_append_left, get_or-append_right, get_or-replicate}
use Rattle.std.proofs.lemmas.List.Edits.{insert_end}
use Rattle.std.proofs.lemmas.List.Elements.{All-filter, All-weaker}
use Rattle.std.proofs.lemmas.List.Folds.{sum_by-replicate}
use Rattle.std.proofs.lemmas.List.FromFn.{fill_by_all, length-map-range_with_len, get_or-map-range_with_len, map-range_with_len_more}
use Rattle.std.proofs.lemmas.List.Kept.{AllPairs-filter}
use Rattle.std.proofs.lemmas.List.Sums.{sum_by-append, sum_by-cons, sum_by-set, get_or-le-sum_by}
use Rattle.sim_index.specs.declared.entries.Entry.{Entry}
use Rattle.sim_index.specs.Entries.{gone, entries_per_number, place_among, place_of_entry, places_below, is_live, NumbersRise, IsSoundIndex, HasNumberAt, HasNumberNowhere, StandsBefore, SameEntries, IsPut}
use Rattle.sim_index.specs.IndexOf.{with_number, place_of_number}
use Rattle.sim_index.proofs.Finding.{place_found, place_nowhere, place_filter}
use Rattle.sim_index.proofs.Changing.{one_if, Changes, replaced, inserted, put, place_if_live, live_within, place_within}

pub length_places : (given : ℕ) (es : List Entry) → length (places_below given es) ≡ given
length_places given es = length-map-range_with_len (λ n. place_among n es) 0 given

pub place_at : (given : ℕ) (es : List Entry) (n : ℕ) (d : Option ℕ) → n < given → get_or (places_below given es) n d ≡ place_among n es
place_at given es n d h = get_or-map-range_with_len (λ n. place_among n es) 0 given n n d h (zero-add n)

-- a list that has the place of each number is the list of the places
tabulated : (given : ℕ) (es : List Entry) (places : List (Option ℕ)) → length places ≡ given
    → ((n : ℕ) → n < given → get_or places n None ≡ place_among n es) → places_below given es ≡ places
tabulated given es places same each = sym (fill_by_all (λ n. place_among n es) places given None same each)

-- ---- a number is looked up

module _ (es : List Entry) (live given capacity : ℕ) (s : IsSoundIndex es live given capacity) (n : ℕ) where
  pub looked_up : place_of_number n (places_below given es) ≡ place_among n es
  looked_up =
      elim (cases_lt n given) [
        | inl low ↦ place_at given es n None low
        | inr past ↦
            get_or_past (places_below given es) n None (omega (arith, length_places given es))
            ∙ sym (place_nowhere es n (λ k d h. λ e. omega (arith, s.below k d h)))
      ]

  pub looked_up_at : (at : ℕ) (d : Entry) → HasNumberAt es n at → place_of_number n (places_below given es) ≡ place_of_entry (get_or es at d)
  looked_up_at at d h = looked_up ∙ place_found es n at d s.rising h

  pub looked_up_nowhere : HasNumberNowhere es n → place_of_number n (places_below given es) ≡ None
  looked_up_nowhere none = looked_up ∙ place_nowhere es n none

-- ---- marked entries are taken out

live_filter : (es : List Entry) → count_by is_live (filter is_live es) ≡ count_by is_live es
live_filter [] = refl
live_filter (x ∷ es) = go (is_live x) refl (live_filter es)
  where
    go : (b : Bool) → is_live x ≡ b → count_by is_live (filter is_live es) ≡ count_by is_live es
        → count_by is_live (cond b (x ∷ filter is_live es) (filter is_live es)) ≡ count_by is_live (x ∷ es)
    go false is rest =
        let head : count_by is_live (x ∷ es) ≡ one_if (is_live x) + count_by is_live es = sum_by-cons (λ e. one_if (is_live e)) x es in
        omega (arith, head, ap one_if is)
    go true is rest =
        sum_by-cons (λ e. one_if (is_live e)) x (filter is_live es) ∙ ap (λ n. one_if (is_live x) + n) rest ∙ sym (sum_by-cons (λ e. one_if (is_live e)) x es)

places_filter : (given : ℕ) (es : List Entry) → NumbersRise es → places_below given (filter is_live es) ≡ places_below given es
places_filter given es p =
    tabulated given (filter is_live es) (places_below given es) (length_places given es) (λ n h. place_at given es n None h ∙ sym (place_filter es n p))

sound_filter : (es : List Entry) (live given capacity : ℕ) → IsSoundIndex es live given capacity → IsSoundIndex (filter is_live es) live given capacity
sound_filter es live given capacity s = record {
  rising = AllPairs-filter (λ x y. x.number < y.number) is_live es s.rising;
  below = All-filter is_live (λ e. e.number < given) es s.below;
  counted = s.counted ∙ sym (live_filter es);
  placed = s.placed ∙ ap (count_by is_some) (sym (places_filter given es s.rising));
  room = s.room;
}

module _ (old new : List Entry) (live given capacity : ℕ) (s : IsSoundIndex old live given capacity) where
  pub sound_same : SameEntries old new → IsSoundIndex new live given capacity
  sound_same (inl same) = rw same s
  sound_same (inr filtered) = rw filtered (sound_filter old live given capacity s)

  pub places_same : SameEntries old new → places_below given new ≡ places_below given old
  places_same (inl same) = ap (places_below given) same
  places_same (inr filtered) = ap (places_below given) filtered ∙ places_filter given old s.rising

  pub sound_with_room : (room : ℕ) → SameEntries old new → capacity ≤ room → IsSoundIndex new live given room
  sound_with_room room e more =
      let kept = sound_same e in
      record { rising = kept.rising; below = kept.below; counted = kept.counted; placed = kept.placed; room = omega (arith, kept.room) }

-- ---- a number below those given gets another place, or loses it

module _ (old new : List Entry) (e : Entry) (live given capacity : ℕ) (s : IsSoundIndex old live given capacity) (change : Changes old e new) (low : e.number < given) where
  pub places_changed : places_below given new ≡ set (places_below given old) e.number (place_of_entry e)
  places_changed =
      tabulated given new _ (length-set (places_below given old) e.number (place_of_entry e) ∙ length_places given old) (λ n within.
      elim (cases_eq n e.number) [
        | inl here ↦ rw here (get_or-set_same (places_below given old) e.number (place_of_entry e) None (rw length_places low) ∙ sym change.same)
        | inr there ↦ get_or-set_other (places_below given old) e.number n (place_of_entry e) None there ∙ place_at given old n None within ∙ sym (change.others n there)
      ])

  -- so many more or fewer have a place
  pub sound_changed : (now : ℕ) → now + one_if (is_some (place_of_number e.number (places_below given old))) ≡ live + one_if (is_live e)
      → entries_per_number * now ≤ capacity → IsSoundIndex new now given capacity
  sound_changed now count room =
      let was : place_of_number e.number (places_below given old) ≡ place_among e.number old = looked_up old live given capacity s e.number in
      let kept : now + one_if (is_some (place_among e.number old)) ≡ live + one_if (is_live e) = rw was at count in
      let placed = sum_by-set (λ (o : Option ℕ). one_if (is_some o)) (places_below given old) e.number (place_of_entry e) None (rw length_places low) in
      let told : count_by is_some (set (places_below given old) e.number (place_of_entry e)) + one_if (is_some (place_among e.number old)) ≡ count_by is_some (places_below given old) + one_if (is_live e) = rw (was, place_if_live e) at placed in
      record {
        rising = change.rising;
        below = change.below given low s.below;
        counted = omega (arith, s.counted, change.counted);
        placed = omega (arith, s.placed, ap (count_by is_some) places_changed);
        room = room;
      }

-- the entry of a number is given another place
module _ (es : List Entry) (live given capacity n at : ℕ) (x : Entry) (s : IsSoundIndex es live given capacity) (h : HasNumberAt es n at) (is : x ≡ get_or es at x) where
  here : x.number ≡ n
  here = ap (λ (y : Entry). y.number) is ∙ h.number x

  low : x.number < given
  low = rw (← is) at (s.below at x h.within)

  moved : (place : ℕ) → Changes es (record { number = x.number; place = place }) (set es at (record { number = x.number; place = place }))
  moved place = replaced es at (record { number = x.number; place = place }) s.rising (record { within = h.within; number = λ d. h.number d ∙ sym here })

  pub places_moved : (place : ℕ)
      → places_below given (set es at (record { number = x.number; place = place })) ≡ set (places_below given es) n
      (place_of_entry (record { number = x.number; place = place }))
  places_moved place =
      let e : Entry = record { number = x.number; place = place } in
      places_changed es (set es at e) e live given capacity s (moved place) low ∙ ap (λ m. set (places_below given es) m (place_of_entry e)) here

  pub place_there : place_of_number n (places_below given es) ≡ place_of_entry x
  place_there = looked_up_at es live given capacity s n at x h ∙ ap place_of_entry (sym is)

  -- a number that has a place is counted
  pub live_there : IsSome (place_of_number n (places_below given es)) → is_live x ≡ true
  live_there some = sym (place_if_live x) ∙ rw place_there at some

  pub some_live : IsSome (place_of_number n (places_below given es)) → 0 < live
  some_live some =
      let one : one_if (is_live (get_or es at x)) ≤ count_by is_live es = get_or-le-sum_by (λ e. one_if (is_live e)) es at x h.within in
      omega (arith, s.counted, rw (← is, live_there some) at one)

  pub sound_moved : (place now : ℕ) → IsSome (place_of_number n (places_below given es))
      → now + 1 ≡ live + one_if (is_live (record { number = x.number; place = place }))
      → entries_per_number * now ≤ capacity → IsSoundIndex (set es at (record { number = x.number; place = place })) now given capacity
  sound_moved place now some count room =
      let e : Entry = record { number = x.number; place = place } in
      sound_changed es (set es at e) e live given capacity s (moved place) low now (rw (here, place_there, place_if_live x, live_there some) count) room

-- a number that has no place gets one
module _ (old new : List Entry) (e : Entry) (live given capacity : ℕ) (s : IsSoundIndex old live given capacity) (p : IsPut old e new) (low : e.number < given) (fits : e.place < gone) where
  pub places_put : places_below given new ≡ set (places_below given old) e.number (Some e.place)
  places_put = places_changed old new e live given capacity s (put old new e s.rising p) low ∙ ap (λ o. set (places_below given old) e.number o) (place_within e fits)

  pub sound_put : place_of_number e.number (places_below given old) ≡ None → entries_per_number * (live + 1) ≤ capacity
      → IsSoundIndex new (live + 1) given capacity
  sound_put none room = sound_changed old new e live given capacity s (put old new e s.rising p) low (live + 1) (rw (none, live_within e fits) (omega arith)) room

-- ---- a number after those given gets a place

places_raised : (es : List Entry) (given n : ℕ) → All (λ e. e.number < given) es → given ≤ n
    → places_below n es ≡ places_below given es ++ replicate (n - given) None
places_raised es given n below high =
    let gap = replicate {A = Option ℕ} (n - given) None in
    let long : length (places_below given es ++ gap) ≡ n = omega (arith, length-append (places_below given es) gap, length-replicate {A = Option ℕ} (n - given) None, length_places given es) in
    tabulated n es (places_below given es ++ gap) long (λ m within.
    elim (cases_lt m given) [
      | inl low ↦ get_or_append_left (places_below given es) gap None m (rw length_places low) ∙ place_at given es m None low
      | inr past ↦
          get_or-append_right (places_below given es) gap given m None (length_places given es) past
          ∙ get_or-replicate (n - given) (m - given) None None (omega arith)
          ∙ sym (place_nowhere es m (λ k d h. λ s. omega (arith, below k d h)))
    ])

sound_raised : (es : List Entry) (live given n capacity : ℕ) → IsSoundIndex es live given capacity → given ≤ n → IsSoundIndex es live n capacity
sound_raised es live given n capacity s high =
    let none : count_by is_some (replicate {A = Option ℕ} (n - given) None) ≡ 0 = sum_by-replicate (λ (o : Option ℕ). one_if (is_some o)) (n - given) None ∙ omega arith in
    let both = sum_by-append (λ (o : Option ℕ). one_if (is_some o)) (places_below given es) (replicate (n - given) None) in
    record {
      rising = s.rising;
      below = All-weaker (λ e. e.number < given) (λ e. e.number < n) (λ e h. omega arith) es s.below;
      counted = s.counted;
      placed = omega (arith, s.placed, ap (count_by is_some) (places_raised es given n s.below high));
      room = s.room;
    }

module _ (old : List Entry) (e : Entry) (live given capacity : ℕ) (s : IsSoundIndex old live given capacity) (high : given ≤ e.number) where
  pushed : Changes old e (old ++ e ∷ [])
  pushed =
      let last : StandsBefore old e.number (length old) = record { within = omega arith; lower = λ k d h. omega (arith, s.below k d h); higher = λ k d h within. absurd (omega arith) } in
      rw (← insert_end old e) (inserted old (length old) e s.rising last)

  pub places_pushed : e.place < gone → places_below (e.number + 1) (old ++ e ∷ []) ≡ with_number e.number e.place (places_below given old)
  places_pushed fits =
      let new = old ++ e ∷ [] in
      let front : places_below e.number new ≡ places_below e.number old = tabulated e.number new (places_below e.number old) (length_places e.number old) (λ n h. place_at e.number old n None h ∙ sym (pushed.others n (λ same. omega arith))) in
      map-range_with_len_more (λ n. place_among n new) 0 e.number e.number (zero-add e.number)
      ∙ ap (λ o. places_below e.number new ++ o ∷ []) (pushed.same ∙ place_within e fits)
      ∙ ap (λ ps. ps ++ Some e.place ∷ []) (front ∙ places_raised old given e.number s.below high)
      ∙ ap (λ n. (places_below given old ++ replicate (e.number - n) None) ++ Some e.place ∷ []) (sym (length_places given old))

  pub sound_pushed : e.place < gone → entries_per_number * (live + 1) ≤ capacity → IsSoundIndex (old ++ e ∷ []) (live + 1) (e.number + 1) capacity
  sound_pushed fits room =
      let raised = sound_raised old live given (e.number + 1) capacity s (omega arith) in
      let none : place_among e.number old ≡ None = place_nowhere old e.number (λ k d h. λ same. omega (arith, s.below k d h)) in
      let was : place_of_number e.number (places_below (e.number + 1) old) ≡ None = looked_up old live (e.number + 1) capacity raised e.number ∙ none in
      sound_changed old (old ++ e ∷ []) e live (e.number + 1) capacity raised pushed (omega arith) (live + 1) (rw (was, live_within e fits) (omega arith)) room
