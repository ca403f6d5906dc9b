-- Which events contracts see, as places, and the slots at them, come, change and go.
use Rattle.std.proofs.Common.{◌≡◌, ◌≢◌, ℕ, suc, ◌-◌, ◌<◌, true, List, [], ◌∷◌, ◌++◌, length, get_or, set, Option, Some, None, is_some, IsSome, cond, count_by, refl, sym, ap, ◌∙◌, inl, inr, ◌⊎◌, arith}
use Rattle.std.specs.Prelude.{option_and_then}
use Rattle.std.specs.Option.{option_map}
use Rattle.std.proofs.Math.ListN.{get_or-map}
use Rattle.std.proofs.lemmas.Bool.{cases_eq, cases_lt, false≢true}
use Rattle.std.proofs.lemmas.Option.{same_Some}
use Rattle.std.proofs.lemmas.List.{length-map, length-set, length_push, get_or-set_same, get_or-set_other, get_or_append_left, get_or_push, get_or_past, ext_get_or, append-nil, map-append}
use Rattle.std.proofs.lemmas.List.Sums.{sum_by-cons}
use Rattle.slab.specs.Slab.{get, Updates}
use Rattle.sim_index.specs.IndexOf.{place_of_number, with_number}
use Rattle.sim_types.specs.declared.event.EventId.{EventId}
use Rattle.sim_events.specs.declared.slot.Slot.{Slot}
use Rattle.sim_events.specs.declared.store.Store.{Store}
use Rattle.sim_events.specs.Slots.{kept_in}
use Rattle.sim_events.specs.Stores.{kept_by_key, events_in, ArePlaced}
use Rattle.sim_happen_model.specs.TableOf.{kept_at, kept_or_new, kept_count}
use Rattle.sim_events.proofs.Slabs.{vacant_apart}

-- ---- an event is read

pub event_at : (places : List (Option ℕ)) (s : Store) (n : ℕ)
    → get_or (events_in places s) n None ≡ option_and_then (kept_by_key s) (place_of_number n places)
event_at places s n = get_or-map (option_and_then (kept_by_key s)) places n None

pub event_found : (places : List (Option ℕ)) (s : Store) (n key : ℕ) → place_of_number n places ≡ Some key
    → get_or (events_in places s) n None ≡ kept_by_key s key
event_found places s n key at = event_at places s n ∙ ap (option_and_then (kept_by_key s)) at

pub kept_found : (places : List (Option ℕ)) (s : Store) (e : EventId) (key : ℕ) (x : Slot)
    → place_of_number e.0 places ≡ Some key → get s.slots key ≡ Some x → kept_at (events_in places s) e ≡ kept_in s.nodes s.parts x
kept_found places s e key x at found =
    ap kept_or_new (event_found places s e.0 key at ∙ ap (option_map (kept_in s.nodes s.parts)) found)

place_within : (places : List (Option ℕ)) (n key : ℕ) → place_of_number n places ≡ Some key → n < length places
place_within places n key at =
    elim (cases_lt n (length places)) [
      | inl inside ↦ inside
      | inr past ↦ absurd (false≢true (ap is_some (sym (get_or_past places n None past) ∙ at)))
    ]

-- ---- an event is kept where it has a place

is_some_mapped : {X Y : Type 0} (f : X → Y) (o : Option X) → IsSome o → is_some (option_map f o) ≡ true
is_some_mapped f None h = h
is_some_mapped f (Some x) h = refl

pub kept_is_placed : (places : List (Option ℕ)) (s : Store) → ArePlaced places s.slots → (n : ℕ)
    → is_some (get_or (events_in places s) n None) ≡ is_some (place_of_number n places)
kept_is_placed places s w n = ap is_some (event_at places s n) ∙ go (place_of_number n places) refl
  where
    go : (o : Option ℕ) → place_of_number n places ≡ o → is_some (option_and_then (kept_by_key s) o) ≡ is_some o
    go None at = refl
    go (Some key) at = is_some_mapped (kept_in s.nodes s.parts) (get s.slots key) (w.there n key at)

count_same : {X Y : Type 0} (xs : List (Option X)) (ys : List (Option Y)) → length xs ≡ length ys
    → ((k : ℕ) → is_some (get_or xs k None) ≡ is_some (get_or ys k None)) → count_by is_some xs ≡ count_by is_some ys
count_same [] [] same each = refl
count_same [] (y ∷ ys) same each = absurd (omega (arith, same))
count_same (x ∷ xs) [] same each = absurd (omega (arith, same))
count_same {X} {Y} (x ∷ xs) (y ∷ ys) same each =
    let head : ◌≡◌ {A = ℕ} (cond (is_some x) 1 0) (cond (is_some y) 1 0) = ap (λ b. let n : ℕ = cond b 1 0 in n) (each 0) in
    let rest : count_by is_some xs ≡ count_by is_some ys = count_same xs ys (omega (arith, same)) (λ k. each (suc k)) in
    omega (arith, head, rest, sum_by-cons (λ (o : Option X). cond (is_some o) 1 0) x xs, sum_by-cons (λ (o : Option Y). cond (is_some o) 1 0) y ys)

pub count_placed : (places : List (Option ℕ)) (s : Store) → ArePlaced places s.slots → kept_count (events_in places s) ≡ count_by is_some places
count_placed places s w = count_same (events_in places s) places (length-map places (option_and_then (kept_by_key s))) (kept_is_placed places s w)

-- ---- the slot of an event changes, and no other

module _ (places : List (Option ℕ)) (old new : Store) (w : ArePlaced places old.slots) where
  -- the event of another number is as it was
  apart_same : (n key : ℕ) → place_of_number n places ≡ Some key → ((k : ℕ) → k ≢ key → kept_by_key new k ≡ kept_by_key old k) → (m : ℕ) → m ≢ n
      → option_and_then (kept_by_key new) (place_of_number m places) ≡ option_and_then (kept_by_key old) (place_of_number m places)
  apart_same n key at others m there = go (place_of_number m places) refl
    where
      go : (o : Option ℕ) → place_of_number m places ≡ o → option_and_then (kept_by_key new) o ≡ option_and_then (kept_by_key old) o
      go None is = refl
      go (Some k) is = others k (λ s. there (w.apart m n key (is ∙ ap (λ i. let o : Option ℕ = Some i in o) s) at))

  pub placed_changed : (key : ℕ) (x : Slot) → Updates old.slots new.slots key (Some x) → ArePlaced places new.slots
  placed_changed key x updates = record {
    there = λ n k at. elim (cases_eq k key) [
      | inl here ↦ rw (here, updates.changed) refl
      | inr there ↦ rw (updates.others k there) (w.there n k at)
    ];
    apart = w.apart;
  }

  pub events_changed : (n key : ℕ) → place_of_number n places ≡ Some key → ((k : ℕ) → k ≢ key → kept_by_key new k ≡ kept_by_key old k)
      → events_in places new ≡ set (events_in places old) n (kept_by_key new key)
  events_changed n key at others =
      let lengths = length-map places (option_and_then (kept_by_key new)) ∙ sym (length-map places (option_and_then (kept_by_key old))) ∙ sym (length-set (events_in places old) n (kept_by_key new key)) in
      ext_get_or None _ _ lengths (λ m h.
      elim (cases_eq m n) [
        | inl here ↦
            rw here (event_found places new n key at ∙ sym (get_or-set_same (events_in places old) n (kept_by_key new key) None (rw length-map (place_within places n key at))))
        | inr there ↦
            event_at places new m ∙ apart_same n key at others m there ∙ sym (event_at places old m)
            ∙ sym (get_or-set_other (events_in places old) n m (kept_by_key new key) None there)
      ])

  -- no event changes
  pub events_same : ((k : ℕ) → kept_by_key new k ≡ kept_by_key old k) → events_in places new ≡ events_in places old
  events_same same =
      let lengths = length-map places (option_and_then (kept_by_key new)) ∙ sym (length-map places (option_and_then (kept_by_key old))) in
      ext_get_or None _ _ lengths (λ m h. event_at places new m ∙ go (place_of_number m places) ∙ sym (event_at places old m))
    where
      go : (o : Option ℕ) → option_and_then (kept_by_key new) o ≡ option_and_then (kept_by_key old) o
      go None = refl
      go (Some k) = same k

  -- ---- an event goes

  pub placed_less : (n key : ℕ) → place_of_number n places ≡ Some key → Updates old.slots new.slots key None → ArePlaced (set places n None) new.slots
  placed_less n key at updates = record {
    there = λ m k is.
        let was = still m k is in
        rw (updates.others k (λ s. was.0 (w.apart m n key (was.1 ∙ ap (λ i. let o : Option ℕ = Some i in o) s) at))) (w.there m k was.1);
    apart = λ m l k is also. w.apart m l k (still m k is).1 (still l k also).1;
  }
    where
      still : (m k : ℕ) → place_of_number m (set places n None) ≡ Some k → (m ≢ n) × (place_of_number m places ≡ Some k)
      still m k is =
          elim (cases_eq m n) [
            | inl here ↦ absurd (false≢true (ap is_some (sym (get_or-set_same places n None None (place_within places n key at)) ∙ ap (λ i. get_or (set places n None) i None) (sym here) ∙ is)))
            | inr there ↦ (there, sym (get_or-set_other places n m None None there) ∙ is)
          ]

  pub events_less : (n key : ℕ) → place_of_number n places ≡ Some key → ((k : ℕ) → k ≢ key → kept_by_key new k ≡ kept_by_key old k)
      → events_in (set places n None) new ≡ set (events_in places old) n None
  events_less n key at others =
      let lengths = length-map (set places n None) (option_and_then (kept_by_key new)) ∙ length-set places n None ∙ sym (length-map places (option_and_then (kept_by_key old))) ∙ sym (length-set (events_in places old) n None) in
      ext_get_or None _ _ lengths (λ m h.
      elim (cases_eq m n) [
        | inl here ↦
            rw here (event_at (set places n None) new n ∙ ap (option_and_then (kept_by_key new)) (get_or-set_same places n None None (place_within places n key at))
            ∙ sym (get_or-set_same (events_in places old) n None None (rw length-map (place_within places n key at))))
        | inr there ↦
            event_at (set places n None) new m ∙ ap (option_and_then (kept_by_key new)) (get_or-set_other places n m None None there)
            ∙ apart_same n key at others m there ∙ sym (event_at places old m) ∙ sym (get_or-set_other (events_in places old) n m None None there)
      ])

  -- ---- an event more, of the next number

  pub numbered : (key : ℕ) → with_number (length places) key places ≡ places ++ Some key ∷ []
  numbered key =
      let gap : length places - length places ≡ 0 = omega arith in
      rw gap (ap (λ xs. xs ++ Some key ∷ []) (append-nil places))

  placed_at : (key m k : ℕ) → place_of_number m (places ++ Some key ∷ []) ≡ Some k
      → ((m < length places) × (place_of_number m places ≡ Some k)) ⊎ ((m ≡ length places) × (k ≡ key))
  placed_at key m k is =
      elim (cases_lt m (length places)) [
        | inl inside ↦ inl (inside, sym (get_or_append_left places (Some key ∷ []) None m inside) ∙ is)
        | inr past ↦ elim (cases_eq m (length places)) [
          | inl last ↦ inr (last, same_Some k key (sym is ∙ get_or_push places (Some key) None m (sym last)))
          | inr further ↦ absurd (false≢true (ap is_some (sym (get_or_past (places ++ Some key ∷ []) m None (omega (arith, length_push places (Some key)))) ∙ is)))
        ]
      ]

  pub placed_more : (key : ℕ) (x : Slot) → get old.slots key ≡ None → Updates old.slots new.slots key (Some x)
      → ArePlaced (with_number (length places) key places) new.slots
  placed_more key x vacant updates = rw (numbered key) (record {
    there = λ m k is. elim (placed_at key m k is) [
      | inl earlier ↦ rw (updates.others k (vacant_apart old.slots key k vacant (w.there m k earlier.1))) (w.there m k earlier.1)
      | inr last ↦ rw (last.1, updates.changed) refl
    ];
    apart = λ m l k is also. elim (placed_at key m k is) [
      | inl a ↦ elim (placed_at key l k also) [
        | inl b ↦ w.apart m l k a.1 b.1
        | inr b ↦ absurd (vacant_apart old.slots key k vacant (w.there m k a.1) b.1)
      ]
      | inr a ↦ elim (placed_at key l k also) [
        | inl b ↦ absurd (vacant_apart old.slots key k vacant (w.there l k b.1) a.1)
        | inr b ↦ a.0 ∙ sym b.0
      ]
    ];
  })

  pub events_more : (key : ℕ) → get old.slots key ≡ None → ((k : ℕ) → k ≢ key → kept_by_key new k ≡ kept_by_key old k)
      → events_in (with_number (length places) key places) new ≡ events_in places old ++ kept_by_key new key ∷ []
  events_more key vacant others =
      rw (numbered key, map-append (option_and_then (kept_by_key new)) places (Some key ∷ []))
      (ap (λ es. es ++ kept_by_key new key ∷ []) earlier)
    where
      go : (m : ℕ) (o : Option ℕ) → place_of_number m places ≡ o → option_and_then (kept_by_key new) o ≡ option_and_then (kept_by_key old) o
      go m None at = refl
      go m (Some k) at = others k (vacant_apart old.slots key k vacant (w.there m k at))

      earlier : events_in places new ≡ events_in places old
      earlier =
          let lengths = length-map places (option_and_then (kept_by_key new)) ∙ sym (length-map places (option_and_then (kept_by_key old))) in
          ext_get_or None _ _ lengths (λ m h. event_at places new m ∙ go m (place_of_number m places) refl ∙ sym (event_at places old m))
