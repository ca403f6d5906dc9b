-- What was left comes in, one post after another.
--     left_posted       each is a post of its poster, with its serial
--     left_port         by a port that there is
--     next_left         the journal with the next one
--     fronts_at         what has come in by now are fronts of the sections
--     sections_at       all of it has come in
use Rattle.std.proofs.Common.{◌≡◌, ◌⊎◌, inl, inr, ℕ, suc, ◌+◌, ◌<◌, ◌≤◌, List, [], ◌∷◌, ◌++◌, length, map, take, drop, Some, sym, ap, ◌∙◌, append_assoc, append-nil}
use Rattle.std.specs.Prelude.{slice_get, slice_index_or, IsTrue}
use Rattle.std.proofs.lemmas.List.{map-append, take_all, take_more, take-append-drop}
use Rattle.std.proofs.lemmas.Option.{slice_get-get_or}
use Rattle.sim_types.specs.Scenarios.{ScenarioOf}
use Rattle.sim_types.specs.declared.setup.Arrival.{Arrival}
use Rattle.sim_language.specs.WellFormed.{is_well_formed, never_falls}
use Rattle.sim_inbox.specs.declared.taken.Taken.{Taken}
use Rattle.sim_inbox.specs.Lists.{entries_by, numbered}
use Rattle.sim_inbox.proofs.Lists.{entries_append}
use Rattle.sim_live.specs.Journals.{KeepsFronts, KeepsSections, arrival_of, post_of, posts_by, section}
use Rattle.sim_live.proofs.Fronts.{front_by, item_parts}
use Rattle.sim_live.proofs.LeftPosts.{left_is_posted}
use Rattle.sim_live.proofs.Sections.{port_to_post}

pub sections_are_fronts : (s : ScenarioOf) (journal : List Arrival) → KeepsSections s journal → KeepsFronts s journal
sections_are_fronts s journal h =
    record {
      posts = λ p. front_by (posts_by p journal) [] (numbered p 0 (section s p)) (append-nil (posts_by p journal) ∙ h.posts p);
      falls = h.falls;
    }

module _ (s : ScenarioOf) (before : List Arrival) (left : List Taken)
    (completes : (p : ℕ) → posts_by p before ++ entries_by p left ≡ numbered p 0 (section s p)) where
  pub left_posted : (i : ℕ) (d : Taken) → i < length left
      → let t = slice_index_or left i d in slice_get (section s t.poster) t.serial ≡ Some t.item
  left_posted i d below =
      let t = slice_index_or left i d in
      let whole : take i left ++ t ∷ drop (suc i) left ≡ left =
      ap (λ l. take i left ++ l) (sym (item_parts left i t (slice_get-get_or left i d below))) ∙ take-append-drop i left in
      left_is_posted s before (take i left) (drop (suc i) left) t (λ p. ap (λ l. posts_by p before ++ entries_by p l) whole ∙ completes p)

  pub left_port : (i : ℕ) (d : Taken) → i < length left → IsTrue (is_well_formed s) → (slice_index_or left i d).item.port < length s.setup.ports
  left_port i d below well = let t = slice_index_or left i d in port_to_post s t.poster t.serial t.item well (left_posted i d below)

  -- the journal after so many of them
  abbrev pub IsAfter : ℕ → List Arrival → Type 0
  IsAfter i journal = map post_of journal ≡ map post_of before ++ take i left

  pub next_left : (i n : ℕ) (d : Taken) (journal more : List Arrival) → i < length left → IsAfter i journal
      → more ≡ journal ++ arrival_of n (slice_index_or left i d) ∷ [] → IsAfter (i + 1) more
  next_left i n d journal more below h is =
      let t = slice_index_or left i d in
      ap (map post_of) is
      ∙ (map-append post_of journal (arrival_of n t ∷ [])
      ∙ (ap (λ l. l ++ t ∷ []) h
      ∙ (append_assoc (map post_of before) (take i left) (t ∷ []) ∙ ap (λ l. map post_of before ++ l) (sym (take_more left i d below)))))

  posts_after : (i : ℕ) (journal : List Arrival) → IsAfter i journal → (p : ℕ) → posts_by p journal ≡ posts_by p before ++ entries_by p (take i left)
  posts_after i journal h p = ap (entries_by p) h ∙ entries_append p (map post_of before) (take i left)

  pub fronts_at : (i : ℕ) (journal : List Arrival) → IsAfter i journal → IsTrue (never_falls journal) → KeepsFronts s journal
  fronts_at i journal h falls =
      record {
        posts = λ p.
            front_by (posts_by p journal) (entries_by p (drop i left)) (numbered p 0 (section s p))
            (ap (λ l. l ++ entries_by p (drop i left)) (posts_after i journal h p)
            ∙ (append_assoc (posts_by p before) (entries_by p (take i left)) (entries_by p (drop i left))
            ∙ (ap (λ l. posts_by p before ++ l) (sym (entries_append p (take i left) (drop i left)) ∙ ap (entries_by p) (take-append-drop i left))
            ∙ completes p)));
        falls = falls;
      }

  -- with the next one, or without
  pub fronts_next : (i n : ℕ) (d : Taken) (journal more : List Arrival) → i < length left → IsAfter i journal
      → (more ≡ journal) ⊎ (more ≡ journal ++ arrival_of n (slice_index_or left i d) ∷ []) → IsTrue (never_falls more) → KeepsFronts s more
  fronts_next i n d journal more below h (inl same) falls = fronts_at i more (ap (map post_of) same ∙ h) falls
  fronts_next i n d journal more below h (inr is) falls = fronts_at (i + 1) more (next_left i n d journal more below h is) falls

  pub sections_at : (i : ℕ) (journal : List Arrival) → length left ≤ i → IsAfter i journal → IsTrue (never_falls journal) → KeepsSections s journal
  sections_at i journal all h falls =
      record {
        posts = λ p.
            posts_after i journal h p ∙ (ap (λ l. posts_by p before ++ entries_by p l) (take_all i left all) ∙ completes p);
        falls = falls;
      }
