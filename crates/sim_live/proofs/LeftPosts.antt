-- What is left once all posters have ended.
--     left_completes       with what was taken of a poster it is all that it posts
--     left_is_posted       each is a post of the section of its poster, with its serial
use Rattle.std.proofs.Common.{◌≡◌, ℕ, zero, suc, ◌+◌, ◌<◌, List, [], ◌∷◌, ◌++◌, length, map, drop, Some, refl, sym, ap, ◌∙◌, subst, arith, append_assoc}
use Rattle.std.specs.Prelude.{slice_get, slice_index_or}
use Rattle.std.proofs.Math.Seq.{drop-nil}
use Rattle.std.proofs.lemmas.List.{append-nil}
use Rattle.sim_types.specs.Scenarios.{ScenarioOf}
use Rattle.sim_types.specs.declared.setup.Arrival.{Arrival}
use Rattle.sim_types.specs.declared.setup.Post.{Post}
use Rattle.sim_inbox.specs.declared.taken.Taken.{Taken}
use Rattle.sim_inbox.specs.Lists.{numbered, entries_by, Begins, untaken}
use Rattle.sim_inbox.proofs.Lists.{numbered_append, entries_append, entries_first, entries_numbered, entries_not_numbered}
use Rattle.sim_live.specs.Journals.{posts_by, section}

-- ---- what is left of one poster

module _ (taken : ℕ → List Post) where
  abbrev rest_of : ℕ → List Post → List Taken
  rest_of p posted = numbered p (length (taken p)) (drop (length (taken p)) posted)

  none_below : (p k : ℕ) (lists : List (List Post)) → p < k → entries_by p (untaken taken k lists) ≡ []
  none_below p k [] below = refl
  none_below p k (posted ∷ lists) below =
      entries_append p (rest_of k posted) (untaken taken (suc k) lists)
      ∙ (λ i. entries_not_numbered p k (length (taken k)) (drop (length (taken k)) posted) (λ e. omega (arith, e, below)) i
      ++ none_below p (suc k) lists (omega (arith, below)) i)

  left_of : (p k q : ℕ) (lists : List (List Post)) → k + p ≡ q → entries_by q (untaken taken k lists) ≡ rest_of q (slice_index_or lists p [])
  left_of p k q [] at = sym (ap (numbered q (length (taken q))) (drop-nil (length (taken q))))
  left_of zero k q (posted ∷ lists) at =
      let same : k ≡ q = omega (arith, at) in
      subst (λ r. entries_by r (untaken taken k (posted ∷ lists)) ≡ rest_of r posted) same
      (entries_append k (rest_of k posted) (untaken taken (suc k) lists)
      ∙ ((λ i. entries_numbered k (length (taken k)) (drop (length (taken k)) posted) i ++ none_below k (suc k) lists (omega arith) i)
      ∙ append-nil (rest_of k posted)))
  left_of (suc p) k q (posted ∷ lists) at =
      entries_append q (rest_of k posted) (untaken taken (suc k) lists)
      ∙ ((λ i. entries_not_numbered q k (length (taken k)) (drop (length (taken k)) posted) (λ e. omega (arith, e, at)) i
      ++ left_of p (suc k) q lists (omega (arith, at)) i))

  pub left_completes : (s : ScenarioOf) (journal : List Arrival) → ((p : ℕ) → posts_by p journal ≡ numbered p 0 (taken p))
      → ((p : ℕ) → Begins (taken p) (section s p)) → (p : ℕ)
      → posts_by p journal ++ entries_by p (untaken taken 0 s.posters) ≡ numbered p 0 (section s p)
  left_completes s journal told begins p =
      let n : length (taken p) ≡ 0 + length (taken p) = omega arith in
      (λ i. told p i ++ left_of p 0 p s.posters (omega arith) i)
      ∙ (ap (λ k. numbered p 0 (taken p) ++ numbered p k (drop (length (taken p)) (section s p))) n
      ∙ (sym (numbered_append p 0 (taken p) (drop (length (taken p)) (section s p))) ∙ ap (numbered p 0) (begins p)))

-- ---- each is a post of a section, with its serial

numbered_serial : (p n : ℕ) (before after : List Taken) (t : Taken) (items : List Post) → before ++ t ∷ after ≡ numbered p n items
    → t.serial ≡ n + length before
numbered_serial p n [] after t [] is = absurd (omega (arith, ap length is))
numbered_serial p n [] after t (x ∷ items) is = omega (arith, ap (λ l. slice_index_or (map (λ u. u.serial) l) 0 0) is)
numbered_serial p n (b ∷ before) after t [] is = absurd (omega (arith, ap length is))
numbered_serial p n (b ∷ before) after t (x ∷ items) is = omega (arith, numbered_serial p (suc n) before after t items (ap (drop 1) is))

numbered_item : (p n : ℕ) (before after : List Taken) (t : Taken) (items : List Post) → before ++ t ∷ after ≡ numbered p n items
    → slice_get items (length before) ≡ Some t.item
numbered_item p n [] after t [] is = absurd (omega (arith, ap length is))
numbered_item p n [] after t (x ∷ items) is = ap (λ l. slice_get (map (λ u. u.item) l) 0) (sym is)
numbered_item p n (b ∷ before) after t [] is = absurd (omega (arith, ap length is))
numbered_item p n (b ∷ before) after t (x ∷ items) is = numbered_item p (suc n) before after t items (ap (drop 1) is)

pub left_is_posted : (s : ScenarioOf) (journal : List Arrival) (before after : List Taken) (t : Taken)
    → ((p : ℕ) → posts_by p journal ++ entries_by p (before ++ t ∷ after) ≡ numbered p 0 (section s p))
    → slice_get (section s t.poster) t.serial ≡ Some t.item
left_is_posted s journal before after t completes =
    let p = t.poster in
    let own : entries_by p (before ++ t ∷ after) ≡ entries_by p before ++ t ∷ entries_by p after =
    entries_append p before (t ∷ after) ∙ ap (λ l. entries_by p before ++ l) (entries_first p t after refl) in
    let is : (posts_by p journal ++ entries_by p before) ++ t ∷ entries_by p after ≡ numbered p 0 (section s p) =
    append_assoc (posts_by p journal) (entries_by p before) (t ∷ entries_by p after)
    ∙ (ap (λ l. posts_by p journal ++ l) (sym own) ∙ completes p) in
    let front = posts_by p journal ++ entries_by p before in
    let at : t.serial ≡ length front = omega (arith, numbered_serial p 0 front (entries_by p after) t (section s p) is) in
    ap (slice_get (section s p)) at ∙ numbered_item p 0 front (entries_by p after) t (section s p) is
