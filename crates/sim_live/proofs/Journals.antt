-- The journal grows by what is taken.
--     posts_next        the posts of each poster with an entry more
--     told_next         it still tells what was taken
--     fronts_of         what was taken are fronts
--     falls_next        `after` never falls, where the last entry came in by now
use Rattle.std.proofs.Common.{◌≡◌, ◌≢◌, ℕ, ◌+◌, ◌≤◌, ◌⊎◌, inl, inr, Bool, true, false, List, [], ◌∷◌, ◌++◌, length, map, drop, Some, refl, sym, ap, ◌∙◌, subst, arith}
use Rattle.std.specs.Prelude.{slice_get, nat_le, ◌&&◌, All, IsTrue}
use Rattle.std.proofs.lemmas.Bool.Decides.{nat_tests}
use Rattle.std.proofs.lemmas.Bool.{cases_eq}
use Rattle.std.proofs.lemmas.List.{map-append}
use Rattle.std.proofs.lemmas.List.Elements.{All-append, All-cons, All-head, All-nil, All-tail}
use Rattle.sim_types.specs.Scenarios.{ScenarioOf}
use Rattle.sim_types.specs.declared.setup.Arrival.{Arrival}
use Rattle.sim_types.specs.declared.setup.Post.{Post}
use Rattle.sim_language.specs.WellFormed.{never_falls}
use Rattle.sim_inbox.specs.declared.taken.Taken.{Taken}
use Rattle.sim_inbox.specs.Lists.{entry, numbered, entries_by, Begins, IsTaken}
use Rattle.sim_inbox.proofs.Lists.{numbered_snoc, numbered_append, entries_own, entries_other}
use Rattle.sim_live.specs.Journals.{post_of, arrival_of, posts_by, section, IsFront}
use Rattle.sim_live.proofs.Fronts.{front_by, begins_next, begins_item}

-- ---- one entry more

module _ (taken more : ℕ → List Post) (journal : List Arrival) (n : ℕ) (t : Taken) (h : IsTaken taken more t) where
  abbrev grown : List Arrival
  grown = journal ++ arrival_of n t ∷ []

  grown_posts : map post_of grown ≡ map post_of journal ++ t ∷ []
  grown_posts = map-append post_of journal (arrival_of n t ∷ [])

  pub told_next : ((p : ℕ) → posts_by p journal ≡ numbered p 0 (taken p)) → (p : ℕ) → posts_by p grown ≡ numbered p 0 (more p)
  told_next told p = ap (entries_by p) grown_posts ∙ by (cases_eq p t.poster)
    where
      numbered_so : t ≡ entry t.poster (0 + length (taken t.poster)) t.item
      numbered_so =
          let e : t.serial ≡ 0 + length (taken t.poster) = omega (arith, h.serial) in
          λ k. record { poster = t.poster; serial = e k; item = t.item }

      own : posts_by t.poster journal ++ t ∷ [] ≡ numbered t.poster 0 (more t.poster)
      own =
          (λ k. told t.poster k ++ numbered_so k ∷ [])
          ∙ (sym (numbered_snoc t.poster 0 (taken t.poster) t.item) ∙ ap (numbered t.poster 0) (sym h.own))

      by : (p ≡ t.poster) ⊎ (p ≢ t.poster) → entries_by p (map post_of journal ++ t ∷ []) ≡ numbered p 0 (more p)
      by (inl same) =
          entries_own p (map post_of journal) t (sym same)
          ∙ subst (λ q. posts_by q journal ++ t ∷ [] ≡ numbered q 0 (more q)) (sym same) own
      by (inr differ) =
          entries_other p (map post_of journal) t (λ e. differ (sym e)) ∙ (told p ∙ ap (numbered p 0) (sym (h.others p differ)))

  -- where the poster has it to post
  pub begins_more : (s : ScenarioOf) → ((p : ℕ) → Begins (taken p) (section s p)) → slice_get (section s t.poster) t.serial ≡ Some t.item
      → (p : ℕ) → Begins (more p) (section s p)
  begins_more s begins at p = by (cases_eq p t.poster)
    where
      own : Begins (more t.poster) (section s t.poster)
      own =
          subst (λ l. Begins l (section s t.poster)) (sym h.own)
          (begins_next (taken t.poster) (section s t.poster) t.item (begins t.poster) (ap (slice_get (section s t.poster)) (sym h.serial) ∙ at))

      by : (p ≡ t.poster) ⊎ (p ≢ t.poster) → Begins (more p) (section s p)
      by (inl same) = subst (λ q. Begins (more q) (section s q)) (sym same) own
      by (inr differ) = subst (λ l. Begins l (section s p)) (sym (h.others p differ)) (begins p)

  -- and where it has not
  pub foreign_taken : (s : ScenarioOf) → slice_get (section s t.poster) t.serial ≢ Some t.item → ¬ Begins (more t.poster) (section s t.poster)
  foreign_taken s not_there begins =
      not_there (ap (slice_get (section s t.poster)) h.serial
      ∙ begins_item (taken t.poster) (section s t.poster) t.item (subst (λ l. Begins l (section s t.poster)) h.own begins))

-- ---- fronts

pub fronts_of : (s : ScenarioOf) (taken : ℕ → List Post) (journal : List Arrival) → ((p : ℕ) → posts_by p journal ≡ numbered p 0 (taken p))
    → ((p : ℕ) → Begins (taken p) (section s p)) → (p : ℕ) → IsFront (posts_by p journal) (numbered p 0 (section s p))
fronts_of s taken journal told begins p =
    let rest = drop (length (taken p)) (section s p) in
    front_by (posts_by p journal) (numbered p (0 + length (taken p)) rest) (numbered p 0 (section s p))
    (ap (λ l. l ++ numbered p (0 + length (taken p)) rest) (told p)
    ∙ (sym (numbered_append p 0 (taken p) rest) ∙ ap (numbered p 0) (begins p)))

-- ---- `after` never falls

pub falls_next : (journal : List Arrival) (a : Arrival) → IsTrue (never_falls journal) → All (λ x. x.after ≤ a.after) journal
    → IsTrue (never_falls (journal ++ a ∷ []))
falls_next [] a falls by_now = refl
falls_next (x ∷ []) a falls by_now =
    let le : x.after ≤ a.after = All-head (λ y. y.after ≤ a.after) x [] by_now in grind (arith, nat_tests, le)
falls_next (x ∷ y ∷ more) a falls by_now =
    both (nat_le x.after y.after) (never_falls (y ∷ more)) falls (λ k. falls_next (y ∷ more) a k (All-tail (λ z. z.after ≤ a.after) x (y ∷ more) by_now))
  where
    both : (b c : Bool) → (b && c) ≡ true → (c ≡ true → never_falls ((y ∷ more) ++ a ∷ []) ≡ true) → (b && never_falls ((y ∷ more) ++ a ∷ [])) ≡ true
    both true c h k = k h
    both false c h k = h

pub later_all : (journal : List Arrival) (n m : ℕ) → n ≤ m → All (λ x. x.after ≤ n) journal → All (λ x. x.after ≤ m) journal
later_all [] n m le h = All-nil (λ x. x.after ≤ m)
later_all (a ∷ journal) n m le h =
    All-cons (λ x. x.after ≤ m) a journal (omega (arith, le, All-head (λ x. x.after ≤ n) a journal h))
    (later_all journal n m le (All-tail (λ x. x.after ≤ n) a journal h))

pub next_all : (journal : List Arrival) (n : ℕ) (a : Arrival) → a.after ≤ n → All (λ x. x.after ≤ n) journal → All (λ x. x.after ≤ n) (journal ++ a ∷ [])
next_all journal n a le h = All-append (λ x. x.after ≤ n) journal (a ∷ []) h (All-cons (λ x. x.after ≤ n) a [] le (All-nil (λ x. x.after ≤ n)))
