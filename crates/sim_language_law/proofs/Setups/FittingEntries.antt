-- The journal and the posters of a faultless text fit.
--     Entries above final s          so it is for what the lines above say, in the whole scenario
--     entries_nothing, entries_line  at the start, and behind each line
use Rattle.std.specs.Prelude.{◌≡◌, refl, ℕ, suc, ◌+◌, ◌≤◌, ◌<◌, Bool, true, false, ◌&&◌, if◌then◌else◌, nat_le, List, [], ◌∷◌, ◌++◌, length, ℤ, pos, Option, Some, None}
use Rattle.std.specs.List.{list_all}
use Rattle.std.proofs.Common.{arith, sym, ap, ◌∙◌, subst}
use Rattle.std.proofs.lemmas.Bool.{true≢false, and_from, and_parts, leb-true, leb-false, le-leb}
use Rattle.std.proofs.lemmas.List.{length_push}
use Rattle.sim_types.specs.Scenarios.{ScenarioOf}
use Rattle.sim_types.specs.declared.setup.Arrival.{Arrival}
use Rattle.sim_types.specs.declared.setup.Post.{Post}
use Rattle.sim_language.specs.declared.form.Form.{Form}
use Rattle.sim_language.specs.declared.form.Form.TheVariants as form
use Rattle.sim_language.specs.Lines.{Word}
use Rattle.sim_language.specs.Shapes.{Operand}
use Rattle.sim_language.specs.Sayings.{TextLine, Says}
use Rattle.sim_language.specs.Places.{above_of, is_entry, is_poster, count_above, after_above, after_then}
use Rattle.sim_language.specs.LimitFaults.{form_is_full}
use Rattle.sim_language.specs.Reads.{nothing_said, onto_last}
use Rattle.sim_language.specs.WellFormed.{arrival_fits, never_falls, post_fits}
use Rattle.sim_language_law.proofs.Lines.LineByLine.{line}
use Rattle.sim_language_law.proofs.Lines.Additions.{Added, AnArrival, APoster, APost, put_in}
use Rattle.sim_language_law.proofs.Lines.AdditionsByForm.{Told, adds_entry, adds_poster}
use Rattle.sim_language_law.proofs.Setups.FittingAdditions.{FitsAlone}
use Rattle.sim_language_law.proofs.Setups.FittingSetup.{list_all_push}
use Rattle.sim_language_law.proofs.Names.DeclaredNames.{one_if}
use Rattle.sim_language_law.proofs.Setups.EntriesByForm.{PortThere, OrderFits}

-- a poster's list, of no more than so many posts
abbrev pub poster_fits : ScenarioOf → ℕ → List Post → Bool
poster_fits s n posts = nat_le (length posts) n && list_all (post_fits s) posts

-- the last arrival of a journal is that of the last entry
abbrev pub EndsAt : Option ℤ → List Arrival → Type 0
EndsAt None journal = journal ≡ []
EndsAt (Some z) journal = (front : List Arrival) × (a : Arrival) × (journal ≡ front ++ a ∷ []) × (z ≡ pos a.after)

pub record Entries (above : List TextLine) (final s : ScenarioOf) : Type 0 where
  pub all : count_above is_entry above ≤ 65536
  pub arrivals : length s.journal ≤ count_above is_entry above
  pub journal : list_all (arrival_fits final) s.journal ≡ true
  pub falls : never_falls s.journal ≡ true
  pub last : EndsAt (after_above above) s.journal
  pub few : count_above is_poster above ≤ 16
  pub posters : length s.posters ≡ count_above is_poster above
  pub posts : list_all (poster_fits final (count_above is_entry above)) s.posters ≡ true

pub entries_nothing : (final : ScenarioOf) → Entries [] final nothing_said
entries_nothing final = record { all = omega arith; arrivals = omega arith; journal = refl; falls = refl; last = refl; few = omega arith; posters = refl; posts = refl }

-- ---- counts

more_counted : (test : Form → Bool) (above : List TextLine) (ws : List Word) (f : Form) (slots : List Operand) (b : Bool)
    → b ≡ test f → count_above test (line ws (Says f slots) ∷ above) ≡ count_above test above + one_if b
more_counted test above ws f slots b e = by (test f) (sym e)
  where
    by : (c : Bool) → c ≡ b → (if c then count_above test above + 1 else count_above test above) ≡ count_above test above + one_if b
    by true same = rw (← same) refl
    by false same = rw (← same) (omega arith)

entry_below : (above : List TextLine) (f : Form) (slots : List Operand) → form_is_full (above_of above) f slots ≡ false
    → is_entry f ≡ true → count_above is_entry above < 65536
entry_below above form.After slots full h = leb-false 65536 (count_above is_entry above) full
entry_below above form.Post slots full h = leb-false 65536 (count_above is_entry above) full
entry_below above f slots full h = absurd (true≢false (sym h))

poster_below : (above : List TextLine) (f : Form) (slots : List Operand) → form_is_full (above_of above) f slots ≡ false
    → is_poster f ≡ true → count_above is_poster above < 16
poster_below above form.Poster slots full h = leb-false 16 (count_above is_poster above) full
poster_below above f slots full h = absurd (true≢false (sym h))

-- ---- lists

never_falls_push : (front : List Arrival) (b a : Arrival) → never_falls (front ++ b ∷ []) ≡ true
    → nat_le b.after a.after ≡ true → never_falls ((front ++ b ∷ []) ++ a ∷ []) ≡ true
never_falls_push [] b a h e = rw e refl
never_falls_push (x ∷ []) b a h e = and_from _ _ (and_parts (nat_le x.after b.after) true h).0 (rw e refl)
never_falls_push (x ∷ y ∷ front) b a h e = let parts = and_parts (nat_le x.after y.after) (never_falls (y ∷ (front ++ b ∷ []))) h in and_from (nat_le x.after y.after) _ parts.0 (never_falls_push (y ∷ front) b a parts.1 e)

poster_more : (s : ScenarioOf) (n m : ℕ) (posts : List Post) → n ≤ m → poster_fits s n posts ≡ true → poster_fits s m posts ≡ true
poster_more s n m posts h fits =
    let parts = and_parts (nat_le (length posts) n) (list_all (post_fits s) posts) fits in
    let few = leb-true (length posts) n parts.0 in
    and_from _ _ (le-leb (length posts) m (omega arith)) parts.1

poster_push : (s : ScenarioOf) (n : ℕ) (post : Post) (posts : List Post) → post_fits s post ≡ true
    → poster_fits s n posts ≡ true → poster_fits s (n + 1) (posts ++ post ∷ []) ≡ true
poster_push s n post posts one fits =
    let parts = and_parts (nat_le (length posts) n) (list_all (post_fits s) posts) fits in
    let few = leb-true (length posts) n parts.0 in
    and_from _ _ (le-leb (length (posts ++ post ∷ [])) (n + 1) (omega (arith, length_push posts post))) (list_all_push (post_fits s) posts post parts.1 one)

pub more_posts : (s : ScenarioOf) (n m : ℕ) (posters : List (List Post)) → n ≤ m → list_all (poster_fits s n) posters ≡ true
    → list_all (poster_fits s m) posters ≡ true
more_posts s n m [] h all = refl
more_posts s n m (posts ∷ posters) h all = let parts = and_parts (poster_fits s n posts) (list_all (poster_fits s n) posters) all in and_from _ _ (poster_more s n m posts h parts.0) (more_posts s n m posters h parts.1)

one_post : (s : ScenarioOf) (n : ℕ) (post : Post) (posters : List (List Post)) → post_fits s post ≡ true
    → list_all (poster_fits s n) posters ≡ true → list_all (poster_fits s (n + 1)) (onto_last post posters) ≡ true
one_post s n post [] fits all = refl
one_post s n post (posts ∷ []) fits all = and_from _ _ (poster_push s n post posts fits (and_parts (poster_fits s n posts) true all).0) refl
one_post s n post (posts ∷ more ∷ rest) fits all = let parts = and_parts (poster_fits s n posts) (list_all (poster_fits s n) (more ∷ rest)) all in and_from _ _ (poster_more s n (n + 1) posts (omega arith) parts.0) (one_post s n post (more ∷ rest) fits parts.1)

length-onto_last : (post : Post) (posters : List (List Post)) → length (onto_last post posters) ≡ length posters
length-onto_last post [] = refl
length-onto_last post (posts ∷ []) = refl
length-onto_last post (posts ∷ more ∷ rest) = ap suc (length-onto_last post (more ∷ rest))

-- ---- one thing more

arrivals_put : (a : Added) (s : ScenarioOf) (n : ℕ) → length s.journal ≤ n → length (put_in a s).journal ≤ n + one_if (adds_entry a)
arrivals_put (AnArrival arrival) s n h = omega (arith, length_push s.journal arrival)
arrivals_put a s n h = omega arith

journal_put : (final : ScenarioOf) (a : Added) (s : ScenarioOf) → FitsAlone a → PortThere (length final.setup.ports) a
    → list_all (arrival_fits final) s.journal ≡ true → list_all (arrival_fits final) (put_in a s).journal ≡ true
journal_put final (AnArrival a) s fits there h = list_all_push (arrival_fits final) s.journal a h (and_from _ _ (and_from _ _ (and_from _ _ fits.0 fits.1) fits.2) there)
journal_put final a s fits there h = h

falls_put : (last next : Option ℤ) (a : Added) (s : ScenarioOf) → OrderFits last next a → EndsAt last s.journal
    → never_falls s.journal ≡ true → never_falls (put_in a s).journal ≡ true
falls_put None next (AnArrival a) s fits ends h = rw ends refl
falls_put (Some z) next (AnArrival a) s fits ends h =
    let before : never_falls (ends.0 ++ ends.1 ∷ []) ≡ true = subst (λ journal. never_falls journal ≡ true) ends.2 h in
    subst (λ journal. never_falls (journal ++ a ∷ []) ≡ true) (sym ends.2) (never_falls_push ends.0 ends.1 a before (fits.1 ends.1.after (ap Some ends.3)))
falls_put last next other s fits ends h = h

last_put : (last next : Option ℤ) (a : Added) (s : ScenarioOf) → OrderFits last next a → EndsAt last s.journal → EndsAt next (put_in a s).journal
last_put last next (AnArrival a) s fits ends = subst (λ o. EndsAt o (s.journal ++ a ∷ [])) (sym fits.0) (s.journal, a, refl, refl)
last_put last next other s fits ends = subst (λ o. EndsAt o s.journal) (sym fits) ends

posters_put : (a : Added) (s : ScenarioOf) (n : ℕ) → length s.posters ≡ n → length (put_in a s).posters ≡ n + one_if (adds_poster a)
posters_put APoster s n h = omega (arith, length_push s.posters [])
posters_put (APost post) s n h = omega (arith, length-onto_last post s.posters)
posters_put a s n h = omega arith

posts_put : (final : ScenarioOf) (a : Added) (s : ScenarioOf) (n : ℕ) → PortThere (length final.setup.ports) a
    → list_all (poster_fits final n) s.posters ≡ true
    → list_all (poster_fits final (n + one_if (adds_entry a))) (put_in a s).posters ≡ true
posts_put final (APost post) s n there h = one_post final n post s.posters there h
posts_put final APoster s n there h = list_all_push (poster_fits final (n + 0)) s.posters [] (more_posts final n (n + 0) s.posters (omega arith) h) (and_from _ _ (le-leb 0 (n + 0) (omega arith)) refl)
posts_put final a s n there h = more_posts final n (n + one_if (adds_entry a)) s.posters (omega arith) h

pub entries_line : (above : List TextLine) (ws : List Word) (f : Form) (slots : List Operand) (a : Added)
    (final s : ScenarioOf) → Told f a → form_is_full (above_of above) f slots ≡ false → FitsAlone a
    → PortThere (length final.setup.ports) a
    → OrderFits (after_above above) (after_then (Says f slots) (after_above above)) a → Entries above final s
    → Entries (line ws (Says f slots) ∷ above) final (put_in a s)
entries_line above ws f slots a final s told full fits there order h =
    let more = more_counted is_entry above ws f slots (adds_entry a) told.entries in
    let posters = more_counted is_poster above ws f slots (adds_poster a) told.posters in
    record {
      all = rw more (counted (adds_entry a) 65536 (count_above is_entry above) h.all (λ e. entry_below above f slots full (sym told.entries ∙ e)));
      arrivals = rw more (arrivals_put a s (count_above is_entry above) h.arrivals);
      journal = journal_put final a s fits there h.journal;
      falls = falls_put (after_above above) _ a s order h.last h.falls;
      last = last_put (after_above above) _ a s order h.last;
      few = rw posters (counted (adds_poster a) 16 (count_above is_poster above) h.few (λ e. poster_below above f slots full (sym told.posters ∙ e)));
      posters = rw posters (posters_put a s (count_above is_poster above) h.posters);
      posts = rw more (posts_put final a s (count_above is_entry above) there h.posts);
    }
  where
    counted : (b : Bool) (most n : ℕ) → n ≤ most → (b ≡ true → n < most) → n + one_if b ≤ most
    counted true most n within below = let less = below refl in omega arith
    counted false most n within below = omega arith
