-- One number gets an entry more, or another entry: all other numbers keep their places.
use Rattle.std.proofs.Common.{◌≡◌, ◌≢◌, ℕ, ◌+◌, ◌-◌, ◌<◌, ◌≤◌, Bool, true, false, List, length, get_or, set, Some, None, is_some, cond, eqb, refl, sym, ap, ◌∙◌, inl, inr, arith, All, not, count_by}
use Rattle.std.specs.List.{insert}
use Rattle.std.proofs.lemmas.Bool.{ne_eqb, cases_lt, cases_eq}
use Rattle.std.proofs.lemmas.List.{length-set, get_or-set_same}
use Rattle.std.proofs.lemmas.List.Edits.{length-insert, get_or-insert_below, get_or-insert_at, get_or-insert_above}
use Rattle.std.proofs.lemmas.List.Elements.{All-set, All-cons}
use Rattle.std.proofs.lemmas.List.Sorted.{IsPermutation-insert, All-permutation}
use Rattle.std.proofs.lemmas.List.Sums.{sum_by-set, sum_by-insert}
use Rattle.sim_index.specs.declared.entries.Entry.{Entry}
use Rattle.sim_index.specs.Entries.{gone, place_among, place_of_entry, is_live, NumbersRise, HasNumberAt, StandsBefore, IsPut}
use Rattle.sim_index.proofs.Finding.{place_found, place_nowhere, place_set, place_insert, rises_set}
use Rattle.sim_index.proofs.Searching.{nowhere}

-- 1 where a test is true
abbrev pub one_if : Bool → ℕ
one_if b = cond b 1 0

pub record Changes (old : List Entry) (e : Entry) (new : List Entry) : Type 0 where
  pub rising : NumbersRise new
  pub below : (given : ℕ) → e.number < given → All (λ x. x.number < given) old → All (λ x. x.number < given) new
  pub others : (n : ℕ) → n ≢ e.number → place_among n new ≡ place_among n old
  pub same : place_among e.number new ≡ place_of_entry e
  pub counted : count_by is_live new + one_if (is_some (place_among e.number old)) ≡ count_by is_live old + one_if (is_live e)

-- a number has a place where its entry is live
pub place_if_live : (e : Entry) → is_some (place_of_entry e) ≡ is_live e
place_if_live e = go (eqb e.place gone)
  where
    go : (b : Bool) → is_some (cond b None (Some e.place)) ≡ not b
    go true = refl
    go false = refl

-- a live entry has its place
pub place_of_live : (e : Entry) → is_live e ≡ true → place_of_entry e ≡ Some e.place
place_of_live e live = go (eqb e.place gone) live
  where
    go : (b : Bool) → not b ≡ true → cond b None (Some e.place) ≡ Some e.place
    go false h = refl
    go true h = absurd (cc)

pub live_within : (e : Entry) → e.place < gone → is_live e ≡ true
live_within e h = rw (ne_eqb e.place gone (λ s. omega arith)) refl

pub place_within : (e : Entry) → e.place < gone → place_of_entry e ≡ Some e.place
place_within e h = rw (ne_eqb e.place gone (λ s. omega arith)) refl

pub replaced : (old : List Entry) (at : ℕ) (e : Entry) → NumbersRise old → HasNumberAt old e.number at → Changes old e (set old at e)
replaced old at e p h =
    let there : HasNumberAt (set old at e) e.number at = record { within = rw length-set h.within; number = λ d. ap (λ (x : Entry). x.number) (get_or-set_same old at e d h.within) } in
    let had : place_among e.number old ≡ place_of_entry (get_or old at e) = place_found old e.number at e p h in
    record {
      rising = rises_set old at e h p;
      below = λ given low all. All-set (λ (x : Entry). x.number < given) old at e low all;
      others = λ n apart. place_set old at e n e h.within (λ s. apart (sym s ∙ h.number e)) (λ s. apart (sym s));
      same = place_found (set old at e) e.number at e (rises_set old at e h p) there ∙ ap place_of_entry (get_or-set_same old at e e h.within);
      counted = rw (had, place_if_live (get_or old at e)) (sum_by-set (λ x. one_if (is_live x)) old at e e h.within);
    }

-- an entry behind the new one
later : (es : List Entry) (at k : ℕ) (e d : Entry) → at ≤ length es → at < k → get_or (insert es at e) k d ≡ get_or es (k - 1) d
later es at k e d fits above =
    let up : k ≡ (k - 1) + 1 = omega arith in
    ap (λ i. get_or (insert es at e) i d) up ∙ get_or-insert_above es at e d (k - 1) (omega arith) fits

rises_insert : (es : List Entry) (at : ℕ) (e : Entry) → StandsBefore es e.number at → NumbersRise es → NumbersRise (insert es at e)
rises_insert es at e s p = λ i j d below within.
    let short : j < length es + 1 = rw (length-insert es at e s.within) at within in
    elim (cases_lt j at) [
      | inl low ↦ rw (get_or-insert_below es at e d i (omega arith) s.within, get_or-insert_below es at e d j low s.within) (p i j d below (omega (arith, s.within)))
      | inr high ↦ elim (cases_eq j at) [
        | inl here ↦ rw (here, get_or-insert_at es at e d s.within, get_or-insert_below es at e d i (omega arith) s.within) (s.lower i d (omega arith))
        | inr there ↦ rw (later es at j e d s.within (omega arith)) (elim (cases_lt i at) [
          | inl before ↦ rw (get_or-insert_below es at e d i before s.within) (p i (j - 1) d (omega arith) (omega arith))
          | inr after ↦ elim (cases_eq i at) [
            | inl same ↦ rw (same, get_or-insert_at es at e d s.within) (s.higher (j - 1) d (omega arith) (omega arith))
            | inr past ↦ rw (later es at i e d s.within (omega arith)) (p (i - 1) (j - 1) d (omega arith) (omega arith))
          ]
        ])
      ]
    ]

pub inserted : (old : List Entry) (at : ℕ) (e : Entry) → NumbersRise old → StandsBefore old e.number at → Changes old e (insert old at e)
inserted old at e p s =
    let there : HasNumberAt (insert old at e) e.number at = record { within = omega (arith, length-insert old at e s.within, s.within); number = λ d. ap (λ (x : Entry). x.number) (get_or-insert_at old at e d s.within) } in
    record {
      rising = rises_insert old at e s p;
      below = λ given low all. All-permutation (λ (x : Entry). x.number < given) _ (insert old at e) (IsPermutation-insert old at e) (All-cons (λ (x : Entry). x.number < given) e old low all);
      others = λ n apart. place_insert old at e n (λ t. apart (sym t));
      same = place_found (insert old at e) e.number at e (rises_insert old at e s p) there ∙ ap place_of_entry (get_or-insert_at old at e e s.within);
      counted = rw (place_nowhere old e.number (nowhere old e.number at s)) (omega (arith, sum_by-insert (λ x. one_if (is_live x)) old at e));
    }

pub put : (old new : List Entry) (e : Entry) → NumbersRise old → IsPut old e new → Changes old e new
put old new e p (inl r) = rw r.is (replaced old r.at e p r.there)
put old new e p (inr b) = rw b.is (inserted old b.at e p b.before)
