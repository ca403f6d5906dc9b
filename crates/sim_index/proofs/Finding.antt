-- What is found among entries whose numbers rise.
use Rattle.std.proofs.Common.{◌≡◌, ◌≢◌, ℕ, zero, suc, ◌<◌, Bool, true, false, List, [], ◌∷◌, length, get_or, set, filter, None, cond, eqb, refl, sym, ap, ◌∙◌, inl, inr, arith, not}
use Rattle.std.specs.List.{insert}
use Rattle.std.proofs.lemmas.Bool.{eq-eqb, ne_eqb, cases_eq}
use Rattle.std.proofs.lemmas.List.{length-set, get_or-set_same, get_or-set_other}
use Rattle.std.proofs.lemmas.List.Elements.{All-tail}
use Rattle.sim_index.specs.declared.entries.Entry.{Entry}
use Rattle.sim_index.specs.Entries.{gone, place_among, place_of_entry, is_live, NumbersRise, HasNumberAt, HasNumberNowhere}

rises_tail : (x : Entry) (es : List Entry) → NumbersRise (x ∷ es) → NumbersRise es
rises_tail x es p = λ i j d a b. p (suc i) (suc j) d (omega arith) (omega arith)

-- a number stands at one position at most
pub place_found : (es : List Entry) (n at : ℕ) (d : Entry) → NumbersRise es → HasNumberAt es n at
    → place_among n es ≡ place_of_entry (get_or es at d)
place_found [] n at d p h = absurd (omega (arith, h.within))
place_found (x ∷ es) n zero d p h = rw (eq-eqb x.number n (h.number d)) refl
place_found (x ∷ es) n (suc k) d p h =
    let lower : x.number < (get_or es k d).number = p 0 (suc k) d (omega arith) h.within in
    let inside : HasNumberAt es n k = record { within = omega (arith, h.within); number = h.number } in
    rw (ne_eqb x.number n (λ s. omega (arith, h.number d))) (place_found es n k d (rises_tail x es p) inside)

pub place_nowhere : (es : List Entry) (n : ℕ) → HasNumberNowhere es n → place_among n es ≡ None
place_nowhere [] n a = refl
place_nowhere (x ∷ es) n a =
    rw (ne_eqb x.number n (a 0 x (omega arith))) (place_nowhere es n (All-tail (λ e. e.number ≢ n) x es a))

-- ---- an entry takes another's position, or comes between

pub place_set : (es : List Entry) (k : ℕ) (e : Entry) (n : ℕ) (d : Entry)
    → k < length es → (get_or es k d).number ≢ n → e.number ≢ n → place_among n (set es k e) ≡ place_among n es
place_set [] k e n d h a b = absurd (omega (arith, h))
place_set (x ∷ es) zero e n d h a b = rw (ne_eqb e.number n b, ne_eqb x.number n a) refl
place_set (x ∷ es) (suc k) e n d h a b =
    ap (λ r. cond (eqb x.number n) (place_of_entry x) r) (place_set es k e n d (omega (arith, h)) a b)

pub place_insert : (es : List Entry) (i : ℕ) (e : Entry) (n : ℕ) → e.number ≢ n → place_among n (insert es i e) ≡ place_among n es
place_insert [] zero e n h = rw (ne_eqb e.number n h) refl
place_insert [] (suc i) e n h = rw (ne_eqb e.number n h) refl
place_insert (x ∷ es) zero e n h = rw (ne_eqb e.number n h) refl
place_insert (x ∷ es) (suc i) e n h = ap (λ r. cond (eqb x.number n) (place_of_entry x) r) (place_insert es i e n h)

-- ---- entries that have no place are taken out

pub place_filter : (es : List Entry) (n : ℕ) → NumbersRise es → place_among n (filter is_live es) ≡ place_among n es
place_filter [] n p = refl
place_filter (x ∷ es) n p = go (eqb x.place gone) refl (place_filter es n (rises_tail x es p))
  where
    go : (b : Bool) → eqb x.place gone ≡ b → place_among n (filter is_live es) ≡ place_among n es
        → place_among n (cond (not b) (x ∷ filter is_live es) (filter is_live es)) ≡ cond (eqb x.number n) (place_of_entry x) (place_among n es)
    go false is rest = ap (λ r. cond (eqb x.number n) (place_of_entry x) r) rest
    go true is rest =
        elim (cases_eq x.number n) [
          | inl here ↦
              let above : HasNumberNowhere es n = λ k d h. let lower : x.number < (get_or es k d).number = p 0 (suc k) d (omega arith) (omega arith) in λ s. omega arith in
              rw (eq-eqb x.number n here, is) (rest ∙ place_nowhere es n above)
          | inr there ↦ rw (ne_eqb x.number n there) rest
        ]

-- ---- the numbers still rise

pub rises_set : (es : List Entry) (k : ℕ) (e : Entry) → HasNumberAt es e.number k → NumbersRise es → NumbersRise (set es k e)
rises_set es k e h p = λ i j d a b. rw (kept i d, kept j d) (p i j d a (rw length-set at b))
  where
    kept : (i : ℕ) (d : Entry) → (get_or (set es k e) i d).number ≡ (get_or es i d).number
    kept i d =
        elim (cases_eq i k) [
          | inl here ↦ rw here (ap (λ (x : Entry). x.number) (get_or-set_same es k e d h.within) ∙ sym (h.number d))
          | inr there ↦ ap (λ (x : Entry). x.number) (get_or-set_other es k i e d there)
        ]
