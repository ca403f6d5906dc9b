-- Runs that are stepped one after another, and what they come to.
use Rattle.std.proofs.Common.{◌≡◌, ◌<◌, ◌≤◌, ◌≢◌, ◌+◌, ℕ, zero, suc, List, [], ◌∷◌, ◌++◌, length, get_or, set, take, Bool, true, false, refl, sym, ap, ◌∙◌, subst, arith, add-one, length-append}
use Rattle.std.specs.Prelude.{◌↔◌, Result, Ok, Err}
use Rattle.std.specs.List.{All, AllZip}
use Rattle.std.proofs.Math.ListN.{get_or-append}
use Rattle.std.proofs.Math.Seq.{take-suc, take-suc-set, get_or-append_seam}
use Rattle.std.proofs.lemmas.List.{map-append, get_or-set_other}
use Rattle.std.proofs.lemmas.List.Elements.{All-append, AllZip-get_or, length_all_zip}
use Rattle.sim_types.specs.Scenarios.{ScenarioOf}
use Rattle.sim_types.specs.declared.line.Summary.{Summary}
use Rattle.sim_engine.specs.Counting.{IsWithin}
use Rattle.sim_host.specs.Hosting.{HostedOf, IsHosted, IsOver, IsStep, summary_in}
use Rattle.sim_host.specs.HostedTogether.{AreStepped, AreTold, MayGive, summaries_in}

-- ---- lists

zip_push : {A B : Type 0} (R : A → B → Type 0) (xs : List A) (ys : List B) (x : A) (y : B) → AllZip R xs ys → R x y → AllZip R (xs ++ x ∷ []) (ys ++ y ∷ [])
zip_push R [] [] x y each here = (here, tt {0})
zip_push R [] (b ∷ ys) x y each here = absurd each
zip_push R (a ∷ xs) [] x y each here = absurd each
zip_push R (a ∷ xs) (b ∷ ys) x y each here = (each.0, zip_push R xs ys x y each.1 here)

all_cons : {A : Type 0} (P : A → Type 0) (x : A) (xs : List A) → P x → All P xs → All P (x ∷ xs)
all_cons {A} P x xs here more = λ k d below. at k d below
  where
    at : (k : ℕ) (d : A) → k < length (x ∷ xs) → P (get_or (x ∷ xs) k d)
    at zero d below = here
    at (suc k) d below = more k d (omega (arith, below))

zip_right : {A B : Type 0} (R : A → B → Type 0) (P : B → Type 0) → ((x : A) (y : B) → R x y → P y) → (xs : List A) (ys : List B) → AllZip R xs ys → All P ys
zip_right R P by [] [] each = λ k d below. absurd (omega (arith, below))
zip_right R P by [] (y ∷ ys) each = absurd each
zip_right R P by (x ∷ xs) [] each = absurd each
zip_right R P by (x ∷ xs) (y ∷ ys) each = all_cons P y ys (by x y each.0) (zip_right R P by xs ys each.1)

pub all_push : {A : Type 0} (P : A → Type 0) (xs : List A) (x : A) → All P xs → P x → All P (xs ++ x ∷ [])
all_push P xs x all here = All-append P xs (x ∷ []) all (all_cons P x [] here (λ k d below. absurd (omega (arith, below))))

all_front : {A : Type 0} (P : A → Type 0) (xs : List A) (x : A) → All P (xs ++ x ∷ []) → All P xs
all_front P xs x all = λ k d below.
    subst P (get_or-append xs (x ∷ []) d k below) (all k d (omega (arith, length-append xs (x ∷ []), below)))

all_last : {A : Type 0} (P : A → Type 0) (xs : List A) (x : A) → All P (xs ++ x ∷ []) → P x
all_last P xs x all = subst P (get_or-append_seam xs x [] x) (all (length xs) x (omega (arith, length-append xs (x ∷ []))))

-- ---- a step of one more run

-- of so many runs each was stepped once, and if all of them are over this is what they come to; the others are as they were
pub record HaveStepped (s : ScenarioOf) (first now : List HostedOf) (many : ℕ) (over : Bool) (told : List Summary) : Type 0 where
  pub stepped : AreStepped s (take many first) (take many now)
  pub left : (k : ℕ) (d : HostedOf) → many ≤ k → get_or now k d ≡ get_or first k d
  pub all : (over ≡ true) ↔ All (IsOver s) (take many now)
  pub told_is : over ≡ true → AreTold s (take many first) told

module _ (s : ScenarioOf) (first now : List HostedOf) (many : ℕ) (over : Bool) (told : List Summary) (h : HaveStepped s first now many over told)
    (below : many < length now) (same : length now ≡ length first) (old new : HostedOf) (is : old ≡ get_or now many old) (step : IsStep s old new) where
  was : take (suc many) first ≡ take many first ++ old ∷ []
  was =
      take-suc first many old (omega (arith, below, same)) ∙ ap (λ x. take many first ++ x ∷ []) (sym (h.left many old (omega arith)) ∙ sym is)

  becomes : take (suc many) (set now many new) ≡ take many now ++ new ∷ []
  becomes = take-suc-set now many new below

  stepped_on : AreStepped s (take (suc many) first) (take (suc many) (set now many new))
  stepped_on = rw (was, becomes) (zip_push (IsStep s) (take many first) (take many now) old new h.stepped step)

  left_on : (k : ℕ) (d : HostedOf) → suc many ≤ k → get_or (set now many new) k d ≡ get_or first k d
  left_on k d from =
      let other : k ≢ many = λ e. absurd (omega (arith, from, e)) in
      get_or-set_other now many k new d other ∙ h.left k d (omega (arith, from))

  pub one_over : (t : Summary) → IsOver s new → t ≡ summary_in s old → IsWithin old.session.limit t
      → HaveStepped s first (set now many new) (many + 1) over (told ++ t ∷ [])
  one_over t ends told_so within =
      subst (λ n. HaveStepped s first (set now many new) n over (told ++ t ∷ [])) (sym (add-one many)) (record {
        stepped = stepped_on;
        left = left_on;
        all = (
          λ is_over. subst (All (IsOver s)) (sym becomes) (all_push (IsOver s) (take many now) new (h.all.0 is_over) ends),
          λ all. h.all.1 (all_front (IsOver s) (take many now) new (subst (All (IsOver s)) becomes all)),
        );
        told_is = λ is_over. more (h.told_is is_over);
      })
    where
      more : AreTold s (take many first) told → AreTold s (take (suc many) first) (told ++ t ∷ [])
      more so_far =
          subst (λ runs. AreTold s runs (told ++ t ∷ [])) (sym was)
          (record {
            summaries =
                ap (λ ts. ts ++ t ∷ []) so_far.summaries
                ∙ (ap (λ x. summaries_in s (take many first) ++ x ∷ []) told_so ∙ sym (map-append (summary_in s) (take many first) (old ∷ [])));
            counts = zip_push (λ x. IsWithin x.session.limit) (take many first) told old t so_far.counts within;
          })

  pub one_left : (IsOver s new → ⊥) → HaveStepped s first (set now many new) (many + 1) false told
  one_left goes =
      subst (λ n. HaveStepped s first (set now many new) n false told) (sym (add-one many)) (record {
        stepped = stepped_on;
        left = left_on;
        all =
            (λ is_over. absurd (untrue is_over), λ all. absurd (goes (all_last (IsOver s) (take many now) new (subst (All (IsOver s)) becomes all))));
        told_is = λ is_over. absurd (untrue is_over);
      })
    where
      untrue : false ≡ true → ⊥
      untrue h = absurd (cc)

-- ---- of the runs that are stepped

pub still_hosted : (s : ScenarioOf) (old new : List HostedOf) → AreStepped s old new → All (IsHosted s) new
still_hosted s old new stepped = zip_right (IsStep s) (IsHosted s) (λ x y step. step.hosted) old new stepped

-- where all are over, they stay so
pub still_over : (s : ScenarioOf) (old new : List HostedOf) → AreStepped s old new → All (IsOver s) old → All (IsOver s) new
still_over s old new stepped over = λ k d below.
    let before : k < length old = omega (arith, below, length_all_zip (IsStep s) old new stepped) in
    let step = AllZip-get_or (IsStep s) old new k d d stepped before in
    subst (IsOver s) (sym (step.still (over k d before))) (over k d before)

-- they come to the same
summary_kept : (s : ScenarioOf) (x y : HostedOf) → IsStep s x y → summary_in s y ≡ summary_in s x
summary_kept s x y step = rw (step.goes_on.opened.seed, step.goes_on.limit) refl

summaries_kept : (s : ScenarioOf) (old new : List HostedOf) → AreStepped s old new → summaries_in s new ≡ summaries_in s old
summaries_kept s [] [] stepped = refl
summaries_kept s [] (y ∷ ys) stepped = absurd stepped
summaries_kept s (x ∷ xs) [] stepped = absurd stepped
summaries_kept s (x ∷ xs) (y ∷ ys) stepped =
    let head = summary_kept s x y stepped.0 in
    let tail = summaries_kept s xs ys stepped.1 in cc

counts_kept : (s : ScenarioOf) (old new : List HostedOf) (told : List Summary) → AreStepped s old new → AllZip (λ x. IsWithin x.session.limit) new told
    → AllZip (λ x. IsWithin x.session.limit) old told
counts_kept s [] [] [] stepped counts = tt {0}
counts_kept s [] [] (t ∷ ts) stepped counts = absurd counts
counts_kept s [] (y ∷ ys) told stepped counts = absurd stepped
counts_kept s (x ∷ xs) [] told stepped counts = absurd stepped
counts_kept s (x ∷ xs) (y ∷ ys) [] stepped counts = absurd counts
counts_kept s (x ∷ xs) (y ∷ ys) (t ∷ ts) stepped counts =
    (subst (λ n. IsWithin n t) stepped.0.goes_on.limit counts.0, counts_kept s xs ys ts stepped.1 counts.1)

pub told_before : (s : ScenarioOf) (old new : List HostedOf) (told : List Summary) → AreStepped s old new → AreTold s new told → AreTold s old told
told_before s old new told stepped h =
    record { summaries = h.summaries ∙ summaries_kept s old new stepped; counts = counts_kept s old new told stepped h.counts }

pub may_give_before : {E : Type 0} (s : ScenarioOf) (old new : List HostedOf) → AreStepped s old new → (told : Result (List Summary) E) → MayGive s new told
    → MayGive s old told
may_give_before s old new stepped (Ok told) h = told_before s old new told stepped h
may_give_before s old new stepped (Err e) h = λ over. h (still_over s old new stepped over)

-- where each run may make as many units, none of them logged more than that
pub all_within : (limit : ℕ) (runs : List HostedOf) (told : List Summary) → AllZip (λ x. IsWithin x.session.limit) runs told
    → All (λ x. x.session.limit ≡ limit) runs → All (IsWithin limit) told
all_within limit [] [] counts limits = λ k d below. absurd (omega (arith, below))
all_within limit [] (t ∷ ts) counts limits = absurd counts
all_within limit (x ∷ xs) [] counts limits = absurd counts
all_within limit (x ∷ xs) (t ∷ ts) counts limits =
    all_cons (IsWithin limit) t ts (subst (λ n. IsWithin n t) (limits zero x (omega arith)) counts.0)
    (all_within limit xs ts counts.1 (λ i e under. limits (suc i) e (omega (arith, under))))
