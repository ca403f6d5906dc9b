-- All posters join, the last first.
use Rattle.std.proofs.Common.{◌≡◌, ℕ, suc, ◌+◌, ◌<◌, ◌≤◌, List, [], ◌∷◌, ◌++◌, length, map, take, get_or, set, Some, None, sym, refl, ap, ◌∙◌, arith, append_assoc}
use Rattle.std.proofs.Math.Seq.{set-append_seam}
use Rattle.std.proofs.lemmas.List.{append-nil, length-append}
use Rattle.std.proofs.lemmas.Grind.{common_steps}
use Rattle.std.specs.Prelude.{slice_get}
use Rattle.sim_inbox.specs.Delivery.{Whole}
use Rattle.sim_inbox.specs.QueueEnds.{QueuePosterOf, QueueTakerOf, posted_by}
use Rattle.sim_inbox.proofs.Untaken.{take_next, take_length}

abbrev pub wholes_by : List QueuePosterOf → List Whole
wholes_by posters = map Some (map posted_by posters)

-- the posters behind the rest have joined
pub record JoinedFrom (before now : QueueTakerOf) (rest posters : List QueuePosterOf) : Type 0 where
  pub more : List QueuePosterOf
  pub posters_are : posters ≡ rest ++ more
  pub is : now ≡ record before { wholes = take (length rest) before.wholes ++ wholes_by more }

pub joined_none : (before : QueueTakerOf) (posters : List QueuePosterOf) → length posters ≡ length before.wholes → JoinedFrom before before posters posters
joined_none before posters e =
    let le : length before.wholes ≤ length posters = omega (arith, e) in
    let all : take (length posters) before.wholes ≡ before.wholes = grind (arith, common_steps) in
    record {
      more = [];
      posters_are = sym (append-nil posters);
      is = λ k. record before { wholes = (sym all ∙ sym (append-nil (take (length posters) before.wholes))) k };
    }

-- the last of the rest
pub last_of_rest : (before now : QueueTakerOf) (rest rest' posters : List QueuePosterOf) (x : QueuePosterOf) → JoinedFrom before now rest posters
    → rest ≡ rest' ++ x ∷ []
    → slice_get posters (length rest') ≡ Some x
last_of_rest before now rest rest' posters x j popped =
    ap (λ (l : List QueuePosterOf). slice_get l (length rest')) (j.posters_are ∙ ap (λ (l : List QueuePosterOf). l ++ j.more) popped ∙ append_assoc rest' (x ∷ []) j.more) ∙ there rest' j.more x
  where
    there : (xs ys : List QueuePosterOf) (y : QueuePosterOf) → slice_get (xs ++ y ∷ ys) (length xs) ≡ Some y
    there [] ys y = refl
    there (z ∷ xs) ys y = there xs ys y

pub joined_within : (before now : QueueTakerOf) (rest rest' posters : List QueuePosterOf) (x : QueuePosterOf) → JoinedFrom before now rest posters
    → rest ≡ rest' ++ x ∷ []
    → length posters ≡ length before.wholes → length rest' < length before.wholes
joined_within before now rest rest' posters x j popped all =
    let a : length posters ≡ length rest + length j.more = ap (λ (l : List QueuePosterOf). length l) j.posters_are ∙ length-append rest j.more in
    let b : length rest ≡ length rest' + 1 = ap (λ (l : List QueuePosterOf). length l) popped ∙ length-append rest' (x ∷ []) in
    omega (arith, a, b, all)

pub joined_length : (before now : QueueTakerOf) (rest posters : List QueuePosterOf) → JoinedFrom before now rest posters → length posters ≡ length before.wholes
    → length now.wholes ≡ length before.wholes
joined_length before now rest posters j all =
    let a : length posters ≡ length rest + length j.more = ap (λ (l : List QueuePosterOf). length l) j.posters_are ∙ length-append rest j.more in
    let front = take_length before.wholes (length rest) (omega (arith, a, all)) in
    let long : length now.wholes ≡ length (take (length rest) before.wholes) + length (wholes_by j.more) =
    ap (λ (t : QueueTakerOf). length t.wholes) j.is ∙ length-append (take (length rest) before.wholes) (wholes_by j.more) in
    let back : length (wholes_by j.more) ≡ length j.more = wholes_length j.more in
    omega (arith, a, front, long, back, all)
  where
    wholes_length : (xs : List QueuePosterOf) → length (wholes_by xs) ≡ length xs
    wholes_length [] = refl
    wholes_length (x ∷ xs) = ap suc (wholes_length xs)

pub joined_more : (before now then : QueueTakerOf) (rest rest' posters : List QueuePosterOf) (x : QueuePosterOf) → JoinedFrom before now rest posters
    → rest ≡ rest' ++ x ∷ []
    → length posters ≡ length before.wholes → x.number ≡ length rest' → then ≡ record now { wholes = set now.wholes x.number (Some x.posted) }
    → JoinedFrom before then rest' posters
joined_more before now then rest rest' posters x j popped all number is =
    let n : ℕ = length rest' in
    let less = joined_within before now rest rest' posters x j popped all in
    let long : length rest ≡ n + 1 = ap (λ (l : List QueuePosterOf). length l) popped ∙ length-append rest' (x ∷ []) in
    let front : List Whole = take n before.wholes in
    let y : Whole = get_or before.wholes n None in
    let w : Whole = Some x.posted in
    let was : now.wholes ≡ front ++ y ∷ wholes_by j.more =
    ap (λ (t : QueueTakerOf). t.wholes) j.is ∙ ap (λ (k : ℕ). take k before.wholes ++ wholes_by j.more) long
    ∙ ap (λ (l : List Whole). l ++ wholes_by j.more) (take_next before.wholes n None less) ∙ append_assoc front (y ∷ []) (wholes_by j.more) in
    let place : n ≡ length front = sym (take_length before.wholes n (let le : n ≤ length before.wholes = omega (arith, less) in le)) in
    let set_there : set now.wholes x.number w ≡ front ++ wholes_by (x ∷ j.more) =
    (λ k. set (was k) ((number ∙ place) k) w) ∙ set-append_seam front y (wholes_by j.more) w in
    record {
      more = x ∷ j.more;
      posters_are = j.posters_are ∙ ap (λ (l : List QueuePosterOf). l ++ j.more) popped ∙ append_assoc rest' (x ∷ []) j.more;
      is = is ∙ (λ k. record (j.is k) { wholes = set_there k });
    }

pub joined_all : (before now : QueueTakerOf) (rest posters : List QueuePosterOf) → rest ≡ [] → JoinedFrom before now rest posters → now ≡ record before { wholes = wholes_by posters }
joined_all before now rest posters nothing j =
    let none : take (length rest) before.wholes ≡ [] = ap (λ (l : List QueuePosterOf). take (length l) before.wholes) nothing ∙ take_none before.wholes in
    let all : j.more ≡ posters = sym (j.posters_are ∙ ap (λ (l : List QueuePosterOf). l ++ j.more) nothing) in
    j.is ∙ (λ k. record before { wholes = none k ++ wholes_by (all k) })
  where
    take_none : (l : List Whole) → take 0 l ≡ []
    take_none l = grind (arith, common_steps)
