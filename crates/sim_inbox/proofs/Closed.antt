-- A close, from its parts.
use Rattle.std.proofs.Common.{◌≡◌, ℕ, suc, ◌+◌, ◌-◌, ◌<◌, ◌≤◌, ◌^◌, List, [], ◌∷◌, length, map, get_or, Some, sym, ap, ◌∙◌, subst, arith}
use Rattle.std.proofs.lemmas.List.{length-map}
use Rattle.std.proofs.lemmas.List.Sums.{sum_by-cons}
use Rattle.std.proofs.lemmas.Option.{slice_get_within, slice_get-map, get_or_from_slice_get}
use Rattle.std.specs.Prelude.{min, sum_by, option_map}
use Rattle.sim_types.specs.declared.setup.Post.{Post}
use Rattle.sim_inbox.specs.Closing.{AreLeft, HaveJoined, in_order, lists_of}
use Rattle.sim_inbox.specs.Lists.{Begins, untaken}
use Rattle.sim_inbox.specs.QueueEnds.{BeginWithTaken, QueuePosterOf, QueueTakerOf, posted_by, taken_from}
use Rattle.sim_inbox.specs.declared.taken.Taken.{Taken}
use Rattle.sim_inbox.proofs.Draining.{have_joined, lists_joined}
use Rattle.sim_inbox.proofs.InOrder.{in_order_left}
use Rattle.sim_inbox.proofs.Untaken.{length_untaken}

-- no more is left than was posted
untaken_most : (taken : ℕ → List Post) (k : ℕ) (posters : List QueuePosterOf)
    → length (untaken taken k (map posted_by posters)) ≤ sum_by (λ x. length x.posted) posters
untaken_most taken k [] = omega arith
untaken_most taken k (x ∷ xs) =
    let n : length (untaken taken k (map posted_by (x ∷ xs))) ≡ (length x.posted - length (taken k)) + length (untaken taken (suc k) (map posted_by xs)) =
    length_untaken taken k x.posted (map posted_by xs) in
    let all : sum_by (λ (y : QueuePosterOf). length y.posted) (x ∷ xs) ≡ length x.posted + sum_by (λ (y : QueuePosterOf). length y.posted) xs = sum_by-cons (λ (y : QueuePosterOf). length y.posted) x xs in
    let rest = untaken_most taken (suc k) xs in
    omega (arith, n, all, rest)

-- how many all posters posted, or 2^64 - 1 where there are more
abbrev pub IsTotal : ℕ → List QueuePosterOf → Type 0
IsTotal total posters = total ≡ min (sum_by (λ x. length x.posted) posters) (2 ^ 64 - 1)

-- a total that is found room for is the sum
total_fits : (sum total room : ℕ) → total ≡ min sum (2 ^ 64 - 1) → total ≤ room → room < 2 ^ 63 → sum ≤ room
total_fits sum total room e le small = omega (arith, e, le, small)

-- the posters have joined, and nothing else has changed
abbrev pub HasJoined : QueueTakerOf → QueueTakerOf → List QueuePosterOf → Type 0
HasJoined before joined posters = joined ≡ record before { wholes = map Some (map posted_by posters) }

module _ (before joined : QueueTakerOf) (posters : List QueuePosterOf) (is : HasJoined before joined posters) where
  lists_are : lists_of joined ≡ map posted_by posters
  lists_are = lists_joined joined (map posted_by posters) (ap (λ (t : QueueTakerOf). t.wholes) is)

  left_is : untaken (taken_from joined) 0 (lists_of joined) ≡ untaken (taken_from before) 0 (map posted_by posters)
  left_is = λ k. untaken (taken_from (is k)) 0 (lists_are k)

  left_within : (total room : ℕ) → IsTotal total posters → total ≤ room → room < 2 ^ 63 → length (untaken (taken_from before) 0 (map posted_by posters)) ≤ room
  left_within total room e le small =
      let most = untaken_most (taken_from before) 0 posters in
      let sum = total_fits (sum_by (λ (x : QueuePosterOf). length x.posted) posters) total room e le small in
      omega (arith, most, sum)

  pub have_joined_is : HaveJoined joined
  have_joined_is = have_joined joined (map posted_by posters) (ap (λ (t : QueueTakerOf). t.wholes) is)

  -- there is room for what is left
  pub left_room : (total room : ℕ) → IsTotal total posters → total ≤ room → room < 2 ^ 63 → length (untaken (taken_from joined) 0 (lists_of joined)) ≤ room
  left_room total room e le small = subst (λ (l : List Taken). length l ≤ room) (sym left_is) (left_within total room e le small)

  -- in order of posters the entries are what is left
  pub left_in_order : (entries : List Taken) (count : ℕ) → count ≡ length posters → AreLeft (taken_from joined) (lists_of joined) entries
      → in_order count entries ≡ untaken (taken_from before) 0 (map posted_by posters)
  left_in_order entries count e left =
      in_order_left (taken_from joined) (lists_of joined) entries count (e ∙ sym (length-map posters posted_by) ∙ ap (λ (l : List (List Post)). length l) (sym lists_are)) left ∙ left_is

  pub order_room : (entries : List Taken) (count : ℕ) → count ≡ length posters → AreLeft (taken_from joined) (lists_of joined) entries
      → (total room : ℕ) → IsTotal total posters → total ≤ room → room < 2 ^ 63 → length (in_order count entries) ≤ room
  order_room entries count e left total room is_total le small =
      subst (λ (l : List Taken). length l ≤ room) (sym (left_in_order entries count e left)) (left_within total room is_total le small)

  pub begin_with_taken : (entries : List Taken) → AreLeft (taken_from joined) (lists_of joined) entries → BeginWithTaken before posters
  begin_with_taken entries left p x at =
      let long : length (lists_of joined) ≡ length posters = ap (λ (l : List (List Post)). length l) lists_are ∙ length-map posters posted_by in
      let within = slice_get_within posters p x at in
      let list : get_or (lists_of joined) p [] ≡ x.posted =
      ap (λ (l : List (List Post)). get_or l p []) lists_are
      ∙ get_or_from_slice_get (map posted_by posters) p x.posted [] (slice_get-map posted_by posters p ∙ ap (option_map posted_by) at) in
      subst (λ (z : List Post × List Post). Begins z.0 z.1) (λ k. (taken_from (is k) p, list k)) (left.begins p (omega (arith, within, long)))
