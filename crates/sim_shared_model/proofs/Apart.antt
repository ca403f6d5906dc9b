-- Events that wait, no two of which are one.
use Rattle.std.proofs.Common.{◌≡◌, ◌≢◌, ◌||◌, Bool, true, false, List, [], ◌∷◌, ◌++◌, map, sym, ap, subst, ◌∙◌, append_assoc, arith, All}
use Rattle.std.proofs.lemmas.Bool.{false≢true}
use Rattle.std.proofs.lemmas.Bool.Decides.{nat_tests}
use Rattle.std.proofs.lemmas.List.{append-nil, map-append}
use Rattle.std.proofs.lemmas.List.Elements.{All-cons, All-nil, All-head, All-tail}
use Rattle.std.proofs.lemmas.List.Kept.{AllPairs-cons}
use Rattle.std.proofs.lemmas.List.Sorted.{IsPermutation-sym, IsPermutation-middle}
use Rattle.sim_types.specs.declared.event.EventId.{EventId}
use Rattle.sim_types.proofs.Permutations.{AllPairs-head, AllPairs-tail, AllPairs-IsPermutation}
use Rattle.sim_machine.specs.Events.{is_same}
use Rattle.sim_shared_model.specs.StoreQueues.{stands_among, AllDiffer}

abbrev pub Apart : EventId → EventId → Type 0
Apart e f = e.0 ≢ f.0

turned : (e f : EventId) → Apart e f → Apart f e
turned e f h = λ q. h (sym q)

other : (e f : EventId) (b : Bool) → (is_same f e || b) ≡ false → Apart e f
other e f b h = grind (arith, nat_tests)

rest_false : (a b : Bool) → (a || b) ≡ false → b ≡ false
rest_false true b h = absurd (false≢true (sym h))
rest_false false b h = h

-- an event that is not among these is apart from each
pub apart_from : (e : EventId) (es : List EventId) → stands_among e es ≡ false → All (Apart e) es
apart_from e [] h = All-nil (Apart e)
apart_from e (f ∷ es) h =
    All-cons (Apart e) f es (other e f (stands_among e es) h) (apart_from e es (rest_false (is_same f e) (stands_among e es) h))

-- without one of them
pub differ_without : (us : List EventId) (e : EventId) (vs : List EventId) → AllDiffer (us ++ e ∷ vs) → AllDiffer (us ++ vs)
differ_without us e vs h =
    AllPairs-tail Apart e (us ++ vs) (AllPairs-IsPermutation Apart turned (us ++ e ∷ vs) (e ∷ (us ++ vs)) (IsPermutation-middle us e vs) h)

-- with one more
pub differ_with : (us : List EventId) (e : EventId) (vs : List EventId) → stands_among e (us ++ vs) ≡ false → AllDiffer (us ++ vs) → AllDiffer (us ++ e ∷ vs)
differ_with us e vs new h =
    AllPairs-IsPermutation Apart turned (e ∷ (us ++ vs)) (us ++ e ∷ vs) (IsPermutation-sym (us ++ e ∷ vs) (e ∷ (us ++ vs)) (IsPermutation-middle us e vs))
    (AllPairs-cons Apart e (us ++ vs) (apart_from e (us ++ vs) new) h)

module _ {W V : Type 0} (of : W → EventId) (by : V → EventId) (us : List W) (vs : List V) where
  -- one more waits behind the others in the first of two queues
  pub differ_first : (w : W) → stands_among (of w) (map of us ++ map by vs) ≡ false → AllDiffer (map of us ++ map by vs)
      → AllDiffer (map of (us ++ w ∷ []) ++ map by vs)
  differ_first w new h =
      subst AllDiffer (sym (ap (λ es. es ++ map by vs) (map-append of us (w ∷ [])) ∙ append_assoc (map of us) (of w ∷ []) (map by vs)))
      (differ_with (map of us) (of w) (map by vs) new h)

  -- in the second
  pub differ_second : (w : V) → stands_among (by w) (map of us ++ map by vs) ≡ false → AllDiffer (map of us ++ map by vs)
      → AllDiffer (map of us ++ map by (vs ++ w ∷ []))
  differ_second w new h =
      let all : List EventId = map of us ++ map by vs in
      subst AllDiffer (append_assoc (map of us) (map by vs) (by w ∷ []) ∙ ap (λ es. map of us ++ es) (sym (map-append by vs (w ∷ []))))
      (differ_with all (by w) [] (subst (λ es. stands_among (by w) es ≡ false) (sym (append-nil all)) new) (subst AllDiffer (sym (append-nil all)) h))

  -- one leaves the second, from between others
  pub differ_served : (passed : List V) (w : V) (behind : List V) → vs ≡ passed ++ w ∷ behind → AllDiffer (map of us ++ map by vs)
      → AllDiffer (map of us ++ map by (passed ++ behind))
  differ_served passed w behind stood h =
      let split : map of us ++ map by vs ≡ (map of us ++ map by passed) ++ by w ∷ map by behind =
      ap (λ ws. map of us ++ map by ws) stood ∙ (ap (λ es. map of us ++ es) (map-append by passed (w ∷ behind)) ∙ sym (append_assoc (map of us) (map by passed) (by w ∷ map by behind))) in
      let left : (map of us ++ map by passed) ++ map by behind ≡ map of us ++ map by (passed ++ behind) =
      append_assoc (map of us) (map by passed) (map by behind) ∙ ap (λ es. map of us ++ es) (sym (map-append by passed behind)) in
      subst AllDiffer left (differ_without (map of us ++ map by passed) (by w) (map by behind) (subst AllDiffer split h))

-- in each of two queues
pub differ_right : (es fs : List EventId) → AllDiffer (es ++ fs) → AllDiffer fs
differ_right [] fs h = h
differ_right (e ∷ es) fs h = differ_right es fs (AllPairs-tail Apart e (es ++ fs) h)

all_left : (e : EventId) (es fs : List EventId) → All (Apart e) (es ++ fs) → All (Apart e) es
all_left e [] fs h = All-nil (Apart e)
all_left e (f ∷ es) fs h =
    All-cons (Apart e) f es (All-head (Apart e) f (es ++ fs) h) (all_left e es fs (All-tail (Apart e) f (es ++ fs) h))

pub differ_left : (es fs : List EventId) → AllDiffer (es ++ fs) → AllDiffer es
differ_left [] fs h = λ i j d before below. absurd (omega (arith, below))
differ_left (e ∷ es) fs h =
    AllPairs-cons Apart e es (all_left e es fs (AllPairs-head Apart e (es ++ fs) h)) (differ_left es fs (AllPairs-tail Apart e (es ++ fs) h))
