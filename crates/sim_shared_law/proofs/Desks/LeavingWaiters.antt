-- One event leaves those that wait at a resource: it leaves one queue, the other queue stays, and all others are open as before.
use Rattle.std.proofs.Common.{◌≡◌, ◌+◌, Bool, true, false, ◌||◌, not, List, [], ◌∷◌, ◌++◌, length, refl, sym, subst, ap, ◌∙◌, Some, map, filter, get_or, append_assoc, length-append, arith}
use Rattle.std.specs.Prelude.{All, AllPairs, ℤ}
use Rattle.std.proofs.lemmas.Bool.{ne_eqb}
use Rattle.std.proofs.lemmas.List.{map-append}
use Rattle.std.proofs.lemmas.List.Elements.{All-nil, All-cons, All-head, All-tail, All-weaker}
use Rattle.std.proofs.lemmas.List.Sorted.{IsPermutation-middle}
use Rattle.sim_types.specs.declared.event.EventId.{EventId}
use Rattle.sim_types.proofs.Permutations.{AllPairs-head, AllPairs-IsPermutation}
use Rattle.sim_types.specs.declared.event.Outcome.TheVariants as outcome
use Rattle.sim_machine.specs.State.{EventOf, Calendar}
use Rattle.sim_machine.specs.Events.{is_same}
use Rattle.sim_machine.specs.Triggering.{succeed}
use Rattle.sim_machine_law.proofs.Events.EventLaws.{is_same-self, change_event-other}
use Rattle.sim_happen_model.specs.TableOf.{IsKept, kept_at}
use Rattle.sim_happen_model.specs.HappenOf.{HappenOf, IsOpen}
use Rattle.sim_happen_model.specs.Shows.{Shows, Follows}
use Rattle.sim_happen_model.specs.Seen.{seen}
use Rattle.sim_happen_law.proofs.Shown.SeenShown.{shows_seen, event_seen}
use Rattle.sim_happen_law.proofs.Changes.Held.{kept_by_held}
use Rattle.sim_shared_model.proofs.LeftOut.{none_left_out}
use Rattle.sim_shared_model.specs.StoreQueues.{stands_among, AllDiffer, besides}
use Rattle.sim_shared_model.proofs.Apart.{Apart}

-- ---- lists

-- one is apart from all others
pub apart_others : {X : Type 0} (R : X → X → Type 0) → ((x y : X) → R x y → R y x) → (before : List X) (x : X) (behind : List X)
    → AllPairs R (before ++ x ∷ behind) → All (R x) (before ++ behind)
apart_others R turned before x behind h =
    AllPairs-head R x (before ++ behind) (AllPairs-IsPermutation R turned (before ++ x ∷ behind) (x ∷ (before ++ behind)) (IsPermutation-middle before x behind) h)

-- the one that passes is left out
pub one_left_out : {X : Type 0} (p : X → Bool) (before : List X) (x : X) (behind : List X) → p x ≡ true → All (λ y. p y ≡ false) (before ++ behind)
    → filter (λ y. not (p y)) (before ++ x ∷ behind) ≡ before ++ behind
one_left_out p [] x behind is others = rw is (none_left_out p behind others)
one_left_out p (y ∷ ys) x behind is others =
    rw (All-head (λ z. p z ≡ false) y (ys ++ behind) others)
    (ap (λ zs. y ∷ zs) (one_left_out p ys x behind is (All-tail (λ z. p z ≡ false) y (ys ++ behind) others)))

module _ {X : Type 0} (P : X → Type 0) where
  pub all_left : (xs ys : List X) → All P (xs ++ ys) → All P xs
  all_left [] ys h = All-nil P
  all_left (x ∷ xs) ys h = All-cons P x xs (All-head P x (xs ++ ys) h) (all_left xs ys (All-tail P x (xs ++ ys) h))

  pub all_right : (xs ys : List X) → All P (xs ++ ys) → All P ys
  all_right [] ys h = h
  all_right (x ∷ xs) ys h = all_right xs ys (All-tail P x (xs ++ ys) h)

  pub all_of_mapped : {Y : Type 0} (of : Y → X) (ys : List Y) → All P (map of ys) → All (λ y. P (of y)) ys
  all_of_mapped of [] h = All-nil (λ y. P (of y))
  all_of_mapped of (y ∷ ys) h = All-cons (λ z. P (of z)) y ys (All-head P (of y) (map of ys) h) (all_of_mapped of ys (All-tail P (of y) (map of ys) h))

-- ---- one event leaves

-- the event stood among these, and is gone
pub record IsLeaving (e : EventId) (old new : List EventId) : Type 0 where
  pub before : List EventId
  pub behind : List EventId
  pub stood : old ≡ before ++ e ∷ behind
  pub stay : new ≡ before ++ behind

stands_between : (before : List EventId) (e : EventId) (behind : List EventId) → stands_among e (before ++ e ∷ behind) ≡ true
stands_between [] e behind = rw (is_same-self e) refl
stands_between (f ∷ before) e behind = or_later (is_same f e) (stands_between before e behind)
  where
    or_later : (a : Bool) {b : Bool} → b ≡ true → (a || b) ≡ true
    or_later true h = refl
    or_later false h = h

pub stood_among : (e : EventId) (old new : List EventId) → IsLeaving e old new → stands_among e old ≡ true
stood_among e old new l = subst (λ es. stands_among e es ≡ true) (sym l.stood) (stands_between l.before e l.behind)

pub one_fewer : (e : EventId) (old new : List EventId) → IsLeaving e old new → length new + 1 ≡ length old
one_fewer e old new l =
    let is : length old ≡ length (l.before ++ e ∷ l.behind) = ap (λ (es : List EventId). length es) l.stood in
    let stays : length new ≡ length (l.before ++ l.behind) = ap (λ (es : List EventId). length es) l.stay in
    omega (arith, length-append l.before (e ∷ l.behind), length-append l.before l.behind)

-- all that stay are others
pub others_differ : (e : EventId) (old new : List EventId) → AllDiffer old → IsLeaving e old new → All (Apart e) new
others_differ e old new differ l =
    subst (All (Apart e)) (sym l.stay)
    (apart_others Apart (λ f g h same. h (sym same)) l.before e l.behind (subst AllDiffer l.stood differ))

module _ (P : EventId → Type 0) (e : EventId) (old new : List EventId) (l : IsLeaving e old new) where
  -- what holds of all held of it
  pub held_of_one : All P old → P e
  held_of_one all = All-head P e l.behind (all_right P l.before (e ∷ l.behind) (subst (All P) l.stood all))

  -- and holds of the others
  pub holds_of_others : All P old → All P new
  holds_of_others all =
      let both : All P (l.before ++ e ∷ l.behind) = subst (All P) l.stood all in
      subst (All P) (sym l.stay) (joined l.before (all_left P l.before (e ∷ l.behind) both) (All-tail P e l.behind (all_right P l.before (e ∷ l.behind) both)))
    where
      joined : (xs : List EventId) → All P xs → All P l.behind → All P (xs ++ l.behind)
      joined [] h k = k
      joined (x ∷ xs) h k = All-cons P x (xs ++ l.behind) (All-head P x xs h) (joined xs (All-tail P x xs h) k)

-- ---- from one of two queues

module _ {W V : Type 0} (of : W → EventId) (by : V → EventId) (passed : List W) (w : W) (behind : List W) (vs : List V) where
  pub leaves_first : (ws left : List W) → ws ≡ passed ++ w ∷ behind → left ≡ passed ++ behind
      → IsLeaving (of w) (map of ws ++ map by vs) (map of left ++ map by vs)
  leaves_first ws left stood stay = record {
    before = map of passed;
    behind = map of behind ++ map by vs;
    stood = ap (λ us. map of us ++ map by vs) stood ∙ (ap (λ es. es ++ map by vs) (map-append of passed (w ∷ behind)) ∙ append_assoc (map of passed) (of w ∷ map of behind) (map by vs));
    stay = ap (λ us. map of us ++ map by vs) stay ∙ (ap (λ es. es ++ map by vs) (map-append of passed behind) ∙ append_assoc (map of passed) (map of behind) (map by vs));
  }

  pub leaves_second : (ws left : List W) → ws ≡ passed ++ w ∷ behind → left ≡ passed ++ behind
      → IsLeaving (of w) (map by vs ++ map of ws) (map by vs ++ map of left)
  leaves_second ws left stood stay = record {
    before = map by vs ++ map of passed;
    behind = map of behind;
    stood = ap (λ us. map by vs ++ map of us) stood ∙ (ap (λ es. map by vs ++ es) (map-append of passed (w ∷ behind)) ∙ sym (append_assoc (map by vs) (map of passed) (of w ∷ map of behind)));
    stay = ap (λ us. map by vs ++ map of us) stay ∙ (ap (λ es. map by vs ++ es) (map-append of passed behind) ∙ sym (append_assoc (map by vs) (map of passed) (map of behind)));
  }

all_others : {W : Type 0} (of : W → EventId) (e : EventId) (ws : List W) → All (Apart e) (map of ws) → All (λ w. is_same (of w) e ≡ false) ws
all_others of e ws h =
    All-weaker (λ w. Apart e (of w)) (λ w. is_same (of w) e ≡ false) (λ w differ. ne_eqb (of w).0 e.0 (λ same. differ (sym same))) ws
    (all_of_mapped (Apart e) of ws h)

-- the queue that it left is the one without it
pub left_is : {W : Type 0} (of : W → EventId) (passed : List W) (w : W) (behind ws left : List W) → ws ≡ passed ++ w ∷ behind → left ≡ passed ++ behind
    → All (Apart (of w)) (map of left) → left ≡ besides of (of w) ws
left_is of passed w behind ws left stood stay others =
    stay ∙ (sym (one_left_out (λ v. is_same (of v) (of w)) passed w behind (is_same-self (of w))
    (subst (All (λ v. is_same (of v) (of w) ≡ false)) stay (all_others of (of w) left others)))
    ∙ ap (besides of (of w)) (sym stood))

-- and so is the other queue
pub other_is : {V : Type 0} (by : V → EventId) (e : EventId) (vs : List V) → All (Apart e) (map by vs) → vs ≡ besides by e vs
other_is by e vs others = sym (none_left_out (λ v. is_same (by v) e) vs (all_others by e vs others))

-- ---- what stays open

-- where an event succeeds, each other stays as it is
pub others_open : (e : EventId) (value : ℤ) (a b : HappenOf) → Follows (succeed e value) a b → (x : EventId) → Apart e x → IsOpen a x → IsOpen b x
others_open e value a b t x differ h =
    let c : Calendar = seen a in
    let kept : IsKept b.events x = kept_by_held a b x t.held h.kept in
    let shown : Shows b (succeed e value c) = t.each c (shows_seen a) in
    let same : (kept_at b.events x).event ≡ (kept_at a.events x).event =
    (shown.kept x kept).event
    ∙ (change_event-other e x (λ y. record y { outcome = Some (outcome.Ok value) }) (record (succeed e value c) { events = c.events }) (λ is. differ (sym is))
    ∙ sym (event_seen a x)) in
    record {
      kept = kept;
      pending = ap (λ (y : EventOf). y.outcome) same ∙ h.pending;
      not_cancelled = ap (λ (y : EventOf). y.cancelled) same ∙ h.not_cancelled;
    }

pub all_stay_open : (e : EventId) (value : ℤ) (a b : HappenOf) (es : List EventId) → Follows (succeed e value) a b → All (Apart e) es
    → All (IsOpen a) es → All (IsOpen b) es
all_stay_open e value a b es t differ were =
    λ k d below. others_open e value a b t (get_or es k d) (differ k d below) (were k d below)
