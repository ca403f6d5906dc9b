-- The queue that a try goes along: each of its waiters is one of those that wait, and each stands there once.
use Rattle.std.proofs.Common.{zero, suc, arith, ◌≡◌, ◌≢◌, ℕ, ◌∙◌, Bool, true, ◌&&◌, not, List, [], ◌∷◌, refl, sym, ap, filter, All, AllPairs, ◌⊎◌, inl, inr}
use Rattle.std.specs.Prelude.{◌==◌}
use Rattle.std.specs.List.{Contains}
use Rattle.std.proofs.lemmas.Bool.{both_ways}
use Rattle.std.proofs.lemmas.List.Elements.{All-contains, All-nil, All-cons, All-head, All-tail, All-weaker, All-filter}
use Rattle.std.proofs.lemmas.List.Kept.{AllPairs-cons, AllPairs-filter}
use Rattle.sim_types.proofs.Permutations.{AllPairs-head, AllPairs-tail}
use Rattle.sim_types.specs.declared.setup.Resource.{Resource}
use Rattle.sim_types.specs.declared.setup.ResourceKind.{ResourceKind}
use Rattle.sim_types.specs.declared.setup.ResourceKind.TheVariants as resource
use Rattle.sim_machine.specs.Keys.{is_served_first}
use Rattle.sim_machine.specs.State.{Waiter}
use Rattle.sim_machine_law.proofs.KeptParts.KeptTimesCases.{if_cases}
use Rattle.sim_machine.specs.Users.{resource_at, wants_to_put, key_of, insert_waiter, sorted_waiters, in_order, put_queue, get_queue}

-- ---- elements

-- x is one of the list
abbrev pub IsOneOf : {X : Type 0} → List X → X → Type 0
IsOneOf [] x = ⊥
IsOneOf (y ∷ ys) x = (y ≡ x) ⊎ IsOneOf ys x

-- what holds of all holds of it
pub one_has : {X : Type 0} (P : X → Type 0) (xs : List X) (x : X) → All P xs → IsOneOf xs x → P x
one_has P [] x h none = absurd none
one_has P (y ∷ ys) x h (inl same) = rw (← same) (All-head P y ys h)
one_has P (y ∷ ys) x h (inr later) = one_has P ys x (All-tail P y ys h) later

-- it stays where it passes
pub one_filtered : {X : Type 0} (test : X → Bool) (xs : List X) (x : X) → test x ≡ true → IsOneOf xs x → IsOneOf (filter test xs) x
one_filtered test [] x passes none = absurd none
one_filtered {X} test (y ∷ ys) x passes (inl same) =
    if_cases (λ zs. IsOneOf zs x) (test y) (y ∷ filter test ys) (filter test ys) (λ e. inl same) (λ e. absurd (both_ways (test y) e (ap test same ∙ passes)))
one_filtered {X} test (y ∷ ys) x passes (inr later) =
    if_cases (λ zs. IsOneOf zs x) (test y) (y ∷ filter test ys) (filter test ys) (λ e. inr (one_filtered test ys x passes later)) (λ e. one_filtered test ys x passes later)

pub all_one_of : {X : Type 0} (xs : List X) → All (IsOneOf xs) xs
all_one_of {X} [] = All-nil (IsOneOf {X = X} [])
all_one_of (x ∷ xs) = All-cons (IsOneOf (x ∷ xs)) x xs (inl refl) (All-weaker (IsOneOf xs) (IsOneOf (x ∷ xs)) (λ y h. inr h) xs (all_one_of xs))

-- the same in the words of lists
pub contains_one : {X : Type 0} (xs : List X) (x : X) → IsOneOf xs x → Contains xs x
contains_one [] x h = absurd h
contains_one (y ∷ ys) x (inl same) = (zero, omega arith, same)
contains_one (y ∷ ys) x (inr later) = let h = contains_one ys x later in (suc h.0, omega (arith, h.1), h.2)

pub one_of_contained : {X : Type 0} (xs : List X) (x : X) → Contains xs x → IsOneOf xs x
one_of_contained {X} xs x h = All-contains (IsOneOf xs) xs x (all_one_of xs) h

-- ---- queues

-- two wait for different events
abbrev pub AreApart : Waiter → Waiter → Type 0
AreApart w v = w.event ≢ v.event

pub all_inserted : (P : Waiter → Type 0) (w : Waiter) (vs : List Waiter) → P w → All P vs → All P (insert_waiter w vs)
all_inserted P w [] p h = All-cons P w [] p h
all_inserted P w (v ∷ vs) p h =
    if_cases (All P) (is_served_first (key_of v.want) (key_of w.want)) (v ∷ insert_waiter w vs) (w ∷ v ∷ vs)
    (λ first. All-cons P v (insert_waiter w vs) (All-head P v vs h) (all_inserted P w vs p (All-tail P v vs h)))
    (λ later. All-cons P w (v ∷ vs) p h)

all_sorted : (P : Waiter → Type 0) (ws : List Waiter) → All P ws → All P (sorted_waiters ws)
all_sorted P [] h = h
all_sorted P (w ∷ ws) h = all_inserted P w (sorted_waiters ws) (All-head P w ws h) (all_sorted P ws (All-tail P w ws h))

apart_inserted : (w : Waiter) (vs : List Waiter) → All (AreApart w) vs → AllPairs AreApart vs → AllPairs AreApart (insert_waiter w vs)
apart_inserted w [] h k = AllPairs-cons AreApart w [] h k
apart_inserted w (v ∷ vs) h k =
    if_cases (AllPairs AreApart) (is_served_first (key_of v.want) (key_of w.want)) (v ∷ insert_waiter w vs) (w ∷ v ∷ vs)
    (λ first. AllPairs-cons AreApart v (insert_waiter w vs) (all_inserted (AreApart v) w vs (λ same. All-head (AreApart w) v vs h (sym same)) (AllPairs-head AreApart v vs k)) (apart_inserted w vs (All-tail (AreApart w) v vs h) (AllPairs-tail AreApart v vs k)))
    (λ later. AllPairs-cons AreApart w (v ∷ vs) h k)

apart_sorted : (ws : List Waiter) → AllPairs AreApart ws → AllPairs AreApart (sorted_waiters ws)
apart_sorted [] h = h
apart_sorted (w ∷ ws) h = apart_inserted w (sorted_waiters ws) (all_sorted (AreApart w) ws (AllPairs-head AreApart w ws h)) (apart_sorted ws (AllPairs-tail AreApart w ws h))

pub all_in_order : (P : Waiter → Type 0) (k : ResourceKind) (ws : List Waiter) → All P ws → All P (in_order k ws)
all_in_order P resource.Priority ws h = all_sorted P ws h
all_in_order P resource.Preemptive ws h = all_sorted P ws h
all_in_order P _ ws h = h

apart_in_order : (k : ResourceKind) (ws : List Waiter) → AllPairs AreApart ws → AllPairs AreApart (in_order k ws)
apart_in_order resource.Priority ws h = apart_sorted ws h
apart_in_order resource.Preemptive ws h = apart_sorted ws h
apart_in_order _ ws h = h

-- a queue of some of those that wait
pub record IsQueueOf (all ws : List Waiter) : Type 0 where
  pub waiting : All (IsOneOf all) ws
  pub apart : AllPairs AreApart ws

pub is_put_queue : (rs : List Resource) (res : ℕ) (ws : List Waiter) → AllPairs AreApart ws → IsQueueOf ws (put_queue rs res ws)
is_put_queue rs res ws h =
    let test : Waiter → Bool = λ w. (w.res == res) && wants_to_put w.want in
    record {
      waiting = all_in_order (IsOneOf ws) (resource_at rs res).kind (filter test ws) (All-filter test (IsOneOf ws) ws (all_one_of ws));
      apart = apart_in_order (resource_at rs res).kind (filter test ws) (AllPairs-filter AreApart test ws h);
    }

pub is_get_queue : (res : ℕ) (ws : List Waiter) → AllPairs AreApart ws → IsQueueOf ws (get_queue res ws)
is_get_queue res ws h =
    let test : Waiter → Bool = λ w. (w.res == res) && not (wants_to_put w.want) in
    record { waiting = All-filter test (IsOneOf ws) ws (all_one_of ws); apart = AllPairs-filter AreApart test ws h }
