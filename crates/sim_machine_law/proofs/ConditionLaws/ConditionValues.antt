-- The value of a condition: exactly the processed events that it is made of, each once, at its first place.
use Rattle.std.proofs.Common.{◌≡◌, ◌≢◌, ℕ, ◌+◌, ◌<◌, Bool, true, false, ◌||◌, not, List, [], ◌∷◌, ◌++◌, length, refl, sym, subst, ap, ◌∙◌, inl, inr, zero, suc, arith, if◌then◌else◌, filter, All, AllPairs}
use Rattle.std.specs.Prelude.{◌==◌, flat_map, is_some, Option, Some, None}
use Rattle.std.specs.List.{list_any, Contains}
use Rattle.std.proofs.lemmas.Bool.{both_ways, not-true, cases_Bool, or_cases, or_left, or_right, false_from_ne_true}
use Rattle.std.proofs.lemmas.Bool.Decides.{nat_tests}
use Rattle.std.proofs.lemmas.List.{append-nil}
use Rattle.std.proofs.lemmas.List.Elements.{All-nil, All-cons, All-head, All-tail, All-filter, All-weaker, All-contains, filter_passes, filter-append, Contains-append_left, Contains-append_right, Contains-append_cases}
use Rattle.std.proofs.lemmas.List.Kept.{AllPairs-cons, AllPairs-filter}
use Rattle.sim_types.specs.declared.event.EventId.{EventId}
use Rattle.sim_machine.specs.State.{Calendar, ConditionOf}
use Rattle.sim_machine.specs.Events.{is_same, event_at, is_processed}
use Rattle.sim_machine.specs.Conditions.{is_condition, condition_of, members_of, most_weight, leaves_within, first_places, value_of}
use Rattle.sim_machine_law.specs.Members.{LeadsTo, IsLeafOf}
use Rattle.sim_machine_law.proofs.Events.EventLaws.{is_same-yes, is_same-self}
use Rattle.sim_machine_law.proofs.Ledger.TriedQueues.{IsOneOf, one_filtered, all_one_of, contains_one, one_of_contained}

-- ---- lists

head_contained : {X : Type 0} (x : X) (xs : List X) → Contains (x ∷ xs) x
head_contained x xs = (zero, omega arith, refl)

none_contained : {X : Type 0} (x : X) → Contains [] x → ⊥
none_contained x h = omega (arith, h.1)

from_flat_map : {X Y : Type 0} (f : X → List Y) (xs : List X) (y : Y) → Contains (flat_map f xs) y → (x : X) × Contains xs x × Contains (f x) y
from_flat_map f [] y h = absurd (none_contained y h)
from_flat_map f (x ∷ xs) y h =
    elim (Contains-append_cases (f x) (flat_map f xs) y h) [
      | inl here ↦ (x, head_contained x xs, here)
      | inr later ↦ let found = from_flat_map f xs y later in (found.0, Contains-append_right (x ∷ []) xs found.0 found.1, found.2)
    ]

into_flat_map : {X Y : Type 0} (f : X → List Y) (xs : List X) (x : X) (y : Y) → IsOneOf xs x → Contains (f x) y → Contains (flat_map f xs) y
into_flat_map f [] x y h k = absurd h
into_flat_map {X} f (z ∷ zs) x y (inl same) k = Contains-append_left (f z) (flat_map f zs) y (subst (λ (a : X). Contains (f a) y) (sym same) k)
into_flat_map f (z ∷ zs) x y (inr later) k = Contains-append_right (f z) (flat_map f zs) y (into_flat_map f zs x y later k)

-- ---- each once

first_all : (es : List EventId) → All (IsOneOf es) (first_places es)
first_all [] = All-nil (IsOneOf {X = EventId} [])
first_all (e ∷ es) =
    All-cons (IsOneOf (e ∷ es)) e (filter (λ f. not (is_same f e)) (first_places es)) (inl refl)
    (All-filter (λ f. not (is_same f e)) (IsOneOf (e ∷ es)) (first_places es) (All-weaker (IsOneOf es) (IsOneOf (e ∷ es)) (λ x h. inr h) (first_places es) (first_all es)))

all_first : (es : List EventId) (x : EventId) → IsOneOf es x → IsOneOf (first_places es) x
all_first [] x h = h
all_first (e ∷ es) x (inl same) = inl same
all_first (e ∷ es) x (inr later) = elim (cases_Bool (is_same x e)) [
  | inl same ↦ inl (sym (is_same-yes x e same))
  | inr differ ↦ inr (one_filtered (λ f. not (is_same f e)) (first_places es) x (ap not differ) (all_first es x later))
]

pub each_once : (es : List EventId) → AllPairs (λ e f. e ≢ f) (first_places es)
each_once [] = λ i j d before below. absurd (none_below j below)
  where
    none_below : (j : ℕ) → j < 0 → ⊥
    none_below j below = omega arith
each_once (e ∷ es) =
    let left : List EventId = filter (λ f. not (is_same f e)) (first_places es) in
    AllPairs-cons (λ e f. e ≢ f) e left
    (All-weaker (λ f. not (is_same f e) ≡ true) (λ f. e ≢ f) (λ f h same. both_ways (is_same f e) (not-true (is_same f e) h) (ap (λ (x : EventId). is_same f x) same ∙ is_same-self f)) left (filter_passes (λ f. not (is_same f e)) (first_places es)))
    (AllPairs-filter (λ e f. e ≢ f) (λ f. not (is_same f e)) (first_places es) (each_once es))

-- ---- at its first place

same_either : (e f : EventId) → is_same e f ≡ is_same f e
same_either e f = by_number e.0 f.0
  where
    by_number : (m n : ℕ) → (m == n) ≡ (n == m)
    by_number m n = grind (arith, nat_tests)

-- one more at the end stands there if it stood nowhere
one_more : (es : List EventId) (e : EventId) → first_places (es ++ e ∷ []) ≡ first_places es ++ (if list_any (λ f. is_same f e) es then [] else e ∷ [])
one_more [] e = refl
one_more (x ∷ es) e =
    let left : EventId → Bool = λ f. not (is_same f x) in
    let more : Bool → List EventId = λ b. if b then [] else e ∷ [] in
    let any : Bool = list_any (λ f. is_same f e) es in
    ap (λ (fs : List EventId). x ∷ filter left fs) (one_more es e) ∙ ap (λ (fs : List EventId). x ∷ fs) (filter-append left (first_places es) (more any) ∙ ap (λ (fs : List EventId). filter left (first_places es) ++ fs) (past any (is_same e x) refl ∙ ap (λ (b : Bool). more (b || any)) (same_either e x)))
  where
    past : (any same : Bool) → is_same e x ≡ same → filter (λ f. not (is_same f x)) (if any then [] else e ∷ []) ≡ (if same || any then [] else e ∷ [])
    past true true is = refl
    past true false is = refl
    past false true is = rw is refl
    past false false is = rw is refl

any_of_one : (es : List EventId) (e : EventId) → IsOneOf es e → list_any (λ f. is_same f e) es ≡ true
any_of_one [] e h = absurd h
any_of_one (x ∷ es) e (inl same) = or_left (is_same x e) (list_any (λ f. is_same f e) es) (ap (λ (y : EventId). is_same y e) same ∙ is_same-self e)
any_of_one (x ∷ es) e (inr later) = or_right (is_same x e) (list_any (λ f. is_same f e) es) (any_of_one es e later)

one_of_any : (es : List EventId) (e : EventId) → list_any (λ f. is_same f e) es ≡ true → IsOneOf es e
one_of_any [] e h = absurd (both_ways false refl h)
one_of_any (x ∷ es) e h = elim (or_cases (is_same x e) (list_any (λ f. is_same f e) es) h) [
  | inl same ↦ inl (is_same-yes x e same)
  | inr later ↦ inr (one_of_any es e later)
]

pub stands_already : (es : List EventId) (e : EventId) → Contains es e → first_places (es ++ e ∷ []) ≡ first_places es
stands_already es e h =
    one_more es e ∙ ap (λ (b : Bool). first_places es ++ (if b then [] else e ∷ [])) (any_of_one es e (one_of_contained es e h)) ∙ append-nil (first_places es)

pub stands_last : (es : List EventId) (e : EventId) → ¬ Contains es e → first_places (es ++ e ∷ []) ≡ first_places es ++ e ∷ []
stands_last es e h =
    one_more es e ∙ ap (λ (b : Bool). first_places es ++ (if b then [] else e ∷ [])) (false_from_ne_true (list_any (λ f. is_same f e) es) (λ any. h (contains_one es e (one_of_any es e any))))

-- ---- leaves

has_members : (c : Calendar) (e member : EventId) → Contains (members_of c e) member → is_condition c e ≡ true
has_members c e member h = by_part (event_at c e).condition h
  where
    by_part : (o : Option ConditionOf) → Contains (condition_of o).members member → is_some o ≡ true
    by_part None h = absurd (none_contained member h)
    by_part (Some x) h = refl

-- a path to a leaf of at most so many steps
record HasPath (c : Calendar) (depth : ℕ) (e leaf : EventId) : Type 0 where
  path : List EventId
  below : length path < depth
  leads : LeadsTo c path e leaf
  plain : is_condition c leaf ≡ false

path_of_leaf : (depth : ℕ) (c : Calendar) (e leaf : EventId) → Contains (leaves_within depth c e) leaf → HasPath c depth e leaf
path_of_leaf zero c e leaf h = absurd (none_contained leaf h)
path_of_leaf (suc depth) c e leaf h = by_test (is_condition c e) refl h (λ member. path_of_leaf depth c member leaf)
  where
    here : Contains (e ∷ []) leaf → e ≡ leaf
    here h = elim (one_of_contained (e ∷ []) leaf h) [ inl same ↦ same | inr none ↦ absurd none ]

    by_test : (b : Bool) → is_condition c e ≡ b → Contains (if b then flat_map (leaves_within depth c) (members_of c e) else e ∷ []) leaf →
        ((member : EventId) → Contains (leaves_within depth c member) leaf → HasPath c depth member leaf) → HasPath c (suc depth) e leaf
    by_test true is h deeper =
        let found = from_flat_map (leaves_within depth c) (members_of c e) leaf h in
        let k : HasPath c depth found.0 leaf = deeper found.0 found.2 in
        record { path = found.0 ∷ k.path; below = omega (arith, k.below); leads = (found.1, k.leads); plain = k.plain }
    by_test false is h deeper =
        record { path = []; below = omega arith; leads = here h; plain = subst (λ (x : EventId). is_condition c x ≡ false) (here h) is }

leaf_of_path : (depth : ℕ) (c : Calendar) (path : List EventId) (e leaf : EventId) → length path < depth → LeadsTo c path e leaf →
    is_condition c leaf ≡ false → Contains (leaves_within depth c e) leaf
leaf_of_path zero c path e leaf below leads plain = absurd (omega (arith, below))
leaf_of_path (suc depth) c [] e leaf below leads plain =
    subst (λ (b : Bool). Contains (if b then flat_map (leaves_within depth c) (members_of c e) else e ∷ []) leaf) (sym (subst (λ (x : EventId). is_condition c x ≡ false) (sym leads) plain)) (subst (λ (x : EventId). Contains (e ∷ []) x) leads (head_contained e []))
leaf_of_path (suc depth) c (member ∷ path) e leaf below leads plain =
    subst (λ (b : Bool). Contains (if b then flat_map (leaves_within depth c) (members_of c e) else e ∷ []) leaf) (sym (has_members c e member leads.0))
    (into_flat_map (leaves_within depth c) (members_of c e) member leaf (one_of_contained (members_of c e) member leads.0) (leaf_of_path depth c path member leaf (omega (arith, below)) leads.1 plain))

-- ---- the value, at any depth

passing_one : (test : EventId → Bool) (es : List EventId) (e : EventId) → Contains (filter test es) e → Contains es e × (test e ≡ true)
passing_one test es e h =
    (All-contains (Contains es) (filter test es) e (All-filter test (Contains es) es (All-weaker (IsOneOf es) (Contains es) (contains_one es) es (all_one_of es))) h, All-contains (λ x. test x ≡ true) (filter test es) e (filter_passes test es) h)

first_contained : (es : List EventId) (e : EventId) → Contains (first_places es) e → Contains es e
first_contained es e h = contains_one es e (All-contains (IsOneOf es) (first_places es) e (first_all es) h)

value_told : (depth : ℕ) (c : Calendar) (cond e : EventId) → Contains (first_places (filter (is_processed c) (leaves_within depth c cond))) e →
    HasPath c depth cond e × (is_processed c e ≡ true)
value_told depth c cond e h =
    let passed = passing_one (is_processed c) (leaves_within depth c cond) e (first_contained (filter (is_processed c) (leaves_within depth c cond)) e h) in
    (path_of_leaf depth c cond e passed.0, passed.1)

in_value : (depth : ℕ) (c : Calendar) (cond e : EventId) → HasPath c depth cond e → is_processed c e ≡ true →
    Contains (first_places (filter (is_processed c) (leaves_within depth c cond))) e
in_value depth c cond e h processed =
    let leaf : Contains (leaves_within depth c cond) e = leaf_of_path depth c h.path cond e h.below h.leads h.plain in
    let test : EventId → Bool = is_processed c in
    let passing : List EventId = filter test (leaves_within depth c cond) in
    contains_one (first_places passing) e (all_first passing e (one_filtered test (leaves_within depth c cond) e processed (one_of_contained (leaves_within depth c cond) e leaf)))

-- ---- the value

pub value_is : (c : Calendar) (cond e : EventId) → Contains (value_of cond c) e → IsLeafOf c cond e × (is_processed c e ≡ true)
value_is c cond e h =
    let told = value_told (most_weight + 1) c cond e h in
    (record { path = told.0.path; within = omega (arith, told.0.below); leads = told.0.leads; plain = told.0.plain }, told.1)

pub value_has : (c : Calendar) (cond e : EventId) → IsLeafOf c cond e × (is_processed c e ≡ true) → Contains (value_of cond c) e
value_has c cond e h =
    in_value (most_weight + 1) c cond e (record { path = h.0.path; below = omega (arith, h.0.within); leads = h.0.leads; plain = h.0.plain }) h.1

pub value_once : (c : Calendar) (cond : EventId) → AllPairs (λ e f. e ≢ f) (value_of cond c)
value_once c cond = each_once (filter (is_processed c) (leaves_within (most_weight + 1) c cond))

-- ---- a condition of plain events

plain_leaves : (depth : ℕ) (c : Calendar) (es : List EventId) → All (λ e. is_condition c e ≡ false) es → flat_map (leaves_within (suc depth) c) es ≡ es
plain_leaves depth c [] plain = refl
plain_leaves depth c (e ∷ es) plain =
    ap (λ (b : Bool). (if b then flat_map (leaves_within depth c) (members_of c e) else e ∷ []) ++ flat_map (leaves_within (suc depth) c) es) (All-head (λ x. is_condition c x ≡ false) e es plain) ∙ ap (λ (fs : List EventId). e ∷ fs) (plain_leaves depth c es (All-tail (λ x. is_condition c x ≡ false) e es plain))

plain_value_within : (depth : ℕ) (c : Calendar) (cond : EventId) → is_condition c cond ≡ true → All (λ e. is_condition c e ≡ false) (members_of c cond) →
    leaves_within (suc (suc depth)) c cond ≡ members_of c cond
plain_value_within depth c cond is plain =
    ap (λ (b : Bool). if b then flat_map (leaves_within (suc depth) c) (members_of c cond) else cond ∷ []) is ∙ plain_leaves depth c (members_of c cond) plain

pub plain_value : (c : Calendar) (cond : EventId) → is_condition c cond ≡ true → All (λ e. is_condition c e ≡ false) (members_of c cond) →
    value_of cond c ≡ first_places (filter (is_processed c) (members_of c cond))
plain_value c cond is plain =
    ap (λ (es : List EventId). first_places (filter (is_processed c) es)) (plain_value_within 63 c cond is plain)
