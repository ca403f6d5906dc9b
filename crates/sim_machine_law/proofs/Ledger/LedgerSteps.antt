-- What a deed more makes of the users, the items and the level of a resource: it takes out those that it ends, and
-- brings those that it makes.
use Rattle.std.proofs.Common.{◌≡◌, ◌≢◌, ℕ, ◌+◌, ◌<◌, ◌≤◌, ℤ, pos, ◌+ℤ◌, Bool, true, false, ◌||◌, ◌&&◌, not, List, [], ◌∷◌, ◌++◌, length, refl, sym, subst, ap, ◌∙◌, if◌then◌else◌, arith, length-append, append_assoc, filter, All}
use Rattle.std.specs.Prelude.{◌==◌}
use Rattle.std.specs.List.{list_any}
use Rattle.std.proofs.lemmas.Bool.{and_parts, both_ways, not-true}
use Rattle.std.proofs.lemmas.Int.{ints}
use Rattle.std.proofs.lemmas.List.{append-nil}
use Rattle.std.proofs.lemmas.List.Folds.{list_any-append}
use Rattle.std.proofs.lemmas.List.Elements.{All-nil, All-cons, All-append, All-filter, All-weaker, filter_passes, filter-append}
use Rattle.std.proofs.lemmas.List.Filters.{length-filter_both}
use Rattle.sim_types.specs.declared.event.EventId.{EventId}
use Rattle.sim_machine.specs.State.{User, Item, Deed, Granted, Released, Preempted, Deposited, Taken, Filled, Drained}
use Rattle.sim_machine.specs.Users.{ends_use, user_by, users, change_of_level, level_after, takes_item, item_by, items}
use Rattle.sim_machine_law.proofs.Events.EventLaws.{is_same-self}

-- ---- lists

-- one that was made by a deed, and not ended since, stays exactly where the next deed doesn't end it
if_ended : {X : Type 0} (stays : X → Bool) (x : X) (here was ends : Bool) → stays x ≡ not ends →
    (if here && not (was || (ends || false)) then x ∷ [] else []) ≡ filter stays (if here && not was then x ∷ [] else [])
if_ended stays x false was ends h = refl
if_ended stays x true true ends h = refl
if_ended stays x true false true h = rw h refl
if_ended stays x true false false h = rw h refl

-- a test that all pass takes out nothing
pub all_stay : {X : Type 0} (xs : List X) → filter (λ x. true) xs ≡ xs
all_stay [] = refl
all_stay {X} (x ∷ xs) = ap (λ (ys : List X). x ∷ ys) (all_stay xs)

length-filter_at_most : {X : Type 0} (p : X → Bool) (xs : List X) → length (filter p xs) ≤ length xs
length-filter_at_most p xs = omega (arith, length-filter_both p (λ x. not (p x)) (λ x. refl) xs)

-- a list is shorter without one of its elements
pub fewer_without : {X : Type 0} (p : X → Bool) (before after : List X) (m : X) → p m ≡ false →
    length (filter p (before ++ m ∷ after)) < length (before ++ m ∷ after)
fewer_without {X} p before after m out =
    let less : length (filter p before) ≤ length before = length-filter_at_most p before in
    let later : length (filter p (m ∷ after)) < length (m ∷ after) = without_first in
    rw (filter-append, length-append, length-append) (omega (arith, less, later))
  where
    without_first : length (filter p (m ∷ after)) < length (m ∷ after)
    without_first = rw out (omega (arith, length-filter_at_most p after))

-- ---- users

-- whether the deed leaves this user a user
abbrev pub leaves_user : Deed → User → Bool
leaves_user d u = not (ends_use u.request d)

user_by_step : (res : ℕ) (x d : Deed) (later : List Deed) → user_by res x (later ++ d ∷ []) ≡ filter (leaves_user d) (user_by res x later)
user_by_step res (Granted at u) d later =
    ap (λ (b : Bool). if (at == res) && not b then u ∷ [] else []) (list_any-append (ends_use u.request) later (d ∷ [])) ∙ if_ended (leaves_user d) u (at == res) (list_any (ends_use u.request) later) (ends_use u.request d) refl
user_by_step res (Released at r) d later = refl
user_by_step res (Preempted at r) d later = refl
user_by_step res (Deposited at x) d later = refl
user_by_step res (Taken at p) d later = refl
user_by_step res (Filled at n) d later = refl
user_by_step res (Drained at n) d later = refl

-- after a deed more the users are those whose use it doesn't end, and then the one that it makes
pub users_step : (res : ℕ) (d : Deed) (ledger : List Deed) → users res (ledger ++ d ∷ []) ≡ filter (leaves_user d) (users res ledger) ++ user_by res d []
users_step res d [] = append-nil (user_by res d [])
users_step res d (x ∷ later) =
    let stays : User → Bool = leaves_user d in
    ap (λ (us : List User). us ++ users res (later ++ d ∷ [])) (user_by_step res x d later) ∙ ap (λ (us : List User). filter stays (user_by res x later) ++ us) (users_step res d later) ∙ sym (append_assoc (filter stays (user_by res x later)) (filter stays (users res later)) (user_by res d [])) ∙ ap (λ (us : List User). us ++ user_by res d []) (sym (filter-append stays (user_by res x later) (users res later)))

pub users_more : (res : ℕ) (d : Deed) (ledger : List Deed) → length (users res (ledger ++ d ∷ [])) ≤ length (users res ledger) + length (user_by res d [])
users_more res d ledger =
    rw users_step (rw length-append (omega (arith, length-filter_at_most (leaves_user d) (users res ledger))))

-- what holds of all users, and of the one that a deed makes, holds of all after it
pub users_after : (P : User → Type 0) (res : ℕ) (d : Deed) (ledger : List Deed) → All P (users res ledger) → All P (user_by res d []) →
    All P (users res (ledger ++ d ∷ []))
users_after P res d ledger h new =
    subst (All P) (sym (users_step res d ledger)) (All-append P (filter (leaves_user d) (users res ledger)) (user_by res d []) (All-filter (leaves_user d) P (users res ledger) h) new)

if_one : {X : Type 0} (P : X → Type 0) (u : X) (b : Bool) → (b ≡ true → P u) → All P (if b then u ∷ [] else [])
if_one P u true h = All-cons P u [] (h refl) (All-nil P)
if_one P u false h = All-nil P

-- a grant makes one user of its resource
pub granted_users : (P : User → Type 0) (res at : ℕ) (u : User) → ((at == res) ≡ true → P u) → All P (user_by res (Granted at u) [])
granted_users P res at u h = if_one P u ((at == res) && true) (λ b. h (and_parts (at == res) true b).0)

-- a deed that ends the use of this request, and makes no user, leaves no user of it
users_ended : (res : ℕ) (d : Deed) (r : EventId) (ledger : List Deed) → user_by res d [] ≡ [] → ends_use r d ≡ true →
    All (λ (u : User). u.request ≢ r) (users res (ledger ++ d ∷ []))
users_ended res d r ledger none ends =
    let stays : User → Bool = leaves_user d in
    subst (All (λ (u : User). u.request ≢ r)) (sym (users_step res d ledger ∙ ap (λ (us : List User). filter stays (users res ledger) ++ us) none ∙ append-nil (filter stays (users res ledger))))
    (All-weaker (λ u. stays u ≡ true) (λ (u : User). u.request ≢ r) (λ u h same. both_ways (ends_use u.request d) (not-true (ends_use u.request d) h) (ap (λ (e : EventId). ends_use e d) same ∙ ends)) (filter stays (users res ledger)) (filter_passes stays (users res ledger)))

-- a release leaves no user of its request, at any resource
pub users_without : (n res : ℕ) (r : EventId) (ledger : List Deed) → All (λ (u : User). u.request ≢ r) (users n (ledger ++ Released res r ∷ []))
users_without n res r ledger = users_ended n (Released res r) r ledger refl (is_same-self r)

-- and so does a preemption
pub users_preempted : (n res : ℕ) (r : EventId) (ledger : List Deed) → All (λ (u : User). u.request ≢ r) (users n (ledger ++ Preempted res r ∷ []))
users_preempted n res r ledger = users_ended n (Preempted res r) r ledger refl (is_same-self r)

-- ---- items

-- whether the deed leaves this item in the store
abbrev pub leaves_item : Deed → Item → Bool
leaves_item d x = not (takes_item x.put d)

item_by_step : (res : ℕ) (y d : Deed) (later : List Deed) → item_by res y (later ++ d ∷ []) ≡ filter (leaves_item d) (item_by res y later)
item_by_step res (Deposited at x) d later =
    ap (λ (b : Bool). if (at == res) && not b then x ∷ [] else []) (list_any-append (takes_item x.put) later (d ∷ [])) ∙ if_ended (leaves_item d) x (at == res) (list_any (takes_item x.put) later) (takes_item x.put d) refl
item_by_step res (Granted at u) d later = refl
item_by_step res (Released at r) d later = refl
item_by_step res (Preempted at r) d later = refl
item_by_step res (Taken at p) d later = refl
item_by_step res (Filled at n) d later = refl
item_by_step res (Drained at n) d later = refl

-- after a deed more the items are those that it doesn't take, and then the one that it brings
pub items_step : (res : ℕ) (d : Deed) (ledger : List Deed) → items res (ledger ++ d ∷ []) ≡ filter (leaves_item d) (items res ledger) ++ item_by res d []
items_step res d [] = append-nil (item_by res d [])
items_step res d (x ∷ later) =
    let stays : Item → Bool = leaves_item d in
    ap (λ (xs : List Item). xs ++ items res (later ++ d ∷ [])) (item_by_step res x d later) ∙ ap (λ (xs : List Item). filter stays (item_by res x later) ++ xs) (items_step res d later) ∙ sym (append_assoc (filter stays (item_by res x later)) (filter stays (items res later)) (item_by res d [])) ∙ ap (λ (xs : List Item). xs ++ item_by res d []) (sym (filter-append stays (item_by res x later) (items res later)))

pub items_released : (res at : ℕ) (r : EventId) (ledger : List Deed) → items res (ledger ++ Released at r ∷ []) ≡ items res ledger
items_released res at r ledger = items_step res (Released at r) ledger ∙ append-nil (filter (λ x. true) (items res ledger)) ∙ all_stay (items res ledger)

pub items_more : (res : ℕ) (d : Deed) (ledger : List Deed) → length (items res (ledger ++ d ∷ [])) ≤ length (items res ledger) + length (item_by res d [])
items_more res d ledger =
    rw items_step (rw length-append (omega (arith, length-filter_at_most (leaves_item d) (items res ledger))))

-- ---- levels

pub level_more : (start : ℤ) (res : ℕ) (d : Deed) (ledger : List Deed) →
    level_after start res (ledger ++ d ∷ []) ≡ level_after start res ledger +ℤ change_of_level res d
level_more start res d [] = refl
level_more start res d (x ∷ later) = level_more (start +ℤ change_of_level res x) res d later

pub level_released : (start : ℤ) (res at : ℕ) (r : EventId) (ledger : List Deed) →
    level_after start res (ledger ++ Released at r ∷ []) ≡ level_after start res ledger
level_released start res at r ledger = level_more start res (Released at r) ledger ∙ no_more (level_after start res ledger)
  where
    no_more : (n : ℤ) → n +ℤ pos 0 ≡ n
    no_more n = omega (arith, ints)
