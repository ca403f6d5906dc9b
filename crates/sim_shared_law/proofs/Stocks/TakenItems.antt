-- Items that are deposited and taken. Each put deposits once, so what a get takes is one item of one store.
use Rattle.std.proofs.Common.{◌≡◌, ◌≢◌, ℕ, Bool, true, false, ◌&&◌, not, List, [], ◌∷◌, ◌++◌, refl, sym, subst, ap, ◌∙◌, filter, if◌then◌else◌, get_or, arith}
use Rattle.std.specs.Prelude.{◌==◌, All, AllPairs}
use Rattle.std.specs.List.{list_any}
use Rattle.std.proofs.lemmas.Bool.{and_parts, eqb-true}
use Rattle.std.proofs.lemmas.List.{append-nil}
use Rattle.std.proofs.lemmas.List.Elements.{All-nil, All-cons, All-head, All-tail, All-weaker}
use Rattle.std.proofs.lemmas.List.Kept.{AllPairs-cons}
use Rattle.sim_types.specs.declared.event.EventId.{EventId}
use Rattle.sim_types.proofs.Permutations.{AllPairs-head, AllPairs-tail}
use Rattle.sim_machine.specs.State.{Item, Deed, Granted, Released, Preempted, Deposited, Taken, Filled, Drained}
use Rattle.sim_machine.specs.Events.{is_same}
use Rattle.sim_machine.specs.LawfulLedger.{ServeApart, serves}
use Rattle.sim_machine.specs.Users.{items, takes_item, users}
use Rattle.sim_machine_law.specs.Stocks.{items_besides}
use Rattle.sim_machine_law.proofs.Events.EventLaws.{is_same-self}
use Rattle.sim_machine_law.proofs.Stocks.FoundItems.{items_taken, items_elsewhere}
use Rattle.sim_machine_law.proofs.Ledger.LedgerSteps.{users_step, all_stay}
use Rattle.sim_shared_model.proofs.LeftOut.{same_no, none_left_out}
use Rattle.sim_shared_law.proofs.Desks.LeavingWaiters.{apart_others, one_left_out}
use Rattle.sim_shared_law.proofs.Desks.ServedWaiters.{StaysAt}

-- ---- whose items they are

-- no deed serves this event
abbrev IsUnserved : EventId → List Deed → Type 0
IsUnserved e ledger = All (λ d. serves e d ≡ true → ⊥) ledger

-- two items that different puts brought
abbrev pub AreOfTwoPuts : Item → Item → Type 0
AreOfTwoPuts x y = x.put ≢ y.put

if_item : (P : Item → Type 0) (x : Item) (xs : List Item) (b : Bool) → (b ≡ true → P x) → All P xs → All P ((if b then x ∷ [] else []) ++ xs)
if_item P x xs true h all = All-cons P x xs (h refl) all
if_item P x xs false h all = all

items_unserved : (e : EventId) (res : ℕ) (ledger : List Deed) → IsUnserved e ledger → All (λ (x : Item). e ≢ x.put) (items res ledger)
items_unserved e res [] h = All-nil (λ (x : Item). e ≢ x.put)
items_unserved e res (Deposited at x ∷ later) h =
    let none : serves e (Deposited at x) ≡ true → ⊥ = All-head (λ d. serves e d ≡ true → ⊥) (Deposited at x) later h in
    if_item (λ (y : Item). e ≢ y.put) x (items res later) ((at == res) && not (list_any (takes_item x.put) later))
    (λ is same. none (subst (λ g. is_same x.put g ≡ true) (sym same) (is_same-self x.put)))
    (items_unserved e res later (All-tail (λ d. serves e d ≡ true → ⊥) (Deposited at x) later h))
items_unserved e res (Granted at u ∷ later) h = items_unserved e res later (All-tail (λ d. serves e d ≡ true → ⊥) (Granted at u) later h)
items_unserved e res (Released at r ∷ later) h = items_unserved e res later (All-tail (λ d. serves e d ≡ true → ⊥) (Released at r) later h)
items_unserved e res (Preempted at r ∷ later) h = items_unserved e res later (All-tail (λ d. serves e d ≡ true → ⊥) (Preempted at r) later h)
items_unserved e res (Taken at p ∷ later) h = items_unserved e res later (All-tail (λ d. serves e d ≡ true → ⊥) (Taken at p) later h)
items_unserved e res (Filled at n ∷ later) h = items_unserved e res later (All-tail (λ d. serves e d ≡ true → ⊥) (Filled at n) later h)
items_unserved e res (Drained at n ∷ later) h = items_unserved e res later (All-tail (λ d. serves e d ≡ true → ⊥) (Drained at n) later h)

-- what a deposit brings is of no later put
brought_once : (at : ℕ) (x : Item) (later : List Deed) → AllPairs ServeApart (Deposited at x ∷ later) → IsUnserved x.put later
brought_once at x later once =
    All-weaker (ServeApart (Deposited at x)) (λ d. serves x.put d ≡ true → ⊥) (λ d apart. apart x.put (is_same-self x.put)) later
    (AllPairs-head ServeApart (Deposited at x) later once)

if_item_apart : (x : Item) (xs : List Item) (b : Bool) → All (AreOfTwoPuts x) xs → AllPairs AreOfTwoPuts xs
    → AllPairs AreOfTwoPuts ((if b then x ∷ [] else []) ++ xs)
if_item_apart x xs true h all = AllPairs-cons AreOfTwoPuts x xs h all
if_item_apart x xs false h all = all

-- the items of a store are of different puts
pub items_apart : (res : ℕ) (ledger : List Deed) → AllPairs ServeApart ledger → AllPairs AreOfTwoPuts (items res ledger)
items_apart res [] once = λ i j d before below. absurd (omega (arith, below))
items_apart res (Deposited at x ∷ later) once =
    if_item_apart x (items res later) ((at == res) && not (list_any (takes_item x.put) later))
    (items_unserved x.put res later (brought_once at x later once))
    (items_apart res later (AllPairs-tail ServeApart (Deposited at x) later once))
items_apart res (Granted at u ∷ later) once = items_apart res later (AllPairs-tail ServeApart (Granted at u) later once)
items_apart res (Released at r ∷ later) once = items_apart res later (AllPairs-tail ServeApart (Released at r) later once)
items_apart res (Preempted at r ∷ later) once = items_apart res later (AllPairs-tail ServeApart (Preempted at r) later once)
items_apart res (Taken at p ∷ later) once = items_apart res later (AllPairs-tail ServeApart (Taken at p) later once)
items_apart res (Filled at n ∷ later) once = items_apart res later (AllPairs-tail ServeApart (Filled at n) later once)
items_apart res (Drained at n ∷ later) once = items_apart res later (AllPairs-tail ServeApart (Drained at n) later once)

-- an item that is brought to one of two stores at most
brought_apart : (x : Item) (xs ys : List Item) (here there : Bool) → (here ≡ true → there ≡ true → ⊥) → All (AreOfTwoPuts x) xs
    → All (AreOfTwoPuts x) ys → All (λ y. All (AreOfTwoPuts y) ys) xs
    → All (λ y. All (AreOfTwoPuts y) ((if there then x ∷ [] else []) ++ ys)) ((if here then x ∷ [] else []) ++ xs)
brought_apart x xs ys true true never mine others all = absurd (never refl refl)
brought_apart x xs ys true false never mine others all = All-cons (λ y. All (AreOfTwoPuts y) ys) x xs others all
brought_apart x xs ys false true never mine others all =
    λ k d below. All-cons (AreOfTwoPuts (get_or xs k d)) x ys (λ same. mine k d below (sym same)) (all k d below)
brought_apart x xs ys false false never mine others all = all

-- and so are those of two stores
pub two_stores : (res n : ℕ) (ledger : List Deed) → res ≢ n → AllPairs ServeApart ledger
    → All (λ x. All (AreOfTwoPuts x) (items n ledger)) (items res ledger)
two_stores res n [] differ once = All-nil (λ x. All (AreOfTwoPuts x) [])
two_stores res n (Deposited at x ∷ later) differ once =
    let none : IsUnserved x.put later = brought_once at x later once in
    let taken : Bool = list_any (takes_item x.put) later in
    brought_apart x (items res later) (items n later) ((at == res) && not taken) ((at == n) && not taken)
    (λ here there. differ (sym (eqb-true at res (and_parts (at == res) (not taken) here).0) ∙ eqb-true at n (and_parts (at == n) (not taken) there).0))
    (items_unserved x.put res later none) (items_unserved x.put n later none)
    (two_stores res n later differ (AllPairs-tail ServeApart (Deposited at x) later once))
two_stores res n (Granted at u ∷ later) differ once = two_stores res n later differ (AllPairs-tail ServeApart (Granted at u) later once)
two_stores res n (Released at r ∷ later) differ once = two_stores res n later differ (AllPairs-tail ServeApart (Released at r) later once)
two_stores res n (Preempted at r ∷ later) differ once = two_stores res n later differ (AllPairs-tail ServeApart (Preempted at r) later once)
two_stores res n (Taken at p ∷ later) differ once = two_stores res n later differ (AllPairs-tail ServeApart (Taken at p) later once)
two_stores res n (Filled at m ∷ later) differ once = two_stores res n later differ (AllPairs-tail ServeApart (Filled at m) later once)
two_stores res n (Drained at m ∷ later) differ once = two_stores res n later differ (AllPairs-tail ServeApart (Drained at m) later once)

-- ---- one is taken

all_of_another : (x : Item) (ys : List Item) → All (AreOfTwoPuts x) ys → All (λ y. is_same y.put x.put ≡ false) ys
all_of_another x ys h =
    All-weaker (AreOfTwoPuts x) (λ y. is_same y.put x.put ≡ false) (λ y differ. same_no y.put x.put (λ same. differ (sym same))) ys h

-- the item that is taken leaves, and all others stay
pub taken_here : (res : ℕ) (x : Item) (before behind : List Item) (ledger : List Deed) → AllPairs ServeApart ledger
    → items res ledger ≡ before ++ x ∷ behind → items res (ledger ++ Taken res x.put ∷ []) ≡ before ++ behind
taken_here res x before behind ledger once is =
    items_taken res res x.put ledger ∙ (ap (items_besides x.put) is
    ∙ one_left_out (λ y. is_same y.put x.put) before x behind (is_same-self x.put)
    (all_of_another x (before ++ behind) (apart_others AreOfTwoPuts (λ y z h same. h (sym same)) before x behind
    (subst (AllPairs AreOfTwoPuts) is (items_apart res ledger once)))))

all_middle : (P : Item → Type 0) (before : List Item) (x : Item) (behind : List Item) → All P (before ++ x ∷ behind) → P x
all_middle P [] x behind h = All-head P x behind h
all_middle P (y ∷ ys) x behind h = all_middle P ys x behind (All-tail P y (ys ++ x ∷ behind) h)

-- no other store has an item that leaves with it
pub taken_stays : (res n : ℕ) (x : Item) (before behind : List Item) (ledger : List Deed) → AllPairs ServeApart ledger
    → items res ledger ≡ before ++ x ∷ behind → n ≢ res → StaysAt n (Taken res x.put) ledger
taken_stays res n x before behind ledger once is other =
    let all : All (λ y. All (AreOfTwoPuts y) (items n ledger)) (before ++ x ∷ behind) =
    subst (All (λ y. All (AreOfTwoPuts y) (items n ledger))) is (two_stores res n ledger (λ same. other (sym same)) once) in
    record {
      users_stay = users_step n (Taken res x.put) ledger ∙ (append-nil (filter (λ u. true) (users n ledger)) ∙ all_stay (users n ledger));
      items_stay = items_taken n res x.put ledger ∙ none_left_out (λ y. is_same y.put x.put) (items n ledger)
          (all_of_another x (items n ledger) (all_middle (λ y. All (AreOfTwoPuts y) (items n ledger)) before x behind all));
      level_stays = refl;
    }

-- ---- one is deposited

pub deposited_stays : (res n : ℕ) (x : Item) (ledger : List Deed) → n ≢ res → StaysAt n (Deposited res x) ledger
deposited_stays res n x ledger other = record {
  users_stay = users_step n (Deposited res x) ledger ∙ (append-nil (filter (λ u. true) (users n ledger)) ∙ all_stay (users n ledger));
  items_stay = items_elsewhere n res x ledger (λ same. other (sym same));
  level_stays = refl;
}
