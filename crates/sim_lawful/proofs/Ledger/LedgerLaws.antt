-- When a deed more keeps to the capacities of all resources.
use Rattle.std.proofs.Common.{◌≡◌, ℕ, ◌+◌, ◌<◌, ◌≤◌, ℤ, pos, ◌≤ℤ◌, ◌+ℤ◌, ◌-ℤ◌, Bool, true, false, ◌&&◌, List, [], ◌∷◌, ◌++◌, length, refl, sym, subst, ap, if◌then◌else◌, arith}
use Rattle.std.specs.Prelude.{◌==◌, int_lt, int_le}
use Rattle.std.specs.List.{AllPass}
use Rattle.std.proofs.lemmas.Bool.{and_parts, eqb-true}
use Rattle.std.proofs.lemmas.Int.{ints}
use Rattle.std.proofs.lemmas.Bool.Decides.{nat_tests}
use Rattle.sim_types.specs.declared.setup.Resource.{Resource}
use Rattle.sim_machine.specs.State.{User, Item, Deed, Granted, Deposited, Filled, Drained, Facilities}
use Rattle.sim_machine.specs.Users.{resource_at, user_by, users, change_of_level, level_after, item_by, items}
use Rattle.sim_machine.specs.Trying.{write_deed, level}
use Rattle.sim_machine.specs.LawfulCapacities.{LawfulCapacities, is_in_use}
use Rattle.sim_machine_law.proofs.Ledger.LedgerSteps.{users_more, users_after, items_more, level_more}

-- ---- capacities

-- a deed that keeps to the capacities of all resources
pub record FitsLedger (rs : List Resource) (ledger : List Deed) (d : Deed) : Type 0 where
  pub slots : (res : ℕ) → res < length rs → pos (length (users res ledger) + length (user_by res d [])) ≤ℤ (resource_at rs res).capacity
  pub level_low : (res : ℕ) → res < length rs → pos 0 ≤ℤ (level_after (resource_at rs res).opening res ledger +ℤ change_of_level res d)
  pub level_high : (res : ℕ) → res < length rs → (level_after (resource_at rs res).opening res ledger +ℤ change_of_level res d) ≤ℤ (resource_at rs res).capacity
  pub room : (res : ℕ) → res < length rs → pos (length (items res ledger) + length (item_by res d [])) ≤ℤ (resource_at rs res).capacity

less_fits : (m n : ℕ) (c : ℤ) → m ≤ n → pos n ≤ℤ c → pos m ≤ℤ c
less_fits m n c less h = omega (arith, ints, less, h)

pub capacities_deed : (rs : List Resource) (f : Facilities) (d : Deed) → FitsLedger rs f.ledger d
    → ((res : ℕ) → AllPass (is_in_use f.calendar) (user_by res d [])) → LawfulCapacities rs f
    → LawfulCapacities rs (write_deed d f)
capacities_deed rs f d fits in_use h =
    let opening : ℕ → ℤ = λ res. (resource_at rs res).opening in
    record {
      slots = λ res below. less_fits (length (users res (f.ledger ++ d ∷ []))) (length (users res f.ledger) + length (user_by res d [])) (resource_at rs res).capacity (users_more res d f.ledger) (fits.slots res below);
      in_use = λ res. users_after (λ u. is_in_use f.calendar u ≡ true) res d f.ledger (h.in_use res) (in_use res);
      level_low = λ res below. subst (λ (n : ℤ). pos 0 ≤ℤ n) (sym (level_more (opening res) res d f.ledger)) (fits.level_low res below);
      level_high = λ res below. subst (λ (n : ℤ). n ≤ℤ (resource_at rs res).capacity) (sym (level_more (opening res) res d f.ledger)) (fits.level_high res below);
      room = λ res below. less_fits (length (items res (f.ledger ++ d ∷ []))) (length (items res f.ledger) + length (item_by res d [])) (resource_at rs res).capacity (items_more res d f.ledger) (fits.room res below);
      waiting = h.waiting;
    }

no_more : (n m : ℕ) (c : ℤ) → m ≡ 0 → pos n ≤ℤ c → pos (n + m) ≤ℤ c
no_more n m c none h = omega (arith, ints, none, h)

no_change_low : (n m : ℤ) → m ≡ pos 0 → pos 0 ≤ℤ n → pos 0 ≤ℤ (n +ℤ m)
no_change_low n m none h = omega (arith, ints, none, h)

no_change_high : (n m c : ℤ) → m ≡ pos 0 → n ≤ℤ c → (n +ℤ m) ≤ℤ c
no_change_high n m c none h = omega (arith, ints, none, h)

-- a deed that makes no user and no item and changes no level
pub plain_fits : (rs : List Resource) (f : Facilities) (d : Deed) → ((res : ℕ) → user_by res d [] ≡ [])
    → ((res : ℕ) → item_by res d [] ≡ []) → ((res : ℕ) → change_of_level res d ≡ pos 0) → LawfulCapacities rs f
    → FitsLedger rs f.ledger d
plain_fits rs f d no_user no_item no_change h =
    record {
      slots = λ res below. no_more (length (users res f.ledger)) (length (user_by res d [])) (resource_at rs res).capacity (ap (λ (us : List User). length us) (no_user res)) (h.slots res below);
      level_low = λ res below. no_change_low (level rs res f) (change_of_level res d) (no_change res) (h.level_low res below);
      level_high = λ res below. no_change_high (level rs res f) (change_of_level res d) (resource_at rs res).capacity (no_change res) (h.level_high res below);
      room = λ res below. no_more (length (items res f.ledger)) (length (item_by res d [])) (resource_at rs res).capacity (ap (λ (xs : List Item). length xs) (no_item res)) (h.room res below);
    }

if_room : {X : Type 0} (n : ℕ) (x : X) (c : ℤ) (b : Bool) → pos n ≤ℤ c → (b ≡ true → int_lt (pos n) c ≡ true) → pos (n + length (if b then x ∷ [] else [])) ≤ℤ c
if_room n x c true h free = lt_room n c (free refl)
  where
    lt_room : (n : ℕ) (c : ℤ) → int_lt (pos n) c ≡ true → pos (n + 1) ≤ℤ c
    lt_room n c h = grind (arith, ints, nat_tests)
if_room n x c false h free = no_more n 0 c refl h

same_place : (P : ℕ → Type 0) (at res : ℕ) → P at → ((at == res) && true) ≡ true → P res
same_place P at res h e = subst P (eqb-true at res (and_parts (at == res) true e).0) h

-- a grant where a slot is free
pub granted_fits : (rs : List Resource) (f : Facilities) (at : ℕ) (u : User)
    → int_lt (pos (length (users at f.ledger))) (resource_at rs at).capacity ≡ true → LawfulCapacities rs f
    → FitsLedger rs f.ledger (Granted at u)
granted_fits rs f at u free h =
    record {
      slots = λ res below. if_room (length (users res f.ledger)) u (resource_at rs res).capacity ((at == res) && true) (h.slots res below) (same_place (λ n. int_lt (pos (length (users n f.ledger))) (resource_at rs n).capacity ≡ true) at res free);
      level_low = λ res below. no_change_low (level rs res f) (pos 0) refl (h.level_low res below);
      level_high = λ res below. no_change_high (level rs res f) (pos 0) (resource_at rs res).capacity refl (h.level_high res below);
      room = λ res below. no_more (length (items res f.ledger)) 0 (resource_at rs res).capacity refl (h.room res below);
    }

-- a deposit where there is room
pub deposited_fits : (rs : List Resource) (f : Facilities) (at : ℕ) (x : Item)
    → int_lt (pos (length (items at f.ledger))) (resource_at rs at).capacity ≡ true → LawfulCapacities rs f
    → FitsLedger rs f.ledger (Deposited at x)
deposited_fits rs f at x free h =
    record {
      slots = λ res below. no_more (length (users res f.ledger)) 0 (resource_at rs res).capacity refl (h.slots res below);
      level_low = λ res below. no_change_low (level rs res f) (pos 0) refl (h.level_low res below);
      level_high = λ res below. no_change_high (level rs res f) (pos 0) (resource_at rs res).capacity refl (h.level_high res below);
      room = λ res below. if_room (length (items res f.ledger)) x (resource_at rs res).capacity ((at == res) && true) (h.room res below) (same_place (λ n. int_lt (pos (length (items n f.ledger))) (resource_at rs n).capacity ≡ true) at res free);
    }

if_low : (n m : ℤ) (b : Bool) → pos 0 ≤ℤ n → (b ≡ true → pos 0 ≤ℤ (n +ℤ m)) → pos 0 ≤ℤ (n +ℤ (if b then m else pos 0))
if_low n m true h at = at refl
if_low n m false h at = no_change_low n (pos 0) refl h

if_high : (n m c : ℤ) (b : Bool) → n ≤ℤ c → (b ≡ true → (n +ℤ m) ≤ℤ c) → (n +ℤ (if b then m else pos 0)) ≤ℤ c
if_high n m c true h at = at refl
if_high n m c false h at = no_change_high n (pos 0) c refl h

at_place : (P : ℕ → Type 0) (at res : ℕ) → P at → (at == res) ≡ true → P res
at_place P at res h e = subst P (eqb-true at res e) h

-- a level that changes within the capacity
moved_fits : (rs : List Resource) (f : Facilities) (d : Deed) (at : ℕ) (m : ℤ) → ((res : ℕ) → user_by res d [] ≡ [])
    → ((res : ℕ) → item_by res d [] ≡ []) → ((res : ℕ) → change_of_level res d ≡ (if at == res then m else pos 0))
    → pos 0 ≤ℤ (level rs at f +ℤ m) → (level rs at f +ℤ m) ≤ℤ (resource_at rs at).capacity → LawfulCapacities rs f
    → FitsLedger rs f.ledger d
moved_fits rs f d at m no_user no_item change low high h =
    record {
      slots = λ res below. no_more (length (users res f.ledger)) (length (user_by res d [])) (resource_at rs res).capacity (ap (λ (us : List User). length us) (no_user res)) (h.slots res below);
      level_low = λ res below. subst (λ (n : ℤ). pos 0 ≤ℤ (level rs res f +ℤ n)) (sym (change res)) (if_low (level rs res f) m (at == res) (h.level_low res below) (at_place (λ n. pos 0 ≤ℤ (level rs n f +ℤ m)) at res low));
      level_high = λ res below. subst (λ (n : ℤ). (level rs res f +ℤ n) ≤ℤ (resource_at rs res).capacity) (sym (change res)) (if_high (level rs res f) m (resource_at rs res).capacity (at == res) (h.level_high res below) (at_place (λ n. (level rs n f +ℤ m) ≤ℤ (resource_at rs n).capacity) at res high));
      room = λ res below. no_more (length (items res f.ledger)) (length (item_by res d [])) (resource_at rs res).capacity (ap (λ (xs : List Item). length xs) (no_item res)) (h.room res below);
    }

more_low : (n m : ℤ) → pos 0 ≤ℤ n → int_lt (pos 0) m ≡ true → pos 0 ≤ℤ (n +ℤ m)
more_low n m h more = grind (arith, ints, nat_tests)

within_of : (n c : ℤ) → int_le n c ≡ true → n ≤ℤ c
within_of n c h = grind (arith, ints, nat_tests)

-- an amount that fits into what is free
pub filled_fits : (rs : List Resource) (f : Facilities) (at : ℕ) (amount : ℤ) → at < length rs → int_lt (pos 0) amount ≡ true
    → int_le (level rs at f +ℤ amount) (resource_at rs at).capacity ≡ true → LawfulCapacities rs f
    → FitsLedger rs f.ledger (Filled at amount)
filled_fits rs f at amount below more fits h =
    moved_fits rs f (Filled at amount) at amount (λ res. refl) (λ res. refl) (λ res. refl) (more_low (level rs at f) amount (h.level_low at below) more) (within_of (level rs at f +ℤ amount) (resource_at rs at).capacity fits) h

less_low : (n m : ℤ) → int_le m n ≡ true → pos 0 ≤ℤ (n +ℤ (pos 0 -ℤ m))
less_low n m h = grind (arith, ints, nat_tests)

less_high : (n m c : ℤ) → n ≤ℤ c → int_lt (pos 0) m ≡ true → (n +ℤ (pos 0 -ℤ m)) ≤ℤ c
less_high n m c h more = grind (arith, ints, nat_tests)

-- an amount that is there
pub drained_fits : (rs : List Resource) (f : Facilities) (at : ℕ) (amount : ℤ) → at < length rs
    → int_lt (pos 0) amount ≡ true → int_le amount (level rs at f) ≡ true → LawfulCapacities rs f
    → FitsLedger rs f.ledger (Drained at amount)
drained_fits rs f at amount below more there h =
    moved_fits rs f (Drained at amount) at (pos 0 -ℤ amount) (λ res. refl) (λ res. refl) (λ res. refl) (less_low (level rs at f) amount there) (less_high (level rs at f) amount (resource_at rs at).capacity (h.level_high at below) more) h
