-- What a grant tells of the users of a resource, and that a preemption makes room for the request.
use Rattle.std.proofs.Common.{◌≡◌, ◌≢◌, ◌⊎◌, inl, inr, All, ℕ, ◌<◌, ℤ, pos, ◌≤ℤ◌, Bool, true, false, ◌&&◌, not, List, [], ◌∷◌, ◌++◌, length, Option, Some, None, refl, sym, subst, ap, ◌∙◌, arith, filter, if◌then◌else◌}
use Rattle.std.specs.Prelude.{int_lt}
use Rattle.std.proofs.lemmas.Bool.{true_from_ne_false, and_parts, not_from_true, not_from_false, not-true, not-false}
use Rattle.std.proofs.lemmas.Bool.Decides.{nat_tests}
use Rattle.std.proofs.lemmas.Int.{ints}
use Rattle.std.proofs.lemmas.List.{append-nil}
use Rattle.std.proofs.lemmas.List.Elements.{All-nil, All-cons, All-append, All-weaker}
use Rattle.sim_types.specs.declared.event.RequestKey.{RequestKey}
use Rattle.sim_types.specs.declared.setup.Resource.{Resource}
use Rattle.sim_types.specs.declared.setup.ResourceKind.{ResourceKind}
use Rattle.sim_types.specs.declared.setup.ResourceKind.TheVariants as resource
use Rattle.sim_machine.specs.Keys.{is_served_first}
use Rattle.sim_machine.specs.State.{User, Deed, Preempted}
use Rattle.sim_machine.specs.Events.{is_same}
use Rattle.sim_machine.specs.Users.{users, last_served}
use Rattle.sim_machine.specs.Attempts.{NoSlot, FreeSlot, SlotOf, has_free_slot, slot_of, slot_in_use, grant_of}
use Rattle.sim_machine_law.specs.Desks.{IsServedBefore, IsLastServed, HasRoom, TakesSlotOf, TakesNoSlot}
use Rattle.sim_machine_law.proofs.Events.EventLaws.{is_same-self}
use Rattle.sim_machine_law.proofs.Lists.BestElements.{IsRanking, IsBest, is_best}
use Rattle.sim_machine_law.proofs.Requests.RequestKeys.{served_yes, served_no, unserved_of, served_onward, served_beyond, behind_onward, behind_beyond}
use Rattle.sim_machine_law.proofs.Ledger.LedgerSteps.{leaves_user, users_step, fewer_without}

-- ---- the user that a preemption looks at

-- whether user v, granted later than u, stands behind it
abbrev is_behind : User → User → Bool
is_behind v u = not (is_served_first v.key u.key)

behind_of : (a b : RequestKey) → ¬ IsServedBefore a b → not (is_served_first a b) ≡ true
behind_of a b h = not_from_false (is_served_first a b) (unserved_of a b h)

behind_yes : (a b : RequestKey) → not (is_served_first a b) ≡ true → ¬ IsServedBefore a b
behind_yes a b h = served_no a b (not-true (is_served_first a b) h)

behind_no : (a b : RequestKey) → not (is_served_first a b) ≡ false → IsServedBefore a b
behind_no a b h = served_yes a b (not-false (is_served_first a b) h)

users_ranked : IsRanking is_behind
users_ranked =
    record {
      onward = λ y m x p q. behind_of y.key x.key (behind_onward y.key m.key x.key (behind_yes y.key m.key p) (behind_yes m.key x.key q));
      beyond = λ y m x p q. behind_of y.key x.key (behind_beyond y.key m.key x.key (behind_yes y.key m.key p) (behind_no x.key m.key q));
    }

pub is_last_served : (us : List User) (u : User) → last_served us ≡ Some u → IsLastServed us u
is_last_served us u h =
    let b : IsBest is_behind us u = is_best is_behind users_ranked us u h in
    record {
      granted_before = b.before;
      granted_after = b.after;
      stands = b.stands;
      none_greater = All-weaker (λ v. is_behind u v ≡ true) (λ v. ¬ IsServedBefore u.key v.key) (λ v k. behind_yes u.key v.key k) b.before b.earlier;
      all_smaller = All-weaker (λ v. is_behind v u ≡ false) (λ v. IsServedBefore v.key u.key) (λ v k. behind_no v.key u.key k) b.after b.later;
    }

-- ---- what a grant tells

-- what one answer tells
pub record IsSlotOf (key : RequestKey) (o : Option User) (u : User) : Type 0 where
  pub looked_at : o ≡ Some u
  pub waits : key.wait ≡ false
  pub first : is_served_first key u.key ≡ true

slot_if : (key : RequestKey) (v u : User) (b : Bool) → (not key.wait && is_served_first key v.key) ≡ b → (if b then SlotOf v else NoSlot) ≡ SlotOf u →
    IsSlotOf key (Some v) u
slot_if key v u true h same =
    let parts = and_parts (not key.wait) (is_served_first key v.key) h in
    let is : v ≡ u = cc in
    record { looked_at = ap (λ (w : User). Some w) is; waits = not-true key.wait parts.0; first = subst (λ (w : User). is_served_first key w.key ≡ true) is parts.1 }
slot_if key v u false h same = absurd (cc)

slot_told : (key : RequestKey) (o : Option User) (u : User) → slot_of key o ≡ SlotOf u → IsSlotOf key o u
slot_told key None u h = absurd (cc)
slot_told key (Some v) u h = slot_if key v u (not key.wait && is_served_first key v.key) refl h

in_use_told : (k : ResourceKind) (key : RequestKey) (us : List User) (u : User) → slot_in_use k key us ≡ SlotOf u →
    (k ≡ resource.Preemptive) × IsSlotOf key (last_served us) u
in_use_told resource.Preemptive key us u h = (refl, slot_told key (last_served us) u h)
in_use_told resource.Plain key us u h = absurd (cc)
in_use_told resource.Priority key us u h = absurd (cc)
in_use_told resource.Container key us u h = absurd (cc)
in_use_told resource.Store key us u h = absurd (cc)
in_use_told resource.PStore key us u h = absurd (cc)
in_use_told resource.FStore key us u h = absurd (cc)

pub room_yes : (r : Resource) (us : List User) → has_free_slot r us ≡ true → HasRoom r us
room_yes r us h = grind (arith, ints, nat_tests)

pub no_room : (r : Resource) (us : List User) → has_free_slot r us ≡ false → ¬ HasRoom r us
no_room r us h = λ l. grind (arith, ints, nat_tests)

takes_if : (r : Resource) (key : RequestKey) (us : List User) (u : User) (b : Bool) → has_free_slot r us ≡ b →
    (if b then FreeSlot else slot_in_use r.kind key us) ≡ SlotOf u → TakesSlotOf r key us u
takes_if r key us u true free h = absurd (cc)
takes_if r key us u false full h =
    let told = in_use_told r.kind key us u h in
    record { kind = told.0; full = no_room r us full; preempts = told.1.waits; before = served_yes key u.key told.1.first; last = is_last_served us u told.1.looked_at }

pub takes_slot_of : (r : Resource) (key : RequestKey) (us : List User) (u : User) → grant_of r key us ≡ SlotOf u → TakesSlotOf r key us u
takes_slot_of r key us u h = takes_if r key us u (has_free_slot r us) refl h

no_free_slot : (k : ResourceKind) (key : RequestKey) (us : List User) → slot_in_use k key us ≡ FreeSlot → ⊥
no_free_slot resource.Preemptive key us h = not_free (last_served us) h
  where
    not_free_if : (u : User) (b : Bool) → (if b then SlotOf u else NoSlot) ≡ FreeSlot → ⊥
    not_free_if u true h = cc
    not_free_if u false h = cc

    not_free : (o : Option User) → slot_of key o ≡ FreeSlot → ⊥
    not_free None h = cc
    not_free (Some u) h = not_free_if u (not key.wait && is_served_first key u.key) h
no_free_slot resource.Plain key us h = cc
no_free_slot resource.Priority key us h = cc
no_free_slot resource.Container key us h = cc
no_free_slot resource.Store key us h = cc
no_free_slot resource.PStore key us h = cc
no_free_slot resource.FStore key us h = cc

free_if : (r : Resource) (key : RequestKey) (us : List User) (b : Bool) → (if b then FreeSlot else slot_in_use r.kind key us) ≡ FreeSlot → b ≡ true
free_if r key us true h = refl
free_if r key us false h = absurd (no_free_slot r.kind key us h)

pub free_slot_of : (r : Resource) (key : RequestKey) (us : List User) → grant_of r key us ≡ FreeSlot → has_free_slot r us ≡ true
free_slot_of r key us h = free_if r key us (has_free_slot r us) h

pub free_where_room : (r : Resource) (key : RequestKey) (us : List User) → HasRoom r us → grant_of r key us ≡ FreeSlot
free_where_room r key us h = rw (true_from_ne_false (has_free_slot r us) (λ full. no_room r us full h)) refl

pub room_where_free : (r : Resource) (key : RequestKey) (us : List User) → grant_of r key us ≡ FreeSlot → HasRoom r us
room_where_free r key us h = room_yes r us (free_slot_of r key us h)

-- a request that takes no slot of the user that is looked at takes none of any
none_before : (key : RequestKey) (us : List User) (u : User) → IsLastServed us u → ¬ IsServedBefore key u.key → All (λ v. ¬ IsServedBefore key v.key) us
none_before key us u last behind =
    let P : User → Type 0 = λ v. ¬ IsServedBefore key v.key in
    subst (All P) (sym last.stands) (All-append P last.granted_before (u ∷ last.granted_after)
    (All-weaker (λ v. ¬ IsServedBefore u.key v.key) P (λ v h l. behind (served_beyond key v.key u.key l h)) last.granted_before last.none_greater)
    (All-cons P u last.granted_after behind (All-weaker (λ v. IsServedBefore v.key u.key) P (λ v h l. behind (served_onward key v.key u.key l h)) last.granted_after last.all_smaller)))

none_if : (key : RequestKey) (us : List User) (u : User) (wait first : Bool) → IsLastServed us u → key.wait ≡ wait →
    is_served_first key u.key ≡ first → (if not wait && first then SlotOf u else NoSlot) ≡ NoSlot →
    (key.wait ≡ true) ⊎ All (λ v. ¬ IsServedBefore key v.key) us
none_if key us u true first last waits is h = inl waits
none_if key us u false true last waits is h = absurd (cc)
none_if key us u false false last waits is h = inr (none_before key us u last (served_no key u.key is))

none_of : (key : RequestKey) (us : List User) (o : Option User) → last_served us ≡ o → slot_of key o ≡ NoSlot →
    (key.wait ≡ true) ⊎ All (λ v. ¬ IsServedBefore key v.key) us
none_of key [] o is h = inr (All-nil (λ v. ¬ IsServedBefore key v.key))
none_of key (v ∷ vs) None is h = absurd (cc)
none_of key (v ∷ vs) (Some u) is h = none_if key (v ∷ vs) u key.wait (is_served_first key u.key) (is_last_served (v ∷ vs) u is) refl refl h

-- a kind of which no slot in use is taken
other_kind : (k : ResourceKind) (key : RequestKey) (us : List User) → slot_in_use k key us ≡ NoSlot →
    (k ≢ resource.Preemptive) ⊎ ((key.wait ≡ true) ⊎ All (λ v. ¬ IsServedBefore key v.key) us)
other_kind resource.Preemptive key us h = inr (none_of key us (last_served us) refl h)
other_kind resource.Plain key us h = inl (λ same. cc)
other_kind resource.Priority key us h = inl (λ same. cc)
other_kind resource.Container key us h = inl (λ same. cc)
other_kind resource.Store key us h = inl (λ same. cc)
other_kind resource.PStore key us h = inl (λ same. cc)
other_kind resource.FStore key us h = inl (λ same. cc)

nothing_if : (r : Resource) (key : RequestKey) (us : List User) (b : Bool) → has_free_slot r us ≡ b →
    (if b then FreeSlot else slot_in_use r.kind key us) ≡ NoSlot → (¬ HasRoom r us) × TakesNoSlot r key us
nothing_if r key us true is h = absurd (cc)
nothing_if r key us false is h = (no_room r us is, other_kind r.kind key us h)

pub no_slot_of : (r : Resource) (key : RequestKey) (us : List User) → grant_of r key us ≡ NoSlot → (¬ HasRoom r us) × TakesNoSlot r key us
no_slot_of r key us h = nothing_if r key us (has_free_slot r us) refl h

-- ---- a preemption makes room

fewer_fit : (m n : ℕ) (c : ℤ) → m < n → pos n ≤ℤ c → int_lt (pos m) c ≡ true
fewer_fit m n c less fits = grind (arith, ints, nat_tests)

pub fewer_users : (res : ℕ) (u : User) (ledger : List Deed) → IsLastServed (users res ledger) u →
    length (users res (ledger ++ Preempted res u.request ∷ [])) < length (users res ledger)
fewer_users res u ledger last =
    let stays = leaves_user (Preempted res u.request) in
    let now : users res (ledger ++ Preempted res u.request ∷ []) ≡ filter stays (users res ledger) = users_step res (Preempted res u.request) ledger ∙ append-nil (filter stays (users res ledger)) in
    rw now (subst (λ (us : List User). length (filter stays us) < length us) (sym last.stands) (fewer_without stays last.granted_before last.granted_after u (not_from_true (is_same u.request u.request) (is_same-self u.request))))

pub preempted_room : (r : Resource) (res : ℕ) (u : User) (ledger : List Deed) →
    IsLastServed (users res ledger) u →
    pos (length (users res ledger)) ≤ℤ r.capacity → has_free_slot r (users res (ledger ++ Preempted res u.request ∷ [])) ≡ true
preempted_room r res u ledger last fits =
    fewer_fit (length (users res (ledger ++ Preempted res u.request ∷ []))) (length (users res ledger)) r.capacity (fewer_users res u ledger last) fits
