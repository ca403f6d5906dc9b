-- A desk's queue as that of the machine: the machine's order of waiters is the order by the keys of requests.
use Rattle.std.proofs.Common.{◌≡◌, ℕ, Bool, true, false, List, [], ◌∷◌, ◌++◌, refl, sym, ap, ◌∙◌}
use Rattle.sim_types.specs.declared.setup.Resource.{Resource}
use Rattle.sim_machine.specs.State.{User}
use Rattle.sim_machine.specs.Keys.{is_served_first}
use Rattle.sim_machine.specs.Users.{insert_waiter, sorted_waiters, in_order}
use Rattle.sim_machine.specs.Attempts.{grant_of, victim_of}
use Rattle.sim_machine.specs.Requests.{victim_at_first}
use Rattle.sim_shared_model.specs.declared.desk.DeskKind.{DeskKind}
use Rattle.sim_shared_model.specs.declared.desk.DeskKind.TheVariants as desk
use Rattle.sim_shared_model.specs.declared.desk.WaitingRequest.{WaitingRequest}
use Rattle.sim_shared_model.specs.DeskOf.{resource_kind, goes_by_keys, waiter_at, waiters_at}
use Rattle.sim_shared_model.specs.Sorting.{put_behind, put_ahead, sorted_by, IsInOrderBy}
use Rattle.sim_resource.specs.QueueOrder.{queue_joined, first_key_with, waits_before}
use Rattle.sim_resource.proofs.Keys.{waits_ordered}
use Rattle.sim_shared_model.proofs.StableSorts.{sorted_joined, sorted_same}

inserted_is : (res : ℕ) (w : WaitingRequest) (vs : List WaitingRequest) →
    insert_waiter (waiter_at res w) (waiters_at res vs) ≡ waiters_at res (put_ahead waits_before w vs)
inserted_is res w [] = refl
inserted_is res w (v ∷ vs) = by (waits_before v w) refl (inserted_is res w vs)
  where
    by : (b : Bool) → waits_before v w ≡ b → insert_waiter (waiter_at res w) (waiters_at res vs) ≡ waiters_at res (put_ahead waits_before w vs) →
        insert_waiter (waiter_at res w) (waiters_at res (v ∷ vs)) ≡ waiters_at res (put_ahead waits_before w (v ∷ vs))
    by true is rest = rw is (ap (λ us. waiter_at res v ∷ us) rest)
    by false is rest = rw is refl

-- the machine sorts waiters as a desk does
pub sorted_is : (res : ℕ) (ws : List WaitingRequest) → sorted_waiters (waiters_at res ws) ≡ waiters_at res (sorted_by waits_before ws)
sorted_is res [] = refl
sorted_is res (w ∷ ws) = ap (insert_waiter (waiter_at res w)) (sorted_is res ws) ∙ inserted_is res w (sorted_by waits_before ws)

-- ---- one joins

joined_sorted : (res : ℕ) (w : WaitingRequest) (ws : List WaitingRequest) → IsInOrderBy waits_before ws →
    waiters_at res (put_behind waits_before w ws) ≡ sorted_waiters (waiters_at res (ws ++ w ∷ []))
joined_sorted res w ws h =
    sym (sorted_is res (ws ++ w ∷ []) ∙ ap (waiters_at res) (sorted_joined waits_before waits_ordered ws w ∙ ap (put_behind waits_before w) (sorted_same waits_before waits_ordered ws h)))

pub joined_is : (kind : DeskKind) (res : ℕ) (w : WaitingRequest) (ws : List WaitingRequest) → (goes_by_keys kind ≡ true → IsInOrderBy waits_before ws) →
    waiters_at res (queue_joined (goes_by_keys kind) w ws) ≡ in_order (resource_kind kind) (waiters_at res (ws ++ w ∷ []))
joined_is desk.Plain res w ws k = refl
joined_is desk.Priority res w ws k = joined_sorted res w ws (k refl)
joined_is desk.Preemptive res w ws k = joined_sorted res w ws (k refl)

-- ---- what is in order

kept_sorted : (res : ℕ) (ws : List WaitingRequest) → IsInOrderBy waits_before ws → sorted_waiters (waiters_at res ws) ≡ waiters_at res ws
kept_sorted res ws h = sorted_is res ws ∙ ap (waiters_at res) (sorted_same waits_before waits_ordered ws h)

pub kept_in_order : (kind : DeskKind) (res : ℕ) (ws : List WaitingRequest) → (goes_by_keys kind ≡ true → IsInOrderBy waits_before ws) →
    in_order (resource_kind kind) (waiters_at res ws) ≡ waiters_at res ws
kept_in_order desk.Plain res ws h = refl
kept_in_order desk.Priority res ws h = kept_sorted res ws (h refl)
kept_in_order desk.Preemptive res ws h = kept_sorted res ws (h refl)

-- ---- the first, once one more waits

module _ (r : Resource) (res : ℕ) (w : WaitingRequest) (us : List User) where
  first_sorted : (ws : List WaitingRequest) → IsInOrderBy waits_before ws →
      victim_at_first r (sorted_waiters (waiters_at res (ws ++ w ∷ []))) us ≡ victim_of (grant_of r (first_key_with true w.key ws) us)
  first_sorted ws h = ap (λ vs. victim_at_first r vs us) (sym (joined_sorted res w ws h)) ∙ by_first ws
    where
      by_first : (ws : List WaitingRequest) →
          victim_at_first r (waiters_at res (put_behind waits_before w ws)) us ≡ victim_of (grant_of r (first_key_with true w.key ws) us)
      by_first [] = refl
      by_first (v ∷ vs) = by (is_served_first w.key v.key) refl
        where
          by : (b : Bool) → is_served_first w.key v.key ≡ b →
              victim_at_first r (waiters_at res (put_behind waits_before w (v ∷ vs))) us ≡ victim_of (grant_of r (first_key_with true w.key (v ∷ vs)) us)
          by true is = rw is refl
          by false is = rw is refl

  pub victim_once_joined : (kind : DeskKind) (ws : List WaitingRequest) → (goes_by_keys kind ≡ true → IsInOrderBy waits_before ws) →
      victim_at_first r (in_order (resource_kind kind) (waiters_at res (ws ++ w ∷ []))) us ≡ victim_of (grant_of r (first_key_with (goes_by_keys kind) w.key ws) us)
  victim_once_joined desk.Plain [] h = refl
  victim_once_joined desk.Plain (v ∷ vs) h = refl
  victim_once_joined desk.Priority ws h = first_sorted ws (h refl)
  victim_once_joined desk.Preemptive ws h = first_sorted ws (h refl)
