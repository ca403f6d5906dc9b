-- What a desk keeps, where one joins its queue, leaves it or is served.
use Rattle.std.proofs.Common.{◌≡◌, ◌≢◌, ℕ, ◌<◌, ◌≤◌, Bool, true, false, not, List, [], ◌∷◌, ◌++◌, length, Some, refl, sym, subst, ◌∙◌, get_or, arith, All}
use Rattle.std.specs.List.Sorted.{IsPermutation}
use Rattle.std.proofs.lemmas.Bool.{false≢true}
use Rattle.std.proofs.lemmas.List.{length_push}
use Rattle.std.proofs.lemmas.List.Sums.{length-filter, count_by-le-length}
use Rattle.std.proofs.lemmas.List.Elements.{All-cons, All-head, All-tail, All-filter, All-weaker, All-push}
use Rattle.std.proofs.lemmas.List.Sorted.{IsPermutation-to_front, IsPermutation-sym, All-permutation}
use Rattle.std.proofs.lemmas.List.Kept.{AllPairs-cons, AllPairs-filter}
use Rattle.std.proofs.lemmas.List.Quantifiers.{all_pairs_push}
use Rattle.sim_types.proofs.Permutations.{AllPairs-head, AllPairs-tail, AllPairs-IsPermutation}
use Rattle.sim_types.specs.declared.event.EventId.{EventId}
use Rattle.sim_machine.specs.State.{User}
use Rattle.sim_machine.specs.Events.{is_same}
use Rattle.sim_machine.specs.Keys.{is_served_first}
use Rattle.sim_machine.specs.Choices.{best_from}
use Rattle.sim_machine.specs.Users.{last_served}
use Rattle.sim_shared_model.specs.declared.desk.DeskKind.{DeskKind}
use Rattle.sim_shared_model.specs.declared.desk.WaitingRequest.{WaitingRequest}
use Rattle.sim_shared_model.specs.Attempts.{waiting_but, users_but}
use Rattle.sim_shared_model.specs.Sorting.{put_behind, IsInOrderBy}
use Rattle.sim_resource.specs.QueueOrder.{queue_joined, waits_before}
use Rattle.sim_shared_model.specs.DeskOf.{goes_by_keys}
use Rattle.sim_resource.specs.GrantOrder.{UsersOf}
use Rattle.sim_resource.specs.SoundDesks.{AreApart, IsSoundDesk}
use Rattle.sim_resource.proofs.Keys.{waits_ordered}
use Rattle.sim_shared_model.proofs.StableSorts.{same_behind, behind_in_order}

abbrev Differ : WaitingRequest → WaitingRequest → Type 0
Differ v w = v.request ≢ w.request

turned : (v w : WaitingRequest) → Differ v w → Differ w v
turned v w h same = h (sym same)

-- ---- apart

-- one more waits, at whatever place
apart_in : (w : WaitingRequest) (ws vs : List WaitingRequest) (us : List User) → IsPermutation (w ∷ ws) vs →
    All (λ v. v.request ≢ w.request) ws → All (λ u. u.request ≢ w.request) us →
    AreApart ws us → AreApart vs us
apart_in w ws vs us same new none h =
    record {
      waiting = AllPairs-IsPermutation Differ turned (w ∷ ws) vs same (AllPairs-cons Differ w ws (All-weaker (λ v. v.request ≢ w.request) (Differ w) (λ v k. turned v w k) ws new) h.waiting);
      using = h.using;
      either = All-permutation (λ v. All (λ u. u.request ≢ v.request) us) (w ∷ ws) vs same (All-cons (λ v. All (λ u. u.request ≢ v.request) us) w ws none h.either);
    }

pub apart_behind : (w : WaitingRequest) (ws : List WaitingRequest) (us : List User) → All (λ v. v.request ≢ w.request) ws →
    All (λ u. u.request ≢ w.request) us → AreApart ws us →
    AreApart (put_behind waits_before w ws) us
apart_behind w ws us new none h = apart_in w ws (put_behind waits_before w ws) us (same_behind waits_before w ws) new none h

pub apart_last : (w : WaitingRequest) (ws : List WaitingRequest) (us : List User) → All (λ v. v.request ≢ w.request) ws →
    All (λ u. u.request ≢ w.request) us → AreApart ws us → AreApart (ws ++ w ∷ []) us
apart_last w ws us new none h = apart_in w ws (ws ++ w ∷ []) us (IsPermutation-sym (ws ++ w ∷ []) (w ∷ ws) (IsPermutation-to_front ws w)) new none h

-- a request waits no longer
pub apart_left : (request : EventId) (ws : List WaitingRequest) (us : List User) → AreApart ws us → AreApart (waiting_but request ws) us
apart_left request ws us h =
    let stays : WaitingRequest → Bool = λ w. not (is_same w.request request) in
    record { waiting = AllPairs-filter Differ stays ws h.waiting; using = h.using; either = All-filter stays (λ w. All (λ u. u.request ≢ w.request) us) ws h.either }

-- a request is a user no longer
pub apart_released : (request : EventId) (ws : List WaitingRequest) (us : List User) → AreApart ws us → AreApart ws (users_but request us)
apart_released request ws us h =
    let stays : User → Bool = λ u. not (is_same u.request request) in
    record {
      waiting = h.waiting;
      using = AllPairs-filter (λ u v. u.request ≢ v.request) stays us h.using;
      either = All-weaker (λ w. All (λ u. u.request ≢ w.request) us) (λ w. All (λ u. u.request ≢ w.request) (users_but request us)) (λ w k. All-filter stays (λ u. u.request ≢ w.request) us k) ws h.either;
    }

-- the first that waits is a user
pub apart_served : (w : WaitingRequest) (rest : List WaitingRequest) (us : List User) (u : User) → u.request ≡ w.request →
    AreApart (w ∷ rest) us → AreApart rest (us ++ u ∷ [])
apart_served w rest us u same h =
    let free : All (λ v. v.request ≢ w.request) us = All-head (λ x. All (λ v. v.request ≢ x.request) us) w rest h.either in
    let behind : All (Differ w) rest = AllPairs-head Differ w rest h.waiting in
    record {
      waiting = AllPairs-tail Differ w rest h.waiting;
      using = all_pairs_push (λ v x. v.request ≢ x.request) us u h.using (subst (λ (e : EventId). All (λ v. v.request ≢ e) us) (sym same) free);
      either = λ k d below.
          All-push (λ v. v.request ≢ (get_or rest k d).request) us u (All-tail (λ x. All (λ v. v.request ≢ x.request) us) w rest h.either k d below) (λ is. behind k d below (sym same ∙ is));
    }

-- ---- sound desks

pub fewer_users : (request : EventId) (us : List User) → length (users_but request us) ≤ length us
fewer_users request us = omega (arith, length-filter (λ u. not (is_same u.request request)) us, count_by-le-length (λ u. not (is_same u.request request)) us)

module _ (kind : DeskKind) (capacity : ℕ) (ws : List WaitingRequest) (users : UsersOf) (s : IsSoundDesk kind capacity ws users) where
  pub sound_joined : (w : WaitingRequest) → All (λ v. v.request ≢ w.request) ws → All (λ u. u.request ≢ w.request) users.users →
      IsSoundDesk kind capacity (queue_joined (goes_by_keys kind) w ws) users
  sound_joined w new none = joined_by (goes_by_keys kind) refl
    where
      joined_by : (b : Bool) → goes_by_keys kind ≡ b → IsSoundDesk kind capacity (queue_joined b w ws) users
      joined_by true is =
          record { within = s.within; apart = apart_behind w ws users.users new none s.apart; by_keys = λ h. behind_in_order waits_before waits_ordered w ws (s.by_keys h); ranked = s.ranked }
      joined_by false is =
          record { within = s.within; apart = apart_last w ws users.users new none s.apart; by_keys = λ h. absurd (false≢true (sym is ∙ h)); ranked = s.ranked }

  pub sound_left : (request : EventId) → IsSoundDesk kind capacity (waiting_but request ws) users
  sound_left request =
      record {
        within = s.within;
        apart = apart_left request ws users.users s.apart;
        by_keys = λ h. AllPairs-filter (λ x y. waits_before y x ≡ false) (λ w. not (is_same w.request request)) ws (s.by_keys h);
        ranked = s.ranked;
      }

  pub sound_released : (request : EventId) (new : UsersOf) → new.users ≡ users_but request users.users → new.ranked ≡ users.ranked →
      IsSoundDesk kind capacity ws new
  sound_released request new is ranked =
      record {
        within = rw is (omega (arith, fewer_users request users.users, s.within));
        apart = rw is (apart_released request ws users.users s.apart);
        by_keys = s.by_keys;
        ranked = ranked ∙ s.ranked;
      }

  pub sound_served : (w : WaitingRequest) (rest : List WaitingRequest) (u : User) (new : UsersOf) → ws ≡ w ∷ rest → u.request ≡ w.request →
      length users.users < capacity →
      new.users ≡ users.users ++ u ∷ [] → new.ranked ≡ users.ranked → IsSoundDesk kind capacity rest new
  sound_served w rest u new first same slot is ranked =
      record {
        within = rw is (omega (arith, length_push users.users u, slot));
        apart = rw is (apart_served w rest users.users u same (subst (λ vs. AreApart vs users.users) first s.apart));
        by_keys = λ h. AllPairs-tail (λ x y. waits_before y x ≡ false) w rest (subst (IsInOrderBy waits_before) first (s.by_keys h));
        ranked = ranked ∙ s.ranked;
      }

-- where there are users, one is preempted first
pub some_served : (us : List User) → 0 < length us → (u : User) × (last_served us ≡ Some u)
some_served [] h = absurd (omega arith)
some_served (u ∷ us) h = (best_from (λ v x. not (is_served_first v.key x.key)) u us, refl)
