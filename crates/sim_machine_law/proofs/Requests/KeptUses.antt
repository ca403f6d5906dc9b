-- Where a process is not its own victim, making its request ends no use of it.
use Rattle.std.proofs.Common.{◌≡◌, ◌≢◌, ℕ, ℤ, Bool, true, false, ◌&&◌, not, List, [], ◌∷◌, ◌++◌, Option, Some, None, refl, sym, subst, ap, ◌∙◌, inl, inr, zero, arith, filter, All}
use Rattle.std.specs.Prelude.{◌==◌}
use Rattle.std.specs.List.{Contains}
use Rattle.std.proofs.lemmas.Bool.{and_parts, eqb-true, eq-eqb, both_ways, cases_Bool}
use Rattle.std.proofs.lemmas.List.Elements.{All-head, All-tail, All-contains, All-weaker, Contains-append_left, Contains-append_right, filter_passes}
use Rattle.std.proofs.lemmas.List.Sorted.{All-permutation}
use Rattle.sim_types.specs.declared.event.ProcId.{ProcId}
use Rattle.sim_types.specs.declared.event.RequestKey.{RequestKey}
use Rattle.sim_types.specs.declared.setup.Resource.{Resource}
use Rattle.sim_types.specs.declared.setup.ResourceKind.{ResourceKind}
use Rattle.sim_types.specs.declared.setup.ResourceKind.TheVariants as resource
use Rattle.sim_machine.specs.State.{Want, Slot, Give, Take, Waiter, User, Item, Deed, Preempted, Facilities}
use Rattle.sim_machine.specs.Events.{is_same, is_process}
use Rattle.sim_machine.specs.Users.{resource_at, wants_to_put, users, items, put_queue, item_for}
use Rattle.sim_machine.specs.Attempts.{Grant, NoSlot, FreeSlot, SlotOf, Served, grant_of, victim_of, is_container, fill, drain, deposit, hand_out, put_served, get_served}
use Rattle.sim_machine.specs.Trying.{level, preempt, use_slot, serve_if_any, attempt_for, attempt, Reach, First, put_reach, goes_on, try_along}
use Rattle.sim_machine.specs.Requests.{join_request, make_request, victim_at_want, victim_at_first, is_of, is_own_victim}
use Rattle.sim_machine_law.specs.Desks.{IsLastServed, puts_at, AreOfOneProcess, KeepsUses}
use Rattle.sim_machine_law.proofs.KeptParts.KeptTimesCases.{if_cases}
use Rattle.sim_machine_law.proofs.Events.EventLaws.{same_event}
use Rattle.sim_machine_law.proofs.Requests.GrantedSlots.{takes_slot_of}
use Rattle.sim_machine_law.proofs.Ledger.LedgerSteps.{leaves_user, users_step}
use Rattle.sim_machine_law.proofs.Requests.SortedQueues.{same_waiters}
use Rattle.sim_machine_law.proofs.Ledger.TriedQueues.{one_filtered, contains_one, one_of_contained}

-- ---- one deed

contained_passes : {X : Type 0} (test : X → Bool) (xs : List X) (x : X) → test x ≡ true → Contains xs x → Contains (filter test xs) x
contained_passes test xs x passes h = contains_one (filter test xs) x (one_filtered test xs x passes (one_of_contained xs x h))

module _ (n : ℕ) (u : User) where
  -- u is a user after these deeds
  abbrev Uses : List Deed → Type 0
  Uses ledger = Contains (users n ledger) u

  uses_after : (d : Deed) (ledger : List Deed) → leaves_user d u ≡ true → Uses ledger → Uses (ledger ++ d ∷ [])
  uses_after d ledger stays h =
      subst (λ (us : List User). Contains us u) (sym (users_step n d ledger)) (Contains-append_left (filter (leaves_user d) (users n ledger)) _ u (contained_passes (leaves_user d) (users n ledger) u stays h))

  -- ---- one attempt

  -- the user who is preempted, if one is, has another request
  abbrev IsSpared : Option User → Type 0
  IsSpared o = (v : User) → o ≡ Some v → is_same u.request v.request ≡ false

  uses_slot : (w : Waiter) (p : ProcId) (key : RequestKey) (grant : Grant) (f : Facilities) → IsSpared (victim_of grant) → Uses f.ledger →
      Uses (use_slot w p key grant f).ledger
  uses_slot w p key NoSlot f spared h = h
  uses_slot w p key FreeSlot f spared h = uses_after _ f.ledger refl h
  uses_slot w p key (SlotOf v) f spared h =
      uses_after _ (preempt w.res v f).ledger refl (uses_after (Preempted w.res v.request) f.ledger (ap not (spared v refl)) h)

  uses_put : (r : Resource) (w : Waiter) (amount priority level : ℤ) (xs : List Item) (f : Facilities) → Uses f.ledger →
      Uses (serve_if_any w (put_served r w amount priority level xs) f).ledger
  uses_put r w amount priority level xs f h =
      let P : Option Served → Type 0 = λ o. Uses (serve_if_any w o f).ledger in
      if_cases P (is_container r.kind) (fill r w.res level amount) (deposit r w.res xs _)
      (λ is. if_cases P _ (Some _) None (λ room. uses_after _ f.ledger refl h) (λ full. h))
      (λ isnt. if_cases P _ (Some _) None (λ room. uses_after _ f.ledger refl h) (λ full. h))

  uses_handed : (w : Waiter) (o : Option Item) (f : Facilities) → Uses f.ledger → Uses (serve_if_any w (hand_out w.res o) f).ledger
  uses_handed w None f h = h
  uses_handed w (Some x) f h = uses_after _ f.ledger refl h

  uses_got : (r : Resource) (w : Waiter) (least greatest level : ℤ) (xs : List Item) (f : Facilities) → Uses f.ledger →
      Uses (serve_if_any w (get_served r w least greatest level xs) f).ledger
  uses_got r w least greatest level xs f h =
      let P : Option Served → Type 0 = λ o. Uses (serve_if_any w o f).ledger in
      if_cases P (is_container r.kind) (drain w.res level least) (hand_out w.res (item_for r.kind least greatest xs))
      (λ is. if_cases P _ (Some _) None (λ room. uses_after _ f.ledger refl h) (λ full. h))
      (λ isnt. uses_handed w (item_for r.kind least greatest xs) f h)

  uses_attempted : (rs : List Resource) (r : Resource) (w : Waiter) (want : Want) (f : Facilities) →
      IsSpared (victim_at_want r want (users w.res f.ledger)) → Uses f.ledger → Uses (attempt_for rs r w want f).ledger
  uses_attempted rs r w (Slot p key) f spared h = uses_slot w p key (grant_of r key (users w.res f.ledger)) f spared h
  uses_attempted rs r w (Give amount priority) f spared h = uses_put r w amount priority (level rs w.res f) (items w.res f.ledger) f h
  uses_attempted rs r w (Take least greatest) f spared h = uses_got r w least greatest (level rs w.res f) (items w.res f.ledger) f h

-- ---- whom an attempt preempts

slot_of_victim : (grant : Grant) (v : User) → victim_of grant ≡ Some v → grant ≡ SlotOf v
slot_of_victim NoSlot v h = absurd (cc)
slot_of_victim FreeSlot v h = absurd (cc)
slot_of_victim (SlotOf u) v h = cc

victim_kind : (r : Resource) (want : Want) (us : List User) (v : User) → victim_at_want r want us ≡ Some v → r.kind ≡ resource.Preemptive
victim_kind r (Slot p key) us v h = (takes_slot_of r key us v (slot_of_victim (grant_of r key us) v h)).kind
victim_kind r (Give amount priority) us v h = absurd (cc)
victim_kind r (Take least greatest) us v h = absurd (cc)

victim_last : (r : Resource) (want : Want) (us : List User) (v : User) → victim_at_want r want us ≡ Some v → IsLastServed us v
victim_last r (Slot p key) us v h = (takes_slot_of r key us v (slot_of_victim (grant_of r key us) v h)).last
victim_last r (Give amount priority) us v h = absurd (cc)
victim_last r (Take least greatest) us v h = absurd (cc)

victim_is_user : (us : List User) (v : User) → IsLastServed us v → Contains us v
victim_is_user us v h =
    subst (λ (xs : List User). Contains xs v) (sym h.stands) (Contains-append_right h.granted_before (v ∷ h.granted_after) v (zero, omega arith, refl))

-- ---- a try

-- no attempt of a try at another resource than a preemptive one preempts
uses_along : (rs : List Resource) (reach : Reach) (n : ℕ) (u : User) (ws : List Waiter) (f : Facilities) →
    All (λ w. (resource_at rs w.res).kind ≢ resource.Preemptive) ws → Uses n u f.ledger → Uses n u (try_along rs reach ws f).ledger
uses_along rs reach n u [] f h k = k
uses_along rs reach n u (w ∷ ws) f h k =
    let other : Waiter → Type 0 = λ v. (resource_at rs v.res).kind ≢ resource.Preemptive in
    let after : Uses n u (attempt rs w f).ledger = uses_attempted n u rs (resource_at rs w.res) w w.want f (λ v e. absurd (All-head other w ws h (victim_kind (resource_at rs w.res) w.want (users w.res f.ledger) v e))) k in
    if_cases (λ g. Uses n u g.ledger) (goes_on reach w (attempt rs w f)) (try_along rs reach ws (attempt rs w f)) (attempt rs w f) (λ on. uses_along rs reach n u ws (attempt rs w f) (All-tail other w ws h) after) (λ ends. after)

elsewhere : (rs : List Resource) (res : ℕ) (k : ResourceKind) → k ≢ resource.Preemptive → (resource_at rs res).kind ≡ k → (ws : List Waiter) →
    All (λ w. w.res ≡ res) ws → All (λ w. (resource_at rs w.res).kind ≢ resource.Preemptive) ws
elsewhere rs res k other is ws at =
    All-weaker (λ w. w.res ≡ res) (λ w. (resource_at rs w.res).kind ≢ resource.Preemptive) (λ w here same. other (sym is ∙ ap (λ (m : ℕ). (resource_at rs m).kind) (sym here) ∙ same)) ws at

module _ (rs : List Resource) (res : ℕ) (p : ProcId) (f : Facilities) (one : AreOfOneProcess f.ledger) (n : ℕ) (u : User) (used : Uses n u f.ledger) (of : u.process ≡ p) where
  -- a victim that is not of p has another request
  spared : (want : Want) → is_of p (victim_at_want (resource_at rs res) want (users res f.ledger)) ≡ false →
      IsSpared n u (victim_at_want (resource_at rs res) want (users res f.ledger))
  spared want other v e = elim (cases_Bool (is_same u.request v.request)) [ inl same ↦ absurd (never same) | inr differ ↦ differ ]
    where
      never : is_same u.request v.request ≡ true → ⊥
      never same =
          let us : List User = users res f.ledger in
          let among : Contains us v = victim_is_user us v (victim_last (resource_at rs res) want us v e) in
          let shared : u.process ≡ v.process = All-contains (λ w. u.request ≡ w.request → u.process ≡ w.process) us v (All-contains (λ (a : User). All (λ (b : User). a.request ≡ b.request → a.process ≡ b.process) us) (users n f.ledger) u (one n res) used) among (same_event u.request v.request (eqb-true u.request.0 v.request.0 same)) in
          both_ways (is_process v.process p) (subst (λ (o : Option User). is_of p o ≡ false) e other) (ap (λ (q : ProcId). is_process q p) (sym shared ∙ of) ∙ eq-eqb p.0 p.0 refl)

  -- the one attempt of a try at a preemptive resource
  uses_first : (ws : List Waiter) (g : Facilities) → g.ledger ≡ f.ledger → All (λ w. w.res ≡ res) ws →
      is_of p (victim_at_first (resource_at rs res) ws (users res f.ledger)) ≡ false → Uses n u (try_along rs First ws g).ledger
  uses_first [] g same at other = subst (Uses n u) (sym same) used
  uses_first (w ∷ ws) g same at other =
      let here : w.res ≡ res = All-head (λ v. v.res ≡ res) w ws at in
      let P : ℕ → List Deed → Type 0 = λ m ledger. IsSpared n u (victim_at_want (resource_at rs m) w.want (users m ledger)) in
      let safe : P w.res g.ledger = subst (λ (m : ℕ). P m g.ledger) (sym here) (subst (P res) (sym same) (spared w.want other)) in
      uses_attempted n u rs (resource_at rs w.res) w w.want g safe (subst (Uses n u) (sym same) used)

  kind_cases : (g : Facilities) → g.ledger ≡ f.ledger → (k : ResourceKind) → (resource_at rs res).kind ≡ k → (ws : List Waiter) →
      All (λ w. w.res ≡ res) ws → is_of p (victim_at_first (resource_at rs res) ws (users res f.ledger)) ≡ false →
      Uses n u (try_along rs (put_reach k) ws g).ledger
  kind_cases g same resource.Preemptive is ws at other = uses_first ws g same at other
  kind_cases g same resource.Plain is ws at other = uses_along rs (put_reach resource.Plain) n u ws g (elsewhere rs res resource.Plain (λ e. cc) is ws at) (subst (Uses n u) (sym same) used)
  kind_cases g same resource.Priority is ws at other = uses_along rs (put_reach resource.Priority) n u ws g (elsewhere rs res resource.Priority (λ e. cc) is ws at) (subst (Uses n u) (sym same) used)
  kind_cases g same resource.Container is ws at other = uses_along rs (put_reach resource.Container) n u ws g (elsewhere rs res resource.Container (λ e. cc) is ws at) (subst (Uses n u) (sym same) used)
  kind_cases g same resource.Store is ws at other = uses_along rs (put_reach resource.Store) n u ws g (elsewhere rs res resource.Store (λ e. cc) is ws at) (subst (Uses n u) (sym same) used)
  kind_cases g same resource.PStore is ws at other = uses_along rs (put_reach resource.PStore) n u ws g (elsewhere rs res resource.PStore (λ e. cc) is ws at) (subst (Uses n u) (sym same) used)
  kind_cases g same resource.FStore is ws at other = uses_along rs (put_reach resource.FStore) n u ws g (elsewhere rs res resource.FStore (λ e. cc) is ws at) (subst (Uses n u) (sym same) used)

queue_at : (rs : List Resource) (res : ℕ) (ws : List Waiter) → All (λ w. w.res ≡ res) (put_queue rs res ws)
queue_at rs res ws =
    let test : Waiter → Bool = λ w. (w.res == res) && wants_to_put w.want in
    All-permutation (λ w. w.res ≡ res) (puts_at res ws) (put_queue rs res ws) (same_waiters rs res ws)
    (All-weaker (λ w. test w ≡ true) (λ w. w.res ≡ res) (λ w h. eqb-true w.res res (and_parts (w.res == res) (wants_to_put w.want) h).0) (filter test ws) (filter_passes test ws))

-- making a request ends no use of its process, where that is not its own victim
pub uses_kept : (rs : List Resource) (res : ℕ) (p : ProcId) (priority : ℤ) (preempts : Bool) (f : Facilities) → AreOfOneProcess f.ledger →
    is_own_victim rs res p priority preempts f ≡ false → KeepsUses p f (make_request rs res p priority preempts f)
uses_kept rs res p priority preempts f one other n u used of =
    let g : Facilities = join_request rs res p priority preempts f in
    kind_cases rs res p f one n u used of g refl (resource_at rs res).kind refl (put_queue rs res g.waiters) (queue_at rs res g.waiters) other
