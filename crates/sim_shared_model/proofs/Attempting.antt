-- What an attempt answers and leaves, by the slot that the first of the queue is given.
use Rattle.std.proofs.Common.{◌≡◌, ℤ, true, List, [], ◌∷◌, Some, refl, ap, ◌∙◌, drop}
use Rattle.sim_types.specs.declared.event.EventId.{EventId}
use Rattle.sim_types.specs.declared.event.ProcId.{ProcId}
use Rattle.sim_machine.specs.State.{User}
use Rattle.sim_machine.specs.Users.{first_of_list}
use Rattle.sim_machine.specs.Attempts as machine
use Rattle.sim_machine.specs.Attempts.{NoSlot, FreeSlot, SlotOf, has_free_slot, slot_of, slot_in_use, grant_of, victim_of}
use Rattle.sim_shared_model.specs.declared.desk.Grant.TheVariants as grant
use Rattle.sim_shared_model.specs.declared.desk.WaitingRequest.{WaitingRequest}
use Rattle.sim_shared_model.specs.DeskOf.{DeskOf, resource_of}
use Rattle.sim_shared_model.specs.Attempts.{IsGranted, IsPreempting, serve_first, users_but, attempt_by, attempt_at, attempt_of}

-- the first of a list, and the others
pub first_is : {X : Type 0} (xs : List X) (x : X) → first_of_list xs ≡ Some x → xs ≡ x ∷ drop 1 xs
first_is [] x h = absurd (cc)
first_is (y ∷ ys) x h = ap (λ z. z ∷ ys) (same y x h)
  where
    same : {X : Type 0} (y x : X) → Some y ≡ Some x → y ≡ x
    same y x h = cc

-- a victim is the user whose slot is given
pub slot_taken : (g : machine.Grant) (u : User) → victim_of g ≡ Some u → g ≡ SlotOf u
slot_taken NoSlot u h = absurd (cc)
slot_taken FreeSlot u h = absurd (cc)
slot_taken (SlotOf v) u h = ap SlotOf (same v u h)
  where
    same : (v u : User) → Some v ≡ Some u → v ≡ u
    same v u h = cc

-- ---- an attempt

pub attempt_by_first : (time : ℤ) (d : DeskOf) (w : WaitingRequest) (rest : List WaitingRequest) (g : machine.Grant) → d.queue ≡ w ∷ rest →
    grant_of (resource_of d) w.key d.users ≡ g →
    attempt_of time d ≡ attempt_by g w rest time d
attempt_by_first time d w rest g first is = ap (λ ws. attempt_at ws time d) first ∙ ap (λ (x : machine.Grant). attempt_by x w rest time d) is

pub attempt_free : (time : ℤ) (d : DeskOf) (w : WaitingRequest) (rest : List WaitingRequest) → d.queue ≡ w ∷ rest →
    has_free_slot (resource_of d) d.users ≡ true →
    attempt_of time d ≡ record { answer = grant.Granted w.request; desk = serve_first w rest d.users time d }
attempt_free time d w rest first free = attempt_by_first time d w rest FreeSlot first (rw free refl)

pub attempt_preempts : (time : ℤ) (d : DeskOf) (w : WaitingRequest) (rest : List WaitingRequest) (u : User) → d.queue ≡ w ∷ rest →
    victim_of (grant_of (resource_of d) w.key d.users) ≡ Some u →
    attempt_of time d ≡ record { answer = grant.Preempted w.request u.request u.process u.since; desk = serve_first w rest (users_but u.request d.users) time d }
attempt_preempts time d w rest u first victim = attempt_by_first time d w rest (SlotOf u) first (slot_taken (grant_of (resource_of d) w.key d.users) u victim)

-- ---- what an answer tells

-- the first is granted
granted_by : (g : machine.Grant) (request : EventId) (w : WaitingRequest) (rest : List WaitingRequest) (time : ℤ) (d : DeskOf)
    → (attempt_by g w rest time d).answer ≡ grant.Granted request → (g ≡ FreeSlot) × (request ≡ w.request)
granted_by NoSlot request w rest time d h = absurd (cc)
granted_by FreeSlot request w rest time d h = (refl, cc)
granted_by (SlotOf u) request w rest time d h = absurd (cc)

granted_at : (ws : List WaitingRequest) (time : ℤ) (d : DeskOf) (request : EventId) → d.queue ≡ ws
    → (attempt_at ws time d).answer ≡ grant.Granted request → IsGranted request d
granted_at [] time d request is h = absurd (cc)
granted_at (w ∷ rest) time d request is h =
    let told = granted_by (grant_of (resource_of d) w.key d.users) request w rest time d h in
    record { first = record { first = w; rest = rest; queue = is; given = told.0 }; request = told.1 }

pub granted_told : (time : ℤ) (d : DeskOf) (request : EventId) → (attempt_of time d).answer ≡ grant.Granted request → IsGranted request d
granted_told time d request h = granted_at d.queue time d request refl h

-- the first is granted in place of a user
pub record IsSlotOf (g : machine.Grant) (request victim : EventId) (process : ProcId) (since : ℤ) (w : WaitingRequest) : Type 0 where
  pub user : User
  pub slot : g ≡ SlotOf user
  pub parts : (request ≡ w.request) × (victim ≡ user.request) × (process ≡ user.process) × (since ≡ user.since)

preempted_by : (g : machine.Grant) (request victim : EventId) (process : ProcId) (since : ℤ) (w : WaitingRequest)
    (rest : List WaitingRequest) (time : ℤ) (d : DeskOf)
    → (attempt_by g w rest time d).answer ≡ grant.Preempted request victim process since → IsSlotOf g request victim process since w
preempted_by NoSlot request victim process since w rest time d h = absurd (cc)
preempted_by FreeSlot request victim process since w rest time d h = absurd (cc)
preempted_by (SlotOf u) request victim process since w rest time d h = record { user = u; slot = refl; parts = (cc, cc, cc, cc) }

preempted_at : (ws : List WaitingRequest) (time : ℤ) (d : DeskOf) (request victim : EventId) (process : ProcId) (since : ℤ)
    → d.queue ≡ ws → (attempt_at ws time d).answer ≡ grant.Preempted request victim process since
    → IsPreempting request victim process since d
preempted_at [] time d request victim process since is h = absurd (cc)
preempted_at (w ∷ rest) time d request victim process since is h =
    let told = preempted_by (grant_of (resource_of d) w.key d.users) request victim process since w rest time d h in
    record {
      user = told.user;
      first = record { first = w; rest = rest; queue = is; given = told.slot };
      request = told.parts.0;
      victim = told.parts.1;
      process = told.parts.2;
      since = told.parts.3;
    }

pub preempted_told : (time : ℤ) (d : DeskOf) (request victim : EventId) (process : ProcId) (since : ℤ)
    → (attempt_of time d).answer ≡ grant.Preempted request victim process since → IsPreempting request victim process since d
preempted_told time d request victim process since h = preempted_at d.queue time d request victim process since refl h
