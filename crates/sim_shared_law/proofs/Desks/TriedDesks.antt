-- A desk that is tried in its place.
use Rattle.std.proofs.Common.{◌≡◌, ℕ, ℤ, true, List, [], ◌∷◌, refl, sym, subst, ap, ◌∙◌, Some}
use Rattle.std.specs.Prelude.{slice_get, slice_set}
use Rattle.std.proofs.lemmas.Bool.{false≢true, or_left}
use Rattle.std.proofs.lemmas.Option.{get_or_from_slice_get}
use Rattle.std.proofs.Math.Seq.{map-set_same}
use Rattle.sim_types.specs.declared.event.EventId.{EventId}
use Rattle.sim_types.specs.declared.setup.Resource.{Resource}
use Rattle.sim_machine.specs.State.{User, Facilities}
use Rattle.sim_machine.specs.MayAsk.{takes_requests}
use Rattle.sim_machine.specs.Users.{resource_at, users, put_queue}
use Rattle.sim_machine.specs.Attempts as machine
use Rattle.sim_machine.specs.Attempts.{NoSlot, FreeSlot, SlotOf, grant_of}
use Rattle.sim_machine.specs.Trying.{use_slot, First, put_reach, try_put, try_along}
use Rattle.sim_machine_law.proofs.Events.EventLaws.{is_same-self}
use Rattle.sim_happen_model.specs.HappenOf.{IsOpen, as_before}
use Rattle.sim_shared_model.specs.declared.desk.Grant.{Grant}
use Rattle.sim_shared_model.specs.declared.desk.Grant.TheVariants as grant
use Rattle.sim_shared_model.specs.declared.desk.DeskKind.{DeskKind}
use Rattle.sim_shared_model.specs.declared.desk.DeskKind.TheVariants as desk
use Rattle.sim_shared_model.specs.declared.desk.WaitingRequest.{WaitingRequest}
use Rattle.sim_shared_model.specs.DeskOf.{DeskOf, resource_kind, resource_of, waiter_at, waiters_at}
use Rattle.sim_shared_model.specs.Attempts.{Attempt, attempt_by, attempt_at, attempt_of}
use Rattle.sim_shared_model.proofs.Attempting.{attempt_by_first}
use Rattle.sim_shared_model.specs.AnyShared.{SharedResource}
use Rattle.sim_shared_model.specs.declared.resource.AnyResource.TheVariants.{Desk, Tank, Shelf}
use Rattle.sim_shared_model.specs.Resources.{declared_as, without_room, waiting_at}
use Rattle.sim_shared_model.specs.SharedOf.{SharedOf}
use Rattle.sim_shared_model.specs.ShowsAll.{ShowsDesk, ShowsAt, ShowsAll, FollowsAll}
use Rattle.sim_shared_model.specs.Waiting.{AreAllOpen, waits_at}
use Rattle.sim_shared_model.specs.Granting.{TriesDesk}
use Rattle.sim_shared_law.proofs.Waiters.CancelledEvents.{shown_alike}
use Rattle.sim_shared_law.proofs.Shown.FollowingFacilities.{turns_all_as}
use Rattle.sim_shared_law.proofs.Shown.ReleasedSlots.{no_store}
use Rattle.sim_shared_law.proofs.Shown.ResourcePlaces.{at_each, declared_at, declared_alike}
use Rattle.sim_shared_law.proofs.Waiters.WaitingEvents.{all_among}

-- ---- what is tried

-- the first of a queue waits
pub waits_first : (w : WaitingRequest) (d : DeskOf) (rest : List WaitingRequest) → d.queue ≡ w ∷ rest → waits_at w.request (Desk d) ≡ true
waits_first w d rest is = rw is (or_left _ _ (is_same-self w.request))

-- what takes requests is a desk
pub no_other : (x : SharedResource) → takes_requests (declared_as x).kind ≡ true → ((d : DeskOf) → x ≡ Desk d → ⊥) → ⊥
no_other (Desk d) takes none = none d refl
no_other (Tank t) takes none = false≢true takes
no_other (Shelf s) takes none = no_store s.kind takes

-- an attempt changes neither kind nor capacity
attempt_declared : (time : ℤ) (d : DeskOf) → declared_as (Desk ((attempt_of time d).desk)) ≡ declared_as (Desk d)
attempt_declared time d = by_queue d.queue
  where
    by_slot : (g : machine.Grant) (w : WaitingRequest) (rest : List WaitingRequest)
        → declared_as (Desk ((attempt_by g w rest time d).desk)) ≡ declared_as (Desk d)
    by_slot NoSlot w rest = refl
    by_slot FreeSlot w rest = refl
    by_slot (SlotOf u) w rest = refl

    by_queue : (ws : List WaitingRequest) → declared_as (Desk ((attempt_at ws time d).desk)) ≡ declared_as (Desk d)
    by_queue [] = refl
    by_queue (w ∷ rest) = by_slot (grant_of (resource_of d) w.key d.users) w rest

pub tried_declared : (time : ℤ) (d k : DeskOf) → k ≡ record ((attempt_of time d).desk) { spare = k.spare } → declared_as (Desk k) ≡ declared_as (Desk d)
tried_declared time d k left = ap (λ (x : DeskOf). declared_as (Desk x)) left ∙ attempt_declared time d

-- a desk was tried in its place
pub tries_desk : (a : SharedOf) (res : ℕ) (answer : Grant) (d k : DeskOf) (time : ℤ) → time ≡ a.happen.time → slice_get a.resources res ≡ Some (Desk d)
    → answer ≡ (attempt_of time d).answer → k ≡ record ((attempt_of time d).desk) { spare = k.spare }
    → TriesDesk res answer a (record a { resources = slice_set a.resources res (Desk k) })
tries_desk a res answer d k time now there answers left = record {
  before = d;
  after = k;
  there = there;
  answers = subst (λ t. answer ≡ (attempt_of t d).answer) now answers;
  leaves = subst (λ t. k ≡ record ((attempt_of t d).desk) { spare = k.spare }) now left;
  rest = refl;
}

-- the desk is left as the slot says
pub left_by : (time : ℤ) (d k : DeskOf) (w : WaitingRequest) (rest : List WaitingRequest) (g : machine.Grant) → d.queue ≡ w ∷ rest
    → grant_of (resource_of d) w.key d.users ≡ g → k ≡ record ((attempt_of time d).desk) { spare = k.spare }
    → k ≡ record ((attempt_by g w rest time d).desk) { spare = k.spare }
left_by time d k w rest g first given left =
    left ∙ ap (λ (x : Attempt). record (x.desk) { spare = k.spare }) (attempt_by_first time d w rest g first given)

-- the request waited, so it is open
pub tried_open : (a b : SharedOf) (res : ℕ) (answer : Grant) (w : WaitingRequest) (rest : List WaitingRequest) → (t : TriesDesk res answer a b)
    → t.before.queue ≡ w ∷ rest → AreAllOpen a → IsOpen b.happen w.request
tried_open a b res answer w rest t first open_ =
    subst (λ (h : SharedOf). IsOpen h.happen w.request) (sym t.rest)
    (all_among (IsOpen a.happen) w.request (waiting_at (Desk t.before)) (waits_first w t.before rest first) (open_.each res (Desk t.before) t.there))

-- ---- the try

first_at_desk : (k : DeskKind) → put_reach (resource_kind k) ≡ First
first_at_desk desk.Plain = refl
first_at_desk desk.Priority = refl
first_at_desk desk.Preemptive = refl

reach_at_desk : (a : SharedOf) (f : Facilities) (res : ℕ) (d : DeskOf) → ShowsAll a f → slice_get a.resources res ≡ Some (Desk d)
    → put_reach (resource_at a.setup res).kind ≡ First
reach_at_desk a f res d h there =
    ap (λ (r : Resource). put_reach r.kind) (sym (declared_at a.resources a.setup res (Desk d) h.opened there)) ∙ first_at_desk d.kind

-- nobody waits at the desk
pub tried_empty : (a : SharedOf) (f : Facilities) (res : ℕ) (d : DeskOf) → ShowsAll a f → slice_get a.resources res ≡ Some (Desk d)
    → d.queue ≡ [] → try_put a.setup res f ≡ f
tried_empty a f res d h there none =
    ap (λ ws. try_along a.setup (put_reach (resource_at a.setup res).kind) ws f) (sym (h.resources res (Desk d) there).queue ∙ ap (waiters_at res) none)

-- the first takes the slot that the desk gives it
pub tried_first : (a : SharedOf) (f : Facilities) (res : ℕ) (d : DeskOf) (w : WaitingRequest) (rest : List WaitingRequest) (g : machine.Grant)
    → ShowsAll a f → slice_get a.resources res ≡ Some (Desk d) → d.queue ≡ w ∷ rest → grant_of (resource_of d) w.key d.users ≡ g
    → try_put a.setup res f ≡ use_slot (waiter_at res w) w.process w.key g f
tried_first a f res d w rest g h there first given =
    let shown : ShowsDesk a.setup res d f = h.resources res (Desk d) there in
    let queue : put_queue a.setup res f.waiters ≡ waiter_at res w ∷ waiters_at res rest = sym shown.queue ∙ ap (waiters_at res) first in
    let same : grant_of (resource_at a.setup res) w.key (users res f.ledger) ≡ g =
    ap (λ (r : Resource). grant_of r w.key (users res f.ledger)) (sym (declared_at a.resources a.setup res (Desk d) h.opened there))
    ∙ (ap (grant_of (resource_of d) w.key) (sym shown.users) ∙ given) in
    ap (λ ws. try_along a.setup (put_reach (resource_at a.setup res).kind) ws f) queue
    ∙ (ap (λ reach. try_along a.setup reach (waiter_at res w ∷ waiters_at res rest) f) (reach_at_desk a f res d h there)
    ∙ ap (λ (x : machine.Grant). use_slot (waiter_at res w) w.process w.key x f) same)

-- ---- none is granted

-- nothing changes but room
room_follows : (a : SharedOf) (res : ℕ) (d k : DeskOf) → slice_get a.resources res ≡ Some (Desk d) → k ≡ record d { spare = k.spare }
    → FollowsAll (λ f. f) a (record a { resources = slice_set a.resources res (Desk k) })
room_follows a res d k there left =
    let same : without_room (Desk k) ≡ without_room (Desk d) = ap (λ (x : DeskOf). Desk (record x { spare = 0 })) left in
    record {
      each = λ f h. record {
        calendar = h.calendar;
        opened = map-set_same declared_as a.resources res (Desk k) (Desk d) (declared_alike (Desk d) (Desk k) same ∙ ap declared_as (sym (get_or_from_slice_get a.resources res (Desk d) (Desk d) there))) ∙ h.opened;
        resources = at_each (λ n z. ShowsAt a.setup n z f) a.resources res (Desk d) (Desk k) there
            (shown_alike a.setup res (Desk d) (Desk k) f same (h.resources res (Desk d) there)) (λ n z other found. h.resources n z found);
        tidy = h.tidy;
      };
      held = refl;
      left = refl;
      setup = refl;
    }

-- where none is granted a slot, all is as before
pub none_follows : (a b : SharedOf) (res : ℕ) → TriesDesk res grant.None a b → FollowsAll (try_put a.setup res) a b
none_follows a b res t = by t.before.queue refl
  where
    by : (ws : List WaitingRequest) → t.before.queue ≡ ws → FollowsAll (try_put a.setup res) a b
    by [] is =
        let left : t.after ≡ record (t.before) { spare = t.after.spare } = t.leaves ∙ ap (λ vs. record ((attempt_at vs a.happen.time t.before).desk) { spare = t.after.spare }) is in
        turns_all_as (λ f. f) (try_put a.setup res) as_before a b (λ f h. sym (tried_empty a f res t.before h t.there is))
        (subst (FollowsAll (λ f. f) a) (sym t.rest) (room_follows a res t.before t.after t.there left))
    by (w ∷ rest) is = given (grant_of (resource_of t.before) w.key t.before.users) refl
      where
        same_answer : (g : machine.Grant) → grant_of (resource_of t.before) w.key t.before.users ≡ g
            → (attempt_by g w rest a.happen.time t.before).answer ≡ grant.None
        same_answer g has = ap (λ (x : Attempt). x.answer) (sym (attempt_by_first a.happen.time t.before w rest g is has)) ∙ sym t.answers

        given : (g : machine.Grant) → grant_of (resource_of t.before) w.key t.before.users ≡ g → FollowsAll (try_put a.setup res) a b
        given NoSlot has =
            turns_all_as (λ f. f) (try_put a.setup res) as_before a b (λ f h. sym (tried_first a f res t.before w rest NoSlot h t.there is has))
            (subst (FollowsAll (λ f. f) a) (sym t.rest) (room_follows a res t.before t.after t.there (left_by a.happen.time t.before t.after w rest NoSlot is has t.leaves)))
        given FreeSlot has = absurd (other_answer w.request (same_answer FreeSlot has))
          where
            other_answer : (e : EventId) → grant.Granted e ≡ grant.None → ⊥
            other_answer e h = cc
        given (SlotOf u) has = absurd (other_answer w.request u (same_answer (SlotOf u) has))
          where
            other_answer : (e : EventId) (v : User) → grant.Preempted e v.request v.process v.since ≡ grant.None → ⊥
            other_answer e v h = cc
