-- A request that is granted a slot.
use Rattle.std.proofs.Common.{◌≡◌, ◌≢◌, ℕ, ℤ, pos, inl, List, [], ◌∷◌, ◌++◌, length, refl, sym, subst, ap, ◌∙◌, Some}
use Rattle.std.specs.Prelude.{slice_get, slice_set}
use Rattle.std.proofs.lemmas.List.{append-nil}
use Rattle.sim_types.specs.declared.event.EventId.{EventId}
use Rattle.sim_types.specs.declared.setup.Resource.{Resource}
use Rattle.sim_machine.specs.State.{User, Deed, Granted, Facilities}
use Rattle.sim_machine.specs.Users.{items, put_queue}
use Rattle.sim_machine.specs.Attempts.{FreeSlot}
use Rattle.sim_machine.specs.Triggering.{succeed}
use Rattle.sim_machine.specs.Trying.{on_calendar, write_deed, unqueue, try_put}
use Rattle.sim_machine_law.proofs.Events.EventLaws.{is_same-yes}
use Rattle.sim_machine_law.proofs.Ledger.LedgerSteps.{items_step, all_stay}
use Rattle.sim_machine_law.proofs.Ledger.UsersOfDeeds.{users_granted, users_elsewhere}
use Rattle.sim_machine_law.proofs.Ledger.TriedQueues.{IsOneOf}
use Rattle.sim_happen_model.specs.HappenOf.{IsOpen, as_before}
use Rattle.sim_shared_model.specs.declared.desk.Grant.TheVariants as grant
use Rattle.sim_shared_model.specs.declared.desk.WaitingRequest.{WaitingRequest}
use Rattle.sim_shared_model.specs.DeskOf.{DeskOf, waiter_at, waiters_at}
use Rattle.sim_shared_model.specs.Attempts.{IsGranted, user_of, serve_first}
use Rattle.sim_shared_model.proofs.Attempting.{granted_told}
use Rattle.sim_shared_model.specs.declared.resource.AnyResource.TheVariants.{Desk}
use Rattle.sim_shared_model.specs.Resources.{declared_as}
use Rattle.sim_shared_model.specs.SharedOf.{SharedOf}
use Rattle.sim_shared_model.specs.ShowsAll.{ShowsDesk, ShowsAll, AreTidy, FollowsAll}
use Rattle.sim_shared_model.specs.Waiting.{AreAllOpen}
use Rattle.sim_shared_model.specs.Granting.{TriesDesk}
use Rattle.sim_shared_law.proofs.Shown.FollowingFacilities.{turns_all_then, turns_all_as}
use Rattle.sim_shared_law.proofs.Desks.ServedWaiters.{ServesAtMost, StaysAt, served_at, put_queue_served, gets_stay}
use Rattle.sim_shared_law.proofs.Desks.TriedDesks.{waits_first, tried_first, left_by, tried_open}

-- ---- the deed

granted_serves : (res : ℕ) (u : User) → ServesAtMost u.request (Granted res u)
granted_serves res u = λ x is. sym (is_same-yes u.request x is)

-- it is nothing to another resource
granted_stays : (res n : ℕ) (u : User) (ledger : List Deed) → n ≢ res → StaysAt n (Granted res u) ledger
granted_stays res n u ledger other = record {
  users_stay = users_elsewhere n res u ledger (λ same. other (sym same));
  items_stay = items_step n (Granted res u) ledger ∙ (append-nil _ ∙ all_stay (items n ledger));
  level_stays = refl;
}

-- ---- the desk

-- the first of the queue leaves it and is a user since now; the calendar stays
abbrev pub become_user : ℕ → WaitingRequest → Facilities → Facilities
become_user res w f = write_deed (Granted res (user_of w f.calendar.time)) (unqueue w.request f)

-- a desk at which the first is a user now
pub record ServesFirst (time : ℤ) (w : WaitingRequest) (d k : DeskOf) : Type 0 where
  pub queue : d.queue ≡ w ∷ k.queue
  pub users : k.users ≡ d.users ++ user_of w time ∷ []
  pub kind : k.kind ≡ d.kind
  pub capacity : k.capacity ≡ d.capacity

served_declared : (time : ℤ) (w : WaitingRequest) (d k : DeskOf) → ServesFirst time w d k → declared_as (Desk k) ≡ declared_as (Desk d)
served_declared time w d k s = rw (s.kind, s.capacity) refl

-- what is left once the first is served at a desk with these users
pub first_served : (time : ℤ) (w : WaitingRequest) (rest : List WaitingRequest) (us : List User) (d k : DeskOf) → d.queue ≡ w ∷ rest
    → k ≡ record (serve_first w rest us time d) { spare = k.spare } → ServesFirst time w (record d { users = us }) k
first_served time w rest us d k first left = record {
  queue = first ∙ ap (λ (x : DeskOf). w ∷ x.queue) (sym left);
  users = ap (λ (x : DeskOf). x.users) left;
  kind = ap (λ (x : DeskOf). x.kind) left;
  capacity = ap (λ (x : DeskOf). x.capacity) left;
}

new_user_here : (rs : List Resource) (n res : ℕ) (w : WaitingRequest) (d k : DeskOf) (f : Facilities) → AreTidy n f → ServesFirst f.calendar.time w d k
    → ShowsDesk rs res d f → ShowsDesk rs res k (become_user res w f)
new_user_here rs n res w d k f h s shown =
    let queue : put_queue rs res f.waiters ≡ waiter_at res w ∷ waiters_at res k.queue = sym shown.queue ∙ ap (waiters_at res) s.queue in
    let first : IsOneOf (put_queue rs res f.waiters) (waiter_at res w) = subst (λ ws. IsOneOf ws (waiter_at res w)) (sym queue) (inl refl) in
    record {
      queue = sym (put_queue_served rs n res (waiter_at res w) (waiters_at res k.queue) f h queue);
      gets = gets_stay rs n res res (waiter_at res w) f h first ∙ shown.gets;
      users = s.users ∙ (ap (λ us. us ++ user_of w f.calendar.time ∷ []) shown.users ∙ sym (users_granted res (user_of w f.calendar.time) f.ledger));
    }

-- the facilities are shown with the first as a user
pub new_user_shown : (a : SharedOf) (f : Facilities) (res : ℕ) (w : WaitingRequest) (d k : DeskOf) → ShowsAll a f → slice_get a.resources res ≡ Some (Desk d)
    → ServesFirst f.calendar.time w d k → ShowsAll (record a { resources = slice_set a.resources res (Desk k) }) (become_user res w f)
new_user_shown a f res w d k h there s =
    let u : User = user_of w f.calendar.time in
    served_at a f res (Desk d) (Desk k) w.request (Granted res u) h there (waits_first w d k.queue s.queue) (served_declared f.calendar.time w d k s)
    (granted_serves res u) (λ n other. granted_stays res n u f.ledger other)
    (new_user_here a.setup (length a.setup) res w d k f h.tidy s (h.resources res (Desk d) there))

-- ---- the call

pub granted_open : (a b : SharedOf) (res : ℕ) (request : EventId) → TriesDesk res (grant.Granted request) a b → AreAllOpen a → IsOpen b.happen request
granted_open a b res request t all =
    let told : IsGranted request t.before = granted_told a.happen.time t.before request (sym t.answers) in
    subst (IsOpen b.happen) (sym told.request) (tried_open a b res (grant.Granted request) told.first.first told.first.rest t told.first.queue all)

-- a request that was given a free slot succeeds
pub granted_follows : (a b g : SharedOf) (res : ℕ) (request : EventId) → TriesDesk res (grant.Granted request) a b
    → FollowsAll (on_calendar (succeed request (pos 0))) b g → FollowsAll (try_put a.setup res) a g
granted_follows a b g res request t s =
    let told : IsGranted request t.before = granted_told a.happen.time t.before request (sym t.answers) in
    let w : WaitingRequest = told.first.first in
    let serves : ServesFirst a.happen.time w t.before t.after =
    first_served a.happen.time w told.first.rest t.before.users t.before t.after told.first.queue
    (left_by a.happen.time t.before t.after w told.first.rest FreeSlot told.first.queue told.first.given t.leaves) in
    turns_all_as (λ f. on_calendar (succeed request (pos 0)) (become_user res w f)) (try_put a.setup res) as_before a g
    (λ f h. ap (λ (e : EventId). on_calendar (succeed e (pos 0)) (become_user res w f)) told.request
    ∙ sym (tried_first a f res t.before w told.first.rest FreeSlot h t.there told.first.queue told.first.given))
    (turns_all_then (become_user res w) (on_calendar (succeed request (pos 0))) as_before as_before a b g
    (subst (FollowsAll (become_user res w) a) (sym t.rest) (record {
      each = λ f h. new_user_shown a f res w t.before t.after h t.there (subst (λ time. ServesFirst time w t.before t.after) h.calendar.time serves);
      held = refl;
      left = refl;
      setup = refl;
    })) s)
