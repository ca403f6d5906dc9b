-- A user whose slot is taken by the request that is tried.
use Rattle.std.proofs.Common.{◌≡◌, ◌≢◌, ℕ, ℤ, pos, true, List, ◌∷◌, refl, sym, subst, ap, ◌∙◌, Some, arith}
use Rattle.std.specs.Prelude.{slice_get, slice_set, AllPairs}
use Rattle.std.specs.List.{list_any}
use Rattle.std.proofs.lemmas.Bool.{or_left, or_right}
use Rattle.std.proofs.lemmas.List.{append-nil, set-set}
use Rattle.std.proofs.lemmas.List.Folds.{list_any-append}
use Rattle.sim_types.specs.Throws.{preemption}
use Rattle.sim_types.specs.declared.event.EventId.{EventId}
use Rattle.sim_types.specs.declared.event.ProcId.{ProcId}
use Rattle.sim_types.specs.declared.event.Throw.{Throw}
use Rattle.sim_machine.specs.State.{EventOf, User, Deed, Preempted, Facilities}
use Rattle.sim_machine.specs.Events.{next_event}
use Rattle.sim_machine.specs.LawfulLedger.{ServeApart}
use Rattle.sim_machine.specs.Users.{users, items}
use Rattle.sim_machine.specs.Attempts.{SlotOf}
use Rattle.sim_machine.specs.Triggering.{succeed, make_interruption}
use Rattle.sim_machine.specs.Trying.{on_calendar, write_deed, try_put}
use Rattle.sim_machine_law.specs.Desks.{IsLastServed}
use Rattle.sim_machine_law.proofs.Events.EventLaws.{is_same-self}
use Rattle.sim_machine_law.proofs.Requests.GrantedSlots.{takes_slot_of}
use Rattle.sim_machine_law.proofs.Ledger.LedgerSteps.{items_step, all_stay}
use Rattle.sim_machine_law.proofs.Processes.MadeInterruption.{length-interrupted, other-interrupted}
use Rattle.sim_machine_law.proofs.Ledger.UsersOfDeeds.{users_left}
use Rattle.sim_happen_model.specs.TableOf.{IsKept, kept_at}
use Rattle.sim_happen_model.specs.HappenOf.{HappenOf, IsOpen, as_before, unheld_event}
use Rattle.sim_happen_model.specs.Seen.{seen}
use Rattle.sim_happen_model.specs.Shows.{Turns}
use Rattle.sim_happen_law.proofs.Changes.Following.{event_then}
use Rattle.sim_happen_law.proofs.Shown.KeptPlaces.{kept_made}
use Rattle.sim_happen_law.proofs.Conditions.MadeConditions.{kept_beside}
use Rattle.sim_happen_law.proofs.Shown.SeenShown.{event_seen, shows_seen}
use Rattle.sim_shared_model.specs.declared.desk.Grant.{Grant}
use Rattle.sim_shared_model.specs.declared.desk.Grant.TheVariants as grant
use Rattle.sim_shared_model.specs.declared.desk.WaitingRequest.{WaitingRequest}
use Rattle.sim_shared_model.specs.DeskOf.{DeskOf, resource_of}
use Rattle.sim_shared_model.specs.Attempts.{IsPreempting, users_but}
use Rattle.sim_shared_model.proofs.Attempting.{preempted_told}
use Rattle.sim_shared_model.proofs.LeftOut.{none_any}
use Rattle.sim_shared_model.specs.declared.resource.AnyResource.TheVariants.{Desk}
use Rattle.sim_shared_model.specs.SharedOf.{SharedOf}
use Rattle.sim_shared_model.specs.ShowsAll.{ShowsAll, TurnsAll, FollowsAll}
use Rattle.sim_shared_model.specs.Waiting.{AreAllOpen}
use Rattle.sim_shared_model.specs.Granting.{TriesDesk, preempted_since, interrupted_for}
use Rattle.sim_shared_law.proofs.Shown.FollowingFacilities.{turns_all_then, turns_all_as, turns_on_calendar}
use Rattle.sim_shared_law.proofs.Desks.GrantedSlots.{ServesFirst, become_user, new_user_shown, first_served}
use Rattle.sim_shared_law.proofs.Desks.TriedDesks.{left_by, tried_first, tried_open}
use Rattle.sim_shared_law.proofs.Shown.ReleasedSlots.{uses, users_elsewhere}
use Rattle.sim_shared_law.proofs.Shown.ResourcePlaces.{got_set}
use Rattle.sim_shared_law.proofs.Desks.ServedWaiters.{StaysAt, writes_nothing, written_at}

-- ---- the victim

-- the one that is preempted is a user
victim_uses : (us : List User) (u : User) → IsLastServed us u → list_any (uses u.request) us ≡ true
victim_uses us u last =
    subst (λ (vs : List User). list_any (uses u.request) vs ≡ true) (sym last.stands)
    (list_any-append (uses u.request) last.granted_before (u ∷ last.granted_after)
    ∙ or_right (list_any (uses u.request) last.granted_before) (list_any (uses u.request) (u ∷ last.granted_after))
    (or_left (uses u.request u) (list_any (uses u.request) last.granted_after) (is_same-self u.request)))

-- the deed is nothing to another resource
preempted_stays : (res n : ℕ) (r : EventId) (ledger : List Deed) → n ≢ res → AllPairs ServeApart ledger → list_any (uses r) (users res ledger) ≡ true
    → StaysAt n (Preempted res r) ledger
preempted_stays res n r ledger other once uses_it = record {
  users_stay = users_left n res r ledger ∙ none_any (uses r) (users n ledger) (users_elsewhere r res n ledger (λ same. other (sym same)) once uses_it);
  items_stay = items_step n (Preempted res r) ledger ∙ (append-nil _ ∙ all_stay (items n ledger));
  level_stays = refl;
}

-- the victim is a user no longer; all else stays
abbrev pub lose_slot : ℕ → User → Facilities → Facilities
lose_slot res u f = write_deed (Preempted res u.request) f

pub lost_slot_shown : (a : SharedOf) (f : Facilities) (res : ℕ) (u : User) (d : DeskOf) → ShowsAll a f → slice_get a.resources res ≡ Some (Desk d)
    → IsLastServed d.users u
    → ShowsAll (record a { resources = slice_set a.resources res (Desk (record d { users = users_but u.request d.users })) }) (lose_slot res u f)
lost_slot_shown a f res u d h there last =
    let shown = h.resources res (Desk d) there in
    let uses_it : list_any (uses u.request) (users res f.ledger) ≡ true = subst (λ us. list_any (uses u.request) us ≡ true) shown.users (victim_uses d.users u last) in
    written_at a f res (Desk d) (Desk (record d { users = users_but u.request d.users })) (Preempted res u.request) h there refl
    (writes_nothing (Preempted res u.request) f refl) (λ n other. preempted_stays res n u.request f.ledger other h.tidy.ledger.once uses_it)
    (record {
      queue = shown.queue;
      gets = shown.gets;
      users = ap (users_but u.request) shown.users ∙ sym (users_left res res u.request f.ledger);
    })

-- the first is a user in the victim's place
pub taken_slot_shown : (a : SharedOf) (f : Facilities) (res : ℕ) (w : WaitingRequest) (u : User) (d k : DeskOf) → ShowsAll a f
    → slice_get a.resources res ≡ Some (Desk d) → IsLastServed d.users u
    → ServesFirst f.calendar.time w (record d { users = users_but u.request d.users }) k
    → ShowsAll (record a { resources = slice_set a.resources res (Desk k) }) (become_user res w (lose_slot res u f))
taken_slot_shown a f res w u d k h there last serves =
    let m : DeskOf = record d { users = users_but u.request d.users } in
    let b : SharedOf = record a { resources = slice_set a.resources res (Desk m) } in
    subst (λ xs. ShowsAll (record a { resources = xs }) (become_user res w (lose_slot res u f))) (set-set a.resources res (Desk m) (Desk k))
    (new_user_shown b (lose_slot res u f) res w m k (lost_slot_shown a f res u d h there last) (got_set a.resources res (Desk d) (Desk m) there) serves)

-- ---- the interruption

-- what is open is so once a process is interrupted
pub open_interrupted : (p : ProcId) (what : Throw) (a b : HappenOf) (e : EventId) → Turns (make_interruption p what) unheld_event a b → IsOpen a e → IsOpen b e
open_interrupted p what a b e t o =
    let kept : IsKept b.events e = kept_beside a b e t.held o.kept in
    let old : e.0 ≢ (next_event (seen a)).0 = omega (arith, kept_made a.events e o.kept, (shows_seen a).made) in
    let same : (kept_at b.events e).event ≡ (kept_at a.events e).event =
    event_then (make_interruption p what) unheld_event a b e t kept ∙ (other-interrupted p what (seen a) e old ∙ sym (event_seen a e)) in
    record {
      kept = kept;
      pending = ap (λ (x : EventOf). x.outcome) same ∙ o.pending;
      not_cancelled = ap (λ (x : EventOf). x.cancelled) same ∙ o.not_cancelled;
    }

-- a process is told since when its request was a user
pub told_follows : (p : ProcId) (since given : ℤ) (a : SharedOf) (x : HappenOf) → given ≡ since
    → Turns (make_interruption p (record { kind = preemption; value = given })) unheld_event a.happen x
    → TurnsAll (on_calendar (make_interruption p (preempted_since since))) unheld_event a (record a { happen = x })
told_follows p since given a x same t =
    turns_on_calendar (make_interruption p (preempted_since since)) unheld_event a x (λ c. omega (arith, length-interrupted p (preempted_since since) c))
    (subst (λ n. Turns (make_interruption p (preempted_since n)) unheld_event a.happen x) same t)

-- and then the request succeeds
pub interrupted_follows : (request : EventId) (p : ProcId) (since : ℤ) (a b g : SharedOf)
    → TurnsAll (on_calendar (make_interruption p (preempted_since since))) unheld_event a b
    → FollowsAll (on_calendar (succeed request (pos 0))) b g → TurnsAll (on_calendar (interrupted_for request p since)) unheld_event a g
interrupted_follows request p since a b g t s =
    turns_all_then (on_calendar (make_interruption p (preempted_since since))) (on_calendar (succeed request (pos 0))) unheld_event as_before a b g t s

-- ---- the call

pub preempted_open : (a b : SharedOf) (res : ℕ) (request victim : EventId) (process : ProcId) (since : ℤ)
    → TriesDesk res (grant.Preempted request victim process since) a b → AreAllOpen a → IsOpen b.happen request
preempted_open a b res request victim process since t all =
    let answer : Grant = grant.Preempted request victim process since in
    let told : IsPreempting request victim process since t.before = preempted_told a.happen.time t.before request victim process since (sym t.answers) in
    subst (IsOpen b.happen) (sym told.request) (tried_open a b res answer told.first.first told.first.rest t told.first.queue all)

-- a request that was given a user's slot succeeds after that user's process was interrupted
pub preempted_follows : (a b g : SharedOf) (res : ℕ) (request victim : EventId) (process : ProcId) (since : ℤ)
    → TriesDesk res (grant.Preempted request victim process since) a b
    → TurnsAll (on_calendar (interrupted_for request process since)) unheld_event b g → TurnsAll (try_put a.setup res) unheld_event a g
preempted_follows a b g res request victim process since t s =
    let told : IsPreempting request victim process since t.before = preempted_told a.happen.time t.before request victim process since (sym t.answers) in
    let w : WaitingRequest = told.first.first in
    let u : User = told.user in
    let last : IsLastServed t.before.users u = (takes_slot_of (resource_of t.before) w.key t.before.users u told.first.given).last in
    let serves : ServesFirst a.happen.time w (record (t.before) { users = users_but u.request t.before.users }) t.after =
    first_served a.happen.time w told.first.rest (users_but u.request t.before.users) t.before t.after told.first.queue
    (left_by a.happen.time t.before t.after w told.first.rest (SlotOf u) told.first.queue told.first.given t.leaves) in
    turns_all_as (λ f. on_calendar (interrupted_for request process since) (become_user res w (lose_slot res u f))) (try_put a.setup res) unheld_event a g
    (λ f h. ap (λ (e : EventId). on_calendar (interrupted_for e process since) (become_user res w (lose_slot res u f))) told.request
    ∙ (ap (λ (p : ProcId). on_calendar (interrupted_for w.request p since) (become_user res w (lose_slot res u f))) told.process
    ∙ (ap (λ (n : ℤ). on_calendar (interrupted_for w.request u.process n) (become_user res w (lose_slot res u f))) told.since
    ∙ sym (tried_first a f res t.before w told.first.rest (SlotOf u) h t.there told.first.queue told.first.given))))
    (turns_all_then (λ f. become_user res w (lose_slot res u f)) (on_calendar (interrupted_for request process since)) as_before unheld_event a b g
    (subst (FollowsAll (λ f. become_user res w (lose_slot res u f)) a) (sym t.rest) (record {
      each = λ f h. taken_slot_shown a f res w u t.before t.after h t.there last
          (subst (λ time. ServesFirst time w (record (t.before) { users = users_but u.request t.before.users }) t.after) h.calendar.time serves);
      held = refl;
      left = refl;
      setup = refl;
    })) s)
