-- A request is released: its use ends, and the event of the release succeeds. A process that releases keeps the state
-- lawful.
use Rattle.std.proofs.Common.{◌≡◌, ◌≢◌, ℕ, ◌<◌, pos, true, false, length, List, Option, Some, None, refl, sym, subst, ap, ◌∙◌, All}
use Rattle.std.specs.Prelude.{is_none, find, slice_index_or}
use Rattle.std.proofs.lemmas.Bool.{both_ways}
use Rattle.std.proofs.lemmas.List.Elements.{All-nil}
use Rattle.sim_types.specs.declared.event.EventId.{EventId}
use Rattle.sim_types.specs.declared.event.ProcId.{ProcId}
use Rattle.sim_types.specs.declared.event.Callback.{Callback}
use Rattle.sim_types.specs.declared.event.Signal.{Signal}
use Rattle.sim_types.specs.declared.event.EventKind.TheVariants as kind
use Rattle.sim_types.specs.declared.event.Outcome.TheVariants as outcome
use Rattle.sim_types.specs.declared.event.Callback.TheVariants as callback
use Rattle.sim_types.specs.declared.event.Signal.TheVariants as signal
use Rattle.sim_types.specs.declared.op.Op.{Op}
use Rattle.sim_types.specs.declared.op.Op.TheVariants as op
use Rattle.sim_types.specs.declared.setup.Resource.{Resource}
use Rattle.sim_machine.specs.State.{EventOf, Calendar, User, Deed, Released, Facilities, OpenScope, ProcessOf, Active, State, Plan}
use Rattle.sim_machine.specs.Events.{is_same, event_at, pending_event, next_event}
use Rattle.sim_machine.specs.Triggering.{succeed}
use Rattle.sim_machine.specs.Users.{users}
use Rattle.sim_machine.specs.Trying.{on_calendar, write_deed}
use Rattle.sim_machine.specs.Requests.{is_user, make_release}
use Rattle.sim_machine.specs.Scopes.{on_facilities, on_events, release_if_any}
use Rattle.sim_machine.specs.Processes.{process_at, with_body, tell as told}
use Rattle.sim_machine.specs.Effect.{calendar}
use Rattle.sim_machine.specs.Steps.{polled}
use Rattle.sim_machine.specs.Tellings.{Telling, CodeFacts}
use Rattle.sim_machine.specs.MayFollow.{may_follow, is_enter}
use Rattle.sim_machine.specs.BodyLaw.{IsLawfulPoll}
use Rattle.sim_machine.specs.LawfulProcesses.{is_process_kind}
use Rattle.sim_machine.specs.LawfulInterruptions.{is_interrupt_kind}
use Rattle.sim_machine.specs.LawfulWaiting.{has_scope}
use Rattle.sim_machine.specs.LawfulCapacities.{is_in_use}
use Rattle.sim_machine_law.proofs.Events.EventLaws.{make-new, is_same-self}
use Rattle.sim_machine_law.proofs.KeptParts.KeptTimesCases.{if_cases}
use Rattle.sim_machine_law.proofs.Events.ChangedCalendars.{HasAsked}
use Rattle.sim_lawful.proofs.Calendars.ReplacedCalendars.{replace_same}
use Rattle.sim_lawful.proofs.Polls.ToldAnswers.{lawful_done}
use Rattle.sim_lawful.proofs.Facilities.ChangedQueues.{lawful_triggered, lawful_deed}
use Rattle.sim_machine_law.proofs.Ledger.LedgerSteps.{users_after, users_without}
use Rattle.sim_lawful.proofs.Ledger.LedgerLaws.{capacities_deed, plain_fits}
use Rattle.sim_lawful.proofs.Waiting.PolledCancel.{none_fails}
use Rattle.sim_lawful.proofs.Waiting.JoinedQueues.{with_new, lawful_new, new_made, waits_for_older, try_put_calls_nobody}
use Rattle.sim_machine_law.proofs.KeptParts.LawfulBasis.{LawfulBasis}

-- a use that ends leaves a lawful state
pub lawful_end_written : {B : Type 0} (g : Plan B) (tell : Telling B) (sound : B → Type 0) (s : State B) (res : ℕ)
    (request : EventId) → LawfulBasis g tell sound s
    → LawfulBasis g tell sound (on_facilities (write_deed (Released res request)) s)
lawful_end_written g tell sound s res request l =
    let rs : List Resource = g.setup.resources in
    let deed : Deed = Released res request in
    lawful_deed g tell sound s deed l
    (λ n. users_after (λ (v : User). has_scope s.scopes v.request v.process n ≡ true) n deed s.facilities.ledger (l.waiting.using n) (All-nil (λ (v : User). has_scope s.scopes v.request v.process n ≡ true)))
    (capacities_deed rs s.facilities deed (plain_fits rs s.facilities deed (λ n. refl) (λ n. refl) (λ n. refl) l.capacities) (λ n. All-nil (λ (v : User). is_in_use (calendar s) v ≡ true)) l.capacities)

-- the release, once its event was made
released_after : {B : Type 0} (g : Plan B) (tell : Telling B) (sound : B → Type 0) (s : State B) (e : EventId)
    → LawfulBasis g tell sound s → e.0 < length (calendar s).events → (event_at (calendar s) e) ≡ pending_event kind.Release
    → All (λ v. v.event.0 ≢ e.0) s.facilities.waiters → LawfulBasis g tell sound (on_events (succeed e (pos 0)) s)
released_after g tell sound s e l made is apart =
    lawful_triggered g tell sound s e (outcome.Ok (pos 0)) l made (ap (λ (z : EventOf). is_none z.outcome) is) (ap (λ (z : EventOf). is_process_kind z.kind) is) (ap (λ (z : EventOf). is_interrupt_kind z.kind) is) apart

-- the facilities once a request was released: it is a user no longer, unless it was one elsewhere
pub record IsReleasedWell {B : Type 0} (g : Plan B) (tell : Telling B) (sound : B → Type 0) (s : State B) (res : ℕ) (request : EventId) (f : Facilities) : Type 0 where
  pub lawful : LawfulBasis g tell sound (record s { facilities = f })
  pub waiters : f.waiters ≡ s.facilities.waiters
  pub uses_not : (n : ℕ) → All (λ (u : User). u.request ≡ request → n ≡ res) (users n s.facilities.ledger)
      → All (λ (u : User). u.request ≢ request) (users n f.ledger)

pub lawful_released : {B : Type 0} (g : Plan B) (tell : Telling B) (sound : B → Type 0) (s : State B) (res : ℕ)
    (request : EventId) → LawfulBasis g tell sound s
    → IsReleasedWell g tell sound s res request (make_release res request s.facilities)
lawful_released {B} g tell sound s res request l =
    let c : Calendar = calendar s in
    let e : EventId = next_event c in
    let x : Callback = callback.TryPut res in
    let t : State B = on_events (with_new kind.Release x) s in
    let new : LawfulBasis g tell sound t = lawful_new g tell sound s kind.Release x refl (try_put_calls_nobody res) l in
    let apart : All (λ v. v.event.0 ≢ e.0) s.facilities.waiters = waits_for_older g tell sound s l in
    let made : e.0 < length (calendar t).events = new_made kind.Release x c in
    if_cases (λ f. IsReleasedWell g tell sound s res request (on_calendar (succeed e (pos 0)) f)) (is_user res request t.facilities) (write_deed (Released res request) t.facilities) t.facilities
    (λ uses. record {
      lawful = released_after g tell sound (on_facilities (write_deed (Released res request)) t) e (lawful_end_written g tell sound t res request new) made (make-new kind.Release c) apart;
      waiters = refl;
      uses_not = λ n there. users_without n res request s.facilities.ledger;
    })
    (λ none. record {
      lawful = released_after g tell sound t e new made (make-new kind.Release c) apart;
      waiters = refl;
      uses_not = λ n there i u at same.
          let here : All (λ (v : User). is_same v.request request ≡ false) (users n s.facilities.ledger) = subst (λ (m : ℕ). All (λ (v : User). is_same v.request request ≡ false) (users m s.facilities.ledger)) (sym (there i u at same)) (none_fails (λ (v : User). is_same v.request request) (users res s.facilities.ledger) none) in
          both_ways (is_same (slice_index_or (users n s.facilities.ledger) i u).request request) (here i u at) (ap (λ (r : EventId). is_same r request) same ∙ is_same-self request);
    })

-- whichever scope is found
released_well : {B : Type 0} (g : Plan B) (tell : Telling B) (sound : B → Type 0) (s : State B) (f : CodeFacts) (e : EventId)
    (left : List Callback) (p : ProcId) (x : Signal) (y : ProcessOf B) (b : B) (o : Op) (scope : Option OpenScope)
    → HasAsked g tell sound s f e left p x y b o → is_enter (Some o) ≡ false → may_follow o signal.Done ≡ true
    → LawfulBasis g tell sound (told signal.Done (release_if_any scope (with_body p b s)))
released_well g tell sound s f e left p x y b o None h not_enters follows =
    lawful_done g tell sound s f e left p x y b o (λ c. c) h (replace_same g tell sound s h.lawful) not_enters follows
released_well {B} g tell sound s f e left p x y b o (Some z) h not_enters follows =
    let t : State B = on_facilities (make_release z.res z.request) s in
    let l : LawfulBasis g tell sound t = (lawful_released g tell sound s z.res z.request h.lawful).lawful in
    let asked : HasAsked g tell sound t f e left p x y b o = record { active = h.active; found = h.found; is_sound = h.is_sound; lawful = l; poll = h.poll; scopes = h.scopes } in
    lawful_done g tell sound t f e left p x y b o (λ c. c) asked (replace_same g tell sound t l) not_enters follows

pub lawful-polled_release : {B : Type 0} (g : Plan B) (tell : Telling B) (sound : B → Type 0) (s : State B) (f : CodeFacts)
    (e : EventId) (left : List Callback) (p : ProcId) (x : Signal) (y : ProcessOf B) (b : B) (request : EventId)
    → s.control ≡ Active e left p x → process_at p s ≡ Some y → sound b → LawfulBasis g tell sound s
    → IsLawfulPoll f tell y.body x (op.Release request) b → LawfulBasis g tell sound (polled g p (op.Release request) b s)
lawful-polled_release g tell sound s f e left p x y b request active found sb h poll =
    let o : Op = op.Release request in
    let asked : HasAsked g tell sound s f e left p x y b o = record { active = active; found = found; is_sound = sb; lawful = h; poll = poll; scopes = poll.scopes } in
    released_well g tell sound s f e left p x y b o (find (λ z. is_same z.request request) s.scopes) asked refl refl
