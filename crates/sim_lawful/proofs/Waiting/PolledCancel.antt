-- What waits at a resource may be cancelled: the state stays lawful, and nothing waits for it any more.
use Rattle.std.proofs.Common.{◌≡◌, ◌≢◌, ℕ, Bool, true, false, ◌||◌, List, [], ◌∷◌, refl, sym, ap, ◌∙◌, All, ⊎_elim}
use Rattle.std.specs.Prelude.{slice_index_or}
use Rattle.std.specs.List.{list_any}
use Rattle.std.proofs.lemmas.Bool.{false≢true, or_cases, both_ways}
use Rattle.std.proofs.lemmas.List.Elements.{All-head, All-tail, All-cons, All-nil}
use Rattle.sim_types.specs.declared.event.EventId.{EventId}
use Rattle.sim_types.specs.declared.event.ProcId.{ProcId}
use Rattle.sim_types.specs.declared.event.Callback.{Callback}
use Rattle.sim_types.specs.declared.event.Signal.{Signal}
use Rattle.sim_types.specs.declared.op.Op.{Op}
use Rattle.sim_types.specs.declared.op.Op.TheVariants as op
use Rattle.sim_machine.specs.State.{Calendar, Waiter, Facilities, ProcessOf, State, Plan}
use Rattle.sim_machine.specs.Events.{is_same, cancel_event}
use Rattle.sim_machine.specs.Trying.{on_calendar, unqueue}
use Rattle.sim_machine.specs.Requests.{waits, cancel}
use Rattle.sim_machine.specs.Scopes.{on_facilities}
use Rattle.sim_machine.specs.Effect.{calendar}
use Rattle.sim_machine.specs.Steps.{polled}
use Rattle.sim_machine.specs.Tellings.{Telling, CodeFacts}
use Rattle.sim_machine_law.proofs.Events.EventLaws.{is_same-self}
use Rattle.sim_machine_law.proofs.KeptParts.KeptTimesCases.{if_cases}
use Rattle.sim_machine_law.proofs.Events.ChangedCalendars.{AsksFor, HasAsked}
use Rattle.sim_lawful.proofs.Calendars.ReplacedCalendars.{replace_same}
use Rattle.sim_lawful.proofs.Polls.ToldAnswers.{lawful_done}
use Rattle.sim_lawful.proofs.Facilities.ChangedQueues.{lawful_unqueued, lawful_cancels}
use Rattle.sim_lawful.proofs.Waiting.ServedWaiters.{unqueued_apart}
use Rattle.sim_machine_law.proofs.KeptParts.LawfulBasis.{LawfulBasis}

-- what follows from one that passes follows where any passes
pub any_gives : {X : Type 0} (P : X → Type 0) (Q : Type 0) (test : X → Bool) (xs : List X)
    → ((x : X) → P x → test x ≡ true → Q) → All P xs → list_any test xs ≡ true → Q
any_gives P Q test [] at h some = absurd (false≢true some)
any_gives P Q test (x ∷ xs) at h some =
    ⊎_elim (λ here. at x (All-head P x xs h) here) (λ later. any_gives P Q test xs at (All-tail P x xs h) later) (or_cases (test x) (list_any test xs) some)

-- where none passes, all fail
pub none_fails : {X : Type 0} (test : X → Bool) (xs : List X) → list_any test xs ≡ false → All (λ x. test x ≡ false) xs
none_fails test [] h = All-nil (λ x. test x ≡ false)
none_fails test (x ∷ xs) h =
    All-cons (λ x. test x ≡ false) x xs (first (test x) (list_any test xs) h) (none_fails test xs (rest (test x) (list_any test xs) h))
  where
    first : (a b : Bool) → (a || b) ≡ false → a ≡ false
    first true b h = h
    first false b h = refl

    rest : (a b : Bool) → (a || b) ≡ false → b ≡ false
    rest true b h = absurd (false≢true (sym h))
    rest false b h = h

-- ---- facilities where something was cancelled

-- it is lawful, and nothing waits for the event
pub record IsLeftAlone {B : Type 0} (g : Plan B) (tell : Telling B) (sound : B → Type 0) (s : State B) (e : EventId) (f : Facilities) : Type 0 where
  pub lawful : LawfulBasis g tell sound (record s { facilities = f })
  pub alone : All (λ w. w.event.0 ≢ e.0) f.waiters

pub lawful_cancelled : {B : Type 0} (g : Plan B) (tell : Telling B) (sound : B → Type 0) (s : State B) (e : EventId)
    → LawfulBasis g tell sound s → IsLeftAlone g tell sound s e (cancel e s.facilities)
lawful_cancelled {B} g tell sound s e l =
    let c : Calendar = calendar s in
    let f : Facilities = s.facilities in
    let t : State B = on_facilities (unqueue e) s in
    let apart : All (λ w. w.event.0 ≢ e.0) t.facilities.waiters = unqueued_apart e f.waiters in
    if_cases (IsLeftAlone g tell sound s e) (waits e f) (on_calendar (cancel_event e) (unqueue e f)) f
    (λ is. record { lawful = lawful_cancels g tell sound t e (lawful_unqueued g tell sound s e l) apart; alone = apart })
    (λ none. record { lawful = l; alone = λ n w below same. differs (slice_index_or f.waiters n w) (none_fails (λ (v : Waiter). is_same v.event e) f.waiters none n w below) same })
  where
    differs : (w : Waiter) → is_same w.event e ≡ false → w.event.0 ≡ e.0 → ⊥
    differs w apart same = both_ways (is_same w.event e) apart (ap (λ (n : ℕ). is_same (record { 0 = n }) e) same ∙ is_same-self e)

module _ {B : Type 0} (g : Plan B) (tell : Telling B) (sound : B → Type 0) (s : State B) (f : CodeFacts) (e : EventId) (left : List Callback) (p : ProcId) (x : Signal) (y : ProcessOf B) (b : B) where
  pub lawful-polled_cancel : (n : EventId) → AsksFor g tell sound s f e left p x y b (op.Cancel n) → LawfulBasis g tell sound (polled g p (op.Cancel n) b s)
  lawful-polled_cancel n asks =
      let o : Op = op.Cancel n in
      let t : State B = on_facilities (cancel n) s in
      let l : LawfulBasis g tell sound t = (lawful_cancelled g tell sound s n asks.lawful).lawful in
      let asked : HasAsked g tell sound t f e left p x y b o = record { active = asks.active; found = asks.found; is_sound = asks.is_sound; lawful = l; poll = asks.poll; scopes = asks.poll.scopes } in
      lawful_done g tell sound t f e left p x y b o (λ c. c) asked (replace_same g tell sound t l) refl refl
