-- A process that triggers an event keeps the state lawful, whether the event is pending or not.
use Rattle.std.proofs.Common.{◌≡◌, ℤ, true, false, List, Some, refl}
use Rattle.sim_types.specs.declared.event.EventId.{EventId}
use Rattle.sim_types.specs.declared.event.ProcId.{ProcId}
use Rattle.sim_types.specs.declared.event.Outcome.{Outcome}
use Rattle.sim_types.specs.declared.event.Callback.{Callback}
use Rattle.sim_types.specs.declared.event.Signal.{Signal}
use Rattle.sim_types.specs.declared.event.Outcome.TheVariants as outcome
use Rattle.sim_types.specs.declared.event.Signal.TheVariants as signal
use Rattle.sim_types.specs.declared.op.Op.{Op}
use Rattle.sim_types.specs.declared.op.Op.TheVariants as op
use Rattle.sim_machine.specs.State.{ProcessOf, State, Plan}
use Rattle.sim_machine.specs.Events.{is_pending}
use Rattle.sim_machine.specs.Triggering.{trigger}
use Rattle.sim_machine.specs.Scopes.{on_events}
use Rattle.sim_machine.specs.Processes.{with_body, tell as told}
use Rattle.sim_machine.specs.Effect.{calendar, raise, trigger_pending}
use Rattle.sim_machine.specs.Steps.{polled}
use Rattle.sim_machine.specs.Tellings.{Telling, CodeFacts}
use Rattle.sim_machine.specs.MayAsk.{is_known_event}
use Rattle.sim_machine.specs.MayFollow.{is_enter, may_follow}
use Rattle.sim_machine.specs.Setups.{FitsCode}
use Rattle.sim_machine.specs.LawfulChains.{is_triggered_kind}
use Rattle.sim_machine_law.proofs.KeptParts.KeptTimesCases.{if_cases}
use Rattle.sim_machine_law.proofs.Events.ChangedCalendars.{AsksFor, HasAsked}
use Rattle.sim_lawful.proofs.Calendars.ReplacedCalendars.{replace_triggered}
use Rattle.sim_lawful.proofs.Polls.KnownEvents.{IsMadeOf, known_event_made}
use Rattle.sim_lawful.proofs.Polls.ToldAnswers.{lawful_done, lawful_raised}
use Rattle.sim_machine_law.proofs.KeptParts.LawfulBasis.{LawfulBasis}

-- an event that the body may trigger gets this outcome, if it is pending
triggers : {B : Type 0} (g : Plan B) (tell : Telling B) (sound : B → Type 0) (s : State B) (f : CodeFacts) (e : EventId)
    (left : List Callback) (p : ProcId) (x : Signal) (y : ProcessOf B) (b : B) (o : Op) (n : EventId) (result : Outcome)
    → FitsCode f g.setup → HasAsked g tell sound s f e left p x y b o → is_enter (Some o) ≡ false
    → may_follow o signal.Done ≡ true → may_follow o (signal.Raised 3) ≡ true → is_known_event f (tell.places b) n ≡ true
    → LawfulBasis g tell sound (trigger_pending n result (with_body p b s))
triggers {B} g tell sound s f e left p x y b o n result fits h not_enters done raises known =
    let r : State B = with_body p b s in
    let is : IsMadeOf is_triggered_kind (calendar s) n = known_event_made g tell sound s f e left p x y b o n fits h known in
    if_cases (LawfulBasis g tell sound) (is_pending (calendar s) n) (told signal.Done (on_events (trigger n result) r)) (raise 3 r)
    (λ pending. lawful_done g tell sound s f e left p x y b o (trigger n result) h (replace_triggered g tell sound s n result is.made is.kind pending h.lawful) not_enters done)
    (λ turned. lawful_raised g tell sound s f e left p x y b o 3 h not_enters raises)

module _ {B : Type 0} (g : Plan B) (tell : Telling B) (sound : B → Type 0) (s : State B) (f : CodeFacts) (e : EventId) (left : List Callback) (p : ProcId) (x : Signal) (y : ProcessOf B) (b : B) where
  pub lawful-polled_succeed : (n : EventId) (value : ℤ) → FitsCode f g.setup
      → AsksFor g tell sound s f e left p x y b (op.Succeed n value)
      → LawfulBasis g tell sound (polled g p (op.Succeed n value) b s)
  lawful-polled_succeed n value fits asks =
      let o : Op = op.Succeed n value in
      let asked : HasAsked g tell sound s f e left p x y b o = record { active = asks.active; found = asks.found; is_sound = asks.is_sound; lawful = asks.lawful; poll = asks.poll; scopes = asks.poll.scopes } in
      triggers g tell sound s f e left p x y b o n (outcome.Ok value) fits asked refl refl refl asks.poll.asks

  pub lawful-polled_fail : (n : EventId) (code : ℤ) → FitsCode f g.setup
      → AsksFor g tell sound s f e left p x y b (op.Fail n code) → LawfulBasis g tell sound (polled g p (op.Fail n code) b s)
  lawful-polled_fail n code fits asks =
      let o : Op = op.Fail n code in
      let asked : HasAsked g tell sound s f e left p x y b o = record { active = asks.active; found = asks.found; is_sound = asks.is_sound; lawful = asks.lawful; poll = asks.poll; scopes = asks.poll.scopes } in
      triggers g tell sound s f e left p x y b o n (outcome.Fail (record { kind = 3; value = code })) fits asked refl refl refl asks.poll.asks
