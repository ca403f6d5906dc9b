-- A process that asks for a timeout keeps the state lawful, whether it is made or refused.
use Rattle.std.proofs.Common.{◌≡◌, ℤ, List, Some, refl, ap, ◌∙◌}
use Rattle.sim_types.specs.declared.event.EventId.{EventId}
use Rattle.sim_types.specs.declared.event.ProcId.{ProcId}
use Rattle.sim_types.specs.declared.event.Callback.{Callback}
use Rattle.sim_types.specs.declared.event.Signal.{Signal}
use Rattle.sim_types.specs.declared.event.EventKind.TheVariants as kind
use Rattle.sim_types.specs.declared.event.Outcome.TheVariants as outcome
use Rattle.sim_types.specs.declared.op.Op.{Op}
use Rattle.sim_types.specs.declared.op.Op.TheVariants as op
use Rattle.sim_machine.specs.State.{EventOf, Calendar, ProcessOf, State, Plan}
use Rattle.sim_machine.specs.Events.{event_at, pending_event, next_event}
use Rattle.sim_machine.specs.Triggering.{make, make_timeout, normal}
use Rattle.sim_machine.specs.Processes.{wait, with_body}
use Rattle.sim_machine.specs.Effect.{calendar, tell_made}
use Rattle.sim_machine.specs.Steps.{polled}
use Rattle.sim_machine.specs.Tellings.{Telling, CodeFacts}
use Rattle.sim_machine.specs.MayFollow.{makes_kind}
use Rattle.sim_machine_law.proofs.Events.EventLaws.{make-new, change_event-keeps}
use Rattle.sim_machine_law.proofs.KeptParts.KeptTimesCases.{timeout_cases}
use Rattle.sim_machine_law.proofs.KeptParts.KeptRegistrations.{timeout_made}
use Rattle.sim_machine_law.proofs.Events.ChangedCalendars.{AsksFor, HasAsked}
use Rattle.sim_lawful.proofs.Calendars.ReplacedCalendars.{replace_timeout}
use Rattle.sim_machine.specs.Scopes.{on_events}
use Rattle.sim_machine.specs.LawfulInterruptions.{is_unheard_kind}
use Rattle.sim_machine_law.proofs.KeptParts.KeptRegistrationsCalendar.{calm_made, calm_scheduled, calm_then}
use Rattle.sim_lawful.proofs.Facilities.ChangedFacilities.{lawful_on_events}
use Rattle.sim_lawful.proofs.Polls.WaitedEvents.{lawful_waits}
use Rattle.sim_lawful.proofs.Polls.ToldAnswers.{lawful_made, lawful_raised}
use Rattle.sim_machine_law.proofs.KeptParts.LawfulBasis.{LawfulBasis}

kept_part : {X : Type 0} (part : EventOf → X) (delay value : ℤ) (c : Calendar)
    → ((z : EventOf) → part (record z { outcome = Some (outcome.Ok value) }) ≡ part z)
    → part (event_at (make_timeout delay value c) (next_event c)) ≡ part (pending_event kind.Timeout)
kept_part part delay value c keeps =
    change_event-keeps part (next_event c) (next_event c) (λ z. record z { outcome = Some (outcome.Ok value) }) (make kind.Timeout c) keeps ∙ ap part (make-new kind.Timeout c)

module _ {B : Type 0} (g : Plan B) (tell : Telling B) (sound : B → Type 0) (s : State B) (f : CodeFacts) (e : EventId) (left : List Callback) (p : ProcId) (x : Signal) (y : ProcessOf B) (b : B) where
  pub lawful-polled_timeout : (delay value : ℤ) → AsksFor g tell sound s f e left p x y b (op.Timeout delay value)
      → LawfulBasis g tell sound (polled g p (op.Timeout delay value) b s)
  lawful-polled_timeout delay value asks =
      let c : Calendar = calendar s in
      let o : Op = op.Timeout delay value in
      let asked : HasAsked g tell sound s f e left p x y b o = record { active = asks.active; found = asks.found; is_sound = asks.is_sound; lawful = asks.lawful; poll = asks.poll; scopes = asks.poll.scopes } in
      timeout_cases (LawfulBasis g tell sound) delay value tell_made (with_body p b s) (lawful_raised g tell sound s f e left p x y b o 1 asked refl refl) (lawful_raised g tell sound s f e left p x y b o 9 asked refl refl)
      (λ low high. lawful_made g tell sound s f e left p x y b o (next_event c) (make_timeout delay value) asked (replace_timeout g tell sound s delay value low high asks.lawful) refl refl
      (kept_part (λ z. makes_kind (Some o) z.kind) delay value c (λ z. refl)) (timeout_made delay value c) (kept_part (λ z. z.processed) delay value c (λ z. refl)))

  -- it is made, and the process waits for it
  pub lawful-polled_pause : (delay value : ℤ) → AsksFor g tell sound s f e left p x y b (op.Pause delay value)
      → LawfulBasis g tell sound (polled g p (op.Pause delay value) b s)
  lawful-polled_pause delay value asks =
      let c : Calendar = calendar s in
      let n : EventId = next_event c in
      let o : Op = op.Pause delay value in
      let asked : HasAsked g tell sound s f e left p x y b o = record { active = asks.active; found = asks.found; is_sound = asks.is_sound; lawful = asks.lawful; poll = asks.poll; scopes = asks.poll.scopes } in
      timeout_cases (LawfulBasis g tell sound) delay value (λ m t. wait m p t) (with_body p b s) (lawful_raised g tell sound s f e left p x y b o 1 asked refl refl) (lawful_raised g tell sound s f e left p x y b o 9 asked refl refl)
      (λ low high.
      let t : State B = on_events (make_timeout delay value) s in
      let timed : LawfulBasis g tell sound t = lawful_on_events g tell sound s (make_timeout delay value) asks.lawful (replace_timeout g tell sound s delay value low high asks.lawful)
      (calm_then c (make kind.Timeout c) (make_timeout delay value c) (calm_made kind.Timeout c) (calm_scheduled n (outcome.Ok value) normal delay (make kind.Timeout c))) in
      lawful_waits g tell sound t f e left p x y b o n (record { active = asks.active; found = asks.found; is_sound = asks.is_sound; lawful = timed; poll = asks.poll; scopes = asks.poll.scopes }) refl
      (timeout_made delay value c) (kept_part (λ z. is_unheard_kind z.kind) delay value c (λ z. refl)))
