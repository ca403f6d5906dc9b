-- A process that asks for a new event keeps the state lawful.
use Rattle.std.proofs.Common.{List, Some, refl, ap, arith}
use Rattle.sim_types.specs.declared.event.EventId.{EventId}
use Rattle.sim_types.specs.declared.event.ProcId.{ProcId}
use Rattle.sim_types.specs.declared.event.Callback.{Callback}
use Rattle.sim_types.specs.declared.event.Signal.{Signal}
use Rattle.sim_types.specs.declared.event.EventKind.TheVariants as kind
use Rattle.sim_types.specs.declared.op.Op.TheVariants as op
use Rattle.sim_machine.specs.State.{EventOf, Calendar, ProcessOf, State, Plan}
use Rattle.sim_machine.specs.Events.{next_event}
use Rattle.sim_machine.specs.Triggering.{make}
use Rattle.sim_machine.specs.Effect.{calendar}
use Rattle.sim_machine.specs.Steps.{polled}
use Rattle.sim_machine.specs.Tellings.{Telling, CodeFacts}
use Rattle.sim_machine.specs.MayFollow.{makes_kind}
use Rattle.sim_machine_law.proofs.Events.EventLaws.{make-length, make-new}
use Rattle.sim_machine_law.proofs.Events.ChangedCalendars.{AsksFor, HasAsked}
use Rattle.sim_lawful.proofs.Calendars.ReplacedCalendars.{replace_made}
use Rattle.sim_lawful.proofs.Polls.ToldAnswers.{lawful_made}
use Rattle.sim_machine_law.proofs.KeptParts.LawfulBasis.{LawfulBasis}

module _ {B : Type 0} (g : Plan B) (tell : Telling B) (sound : B → Type 0) (s : State B) (f : CodeFacts) (e : EventId) (left : List Callback) (p : ProcId) (x : Signal) (y : ProcessOf B) (b : B) where
  pub lawful-polled_new_event : AsksFor g tell sound s f e left p x y b op.NewEvent → LawfulBasis g tell sound (polled g p op.NewEvent b s)
  lawful-polled_new_event asks =
      let c : Calendar = calendar s in
      let more = make-length kind.Plain c in
      let asked : HasAsked g tell sound s f e left p x y b op.NewEvent = record { active = asks.active; found = asks.found; is_sound = asks.is_sound; lawful = asks.lawful; poll = asks.poll; scopes = asks.poll.scopes } in
      lawful_made g tell sound s f e left p x y b op.NewEvent (next_event c) (make kind.Plain) asked (replace_made g tell sound s kind.Plain refl asks.lawful) refl refl
      (ap (λ (z : EventOf). makes_kind (Some op.NewEvent) z.kind) (make-new kind.Plain c)) (omega (arith, more)) (ap (λ (z : EventOf). z.processed) (make-new kind.Plain c))
