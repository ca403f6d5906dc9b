-- A process that waits for an event keeps the state lawful, whether it waits or goes on at once.
use Rattle.std.proofs.Common.{not, List, refl}
use Rattle.std.proofs.lemmas.Bool.{not-true}
use Rattle.sim_types.specs.declared.event.EventId.{EventId}
use Rattle.sim_types.specs.declared.event.ProcId.{ProcId}
use Rattle.sim_types.specs.declared.event.Callback.{Callback}
use Rattle.sim_types.specs.declared.event.Signal.{Signal}
use Rattle.sim_types.specs.declared.op.Op.{Op}
use Rattle.sim_types.specs.declared.op.Op.TheVariants as op
use Rattle.sim_machine.specs.State.{Calendar, ProcessOf, State, Plan}
use Rattle.sim_machine.specs.Effect.{calendar}
use Rattle.sim_machine.specs.Steps.{polled}
use Rattle.sim_machine.specs.Tellings.{Telling, CodeFacts}
use Rattle.sim_machine.specs.Setups.{FitsCode}
use Rattle.sim_machine.specs.Standing.{kind_at}
use Rattle.sim_machine.specs.LawfulInterruptions.{is_unheard_kind}
use Rattle.sim_machine_law.proofs.Events.ChangedCalendars.{AsksFor, HasAsked}
use Rattle.sim_lawful.proofs.Polls.WaitedEvents.{lawful_waits}
use Rattle.sim_lawful.proofs.Polls.KnownEvents.{IsMadeOf, known_made}
use Rattle.sim_machine_law.proofs.KeptParts.LawfulBasis.{LawfulBasis}

module _ {B : Type 0} (g : Plan B) (tell : Telling B) (sound : B → Type 0) (s : State B) (f : CodeFacts) (e : EventId) (left : List Callback) (p : ProcId) (x : Signal) (y : ProcessOf B) (b : B) where
  pub lawful-polled_wait : (n : EventId) → FitsCode f g.setup → AsksFor g tell sound s f e left p x y b (op.Wait n)
      → LawfulBasis g tell sound (polled g p (op.Wait n) b s)
  lawful-polled_wait n fits asks =
      let c : Calendar = calendar s in
      let o : Op = op.Wait n in
      let asked : HasAsked g tell sound s f e left p x y b o = record { active = asks.active; found = asks.found; is_sound = asks.is_sound; lawful = asks.lawful; poll = asks.poll; scopes = asks.poll.scopes } in
      let is : IsMadeOf (λ k. not (is_unheard_kind k)) c n = known_made g tell sound s f e left p x y b o n fits asked asks.poll.asks in
      lawful_waits g tell sound s f e left p x y b o n asked refl is.made (not-true (is_unheard_kind (kind_at c n)) is.kind)
