-- A process interrupts another: an interruption of it is made, or an error is raised, and the one that runs goes on.
use Rattle.std.proofs.Common.{ℤ, not, List, refl, if◌then◌else◌}
use Rattle.sim_types.specs.declared.event.EventId.{EventId}
use Rattle.sim_types.specs.declared.event.ProcId.{ProcId}
use Rattle.sim_types.specs.declared.event.Signal.{Signal}
use Rattle.sim_types.specs.declared.event.Throw.{Throw}
use Rattle.sim_types.specs.declared.event.Callback.{Callback}
use Rattle.sim_types.specs.declared.event.Signal.TheVariants as signal
use Rattle.sim_types.specs.declared.op.Op.{Op}
use Rattle.sim_types.specs.declared.op.Op.TheVariants as op
use Rattle.sim_machine.specs.State.{ProcessOf, State, Plan}
use Rattle.sim_machine.specs.Events.{is_process}
use Rattle.sim_machine.specs.Triggering.{make_interruption}
use Rattle.sim_machine.specs.Scopes.{on_events}
use Rattle.sim_machine.specs.Processes.{is_alive, with_body, tell as told}
use Rattle.sim_machine.specs.Effect.{raise}
use Rattle.sim_machine.specs.Steps.{polled}
use Rattle.sim_machine.specs.Tellings.{Telling, CodeFacts}
use Rattle.sim_machine_law.proofs.KeptParts.KeptTimesCases.{if_cases}
use Rattle.sim_machine_law.proofs.Events.ChangedCalendars.{AsksFor, HasAsked}
use Rattle.sim_machine_law.proofs.Processes.MadeInterruption.{replace_interrupted}
use Rattle.sim_lawful.proofs.Polls.ToldAnswers.{lawful_done, lawful_raised}
use Rattle.sim_machine_law.proofs.KeptParts.LawfulBasis.{LawfulBasis}

module _ {B : Type 0} (g : Plan B) (tell : Telling B) (sound : B → Type 0) (s : State B) (f : CodeFacts) (e : EventId) (left : List Callback) (p : ProcId) (x : Signal) (y : ProcessOf B) (b : B) where
  pub lawful-polled_interrupt : (q : ProcId) (cause : ℤ) → AsksFor g tell sound s f e left p x y b (op.Interrupt q cause)
      → LawfulBasis g tell sound (polled g p (op.Interrupt q cause) b s)
  lawful-polled_interrupt q cause asks =
      let o : Op = op.Interrupt q cause in
      let r : State B = with_body p b s in
      let t : Throw = record { kind = 1; value = cause } in
      let done : State B = told signal.Done (on_events (make_interruption q t) r) in
      let has_asked : HasAsked g tell sound s f e left p x y b o = record { active = asks.active; found = asks.found; is_sound = asks.is_sound; lawful = asks.lawful; poll = asks.poll; scopes = asks.poll.scopes } in
      if_cases (λ u. LawfulBasis g tell sound u) (not (is_alive q r)) (raise 4 r) (if is_process q p then raise 5 r else done) (λ ended. lawful_raised g tell sound s f e left p x y b o 4 has_asked refl refl)
      (λ alive. if_cases (λ u. LawfulBasis g tell sound u) (is_process q p) (raise 5 r) done (λ same. lawful_raised g tell sound s f e left p x y b o 5 has_asked refl refl)
      (λ other. lawful_done g tell sound s f e left p x y b o (make_interruption q t) has_asked (replace_interrupted g tell sound s q t asks.lawful) refl refl))
