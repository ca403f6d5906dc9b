-- A process that asks whether a condition has an event in its value keeps the state lawful: nothing changes but what it
-- is told.
use Rattle.std.proofs.Common.{List, Option, ap}
use Rattle.sim_types.specs.declared.event.EventId.{EventId}
use Rattle.sim_types.specs.declared.event.ProcId.{ProcId}
use Rattle.sim_types.specs.declared.event.Callback.{Callback}
use Rattle.sim_types.specs.declared.event.Signal.{Signal}
use Rattle.sim_types.specs.declared.event.Signal.TheVariants as signal
use Rattle.sim_types.specs.declared.op.Op.{Op}
use Rattle.sim_types.specs.declared.op.Op.TheVariants as op
use Rattle.sim_machine.specs.State.{ProcessOf, State, Plan}
use Rattle.sim_machine.specs.Conditions.{has}
use Rattle.sim_machine.specs.Effect.{calendar, number_of}
use Rattle.sim_machine.specs.Steps.{polled}
use Rattle.sim_machine.specs.Tellings.{Telling, CodeFacts}
use Rattle.sim_machine.specs.MayFollow.{may_be_told, is_enter}
use Rattle.sim_machine_law.proofs.Events.ChangedCalendars.{AsksFor, HasAsked, lawful_told}
use Rattle.sim_lawful.proofs.Calendars.ReplacedCalendars.{replace_same}
use Rattle.sim_machine_law.proofs.KeptParts.LawfulBasis.{LawfulBasis}

module _ {B : Type 0} (g : Plan B) (tell : Telling B) (sound : B → Type 0) (s : State B) (f : CodeFacts) (e : EventId) (left : List Callback) (p : ProcId) (x : Signal) (y : ProcessOf B) (b : B) where
  pub lawful-polled_has : (cond n : EventId) → AsksFor g tell sound s f e left p x y b (op.Has cond n)
      → LawfulBasis g tell sound (polled g p (op.Has cond n) b s)
  lawful-polled_has cond n asks =
      let o : Op = op.Has cond n in
      let answer : Signal = signal.Number (number_of (has cond n (calendar s))) in
      let asked : HasAsked g tell sound s f e left p x y b o = record { active = asks.active; found = asks.found; is_sound = asks.is_sound; lawful = asks.lawful; poll = asks.poll; scopes = asks.poll.scopes } in
      lawful_told g tell sound s f e left p x y b o answer (λ c. c) asked (replace_same g tell sound s asks.lawful) (ap is_enter asks.poll.last) (ap (λ (a : Option Op). may_be_told a answer) asks.poll.last)
