-- A process that asks how much is in use keeps the state lawful.
use Rattle.std.proofs.Common.{ℕ, List, Option, ap}
use Rattle.sim_types.specs.declared.event.EventId.{EventId}
use Rattle.sim_types.specs.declared.event.ProcId.{ProcId}
use Rattle.sim_types.specs.declared.event.Callback.{Callback}
use Rattle.sim_types.specs.declared.event.Signal.{Signal}
use Rattle.sim_types.specs.declared.event.Signal.TheVariants as signal
use Rattle.sim_types.specs.declared.op.Op.{Op}
use Rattle.sim_types.specs.declared.op.Op.TheVariants as op
use Rattle.sim_machine.specs.State.{ProcessOf, State, Plan}
use Rattle.sim_machine.specs.Requests.{held}
use Rattle.sim_machine.specs.Steps.{polled}
use Rattle.sim_machine.specs.Tellings.{Telling, CodeFacts}
use Rattle.sim_machine.specs.MayFollow.{may_be_told, is_enter}
use Rattle.sim_machine_law.proofs.Events.ChangedCalendars.{AsksFor, HasAsked, lawful_told}
use Rattle.sim_lawful.proofs.Calendars.ReplacedCalendars.{replace_same}
use Rattle.sim_machine_law.proofs.KeptParts.LawfulBasis.{LawfulBasis}

module _ {B : Type 0} (g : Plan B) (tell : Telling B) (sound : B → Type 0) (s : State B) (f : CodeFacts) (e : EventId) (left : List Callback) (p : ProcId) (x : Signal) (y : ProcessOf B) (b : B) where
  pub lawful-polled_count : (res : ℕ) → AsksFor g tell sound s f e left p x y b (op.Count res) → LawfulBasis g tell sound (polled g p (op.Count res) b s)
  lawful-polled_count res asks =
      let o : Op = op.Count res in
      let asked : HasAsked g tell sound s f e left p x y b o = record { active = asks.active; found = asks.found; is_sound = asks.is_sound; lawful = asks.lawful; poll = asks.poll; scopes = asks.poll.scopes } in
      let n : Signal = signal.Number (held g.setup.resources res s.facilities) in
      lawful_told g tell sound s f e left p x y b o n (λ c. c) asked (replace_same g tell sound s asks.lawful) (ap is_enter asks.poll.last) (ap (λ (a : Option Op). may_be_told a n) asks.poll.last)
