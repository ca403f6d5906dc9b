-- A process that asks for nothing, logs or draws keeps the state lawful: no more changes than what is written, what is drawn
-- and what the process is told.
use Rattle.std.proofs.Common.{◌≡◌, false, true, ◌+◌, ◌++◌, ℤ, List, [], ◌∷◌, Option, Some, refl, ap}
use Rattle.sim_types.specs.declared.event.EventId.{EventId}
use Rattle.sim_types.specs.declared.event.ProcId.{ProcId}
use Rattle.sim_types.specs.declared.event.Callback.{Callback}
use Rattle.sim_types.specs.declared.event.Signal.{Signal}
use Rattle.sim_types.specs.declared.event.Signal.TheVariants as signal
use Rattle.sim_types.specs.declared.line.Line.TheVariants as line
use Rattle.sim_types.specs.declared.op.Op.{Op}
use Rattle.sim_types.specs.declared.op.Op.TheVariants as op
use Rattle.sim_machine.specs.State.{ProcessOf, State, Plan}
use Rattle.sim_machine.specs.Processes.{tell as told, with_body}
use Rattle.sim_machine.specs.Effect.{calendar, drawn_number}
use Rattle.sim_machine.specs.Steps.{polled}
use Rattle.sim_machine.specs.Tellings.{Telling, CodeFacts}
use Rattle.sim_machine.specs.MayFollow.{is_enter, may_be_told}
use Rattle.sim_machine_law.proofs.KeptParts.KeptTimesCases.{draw_cases}
use Rattle.sim_lawful.proofs.Opening.KeptOpeningParts.{lawful_noted}
use Rattle.sim_machine_law.proofs.Events.ChangedCalendars.{AsksFor, HasAsked, lawful_told}
use Rattle.sim_lawful.proofs.Calendars.ReplacedCalendars.{replace_same}
use Rattle.sim_lawful.proofs.Polls.ToldAnswers.{lawful_done, lawful_raised}
use Rattle.sim_machine_law.proofs.KeptParts.LawfulBasis.{LawfulBasis}

module _ {B : Type 0} (g : Plan B) (tell : Telling B) (sound : B → Type 0) (s : State B) (f : CodeFacts) (e : EventId) (left : List Callback) (p : ProcId) (x : Signal) (y : ProcessOf B) (b : B) where
  done : (o : Op) → is_enter (Some o) ≡ false → may_be_told (Some o) signal.Done ≡ true →
      HasAsked g tell sound s f e left p x y b o → LawfulBasis g tell sound (told signal.Done (with_body p b s))
  done o not_enters follows asked = lawful_done g tell sound s f e left p x y b o (λ c. c) asked (replace_same g tell sound s asked.lawful) not_enters follows

  pub lawful-polled_nop : AsksFor g tell sound s f e left p x y b op.Nop → LawfulBasis g tell sound (polled g p op.Nop b s)
  lawful-polled_nop asks = done op.Nop refl refl (record { active = asks.active; found = asks.found; is_sound = asks.is_sound; lawful = asks.lawful; poll = asks.poll; scopes = asks.poll.scopes })

  pub lawful-polled_log : (value : ℤ) → AsksFor g tell sound s f e left p x y b (op.Log value) → LawfulBasis g tell sound (polled g p (op.Log value) b s)
  lawful-polled_log value asks =
      let o : Op = op.Log value in
      lawful_noted g tell sound (told signal.Done (with_body p b s)) s.drawn (s.lines ++ line.Log (calendar s).time p value ∷ [])
      (done o refl refl (record { active = asks.active; found = asks.found; is_sound = asks.is_sound; lawful = asks.lawful; poll = asks.poll; scopes = asks.poll.scopes }))

  pub lawful-polled_draw : (lo hi : ℤ) → AsksFor g tell sound s f e left p x y b (op.Draw lo hi) → LawfulBasis g tell sound (polled g p (op.Draw lo hi) b s)
  lawful-polled_draw lo hi asks =
      let o : Op = op.Draw lo hi in
      let n : Signal = signal.Number (drawn_number (g.word s.drawn) lo hi) in
      let asked : HasAsked g tell sound s f e left p x y b o = record { active = asks.active; found = asks.found; is_sound = asks.is_sound; lawful = asks.lawful; poll = asks.poll; scopes = asks.poll.scopes } in
      draw_cases (LawfulBasis g tell sound) g lo hi (with_body p b s) (lawful_raised g tell sound s f e left p x y b o 8 asked refl refl)
      (λ some. lawful_noted g tell sound (told n (with_body p b s)) (s.drawn + 1) s.lines
      (lawful_told g tell sound s f e left p x y b o n (λ c. c) asked (replace_same g tell sound s asks.lawful) (ap is_enter asks.poll.last) (ap (λ (a : Option Op). may_be_told a n) asks.poll.last)))
