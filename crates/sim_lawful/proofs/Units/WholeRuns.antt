-- Each state that a run comes to is lawful, and within the capacities.
use Rattle.std.proofs.Common.{◌≡◌, ◌<◌, ℕ, zero, suc, List, [], ◌∷◌, length, Option, Some, None, refl, sym, subst, Bool, true, false, if◌then◌else◌, ◌||◌, ◌&&◌}
use Rattle.std.specs.Prelude.{nat_le, is_none}
use Rattle.std.proofs.lemmas.List.Elements.{All-head, All-tail}
use Rattle.std.proofs.lemmas.Option.{none-some}
use Rattle.sim_types.specs.declared.event.Entry.{Entry}
use Rattle.sim_types.specs.declared.setup.Arrival.{Arrival}
use Rattle.sim_machine.specs.State.{ProcessOf, Control, Idle, Calling, Active, Over, State, Plan}
use Rattle.sim_machine.specs.Agenda.{due}
use Rattle.sim_machine.specs.Processes.{process_at}
use Rattle.sim_machine.specs.Effect.{calendar}
use Rattle.sim_machine.specs.Steps.{Turn, TurnFunction, pop_if_any, poll_if_any, step_at}
use Rattle.sim_machine.specs.Units.{Course, is_idle, due_arrival, unit_at}
use Rattle.sim_machine.specs.Runs.{after_units, opening_course}
use Rattle.sim_machine.specs.Tellings.{Telling, CodeFacts}
use Rattle.sim_machine.specs.BodyLaw.{IsLawfulBody}
use Rattle.sim_machine.specs.Bodies.{BodyOf, start_of}
use Rattle.sim_machine.specs.Setups.{FitsCode}
use Rattle.sim_machine.specs.Lawful.{Lawful}
use Rattle.sim_machine_law.specs.Courses.{Run}
use Rattle.sim_types.specs.Setups.{HavePorts}
use Rattle.sim_lawful.specs.LawfulRuns.{ArrivesLawful, IsAmong, IsPlanOf, IsRunOf, ItemsFit, LevelsFit, LevelsFromZero, OpensLawful, StaysLawful, StepsLawful, UsersFit}
use Rattle.sim_lawful.proofs.Units.WholeSteps.{lawful_arrival, lawful_at, lawful_opening, lawful_step}

first_where : (b : Bool) (x a : Arrival) → (if b then Some x else None) ≡ Some a → a ≡ x
first_where true x a h = cc
first_where false x a h = absurd (none-some a h)

first_is : {B : Type 0} (s : State B) (x : Arrival) (left : List Arrival) (a : Arrival) → due_arrival s (x ∷ left) ≡ Some a → a ≡ x
first_is s x left a h = first_where (is_idle s.control && (nat_le x.after s.processed || is_none (due (calendar s).agenda))) x a h

module _ {B : Type 0} (g : Plan B) (tell : Telling B) (sound : B → Type 0) (turn : Turn B) (f : CodeFacts) (fits : FitsCode f g.setup) (law : IsLawfulBody f tell sound g.start turn) (does : TurnFunction B) (among : IsAmong does turn) where
  lawful_after : (s : State B) (c : Control) → Lawful g tell sound s → s.control ≡ c → Lawful g tell sound (step_at g does s c)
  lawful_after s Idle h is = popped (due (calendar s).agenda) refl
    where
      popped : (o : Option Entry) → due (calendar s).agenda ≡ o → Lawful g tell sound (pop_if_any o s)
      popped None found = h
      popped (Some x) found = lawful_at g tell sound turn f s (pop_if_any (Some x) s) Idle fits law h is (record { entry = x; is_due = found; then_is = refl })
  lawful_after s (Calling e left) h is = lawful_at g tell sound turn f s (step_at g does s (Calling e left)) (Calling e left) fits law h is refl
  lawful_after s (Active e left p x) h is = polled (process_at p s) refl
    where
      polled : (o : Option (ProcessOf B)) → process_at p s ≡ o → Lawful g tell sound (poll_if_any g does p x o s)
      polled None found = h
      polled (Some y) found =
          let asked = does y.body (calendar s).time x in
          lawful_at g tell sound turn f s (poll_if_any g does p x (Some y) s) (Active e left p x) fits law h is
          (record { process = y; found = found; asked = asked.0; body = asked.1; turned = among y.body (calendar s).time x; then_is = refl })
  lawful_after s (Over why e left) h is = h

  -- the state is lawful, and what is left of the journal comes in by ports of the setup
  abbrev IsLawfulCourse : Course B → Type 0
  IsLawfulCourse m = Lawful g tell sound m.state × HavePorts g.setup m.left

  lawful_unit : (s : State B) (left : List Arrival) (o : Option Arrival) → Lawful g tell sound s → HavePorts g.setup left → due_arrival s left ≡ o →
      IsLawfulCourse (unit_at g does (record { state = s; left = left }) o)
  lawful_unit s left None h ports is = (lawful_after s s.control h refl, ports)
  lawful_unit s [] (Some a) h ports is = absurd (none-some a is)
  lawful_unit s (x ∷ left) (Some a) h ports is =
      let below : Arrival → Type 0 = λ z. z.port < length g.setup.ports in
      let there : below a = subst below (sym (first_is s x left a is)) (All-head below x left ports) in
      (lawful_arrival g tell sound turn f (record { state = s; left = x ∷ left }) a fits law there h, All-tail below x left ports)

  lawful_units : (m : Course B) → IsLawfulCourse m → (n : ℕ) → IsLawfulCourse (after_units g does n m)
  lawful_units m h zero = h
  lawful_units m h (suc k) =
      let t : Course B = after_units g does k m in
      let r : IsLawfulCourse t = lawful_units m h k in
      lawful_unit t.state t.left (due_arrival t.state t.left) r.0 r.1 refl

-- ---- bodies of a kind

module _ {B Code : Type 0} (body : BodyOf B Code) (code : Code) (law : IsLawfulBody (body.facts code) (body.tell code) (body.sound code) (start_of body code) (body.turn code)) where
  law_of_plan : (g : Plan B) → IsPlanOf body code g → IsLawfulBody (body.facts code) (body.tell code) (body.sound code) g.start (body.turn code)
  law_of_plan g h = subst (λ k. IsLawfulBody (body.facts code) (body.tell code) (body.sound code) k (body.turn code)) (sym h.starts) law

  pub opening_lawful_at : (g : Plan B) → IsPlanOf body code g → OpensLawful body code g
  opening_lawful_at g h = lawful_opening g (body.tell code) (body.sound code) (body.turn code) (body.facts code) h.fits (law_of_plan g h)

  pub steps_keep_lawful : (g : Plan B) → IsPlanOf body code g → StepsLawful body code g
  steps_keep_lawful g h = λ s t was step. lawful_step g (body.tell code) (body.sound code) (body.turn code) (body.facts code) s t h.fits (law_of_plan g h) was step

  pub arrivals_keep_lawful : (g : Plan B) → IsPlanOf body code g → ArrivesLawful body code g
  arrivals_keep_lawful g h = λ m a below was. lawful_arrival g (body.tell code) (body.sound code) (body.turn code) (body.facts code) m a h.fits (law_of_plan g h) below was

  pub run_stays_lawful : (r : Run B) → IsRunOf body code r → StaysLawful body code r
  run_stays_lawful r h n =
      (lawful_units r.plan (body.tell code) (body.sound code) (body.turn code) (body.facts code) h.plan.fits (law_of_plan r.plan h.plan) r.turn h.turns (opening_course r.plan r.journal) (opening_lawful_at r.plan h.plan, h.ports) n).0

  pub users_fit : (r : Run B) → IsRunOf body code r → UsersFit r
  users_fit r h = λ n. (run_stays_lawful r h n).capacities.slots

  pub levels_from_zero : (r : Run B) → IsRunOf body code r → LevelsFromZero r
  levels_from_zero r h = λ n. (run_stays_lawful r h n).capacities.level_low

  pub levels_fit : (r : Run B) → IsRunOf body code r → LevelsFit r
  levels_fit r h = λ n. (run_stays_lawful r h n).capacities.level_high

  pub items_fit : (r : Run B) → IsRunOf body code r → ItemsFit r
  items_fit r h = λ n. (run_stays_lawful r h n).capacities.room
