-- A process of the car wash asks for what the script asks for, and then stands for the script as it is then.
use Rattle.std.proofs.Common.{◌≡◌, ℤ, pos, refl, sym, ap, ◌∙◌}
use Rattle.std.specs.Prelude.{IsTrue}
use Rattle.sim_types.specs.declared.event.ProcId.{ProcId}
use Rattle.sim_types.specs.declared.event.Signal.{Signal}
use Rattle.sim_types.specs.declared.event.Signal.TheVariants as signal
use Rattle.sim_types.specs.declared.op.Op.{Op}
use Rattle.sim_types.specs.declared.op.Op.TheVariants as op
use Rattle.sim_types.specs.declared.script.Arith.TheVariants as arith
use Rattle.sim_machine.specs.MayFollow.{may_be_told}
use Rattle.sim_script_model.specs.Arithmetic.{Answer, Number, Error, compute}
use Rattle.sim_script_model.specs.Polls.{answer_to, remember, script_turn}
use Rattle.sim_script_model.specs.Scripts.{Script, set_place}
use Rattle.sim_models.specs.Wash.{wash}
use Rattle.sim_types.specs.Scenarios.{ScenarioOf}
use Rattle.sim_script_law.specs.ScriptMembers.{IsScriptTurn}
use Rattle.sim_native.specs.declared.wash.CarAt.TheVariants as car
use Rattle.sim_native.specs.declared.wash.CarSpot.TheVariants as spot
use Rattle.sim_native.specs.declared.wash.StreetSpot.TheVariants as there
use Rattle.sim_native.specs.declared.wash.StreetAt.TheVariants as street
use Rattle.sim_native.specs.declared.wash.Stage.{Stage}
use Rattle.sim_native.specs.declared.wash.Stage.TheVariants as stage
use Rattle.sim_native.specs.WashStages.{script_of}
use Rattle.sim_native.specs.Told.{value_by}
use Rattle.sim_native.specs.WashTurns.{street_counted, wash_turn}

module _ (me : ProcId) (time : ℤ) where
  -- the script that a process stands for after this
  abbrev stood : ℤ → Signal → Op × Stage → Op × Script
  stood val told r = (r.0, script_of me (value_by told val) r.1)

  -- whatever the number of the next car comes to
  counted : (val next gap : ℤ) (a : Answer)
      → remember (op.Nop, answer_to 1 a (set_place 10 (script_of me val (stage.Street next gap street.Sent))))
      ≡ (op.Nop, script_of me val (street_counted next gap a))
  counted val next gap (Number n) = refl
  counted val next gap (Error n) = refl

  pub wash_is_script : (val : ℤ) (s : Stage) (told : Signal) → IsTrue (may_be_told (script_of me val s).asked told)
      → script_turn wash.code (script_of me val s) time told ≡ stood val told (wash_turn s told)
  wash_is_script val (stage.Car id request car.Came) signal.Begin may = refl
  wash_is_script val (stage.Car id request car.Came) signal.Done may = absurd (cc)
  wash_is_script val (stage.Car id request car.Came) (signal.Value v) may = refl
  wash_is_script val (stage.Car id request car.Came) (signal.Thrown t) may = refl
  wash_is_script val (stage.Car id request car.Came) (signal.Raised n) may = absurd (cc)
  wash_is_script val (stage.Car id request car.Came) (signal.Number n) may = absurd (cc)
  wash_is_script val (stage.Car id request car.Came) (signal.Made e) may = absurd (cc)
  wash_is_script val (stage.Car id request car.Asked) signal.Begin may = absurd (cc)
  wash_is_script val (stage.Car id request car.Asked) signal.Done may = absurd (cc)
  wash_is_script val (stage.Car id request car.Asked) (signal.Value v) may = absurd (cc)
  wash_is_script val (stage.Car id request car.Asked) (signal.Thrown t) may = absurd (cc)
  wash_is_script val (stage.Car id request car.Asked) (signal.Raised n) may = refl
  wash_is_script val (stage.Car id request car.Asked) (signal.Number n) may = absurd (cc)
  wash_is_script val (stage.Car id request car.Asked) (signal.Made e) may = refl
  wash_is_script val (stage.Car id request car.Waits) signal.Begin may = refl
  wash_is_script val (stage.Car id request car.Waits) signal.Done may = absurd (cc)
  wash_is_script val (stage.Car id request car.Waits) (signal.Value v) may = refl
  wash_is_script val (stage.Car id request car.Waits) (signal.Thrown t) may = refl
  wash_is_script val (stage.Car id request car.Waits) (signal.Raised n) may = absurd (cc)
  wash_is_script val (stage.Car id request car.Waits) (signal.Number n) may = absurd (cc)
  wash_is_script val (stage.Car id request car.Waits) (signal.Made e) may = absurd (cc)
  wash_is_script val (stage.Car id request car.Washed) signal.Begin may = refl
  wash_is_script val (stage.Car id request car.Washed) signal.Done may = absurd (cc)
  wash_is_script val (stage.Car id request car.Washed) (signal.Value v) may = refl
  wash_is_script val (stage.Car id request car.Washed) (signal.Thrown t) may = refl
  wash_is_script val (stage.Car id request car.Washed) (signal.Raised n) may = refl
  wash_is_script val (stage.Car id request car.Washed) (signal.Number n) may = absurd (cc)
  wash_is_script val (stage.Car id request car.Washed) (signal.Made e) may = absurd (cc)
  wash_is_script val (stage.Car id request car.Clean) signal.Begin may = absurd (cc)
  wash_is_script val (stage.Car id request car.Clean) signal.Done may = refl
  wash_is_script val (stage.Car id request car.Clean) (signal.Value v) may = absurd (cc)
  wash_is_script val (stage.Car id request car.Clean) (signal.Thrown t) may = absurd (cc)
  wash_is_script val (stage.Car id request car.Clean) (signal.Raised n) may = absurd (cc)
  wash_is_script val (stage.Car id request car.Clean) (signal.Number n) may = absurd (cc)
  wash_is_script val (stage.Car id request car.Clean) (signal.Made e) may = absurd (cc)
  wash_is_script val (stage.Car id request car.Left) signal.Begin may = absurd (cc)
  wash_is_script val (stage.Car id request car.Left) signal.Done may = refl
  wash_is_script val (stage.Car id request car.Left) (signal.Value v) may = absurd (cc)
  wash_is_script val (stage.Car id request car.Left) (signal.Thrown t) may = absurd (cc)
  wash_is_script val (stage.Car id request car.Left) (signal.Raised n) may = absurd (cc)
  wash_is_script val (stage.Car id request car.Left) (signal.Number n) may = absurd (cc)
  wash_is_script val (stage.Car id request car.Left) (signal.Made e) may = absurd (cc)
  wash_is_script val (stage.Car id request car.Gone) told may = absurd (cc)
  wash_is_script val (stage.Car id request (car.Fled at what)) signal.Begin may = absurd (cc)
  wash_is_script val (stage.Car id request (car.Fled spot.Waiting what)) signal.Done may = refl
  wash_is_script val (stage.Car id request (car.Fled spot.Washing what)) signal.Done may = refl
  wash_is_script val (stage.Car id request (car.Fled spot.Coming what)) signal.Done may = refl
  wash_is_script val (stage.Car id request (car.Fled spot.Asking what)) signal.Done may = refl
  wash_is_script val (stage.Car id request (car.Fled at what)) (signal.Value v) may = absurd (cc)
  wash_is_script val (stage.Car id request (car.Fled at what)) (signal.Thrown t) may = absurd (cc)
  wash_is_script val (stage.Car id request (car.Fled at what)) (signal.Raised n) may = absurd (cc)
  wash_is_script val (stage.Car id request (car.Fled at what)) (signal.Number n) may = absurd (cc)
  wash_is_script val (stage.Car id request (car.Fled at what)) (signal.Made e) may = absurd (cc)
  wash_is_script val (stage.Car id request (car.Dead at what)) told may = absurd (cc)
  wash_is_script val (stage.Street next gap street.Opens) signal.Begin may = refl
  wash_is_script val (stage.Street next gap street.Opens) signal.Done may = absurd (cc)
  wash_is_script val (stage.Street next gap street.Opens) (signal.Value v) may = refl
  wash_is_script val (stage.Street next gap street.Opens) (signal.Thrown t) may = refl
  wash_is_script val (stage.Street next gap street.Opens) (signal.Raised n) may = absurd (cc)
  wash_is_script val (stage.Street next gap street.Opens) (signal.Number n) may = absurd (cc)
  wash_is_script val (stage.Street next gap street.Opens) (signal.Made e) may = absurd (cc)
  wash_is_script val (stage.Street next gap street.Numbered) signal.Begin may = absurd (cc)
  wash_is_script val (stage.Street next gap street.Numbered) signal.Done may = refl
  wash_is_script val (stage.Street next gap street.Numbered) (signal.Value v) may = absurd (cc)
  wash_is_script val (stage.Street next gap street.Numbered) (signal.Thrown t) may = absurd (cc)
  wash_is_script val (stage.Street next gap street.Numbered) (signal.Raised n) may = absurd (cc)
  wash_is_script val (stage.Street next gap street.Numbered) (signal.Number n) may = absurd (cc)
  wash_is_script val (stage.Street next gap street.Numbered) (signal.Made e) may = absurd (cc)
  wash_is_script val (stage.Street next gap street.Loops) signal.Begin may = absurd (cc)
  wash_is_script val (stage.Street next gap street.Loops) signal.Done may = refl
  wash_is_script val (stage.Street next gap street.Loops) (signal.Value v) may = absurd (cc)
  wash_is_script val (stage.Street next gap street.Loops) (signal.Thrown t) may = absurd (cc)
  wash_is_script val (stage.Street next gap street.Loops) (signal.Raised n) may = absurd (cc)
  wash_is_script val (stage.Street next gap street.Loops) (signal.Number n) may = absurd (cc)
  wash_is_script val (stage.Street next gap street.Loops) (signal.Made e) may = absurd (cc)
  wash_is_script val (stage.Street next gap street.Sent) signal.Begin may = absurd (cc)
  wash_is_script val (stage.Street next gap street.Sent) signal.Done may = absurd (cc)
  wash_is_script val (stage.Street next gap street.Sent) (signal.Value v) may = absurd (cc)
  wash_is_script val (stage.Street next gap street.Sent) (signal.Thrown t) may = absurd (cc)
  wash_is_script val (stage.Street next gap street.Sent) (signal.Raised n) may = absurd (cc)
  wash_is_script val (stage.Street next gap street.Sent) (signal.Number n) may = absurd (cc)
  wash_is_script val (stage.Street next gap street.Sent) (signal.Made e) may = counted val next gap (compute arith.Add next (pos 1))
  wash_is_script val (stage.Street next gap street.Counted) signal.Begin may = absurd (cc)
  wash_is_script val (stage.Street next gap street.Counted) signal.Done may = refl
  wash_is_script val (stage.Street next gap street.Counted) (signal.Value v) may = absurd (cc)
  wash_is_script val (stage.Street next gap street.Counted) (signal.Thrown t) may = absurd (cc)
  wash_is_script val (stage.Street next gap street.Counted) (signal.Raised n) may = absurd (cc)
  wash_is_script val (stage.Street next gap street.Counted) (signal.Number n) may = absurd (cc)
  wash_is_script val (stage.Street next gap street.Counted) (signal.Made e) may = absurd (cc)
  wash_is_script val (stage.Street next gap street.Draws) signal.Begin may = absurd (cc)
  wash_is_script val (stage.Street next gap street.Draws) signal.Done may = absurd (cc)
  wash_is_script val (stage.Street next gap street.Draws) (signal.Value v) may = absurd (cc)
  wash_is_script val (stage.Street next gap street.Draws) (signal.Thrown t) may = absurd (cc)
  wash_is_script val (stage.Street next gap street.Draws) (signal.Raised n) may = refl
  wash_is_script val (stage.Street next gap street.Draws) (signal.Number n) may = refl
  wash_is_script val (stage.Street next gap street.Draws) (signal.Made e) may = absurd (cc)
  wash_is_script val (stage.Street next gap street.Sleeps) signal.Begin may = refl
  wash_is_script val (stage.Street next gap street.Sleeps) signal.Done may = absurd (cc)
  wash_is_script val (stage.Street next gap street.Sleeps) (signal.Value v) may = refl
  wash_is_script val (stage.Street next gap street.Sleeps) (signal.Thrown t) may = refl
  wash_is_script val (stage.Street next gap street.Sleeps) (signal.Raised n) may = refl
  wash_is_script val (stage.Street next gap street.Sleeps) (signal.Number n) may = absurd (cc)
  wash_is_script val (stage.Street next gap street.Sleeps) (signal.Made e) may = absurd (cc)
  wash_is_script val (stage.Street next gap (street.Failed what)) signal.Begin may = absurd (cc)
  wash_is_script val (stage.Street next gap (street.Failed what)) signal.Done may = refl
  wash_is_script val (stage.Street next gap (street.Failed what)) (signal.Value v) may = absurd (cc)
  wash_is_script val (stage.Street next gap (street.Failed what)) (signal.Thrown t) may = absurd (cc)
  wash_is_script val (stage.Street next gap (street.Failed what)) (signal.Raised n) may = absurd (cc)
  wash_is_script val (stage.Street next gap (street.Failed what)) (signal.Number n) may = absurd (cc)
  wash_is_script val (stage.Street next gap (street.Failed what)) (signal.Made e) may = absurd (cc)
  wash_is_script val (stage.Street next gap (street.Struck at what)) signal.Begin may = absurd (cc)
  wash_is_script val (stage.Street next gap (street.Struck there.Opening what)) signal.Done may = refl
  wash_is_script val (stage.Street next gap (street.Struck there.Counting what)) signal.Done may = refl
  wash_is_script val (stage.Street next gap (street.Struck there.Drawing what)) signal.Done may = refl
  wash_is_script val (stage.Street next gap (street.Struck there.Sleeping what)) signal.Done may = refl
  wash_is_script val (stage.Street next gap (street.Struck at what)) (signal.Value v) may = absurd (cc)
  wash_is_script val (stage.Street next gap (street.Struck at what)) (signal.Thrown t) may = absurd (cc)
  wash_is_script val (stage.Street next gap (street.Struck at what)) (signal.Raised n) may = absurd (cc)
  wash_is_script val (stage.Street next gap (street.Struck at what)) (signal.Number n) may = absurd (cc)
  wash_is_script val (stage.Street next gap (street.Struck at what)) (signal.Made e) may = absurd (cc)
  wash_is_script val (stage.Street next gap (street.Dead at what)) told may = absurd (cc)

  -- the same as contracts say it
  pub turned : (val : ℤ) (s : Stage) (told : Signal) → IsTrue (may_be_told (script_of me val s).asked told) → (x : ScenarioOf) → x ≡ wash
      → (b : Script) → b ≡ script_of me val s → (r : Op × Stage) → r ≡ wash_turn s told → (later : Script) → later ≡ script_of me (value_by told val) r.1
      → IsScriptTurn x b time told r.0 later
  turned val s told may x code b stands r turns later is =
      let w : Op × Script = script_turn wash.code (script_of me val s) time told in
      let same : w ≡ stood val told r = wash_is_script val s told may ∙ ap (stood val told) (sym turns) in
      rw (code, stands) (ap (λ (y : Op × Script). y.0) (sym same), is ∙ ap (λ (y : Op × Script). y.1) (sym same))
