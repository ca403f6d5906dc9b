-- Where a process of the car wash stands, as the script of its kind.
use Rattle.std.specs.Prelude.{◌-◌, ◌∷◌, [], List, ℕ, ℤ, pos, Bool, true, Option, Some, None, replicate}
use Rattle.sim_types.specs.declared.event.EventId.{EventId}
use Rattle.sim_types.specs.declared.event.ProcId.{ProcId}
use Rattle.sim_types.specs.declared.op.Op.{Op}
use Rattle.sim_types.specs.declared.op.Op.TheVariants as op
use Rattle.sim_script_model.specs.Scripts.{Frame, InLoop, InScope, Mode, Running, Throwing, Script, classes_at, stmt_at}
use Rattle.sim_script_model.specs.Polls.{given_by}
use Rattle.sim_models.specs.Wash.{wash}
use Rattle.sim_native.specs.declared.wash.CarAt.{CarAt}
use Rattle.sim_native.specs.declared.wash.CarAt.TheVariants as car
use Rattle.sim_native.specs.declared.wash.CarSpot.{CarSpot}
use Rattle.sim_native.specs.declared.wash.CarSpot.TheVariants as spot
use Rattle.sim_native.specs.declared.wash.StreetSpot.{StreetSpot}
use Rattle.sim_native.specs.declared.wash.StreetSpot.TheVariants as there
use Rattle.sim_native.specs.declared.wash.StreetAt.{StreetAt}
use Rattle.sim_native.specs.declared.wash.StreetAt.TheVariants as street
use Rattle.sim_native.specs.declared.wash.Stage.{Stage}
use Rattle.sim_native.specs.declared.wash.Stage.TheVariants as stage

-- ---- a car

-- the statement where something was thrown at it
abbrev pub car_spot : CarSpot → ℕ
car_spot spot.Coming = 0
car_spot spot.Asking = 1
car_spot spot.Waiting = 2
car_spot spot.Washing = 3

abbrev pub car_place : CarAt → ℕ
car_place car.Came = 0
car_place car.Asked = 1
car_place car.Waits = 2
car_place car.Washed = 3
car_place car.Clean = 4
car_place car.Left = 5
car_place car.Gone = 6
car_place (car.Fled spot what) = car_spot spot
car_place (car.Dead spot what) = car_spot spot

-- it stands in the scope of its request while it waits and is washed
abbrev pub car_frames : EventId → CarAt → List Frame
car_frames request car.Waits = InScope request ∷ []
car_frames request car.Washed = InScope request ∷ []
car_frames request car.Clean = InScope request ∷ []
car_frames request at = []

abbrev pub car_mode : CarAt → Mode
car_mode (car.Fled spot what) = Throwing what
car_mode (car.Dead spot what) = Throwing what
car_mode at = Running

abbrev pub car_asked : ℤ → EventId → CarAt → Option Op
car_asked id request car.Came = None
car_asked id request car.Asked = Some (op.Enter 0 (pos 0) true)
car_asked id request car.Waits = Some (op.Wait request)
car_asked id request car.Washed = Some (op.Pause (pos 5) (pos 0))
car_asked id request car.Clean = Some (op.Log id)
car_asked id request car.Left = Some op.Leave
car_asked id request car.Gone = Some (op.Finish (pos 0))
car_asked id request (car.Fled spot what) = Some op.Leave
car_asked id request (car.Dead spot what) = Some (op.Die what)

-- ---- the street

abbrev pub street_spot : StreetSpot → ℕ
street_spot there.Opening = 6
street_spot there.Counting = 10
street_spot there.Drawing = 11
street_spot there.Sleeping = 12

abbrev pub street_place : StreetAt → ℕ
street_place street.Opens = 6
street_place street.Numbered = 7
street_place street.Loops = 8
street_place street.Sent = 9
street_place street.Counted = 10
street_place street.Draws = 11
street_place street.Sleeps = 12
street_place (street.Failed what) = 10
street_place (street.Struck spot what) = street_spot spot
street_place (street.Dead spot what) = street_spot spot

abbrev pub street_frames : StreetAt → List Frame
street_frames street.Opens = []
street_frames street.Numbered = []
street_frames (street.Struck spot what) = []
street_frames (street.Dead spot what) = []
street_frames at = InLoop 13 ∷ []

abbrev pub street_mode : StreetAt → Mode
street_mode (street.Failed what) = Throwing what
street_mode (street.Struck spot what) = Throwing what
street_mode (street.Dead spot what) = Throwing what
street_mode at = Running

abbrev pub street_asked : ℤ → ℤ → StreetAt → Option Op
street_asked next gap street.Opens = None
street_asked next gap street.Sent = Some (op.Spawn 0 (next ∷ []))
street_asked next gap street.Draws = Some (op.Draw (pos 1) (pos 5))
street_asked next gap street.Sleeps = Some (op.Pause gap (pos 0))
street_asked next gap (street.Dead spot what) = Some (op.Die what)
street_asked next gap at = Some op.Nop

-- ---- the script that a process stands for

abbrev pub script_of : ProcId → ℤ → Stage → Script
script_of me val (stage.Car id request at) =
    record {
      scenario = wash;
      me = me;
      kind = 0;
      classes = classes_at wash.kinds 0;
      place = car_place at;
      variables = val ∷ id ∷ pos request.0 ∷ replicate 61 (pos 0);
      frames = car_frames request at;
      mode = car_mode at;
      asked = car_asked id request at;
    }
script_of me val (stage.Street next gap at) =
    record {
      scenario = wash;
      me = me;
      kind = 1;
      classes = classes_at wash.kinds 1;
      place = street_place at;
      variables = val ∷ next ∷ gap ∷ replicate 61 (pos 0);
      frames = street_frames at;
      mode = street_mode at;
      asked = street_asked next gap at;
    }

-- the variable that gets what it is told next, where that is an event that it made or a number that it drew
abbrev pub car_told : CarAt → Option ℕ
car_told at = given_by (stmt_at wash.code (car_place at - 1))

abbrev pub street_told : StreetAt → Option ℕ
street_told at = given_by (stmt_at wash.code (street_place at - 1))

abbrev pub stage_told : Stage → Option ℕ
stage_told (stage.Car id request at) = car_told at
stage_told (stage.Street next gap at) = street_told at

-- ---- how it begins, and what it holds

abbrev pub stage_begun : List ℤ → Stage
stage_begun [] = stage.Street (pos 0) (pos 0) street.Opens
stage_begun (id ∷ args) = stage.Car id (record { 0 = 0 }) car.Came

-- the event in place 2, and in any other
abbrev pub stage_holds : Stage → Bool → EventId
stage_holds (stage.Car id request at) true = request
stage_holds s at = record { 0 = 0 }
