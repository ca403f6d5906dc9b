-- What a process of the car wash asks for when it is polled, and where it stands then.
use Rattle.std.specs.Prelude.{◌∷◌, [], ℤ, pos, true, Option, Some, None}
use Rattle.sim_types.specs.Throws.{error}
use Rattle.sim_types.specs.declared.event.EventId.{EventId}
use Rattle.sim_types.specs.declared.event.Signal.{Signal}
use Rattle.sim_types.specs.declared.event.Signal.TheVariants as signal
use Rattle.sim_types.specs.declared.event.Throw.{Throw}
use Rattle.sim_types.specs.declared.op.Op.{Op}
use Rattle.sim_types.specs.declared.op.Op.TheVariants as op
use Rattle.sim_script_model.specs.Arithmetic.{Answer, Number, Error, compute}
use Rattle.sim_types.specs.declared.script.Arith.TheVariants as arith
use Rattle.sim_native.specs.declared.wash.CarAt.{CarAt}
use Rattle.sim_native.specs.declared.wash.CarAt.TheVariants as car
use Rattle.sim_native.specs.declared.wash.CarSpot.TheVariants as spot
use Rattle.sim_native.specs.declared.wash.StreetSpot.TheVariants as there
use Rattle.sim_native.specs.declared.wash.StreetAt.{StreetAt}
use Rattle.sim_native.specs.declared.wash.StreetAt.TheVariants as street
use Rattle.sim_native.specs.declared.wash.Stage.{Stage}
use Rattle.sim_native.specs.declared.wash.Stage.TheVariants as stage
use Rattle.sim_native.specs.Told.{thrown_by}

-- ---- a car

-- a throw ends a car that has no request yet; another leaves its machine first
abbrev pub car_thrown : ℤ → EventId → CarAt → Throw → Op × Stage
car_thrown id request car.Waits what = (op.Leave, stage.Car id request (car.Fled spot.Waiting what))
car_thrown id request car.Washed what = (op.Leave, stage.Car id request (car.Fled spot.Washing what))
car_thrown id request car.Came what = (op.Die what, stage.Car id request (car.Dead spot.Coming what))
car_thrown id request at what = (op.Die what, stage.Car id request (car.Dead spot.Asking what))

-- it asks for a machine, waits for it, is washed for 5, says its number, leaves, and ends
abbrev pub car_next : ℤ → EventId → CarAt → Signal → Op × Stage
car_next id request car.Came told = (op.Enter 0 (pos 0) true, stage.Car id request car.Asked)
car_next id request car.Asked (signal.Made e) = (op.Wait e, stage.Car id e car.Waits)
car_next id request car.Asked told = (op.Wait request, stage.Car id request car.Waits)
car_next id request car.Waits told = (op.Pause (pos 5) (pos 0), stage.Car id request car.Washed)
car_next id request car.Washed told = (op.Log id, stage.Car id request car.Clean)
car_next id request car.Clean told = (op.Leave, stage.Car id request car.Left)
car_next id request car.Left told = (op.Finish (pos 0), stage.Car id request car.Gone)
car_next id request car.Gone told = (op.Finish (pos 0), stage.Car id request car.Gone)
car_next id request (car.Fled spot what) told = (op.Die what, stage.Car id request (car.Dead spot what))
car_next id request (car.Dead spot what) told = (op.Die what, stage.Car id request (car.Dead spot what))

-- ---- the street

-- a throw takes it out of its loop first, where it is in that
abbrev pub street_thrown : ℤ → ℤ → StreetAt → Throw → Op × Stage
street_thrown next gap street.Opens what = (op.Die what, stage.Street next gap (street.Dead there.Opening what))
street_thrown next gap street.Draws what = (op.Nop, stage.Street next gap (street.Struck there.Drawing what))
street_thrown next gap at what = (op.Nop, stage.Street next gap (street.Struck there.Sleeping what))

-- the next car has the next number; behind the last there is none
abbrev pub street_counted : ℤ → ℤ → Answer → Stage
street_counted next gap (Number n) = stage.Street n gap street.Counted
street_counted next gap (Error n) = stage.Street next gap (street.Failed (record { kind = error; value = pos n }))

-- what it draws
abbrev pub gap_by : Signal → ℤ → ℤ
gap_by (signal.Number n) gap = n
gap_by told gap = gap

abbrev pub street_next : ℤ → ℤ → StreetAt → Signal → Op × Stage
street_next next gap street.Opens told = (op.Nop, stage.Street (pos 0) gap street.Numbered)
street_next next gap street.Numbered told = (op.Nop, stage.Street next gap street.Loops)
street_next next gap street.Loops told = (op.Spawn 0 (next ∷ []), stage.Street next gap street.Sent)
street_next next gap street.Sent told = (op.Nop, street_counted next gap (compute arith.Add next (pos 1)))
street_next next gap street.Counted told = (op.Draw (pos 1) (pos 5), stage.Street next gap street.Draws)
street_next next gap street.Draws told = (op.Pause (gap_by told gap) (pos 0), stage.Street next (gap_by told gap) street.Sleeps)
street_next next gap street.Sleeps told = (op.Nop, stage.Street next gap street.Loops)
street_next next gap (street.Failed what) told = (op.Nop, stage.Street next gap (street.Struck there.Counting what))
street_next next gap (street.Struck spot what) told = (op.Die what, stage.Street next gap (street.Dead spot what))
street_next next gap (street.Dead spot what) told = (op.Die what, stage.Street next gap (street.Dead spot what))

-- ---- a poll

abbrev pub stage_thrown : Stage → Throw → Op × Stage
stage_thrown (stage.Car id request at) what = car_thrown id request at what
stage_thrown (stage.Street next gap at) what = street_thrown next gap at what

abbrev pub stage_next : Stage → Signal → Op × Stage
stage_next (stage.Car id request at) told = car_next id request at told
stage_next (stage.Street next gap at) told = street_next next gap at told

abbrev pub stage_after : Stage → Signal → Option Throw → Op × Stage
stage_after s told None = stage_next s told
stage_after s told (Some what) = stage_thrown s what

abbrev pub wash_turn : Stage → Signal → Op × Stage
wash_turn s told = stage_after s told (thrown_by told)
