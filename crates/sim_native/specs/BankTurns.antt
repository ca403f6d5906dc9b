-- What a process of the bank asks for when it is polled, and where it stands then.
use Rattle.std.specs.Prelude.{◌-ℤ◌, ◌∷◌, [], ℤ, pos, Bool, true, false, int_lt, Option, Some, None}
use Rattle.sim_types.specs.declared.event.Signal.{Signal}
use Rattle.sim_types.specs.declared.event.Signal.TheVariants as signal
use Rattle.sim_types.specs.declared.event.Throw.{Throw}
use Rattle.sim_types.specs.declared.op.Op.{Op}
use Rattle.sim_types.specs.declared.op.Op.TheVariants as op
use Rattle.sim_script_model.specs.Arithmetic.{is_equal}
use Rattle.sim_native.specs.declared.bank.CustomerAt.{CustomerAt}
use Rattle.sim_native.specs.declared.bank.CustomerAt.TheVariants as customer
use Rattle.sim_native.specs.declared.bank.CustomerSpot.TheVariants as spot
use Rattle.sim_native.specs.declared.bank.Held.{Held}
use Rattle.sim_native.specs.declared.bank.SourceAt.{SourceAt}
use Rattle.sim_native.specs.declared.bank.SourceAt.TheVariants as source
use Rattle.sim_native.specs.declared.bank.SourceSpot.TheVariants as there
use Rattle.sim_native.specs.declared.bank.Stage.{Stage}
use Rattle.sim_native.specs.declared.bank.Stage.TheVariants as stage
use Rattle.sim_native.specs.BankStages.{SpentOf}
use Rattle.sim_native.specs.Told.{thrown_by, value_by}

-- the number that a process is told, or 0
abbrev pub number_by : Signal → ℤ
number_by (signal.Number n) = n
number_by told = pos 0

-- ---- a customer

-- a throw ends a customer that has no request yet; another leaves the counter, or its queue, first
abbrev pub customer_thrown : CustomerAt → Throw → Op × CustomerAt
customer_thrown (customer.Came p) what = (op.Die what, customer.Dead spot.Coming what)
customer_thrown customer.Timed what = (op.Leave, customer.Fled spot.Timing what)
customer_thrown customer.Either what = (op.Leave, customer.Fled spot.Choosing what)
customer_thrown customer.Queued what = (op.Leave, customer.Fled spot.Queueing what)
customer_thrown customer.Draws what = (op.Leave, customer.Fled spot.Drawing what)
customer_thrown customer.Served what = (op.Leave, customer.Fled spot.Serving what)
customer_thrown at what = (op.Die what, customer.Dead spot.Asking what)

-- it holds the events that it makes
abbrev pub held_by : Held → CustomerAt → Signal → Held
held_by held (customer.Asked p) (signal.Made e) = record held { request = e }
held_by held customer.Timed (signal.Made e) = record held { timeout = e }
held_by held customer.Either (signal.Made e) = record held { condition = e }
held_by held at told = held

-- where it stands once it looked whether it has the counter, by whether 0 says that it has not
abbrev pub called_or_not : Bool → CustomerAt
called_or_not true = customer.Reneged
called_or_not false = customer.Called

-- it asks for the counter, sets a timeout, and waits for either; then it is served for 5 to 15 and says 1, or says 0; and it leaves,
-- and ends
abbrev pub customer_next : Held → CustomerAt → Signal → Op × CustomerAt
customer_next held (customer.Came p) told = (op.Enter 0 (pos 0) true, customer.Asked p)
customer_next held (customer.Asked p) told = (op.Timeout p (pos 0), customer.Timed)
customer_next held customer.Timed told = (op.AnyOf (held.request ∷ held.timeout ∷ []), customer.Either)
customer_next held customer.Either told = (op.Wait held.condition, customer.Queued)
customer_next held customer.Queued told = (op.Has held.condition held.request, customer.Woken)
customer_next held customer.Woken told = (op.Nop, called_or_not (is_equal (number_by told) (pos 0)))
customer_next held customer.Called told = (op.Draw (pos 5) (pos 15), customer.Draws)
customer_next held customer.Draws told = (op.Pause (number_by told) (pos 0), customer.Served)
customer_next held customer.Served told = (op.Log (pos 1), customer.Done)
customer_next held customer.Done told = (op.Nop, customer.Leaves)
customer_next held customer.Reneged told = (op.Log (pos 0), customer.Unserved)
customer_next held customer.Unserved told = (op.Nop, customer.Leaves)
customer_next held customer.Leaves told = (op.Leave, customer.Left)
customer_next held customer.Left told = (op.Finish (pos 0), customer.Gone)
customer_next held customer.Gone told = (op.Finish (pos 0), customer.Gone)
customer_next held (customer.Fled spot what) told = (op.Die what, customer.Dead spot what)
customer_next held (customer.Dead spot what) told = (op.Die what, customer.Dead spot what)

-- ---- the source

-- a throw takes it out of its loop first, where it is in that
abbrev pub source_thrown : SourceAt → Throw → Op × SourceAt
source_thrown source.Opens what = (op.Die what, source.Dead there.Opening what)
source_thrown (source.DrawsGap left) what = (op.Nop, source.Struck there.DrawingGap what)
source_thrown (source.Sleeps left) what = (op.Nop, source.Struck there.Sleeping what)
source_thrown at what = (op.Nop, source.Struck there.DrawingPatience what)

-- one customer less is left, while there are more than one
abbrev pub source_counted : ℤ → Bool → SourceAt
source_counted left true = source.Loops (left -ℤ pos 1)
source_counted left false = source.Over

-- twenty times it draws a time of 1 to 12, waits for so long, draws a patience of 3 to 9, and sends a customer with that
abbrev pub source_next : SourceAt → Signal → Op × SourceAt
source_next source.Opens told = (op.Nop, source.Loops (pos 20))
source_next (source.Loops left) told = (op.Draw (pos 1) (pos 12), source.DrawsGap left)
source_next (source.DrawsGap left) told = (op.Pause (number_by told) (pos 0), source.Sleeps left)
source_next (source.Sleeps left) told = (op.Draw (pos 3) (pos 9), source.DrawsPatience left)
source_next (source.DrawsPatience left) told = (op.Spawn 0 (number_by told ∷ []), source.Sent left)
source_next (source.Sent left) told = (op.Nop, source_counted left (int_lt (pos 1) left))
source_next source.Over told = (op.Finish (pos 0), source.Gone)
source_next source.Gone told = (op.Finish (pos 0), source.Gone)
source_next (source.Struck spot what) told = (op.Die what, source.Dead spot what)
source_next (source.Dead spot what) told = (op.Die what, source.Dead spot what)

-- ---- a poll

abbrev pub customer_after : Held → CustomerAt → Signal → Option Throw → Op × CustomerAt
customer_after held at told None = customer_next held at told
customer_after held at told (Some what) = customer_thrown at what

abbrev pub customer_turn : Held → CustomerAt → Signal → Op × CustomerAt
customer_turn held at told = customer_after held at told (thrown_by told)

abbrev pub source_after : SourceAt → Signal → Option Throw → Op × SourceAt
source_after at told None = source_next at told
source_after at told (Some what) = source_thrown at what

abbrev pub source_turn : SourceAt → Signal → Op × SourceAt
source_turn at told = source_after at told (thrown_by told)

abbrev pub in_customer : Held → Op × CustomerAt → Op × Stage
in_customer held r = (r.0, stage.Customer held r.1)

abbrev pub in_source : Op × SourceAt → Op × Stage
in_source r = (r.0, stage.Source r.1)

abbrev pub bank_turn : Stage → Signal → Op × Stage
bank_turn (stage.Customer held at) told = in_customer (held_by held at told) (customer_turn (held_by held at told) at told)
bank_turn (stage.Source at) told = in_source (source_turn at told)

-- ---- what is needed for that poll alone

abbrev pub patience_by : Stage → Signal → ℤ → ℤ
patience_by (stage.Customer held (customer.Came p)) told kept = p
patience_by (stage.Customer held (customer.Asked p)) told kept = p
patience_by (stage.Source (source.DrawsPatience left)) (signal.Number n) kept = n
patience_by s told kept = kept

abbrev pub called_by : Stage → Signal → ℤ → ℤ
called_by (stage.Customer held customer.Woken) (signal.Number n) kept = n
called_by s told kept = kept

abbrev pub service_by : Stage → Signal → ℤ → ℤ
service_by (stage.Customer held customer.Draws) (signal.Number n) kept = n
service_by s told kept = kept

abbrev pub gap_by : Stage → Signal → ℤ → ℤ
gap_by (stage.Source (source.DrawsGap left)) (signal.Number n) kept = n
gap_by s told kept = kept

abbrev pub spent_by : Stage → Signal → SpentOf → SpentOf
spent_by s told was =
    record {
      val = value_by told was.val;
      patience = patience_by s told was.patience;
      called = called_by s told was.called;
      service = service_by s told was.service;
      gap = gap_by s told was.gap;
    }
