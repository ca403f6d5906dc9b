-- Where a process of the bank stands, as the script of its kind.
use Rattle.std.specs.Prelude.{◌-◌, ◌==◌, ◌∷◌, [], List, ℕ, ℤ, pos, true, Option, Some, None, replicate, if◌then◌else◌}
use Rattle.sim_types.specs.declared.event.EventId.{EventId}
use Rattle.sim_types.specs.declared.event.ProcId.{ProcId}
use Rattle.sim_types.specs.declared.op.Op.{Op}
use Rattle.sim_types.specs.declared.op.Op.TheVariants as op
use Rattle.sim_script_model.specs.Scripts.{Frame, InRepeat, InScope, Mode, Running, Throwing, Script, classes_at, stmt_at}
use Rattle.sim_script_model.specs.Polls.{given_by}
use Rattle.sim_models.specs.Bank.{bank}
use Rattle.sim_native.specs.declared.bank.CustomerAt.{CustomerAt}
use Rattle.sim_native.specs.declared.bank.CustomerAt.TheVariants as customer
use Rattle.sim_native.specs.declared.bank.CustomerSpot.{CustomerSpot}
use Rattle.sim_native.specs.declared.bank.CustomerSpot.TheVariants as spot
use Rattle.sim_native.specs.declared.bank.Held.{Held}
use Rattle.sim_native.specs.declared.bank.SourceAt.{SourceAt}
use Rattle.sim_native.specs.declared.bank.SourceAt.TheVariants as source
use Rattle.sim_native.specs.declared.bank.SourceSpot.{SourceSpot}
use Rattle.sim_native.specs.declared.bank.SourceSpot.TheVariants as there
use Rattle.sim_native.specs.declared.bank.Stage.{Stage}
use Rattle.sim_native.specs.declared.bank.Stage.TheVariants as stage

-- the variables that no statement reads any more: what a process was told last, the patience of a customer, whether it had the
-- counter, how long it was served, and the time between two customers
pub record SpentOf : Type 0 where
  pub val : ℤ
  pub patience : ℤ
  pub called : ℤ
  pub service : ℤ
  pub gap : ℤ

-- those of a process that begins
abbrev pub none_spent : SpentOf
none_spent = record { val = pos 0; patience = pos 0; called = pos 0; service = pos 0; gap = pos 0 }

-- ---- a customer

-- the statement where something was thrown at it
abbrev pub customer_spot : CustomerSpot → ℕ
customer_spot spot.Coming = 0
customer_spot spot.Asking = 1
customer_spot spot.Timing = 2
customer_spot spot.Choosing = 3
customer_spot spot.Queueing = 4
customer_spot spot.Drawing = 7
customer_spot spot.Serving = 8

abbrev pub customer_place : CustomerAt → ℕ
customer_place (customer.Came p) = 0
customer_place (customer.Asked p) = 1
customer_place customer.Timed = 2
customer_place customer.Either = 3
customer_place customer.Queued = 4
customer_place customer.Woken = 5
customer_place customer.Called = 6
customer_place customer.Draws = 7
customer_place customer.Served = 8
customer_place customer.Done = 9
customer_place customer.Reneged = 10
customer_place customer.Unserved = 11
customer_place customer.Leaves = 12
customer_place customer.Left = 13
customer_place customer.Gone = 14
customer_place (customer.Fled spot what) = customer_spot spot
customer_place (customer.Dead spot what) = customer_spot spot

-- it stands in the scope of its request from when that is made until it leaves
abbrev pub customer_frames : EventId → CustomerAt → List Frame
customer_frames request (customer.Came p) = []
customer_frames request (customer.Asked p) = []
customer_frames request customer.Left = []
customer_frames request customer.Gone = []
customer_frames request (customer.Fled spot what) = []
customer_frames request (customer.Dead spot what) = []
customer_frames request at = InScope request ∷ []

abbrev pub customer_mode : CustomerAt → Mode
customer_mode (customer.Fled spot what) = Throwing what
customer_mode (customer.Dead spot what) = Throwing what
customer_mode at = Running

-- its patience, by what was kept of it
abbrev pub customer_patience : ℤ → CustomerAt → ℤ
customer_patience kept (customer.Came p) = p
customer_patience kept (customer.Asked p) = p
customer_patience kept at = kept

abbrev pub customer_asked : SpentOf → Held → CustomerAt → Option Op
customer_asked was held (customer.Came p) = None
customer_asked was held (customer.Asked p) = Some (op.Enter 0 (pos 0) true)
customer_asked was held customer.Timed = Some (op.Timeout was.patience (pos 0))
customer_asked was held customer.Either = Some (op.AnyOf (held.request ∷ held.timeout ∷ []))
customer_asked was held customer.Queued = Some (op.Wait held.condition)
customer_asked was held customer.Woken = Some (op.Has held.condition held.request)
customer_asked was held customer.Draws = Some (op.Draw (pos 5) (pos 15))
customer_asked was held customer.Served = Some (op.Pause was.service (pos 0))
customer_asked was held customer.Done = Some (op.Log (pos 1))
customer_asked was held customer.Unserved = Some (op.Log (pos 0))
customer_asked was held customer.Left = Some op.Leave
customer_asked was held customer.Gone = Some (op.Finish (pos 0))
customer_asked was held (customer.Fled spot what) = Some op.Leave
customer_asked was held (customer.Dead spot what) = Some (op.Die what)
customer_asked was held at = Some op.Nop

-- ---- the source

abbrev pub source_spot : SourceSpot → ℕ
source_spot there.Opening = 14
source_spot there.DrawingGap = 16
source_spot there.Sleeping = 17
source_spot there.DrawingPatience = 18

abbrev pub source_place : SourceAt → ℕ
source_place source.Opens = 14
source_place (source.Loops left) = 15
source_place (source.DrawsGap left) = 16
source_place (source.Sleeps left) = 17
source_place (source.DrawsPatience left) = 18
source_place (source.Sent left) = 19
source_place source.Over = 20
source_place source.Gone = 21
source_place (source.Struck spot what) = source_spot spot
source_place (source.Dead spot what) = source_spot spot

abbrev pub source_frames : SourceAt → List Frame
source_frames (source.Loops left) = InRepeat left 20 ∷ []
source_frames (source.DrawsGap left) = InRepeat left 20 ∷ []
source_frames (source.Sleeps left) = InRepeat left 20 ∷ []
source_frames (source.DrawsPatience left) = InRepeat left 20 ∷ []
source_frames (source.Sent left) = InRepeat left 20 ∷ []
source_frames at = []

abbrev pub source_mode : SourceAt → Mode
source_mode (source.Struck spot what) = Throwing what
source_mode (source.Dead spot what) = Throwing what
source_mode at = Running

abbrev pub source_asked : SpentOf → SourceAt → Option Op
source_asked was source.Opens = None
source_asked was (source.DrawsGap left) = Some (op.Draw (pos 1) (pos 12))
source_asked was (source.Sleeps left) = Some (op.Pause was.gap (pos 0))
source_asked was (source.DrawsPatience left) = Some (op.Draw (pos 3) (pos 9))
source_asked was (source.Sent left) = Some (op.Spawn 0 (was.patience ∷ []))
source_asked was source.Gone = Some (op.Finish (pos 0))
source_asked was (source.Dead spot what) = Some (op.Die what)
source_asked was at = Some op.Nop

-- ---- the script that a process stands for

abbrev pub script_of : ProcId → SpentOf → Stage → Script
script_of me was (stage.Customer held at) =
    record {
      scenario = bank;
      me = me;
      kind = 0;
      classes = classes_at bank.kinds 0;
      place = customer_place at;
      variables =
          was.val
          ∷ customer_patience was.patience at
          ∷ pos held.request.0
          ∷ pos held.timeout.0
          ∷ pos held.condition.0
          ∷ was.called
          ∷ was.service
          ∷ replicate 57 (pos 0);
      frames = customer_frames held.request at;
      mode = customer_mode at;
      asked = customer_asked was held at;
    }
script_of me was (stage.Source at) =
    record {
      scenario = bank;
      me = me;
      kind = 1;
      classes = classes_at bank.kinds 1;
      place = source_place at;
      variables = was.val ∷ was.gap ∷ was.patience ∷ replicate 61 (pos 0);
      frames = source_frames at;
      mode = source_mode at;
      asked = source_asked was at;
    }

-- the variable that gets what it is told next, where that is an event that it made or a number
abbrev pub customer_told : CustomerAt → Option ℕ
customer_told at = given_by (stmt_at bank.code (customer_place at - 1))

abbrev pub source_told : SourceAt → Option ℕ
source_told at = given_by (stmt_at bank.code (source_place at - 1))

abbrev pub stage_told : Stage → Option ℕ
stage_told (stage.Customer held at) = customer_told at
stage_told (stage.Source at) = source_told at

-- ---- how it begins, and what it holds

-- no event is made yet
abbrev pub none_held : Held
none_held = record { request = record { 0 = 0 }; timeout = record { 0 = 0 }; condition = record { 0 = 0 } }

abbrev pub stage_begun : List ℤ → Stage
stage_begun [] = stage.Source source.Opens
stage_begun (p ∷ args) = stage.Customer none_held (customer.Came p)

-- the event in a place
abbrev pub held_at : Held → ℕ → EventId
held_at held at =
    if at == 2 then held.request else if at == 3 then held.timeout else if at == 4 then held.condition else record { 0 = 0 }

abbrev pub stage_holds : Stage → ℕ → EventId
stage_holds (stage.Customer held c) at = held_at held at
stage_holds (stage.Source c) at = record { 0 = 0 }
