-- Where a process of the machine shop stands, as the script of its kind.
use Rattle.std.specs.Prelude.{◌-◌, ◌∷◌, [], List, ℕ, ℤ, pos, zero, suc, nat_abs, ◌==◌, Bool, true, false, Option, Some, None, replicate, if◌then◌else◌}
use Rattle.sim_types.specs.Throws.{error, overflow, empty_range}
use Rattle.sim_types.specs.declared.event.EventId.{EventId}
use Rattle.sim_types.specs.declared.event.ProcId.{ProcId}
use Rattle.sim_types.specs.declared.event.Throw.{Throw}
use Rattle.sim_types.specs.declared.op.Op.{Op}
use Rattle.sim_types.specs.declared.op.Op.TheVariants as op
use Rattle.sim_script_model.specs.Scripts.{Frame, InLoop, InRepeat, InScope, InTry, Mode, Breaking, Running, Throwing, Script, classes_at, stmt_at}
use Rattle.sim_script_model.specs.Polls.{given_by}
use Rattle.sim_models.specs.Shop.{shop_of}
use Rattle.sim_native.specs.ShopMembers.{BreakerOf, MachineOf, FillerOf, ChiefOf, no_process, no_throw}
use Rattle.sim_native.specs.declared.shop.breaker.BreakerAt.{BreakerAt}
use Rattle.sim_native.specs.declared.shop.breaker.BreakerAt.TheVariants as breaker
use Rattle.sim_native.specs.declared.shop.breaker.BreakerSpot.{BreakerSpot}
use Rattle.sim_native.specs.declared.shop.breaker.BreakerSpot.TheVariants as there
use Rattle.sim_native.specs.declared.shop.machine.MachineAt.{MachineAt}
use Rattle.sim_native.specs.declared.shop.machine.MachineAt.TheVariants as machine
use Rattle.sim_native.specs.declared.shop.machine.MachineSpot.{MachineSpot}
use Rattle.sim_native.specs.declared.shop.machine.MachineSpot.TheVariants as spot
use Rattle.sim_native.specs.declared.shop.filler.FillerAt.{FillerAt}
use Rattle.sim_native.specs.declared.shop.filler.FillerAt.TheVariants as filler
use Rattle.sim_native.specs.declared.shop.chief.ChiefAt.{ChiefAt}
use Rattle.sim_native.specs.declared.shop.chief.ChiefAt.TheVariants as chief
use Rattle.sim_native.specs.declared.shop.chief.ChiefSpot.{ChiefSpot}
use Rattle.sim_native.specs.declared.shop.chief.ChiefSpot.TheVariants as seat
use Rattle.sim_native.specs.declared.shop.Stage.{Stage}
use Rattle.sim_native.specs.declared.shop.Stage.TheVariants as stage

-- the error of a number that has no 64 bits
abbrev pub overflow_thrown : Throw
overflow_thrown = record { kind = error; value = pos overflow }

-- ---- a breaker

-- the statement where something was thrown at it
abbrev pub breaker_spot : BreakerSpot → ℕ
breaker_spot there.Starting = 0
breaker_spot there.Drawing = 2
breaker_spot there.Sleeping = 3
breaker_spot there.Interrupting = 4

abbrev pub breaker_place : BreakerAt → ℕ
breaker_place breaker.Starts = 0
breaker_place breaker.Loops = 1
breaker_place breaker.Draws = 2
breaker_place breaker.Sleeps = 3
breaker_place breaker.Interrupts = 4
breaker_place (breaker.Struck at what) = breaker_spot at
breaker_place (breaker.Dead at what) = breaker_spot at

abbrev pub breaker_frames : BreakerAt → List Frame
breaker_frames breaker.Starts = []
breaker_frames (breaker.Struck at what) = []
breaker_frames (breaker.Dead at what) = []
breaker_frames at = InLoop 5 ∷ []

abbrev pub breaker_mode : BreakerAt → Mode
breaker_mode (breaker.Struck at what) = Throwing what
breaker_mode (breaker.Dead at what) = Throwing what
breaker_mode at = Running

abbrev pub breaker_asked : BreakerOf → BreakerAt → Option Op
breaker_asked m breaker.Starts = None
breaker_asked m breaker.Draws = Some (op.Draw (pos 50) (pos 150))
breaker_asked m breaker.Sleeps = Some (op.Pause m.drawn (pos 0))
breaker_asked m breaker.Interrupts = Some (op.Interrupt m.machine (pos 1))
breaker_asked m (breaker.Dead at what) = Some (op.Die what)
breaker_asked m at = Some op.Nop

-- ---- a machine

-- the statement where something was thrown at it that no line catches, and what that was
abbrev pub machine_spot : MachineSpot → ℕ
machine_spot spot.Starting = 6
machine_spot spot.Drawing = 9
machine_spot spot.Adding = 20
machine_spot spot.Subtracting = 21

abbrev pub machine_error : MachineSpot → Throw
machine_error spot.Drawing = record { kind = error; value = pos empty_range }
machine_error at = overflow_thrown

abbrev pub machine_place : MachineAt → ℕ
machine_place machine.Starts = 6
machine_place machine.HasBreaker = 7
machine_place machine.NextPart = 8
machine_place machine.Draws = 9
machine_place machine.Looks = 10
machine_place machine.SomeLeft = 11
machine_place machine.NoneLeft = 12
machine_place machine.LeavesLoop = 13
machine_place machine.GoesOn = 14
machine_place machine.NotedTime = 15
machine_place machine.Ready = 16
machine_place machine.Works = 17
machine_place machine.Finished = 18
machine_place machine.Broken = 19
machine_place machine.Added = 20
machine_place machine.Subtracted = 21
machine_place machine.WantsCrew = 22
machine_place machine.AsksForCrew = 23
machine_place machine.WaitsForCrew = 24
machine_place machine.ThrownWaiting = 24
machine_place machine.InRepair = 25
machine_place machine.ThrownInRepair = 25
machine_place machine.CrewLeft = 26
machine_place machine.Caught = 27
machine_place machine.Over = 28
machine_place machine.PastTry = 29
machine_place machine.PartMade = 30
machine_place machine.SaidNumber = 31
machine_place (machine.Fails at) = machine_spot at
machine_place (machine.LeavesPart at) = machine_spot at
machine_place (machine.Struck at) = machine_spot at
machine_place (machine.Dead at) = machine_spot at

-- it makes its parts in one loop, goes on with a part in another, and two catch lines catch what is thrown while it works and
-- while it has to do with a crew; it stands in the scope of its request while it waits and is mended
abbrev pub parts_loop : List Frame
parts_loop = InLoop 32 ∷ []

abbrev pub part_loop : List Frame
part_loop = InLoop 30 ∷ parts_loop

abbrev pub machine_frames : EventId → MachineAt → List Frame
machine_frames request machine.Starts = []
machine_frames request machine.HasBreaker = []
machine_frames request machine.NextPart = parts_loop
machine_frames request machine.Draws = parts_loop
machine_frames request machine.PartMade = parts_loop
machine_frames request machine.SaidNumber = parts_loop
machine_frames request machine.Ready = InTry 18 ∷ part_loop
machine_frames request machine.Works = InTry 18 ∷ part_loop
machine_frames request machine.Finished = InTry 18 ∷ part_loop
machine_frames request machine.WantsCrew = InTry 26 ∷ part_loop
machine_frames request machine.AsksForCrew = InTry 26 ∷ part_loop
machine_frames request machine.WaitsForCrew = InScope request ∷ InTry 26 ∷ part_loop
machine_frames request machine.ThrownWaiting = InTry 26 ∷ part_loop
machine_frames request machine.InRepair = InScope request ∷ InTry 26 ∷ part_loop
machine_frames request machine.ThrownInRepair = InTry 26 ∷ part_loop
machine_frames request machine.CrewLeft = InTry 26 ∷ part_loop
machine_frames request (machine.LeavesPart at) = parts_loop
machine_frames request (machine.Struck at) = []
machine_frames request (machine.Dead at) = []
machine_frames request at = part_loop

abbrev pub machine_mode : MachineOf → MachineAt → Mode
machine_mode m machine.LeavesLoop = Breaking
machine_mode m machine.ThrownWaiting = Throwing m.thrown
machine_mode m machine.ThrownInRepair = Throwing m.thrown
machine_mode m (machine.Fails at) = Throwing (machine_error at)
machine_mode m (machine.LeavesPart at) = Throwing (machine_error at)
machine_mode m (machine.Struck at) = Throwing (machine_error at)
machine_mode m (machine.Dead at) = Throwing m.thrown
machine_mode m at = Running

abbrev pub machine_asked : MachineOf → MachineAt → Option Op
machine_asked m machine.Starts = None
machine_asked m machine.HasBreaker = Some (op.Spawn 0 (pos m.given.0 ∷ []))
machine_asked m machine.Draws = Some (op.Draw (pos 8) (pos 12))
machine_asked m machine.SaidNumber = Some (op.Log m.id)
machine_asked m machine.Works = Some (op.Pause m.left (pos 0))
machine_asked m machine.AsksForCrew = Some (op.Enter 0 (pos 1) true)
machine_asked m machine.WaitsForCrew = Some (op.Wait m.request)
machine_asked m machine.ThrownWaiting = Some op.Leave
machine_asked m machine.InRepair = Some (op.Pause (pos 5) (pos 0))
machine_asked m machine.ThrownInRepair = Some op.Leave
machine_asked m machine.CrewLeft = Some op.Leave
machine_asked m (machine.Dead at) = Some (op.Die m.thrown)
machine_asked m at = Some op.Nop

-- ---- a filler

abbrev pub filler_place : FillerAt → ℕ
filler_place filler.Starts = 33
filler_place filler.Loops = 34
filler_place filler.WantsCrew = 35
filler_place filler.AsksForCrew = 36
filler_place filler.WaitsForCrew = 37
filler_place filler.ThrownWaiting = 37
filler_place filler.Works = 38
filler_place filler.ThrownAtWork = 38
filler_place filler.CrewLeft = 39
filler_place filler.Caught = 40
filler_place filler.PastTry = 41
filler_place filler.Dead = 33

-- a catch line catches what is thrown while it has to do with a crew, and it stands in the scope of its request while it waits
-- and while the crew works
abbrev pub filler_frames : EventId → FillerAt → List Frame
filler_frames request filler.Starts = []
filler_frames request filler.Dead = []
filler_frames request filler.Loops = InLoop 42 ∷ []
filler_frames request filler.Caught = InLoop 42 ∷ []
filler_frames request filler.PastTry = InLoop 42 ∷ []
filler_frames request filler.WaitsForCrew = InScope request ∷ InTry 39 ∷ InLoop 42 ∷ []
filler_frames request filler.Works = InScope request ∷ InTry 39 ∷ InLoop 42 ∷ []
filler_frames request at = InTry 39 ∷ InLoop 42 ∷ []

abbrev pub filler_mode : FillerOf → FillerAt → Mode
filler_mode m filler.ThrownWaiting = Throwing m.thrown
filler_mode m filler.ThrownAtWork = Throwing m.thrown
filler_mode m filler.Dead = Throwing m.thrown
filler_mode m at = Running

abbrev pub filler_asked : FillerOf → FillerAt → Option Op
filler_asked m filler.Starts = None
filler_asked m filler.AsksForCrew = Some (op.Enter 0 (pos 2) false)
filler_asked m filler.WaitsForCrew = Some (op.Wait m.request)
filler_asked m filler.ThrownWaiting = Some op.Leave
filler_asked m filler.Works = Some (op.Pause (pos 30) (pos 0))
filler_asked m filler.ThrownAtWork = Some op.Leave
filler_asked m filler.CrewLeft = Some op.Leave
filler_asked m filler.Dead = Some (op.Die m.thrown)
filler_asked m at = Some op.Nop

-- ---- the chief

abbrev pub chief_spot : ChiefSpot → ℕ
chief_spot seat.Starting = 43
chief_spot seat.Counting = 50

abbrev pub chief_place : ChiefAt → ℕ
chief_place chief.Starts = 43
chief_place chief.NextFiller = 44
chief_place chief.SentFiller = 45
chief_place chief.HasFillers = 46
chief_place chief.Numbers = 47
chief_place chief.NextMachine = 48
chief_place chief.SentMachine = 49
chief_place chief.Counted = 50
chief_place chief.HasMachines = 51
chief_place chief.Gone = 52
chief_place chief.Fails = 50
chief_place chief.Struck = 50
chief_place (chief.Dead at) = chief_spot at

abbrev pub chief_frames : ℤ → ChiefAt → List Frame
chief_frames count chief.NextFiller = InRepeat count 46 ∷ []
chief_frames count chief.SentFiller = InRepeat count 46 ∷ []
chief_frames count chief.NextMachine = InRepeat count 51 ∷ []
chief_frames count chief.SentMachine = InRepeat count 51 ∷ []
chief_frames count chief.Counted = InRepeat count 51 ∷ []
chief_frames count chief.Fails = InRepeat count 51 ∷ []
chief_frames count at = []

abbrev pub chief_mode : ChiefOf → ChiefAt → Mode
chief_mode m chief.Fails = Throwing overflow_thrown
chief_mode m chief.Struck = Throwing overflow_thrown
chief_mode m (chief.Dead at) = Throwing m.thrown
chief_mode m at = Running

abbrev pub chief_asked : ChiefOf → ChiefAt → Option Op
chief_asked m chief.Starts = None
chief_asked m chief.SentFiller = Some (op.Spawn 2 [])
chief_asked m chief.SentMachine = Some (op.Spawn 1 (m.next ∷ []))
chief_asked m chief.Gone = Some (op.Finish (pos 0))
chief_asked m (chief.Dead at) = Some (op.Die m.thrown)
chief_asked m at = Some op.Nop

-- ---- the script that a process of a shop of so many machines stands for

abbrev pub script_of : ℕ → ProcId → ℤ → Stage → Script
script_of n me val (stage.Breaker at m) =
    record {
      scenario = shop_of n;
      me = me;
      kind = 0;
      classes = classes_at (shop_of n).kinds 0;
      place = breaker_place at;
      variables = val ∷ pos m.machine.0 ∷ m.drawn ∷ replicate 61 (pos 0);
      frames = breaker_frames at;
      mode = breaker_mode at;
      asked = breaker_asked m at;
    }
script_of n me val (stage.Machine at m) =
    record {
      scenario = shop_of n;
      me = me;
      kind = 1;
      classes = classes_at (shop_of n).kinds 1;
      place = machine_place at;
      variables = val ∷ m.id ∷ m.left ∷ m.since ∷ pos m.caught.kind ∷ m.caught.value ∷ pos m.request.0 ∷ replicate 57 (pos 0);
      frames = machine_frames m.request at;
      mode = machine_mode m at;
      asked = machine_asked m at;
    }
script_of n me val (stage.Filler at m) =
    record {
      scenario = shop_of n;
      me = me;
      kind = 2;
      classes = classes_at (shop_of n).kinds 2;
      place = filler_place at;
      variables = val ∷ pos m.request.0 ∷ pos m.caught.kind ∷ m.caught.value ∷ replicate 60 (pos 0);
      frames = filler_frames m.request at;
      mode = filler_mode m at;
      asked = filler_asked m at;
    }
script_of n me val (stage.Chief at m) =
    record {
      scenario = shop_of n;
      me = me;
      kind = 3;
      classes = classes_at (shop_of n).kinds 3;
      place = chief_place at;
      variables = val ∷ m.next ∷ replicate 62 (pos 0);
      frames = chief_frames m.count at;
      mode = chief_mode m at;
      asked = chief_asked m at;
    }

-- the variable that gets what it is told next, where that is an event that it made or a number that it drew
abbrev pub told_at : ℕ → Option ℕ
told_at place = given_by (stmt_at (shop_of 0).code (place - 1))

abbrev pub breaker_told : BreakerAt → Option ℕ
breaker_told at = told_at (breaker_place at)

abbrev pub machine_told : MachineAt → Option ℕ
machine_told at = told_at (machine_place at)

abbrev pub filler_told : FillerAt → Option ℕ
filler_told at = told_at (filler_place at)

abbrev pub stage_told : Stage → Option ℕ
stage_told (stage.Breaker at m) = breaker_told at
stage_told (stage.Machine at m) = machine_told at
stage_told (stage.Filler at m) = filler_told at
stage_told (stage.Chief at m) = None

-- ---- how it begins, and what it holds

abbrev pub first_of : List ℤ → ℤ
first_of [] = pos 0
first_of (x ∷ args) = x

abbrev pub breaker_begun : ProcId → BreakerOf
breaker_begun p = record { machine = p; drawn = pos 0 }

abbrev pub machine_begun : ℤ → MachineOf
machine_begun id =
    record {
      id = id;
      left = pos 0;
      since = pos 0;
      request = record { 0 = 0 };
      caught = no_throw;
      thrown = no_throw;
      given = no_process;
    }

abbrev pub filler_begun : FillerOf
filler_begun = record { request = record { 0 = 0 }; caught = no_throw; thrown = no_throw }

abbrev pub chief_begun : ChiefOf
chief_begun = record { next = pos 0; count = pos 0; thrown = no_throw }

abbrev pub stage_begun : ℕ → List ℤ → Stage
stage_begun zero args = stage.Breaker breaker.Starts (breaker_begun (record { 0 = nat_abs (first_of args) }))
stage_begun (suc zero) args = stage.Machine machine.Starts (machine_begun (first_of args))
stage_begun (suc (suc zero)) args = stage.Filler filler.Starts filler_begun
stage_begun kind args = stage.Chief chief.Starts chief_begun

-- this event, or event 0
abbrev pub event_if : Bool → EventId → EventId
event_if there e = if there then e else record { 0 = 0 }

-- the event in a place
abbrev pub stage_holds : Stage → ℕ → EventId
stage_holds (stage.Breaker at m) place = event_if (place == 1) (record { 0 = m.machine.0 })
stage_holds (stage.Machine at m) place = event_if (place == 6) m.request
stage_holds (stage.Filler at m) place = event_if (place == 1) m.request
stage_holds (stage.Chief at m) place = record { 0 = 0 }
