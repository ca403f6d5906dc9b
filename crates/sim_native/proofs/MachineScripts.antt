-- A machine asks for what its script asks for, and then stands for the script as it is then.
use Rattle.std.proofs.Common.{◌≡◌, ℕ, ℤ, pos, ◌+ℤ◌, ◌-ℤ◌, Bool, true, false, refl, arith}
use Rattle.std.specs.Prelude.{◌∷◌, [], IsTrue, if◌then◌else◌}
use Rattle.std.proofs.lemmas.Bool.Decides.{nat_tests}
use Rattle.sim_types.specs.Throws.{empty_range}
use Rattle.sim_types.specs.declared.event.ProcId.{ProcId}
use Rattle.sim_types.specs.declared.event.Signal.{Signal}
use Rattle.sim_types.specs.declared.event.Signal.TheVariants as signal
use Rattle.sim_types.specs.declared.op.Op.TheVariants as op
use Rattle.sim_machine.specs.MayFollow.{raises_one_of}
use Rattle.sim_script_model.specs.Arithmetic.{is_equal, is_int64}
use Rattle.sim_script_model.specs.Polls.{answer_to, remember}
use Rattle.sim_script_model.specs.Scripts.{Script, set_place}
use Rattle.sim_native.specs.ShopMembers.{MachineOf}
use Rattle.sim_native.specs.declared.shop.machine.MachineAt.{MachineAt}
use Rattle.sim_native.specs.declared.shop.machine.MachineAt.TheVariants as machine
use Rattle.sim_native.specs.declared.shop.machine.MachineSpot.TheVariants as spot
use Rattle.sim_native.specs.declared.shop.Stage.TheVariants as stage
use Rattle.sim_native.specs.ShopStages.{script_of}
use Rattle.sim_native.specs.ShopTurns.{machine_added, machine_subtracted, machine_turn, of_machine, quiet}
use Rattle.sim_native.proofs.ShopPolls.{Turns, by_range, stood}

-- the only error that a draw is refused by
only_error : (n : ℕ) → IsTrue (raises_one_of (empty_range ∷ []) (signal.Raised n)) → n ≡ empty_range
only_error n may = grind (arith, nat_tests, may)

module _ (n k : ℕ) (me : ProcId) (time : ℤ) where
  -- the script of a machine that stands here
  abbrev at_place : ℤ → MachineAt → MachineOf → Script
  at_place val at m = script_of k me val (stage.Machine at m)

  -- whether something of the part is left or not
  looked : (val : ℤ) (m : MachineOf) (none : Bool)
      → remember (op.Nop, if none then set_place 12 (set_place 11 (at_place val machine.Looks m)) else set_place 11 (at_place val machine.Looks m))
      ≡ stood k me val signal.Done (of_machine (quiet (if none then machine.NoneLeft else machine.SomeLeft, m)))
  looked val m true = refl
  looked val m false = refl

  -- whatever the sum and the difference come to
  added : (val : ℤ) (m : MachineOf) (sum : ℤ) (fits : Bool)
      → remember (op.Nop, answer_to 2 (by_range fits sum) (set_place 20 (at_place val machine.Broken m)))
      ≡ stood k me val signal.Done (of_machine (quiet (machine_added m (by_range fits sum))))
  added val m sum true = refl
  added val m sum false = refl

  subtracted : (val : ℤ) (m : MachineOf) (left : ℤ) (fits : Bool)
      → remember (op.Nop, answer_to 2 (by_range fits left) (set_place 21 (at_place val machine.Added m)))
      ≡ stood k me val signal.Done (of_machine (quiet (machine_subtracted m (by_range fits left))))
  subtracted val m left true = refl
  subtracted val m left false = refl

  refused : (val : ℤ) (m : MachineOf) (e : ℕ)
      → Turns n k me time val (stage.Machine machine.Draws m) (signal.Raised e) (of_machine (machine_turn me time machine.Draws m (signal.Raised e)))
  refused val m e may = rw (only_error e may) refl

  pub machine_is_script : (val : ℤ) (m : MachineOf) (at : MachineAt) (told : Signal)
      → Turns n k me time val (stage.Machine at m) told (of_machine (machine_turn me time at m told))
  machine_is_script val m machine.Starts signal.Begin may = refl
  machine_is_script val m machine.Starts signal.Done may = absurd (cc)
  machine_is_script val m machine.Starts (signal.Value v) may = refl
  machine_is_script val m machine.Starts (signal.Thrown t) may = refl
  machine_is_script val m machine.Starts (signal.Raised n) may = absurd (cc)
  machine_is_script val m machine.Starts (signal.Number n) may = absurd (cc)
  machine_is_script val m machine.Starts (signal.Made e) may = absurd (cc)
  machine_is_script val m machine.HasBreaker signal.Begin may = absurd (cc)
  machine_is_script val m machine.HasBreaker signal.Done may = absurd (cc)
  machine_is_script val m machine.HasBreaker (signal.Value v) may = absurd (cc)
  machine_is_script val m machine.HasBreaker (signal.Thrown t) may = absurd (cc)
  machine_is_script val m machine.HasBreaker (signal.Raised n) may = absurd (cc)
  machine_is_script val m machine.HasBreaker (signal.Number n) may = absurd (cc)
  machine_is_script val m machine.HasBreaker (signal.Made e) may = refl
  machine_is_script val m machine.NextPart signal.Begin may = absurd (cc)
  machine_is_script val m machine.NextPart signal.Done may = refl
  machine_is_script val m machine.NextPart (signal.Value v) may = absurd (cc)
  machine_is_script val m machine.NextPart (signal.Thrown t) may = absurd (cc)
  machine_is_script val m machine.NextPart (signal.Raised n) may = absurd (cc)
  machine_is_script val m machine.NextPart (signal.Number n) may = absurd (cc)
  machine_is_script val m machine.NextPart (signal.Made e) may = absurd (cc)
  machine_is_script val m machine.Draws signal.Begin may = absurd (cc)
  machine_is_script val m machine.Draws signal.Done may = absurd (cc)
  machine_is_script val m machine.Draws (signal.Value v) may = absurd (cc)
  machine_is_script val m machine.Draws (signal.Thrown t) may = absurd (cc)
  machine_is_script val m machine.Draws (signal.Raised n) may = refused val m n may
  machine_is_script val m machine.Draws (signal.Number n) may = refl
  machine_is_script val m machine.Draws (signal.Made e) may = absurd (cc)
  machine_is_script val m machine.Looks signal.Begin may = absurd (cc)
  machine_is_script val m machine.Looks signal.Done may = looked val m (is_equal m.left (pos 0))
  machine_is_script val m machine.Looks (signal.Value v) may = absurd (cc)
  machine_is_script val m machine.Looks (signal.Thrown t) may = absurd (cc)
  machine_is_script val m machine.Looks (signal.Raised n) may = absurd (cc)
  machine_is_script val m machine.Looks (signal.Number n) may = absurd (cc)
  machine_is_script val m machine.Looks (signal.Made e) may = absurd (cc)
  machine_is_script val m machine.SomeLeft signal.Begin may = absurd (cc)
  machine_is_script val m machine.SomeLeft signal.Done may = refl
  machine_is_script val m machine.SomeLeft (signal.Value v) may = absurd (cc)
  machine_is_script val m machine.SomeLeft (signal.Thrown t) may = absurd (cc)
  machine_is_script val m machine.SomeLeft (signal.Raised n) may = absurd (cc)
  machine_is_script val m machine.SomeLeft (signal.Number n) may = absurd (cc)
  machine_is_script val m machine.SomeLeft (signal.Made e) may = absurd (cc)
  machine_is_script val m machine.NoneLeft signal.Begin may = absurd (cc)
  machine_is_script val m machine.NoneLeft signal.Done may = refl
  machine_is_script val m machine.NoneLeft (signal.Value v) may = absurd (cc)
  machine_is_script val m machine.NoneLeft (signal.Thrown t) may = absurd (cc)
  machine_is_script val m machine.NoneLeft (signal.Raised n) may = absurd (cc)
  machine_is_script val m machine.NoneLeft (signal.Number n) may = absurd (cc)
  machine_is_script val m machine.NoneLeft (signal.Made e) may = absurd (cc)
  machine_is_script val m machine.LeavesLoop signal.Begin may = absurd (cc)
  machine_is_script val m machine.LeavesLoop signal.Done may = refl
  machine_is_script val m machine.LeavesLoop (signal.Value v) may = absurd (cc)
  machine_is_script val m machine.LeavesLoop (signal.Thrown t) may = absurd (cc)
  machine_is_script val m machine.LeavesLoop (signal.Raised n) may = absurd (cc)
  machine_is_script val m machine.LeavesLoop (signal.Number n) may = absurd (cc)
  machine_is_script val m machine.LeavesLoop (signal.Made e) may = absurd (cc)
  machine_is_script val m machine.PartMade signal.Begin may = absurd (cc)
  machine_is_script val m machine.PartMade signal.Done may = refl
  machine_is_script val m machine.PartMade (signal.Value v) may = absurd (cc)
  machine_is_script val m machine.PartMade (signal.Thrown t) may = absurd (cc)
  machine_is_script val m machine.PartMade (signal.Raised n) may = absurd (cc)
  machine_is_script val m machine.PartMade (signal.Number n) may = absurd (cc)
  machine_is_script val m machine.PartMade (signal.Made e) may = absurd (cc)
  machine_is_script val m machine.SaidNumber signal.Begin may = absurd (cc)
  machine_is_script val m machine.SaidNumber signal.Done may = refl
  machine_is_script val m machine.SaidNumber (signal.Value v) may = absurd (cc)
  machine_is_script val m machine.SaidNumber (signal.Thrown t) may = absurd (cc)
  machine_is_script val m machine.SaidNumber (signal.Raised n) may = absurd (cc)
  machine_is_script val m machine.SaidNumber (signal.Number n) may = absurd (cc)
  machine_is_script val m machine.SaidNumber (signal.Made e) may = absurd (cc)
  machine_is_script val m machine.GoesOn signal.Begin may = absurd (cc)
  machine_is_script val m machine.GoesOn signal.Done may = refl
  machine_is_script val m machine.GoesOn (signal.Value v) may = absurd (cc)
  machine_is_script val m machine.GoesOn (signal.Thrown t) may = absurd (cc)
  machine_is_script val m machine.GoesOn (signal.Raised n) may = absurd (cc)
  machine_is_script val m machine.GoesOn (signal.Number n) may = absurd (cc)
  machine_is_script val m machine.GoesOn (signal.Made e) may = absurd (cc)
  machine_is_script val m machine.NotedTime signal.Begin may = absurd (cc)
  machine_is_script val m machine.NotedTime signal.Done may = refl
  machine_is_script val m machine.NotedTime (signal.Value v) may = absurd (cc)
  machine_is_script val m machine.NotedTime (signal.Thrown t) may = absurd (cc)
  machine_is_script val m machine.NotedTime (signal.Raised n) may = absurd (cc)
  machine_is_script val m machine.NotedTime (signal.Number n) may = absurd (cc)
  machine_is_script val m machine.NotedTime (signal.Made e) may = absurd (cc)
  machine_is_script val m machine.Ready signal.Begin may = absurd (cc)
  machine_is_script val m machine.Ready signal.Done may = refl
  machine_is_script val m machine.Ready (signal.Value v) may = absurd (cc)
  machine_is_script val m machine.Ready (signal.Thrown t) may = absurd (cc)
  machine_is_script val m machine.Ready (signal.Raised n) may = absurd (cc)
  machine_is_script val m machine.Ready (signal.Number n) may = absurd (cc)
  machine_is_script val m machine.Ready (signal.Made e) may = absurd (cc)
  machine_is_script val m machine.Works signal.Begin may = refl
  machine_is_script val m machine.Works signal.Done may = absurd (cc)
  machine_is_script val m machine.Works (signal.Value v) may = refl
  machine_is_script val m machine.Works (signal.Thrown t) may = refl
  machine_is_script val m machine.Works (signal.Raised n) may = refl
  machine_is_script val m machine.Works (signal.Number n) may = absurd (cc)
  machine_is_script val m machine.Works (signal.Made e) may = absurd (cc)
  machine_is_script val m machine.Finished signal.Begin may = absurd (cc)
  machine_is_script val m machine.Finished signal.Done may = refl
  machine_is_script val m machine.Finished (signal.Value v) may = absurd (cc)
  machine_is_script val m machine.Finished (signal.Thrown t) may = absurd (cc)
  machine_is_script val m machine.Finished (signal.Raised n) may = absurd (cc)
  machine_is_script val m machine.Finished (signal.Number n) may = absurd (cc)
  machine_is_script val m machine.Finished (signal.Made e) may = absurd (cc)
  machine_is_script val m machine.Broken signal.Begin may = absurd (cc)
  machine_is_script val m machine.Broken signal.Done may = added val m (m.left +ℤ m.since) (is_int64 (m.left +ℤ m.since))
  machine_is_script val m machine.Broken (signal.Value v) may = absurd (cc)
  machine_is_script val m machine.Broken (signal.Thrown t) may = absurd (cc)
  machine_is_script val m machine.Broken (signal.Raised n) may = absurd (cc)
  machine_is_script val m machine.Broken (signal.Number n) may = absurd (cc)
  machine_is_script val m machine.Broken (signal.Made e) may = absurd (cc)
  machine_is_script val m machine.Added signal.Begin may = absurd (cc)
  machine_is_script val m machine.Added signal.Done may = subtracted val m (m.left -ℤ time) (is_int64 (m.left -ℤ time))
  machine_is_script val m machine.Added (signal.Value v) may = absurd (cc)
  machine_is_script val m machine.Added (signal.Thrown t) may = absurd (cc)
  machine_is_script val m machine.Added (signal.Raised n) may = absurd (cc)
  machine_is_script val m machine.Added (signal.Number n) may = absurd (cc)
  machine_is_script val m machine.Added (signal.Made e) may = absurd (cc)
  machine_is_script val m machine.Subtracted signal.Begin may = absurd (cc)
  machine_is_script val m machine.Subtracted signal.Done may = refl
  machine_is_script val m machine.Subtracted (signal.Value v) may = absurd (cc)
  machine_is_script val m machine.Subtracted (signal.Thrown t) may = absurd (cc)
  machine_is_script val m machine.Subtracted (signal.Raised n) may = absurd (cc)
  machine_is_script val m machine.Subtracted (signal.Number n) may = absurd (cc)
  machine_is_script val m machine.Subtracted (signal.Made e) may = absurd (cc)
  machine_is_script val m machine.WantsCrew signal.Begin may = absurd (cc)
  machine_is_script val m machine.WantsCrew signal.Done may = refl
  machine_is_script val m machine.WantsCrew (signal.Value v) may = absurd (cc)
  machine_is_script val m machine.WantsCrew (signal.Thrown t) may = absurd (cc)
  machine_is_script val m machine.WantsCrew (signal.Raised n) may = absurd (cc)
  machine_is_script val m machine.WantsCrew (signal.Number n) may = absurd (cc)
  machine_is_script val m machine.WantsCrew (signal.Made e) may = absurd (cc)
  machine_is_script val m machine.AsksForCrew signal.Begin may = absurd (cc)
  machine_is_script val m machine.AsksForCrew signal.Done may = absurd (cc)
  machine_is_script val m machine.AsksForCrew (signal.Value v) may = absurd (cc)
  machine_is_script val m machine.AsksForCrew (signal.Thrown t) may = absurd (cc)
  machine_is_script val m machine.AsksForCrew (signal.Raised n) may = refl
  machine_is_script val m machine.AsksForCrew (signal.Number n) may = absurd (cc)
  machine_is_script val m machine.AsksForCrew (signal.Made e) may = refl
  machine_is_script val m machine.WaitsForCrew signal.Begin may = refl
  machine_is_script val m machine.WaitsForCrew signal.Done may = absurd (cc)
  machine_is_script val m machine.WaitsForCrew (signal.Value v) may = refl
  machine_is_script val m machine.WaitsForCrew (signal.Thrown t) may = refl
  machine_is_script val m machine.WaitsForCrew (signal.Raised n) may = absurd (cc)
  machine_is_script val m machine.WaitsForCrew (signal.Number n) may = absurd (cc)
  machine_is_script val m machine.WaitsForCrew (signal.Made e) may = absurd (cc)
  machine_is_script val m machine.ThrownWaiting signal.Begin may = absurd (cc)
  machine_is_script val m machine.ThrownWaiting signal.Done may = refl
  machine_is_script val m machine.ThrownWaiting (signal.Value v) may = absurd (cc)
  machine_is_script val m machine.ThrownWaiting (signal.Thrown t) may = absurd (cc)
  machine_is_script val m machine.ThrownWaiting (signal.Raised n) may = absurd (cc)
  machine_is_script val m machine.ThrownWaiting (signal.Number n) may = absurd (cc)
  machine_is_script val m machine.ThrownWaiting (signal.Made e) may = absurd (cc)
  machine_is_script val m machine.InRepair signal.Begin may = refl
  machine_is_script val m machine.InRepair signal.Done may = absurd (cc)
  machine_is_script val m machine.InRepair (signal.Value v) may = refl
  machine_is_script val m machine.InRepair (signal.Thrown t) may = refl
  machine_is_script val m machine.InRepair (signal.Raised n) may = refl
  machine_is_script val m machine.InRepair (signal.Number n) may = absurd (cc)
  machine_is_script val m machine.InRepair (signal.Made e) may = absurd (cc)
  machine_is_script val m machine.ThrownInRepair signal.Begin may = absurd (cc)
  machine_is_script val m machine.ThrownInRepair signal.Done may = refl
  machine_is_script val m machine.ThrownInRepair (signal.Value v) may = absurd (cc)
  machine_is_script val m machine.ThrownInRepair (signal.Thrown t) may = absurd (cc)
  machine_is_script val m machine.ThrownInRepair (signal.Raised n) may = absurd (cc)
  machine_is_script val m machine.ThrownInRepair (signal.Number n) may = absurd (cc)
  machine_is_script val m machine.ThrownInRepair (signal.Made e) may = absurd (cc)
  machine_is_script val m machine.CrewLeft signal.Begin may = absurd (cc)
  machine_is_script val m machine.CrewLeft signal.Done may = refl
  machine_is_script val m machine.CrewLeft (signal.Value v) may = absurd (cc)
  machine_is_script val m machine.CrewLeft (signal.Thrown t) may = absurd (cc)
  machine_is_script val m machine.CrewLeft (signal.Raised n) may = absurd (cc)
  machine_is_script val m machine.CrewLeft (signal.Number n) may = absurd (cc)
  machine_is_script val m machine.CrewLeft (signal.Made e) may = absurd (cc)
  machine_is_script val m machine.Caught signal.Begin may = absurd (cc)
  machine_is_script val m machine.Caught signal.Done may = refl
  machine_is_script val m machine.Caught (signal.Value v) may = absurd (cc)
  machine_is_script val m machine.Caught (signal.Thrown t) may = absurd (cc)
  machine_is_script val m machine.Caught (signal.Raised n) may = absurd (cc)
  machine_is_script val m machine.Caught (signal.Number n) may = absurd (cc)
  machine_is_script val m machine.Caught (signal.Made e) may = absurd (cc)
  machine_is_script val m machine.Over signal.Begin may = absurd (cc)
  machine_is_script val m machine.Over signal.Done may = refl
  machine_is_script val m machine.Over (signal.Value v) may = absurd (cc)
  machine_is_script val m machine.Over (signal.Thrown t) may = absurd (cc)
  machine_is_script val m machine.Over (signal.Raised n) may = absurd (cc)
  machine_is_script val m machine.Over (signal.Number n) may = absurd (cc)
  machine_is_script val m machine.Over (signal.Made e) may = absurd (cc)
  machine_is_script val m machine.PastTry signal.Begin may = absurd (cc)
  machine_is_script val m machine.PastTry signal.Done may = refl
  machine_is_script val m machine.PastTry (signal.Value v) may = absurd (cc)
  machine_is_script val m machine.PastTry (signal.Thrown t) may = absurd (cc)
  machine_is_script val m machine.PastTry (signal.Raised n) may = absurd (cc)
  machine_is_script val m machine.PastTry (signal.Number n) may = absurd (cc)
  machine_is_script val m machine.PastTry (signal.Made e) may = absurd (cc)
  machine_is_script val m (machine.Fails spot.Starting) signal.Begin may = absurd (cc)
  machine_is_script val m (machine.Fails spot.Starting) signal.Done may = refl
  machine_is_script val m (machine.Fails spot.Starting) (signal.Value v) may = absurd (cc)
  machine_is_script val m (machine.Fails spot.Starting) (signal.Thrown t) may = absurd (cc)
  machine_is_script val m (machine.Fails spot.Starting) (signal.Raised n) may = absurd (cc)
  machine_is_script val m (machine.Fails spot.Starting) (signal.Number n) may = absurd (cc)
  machine_is_script val m (machine.Fails spot.Starting) (signal.Made e) may = absurd (cc)
  machine_is_script val m (machine.Fails spot.Drawing) signal.Begin may = absurd (cc)
  machine_is_script val m (machine.Fails spot.Drawing) signal.Done may = refl
  machine_is_script val m (machine.Fails spot.Drawing) (signal.Value v) may = absurd (cc)
  machine_is_script val m (machine.Fails spot.Drawing) (signal.Thrown t) may = absurd (cc)
  machine_is_script val m (machine.Fails spot.Drawing) (signal.Raised n) may = absurd (cc)
  machine_is_script val m (machine.Fails spot.Drawing) (signal.Number n) may = absurd (cc)
  machine_is_script val m (machine.Fails spot.Drawing) (signal.Made e) may = absurd (cc)
  machine_is_script val m (machine.Fails spot.Adding) signal.Begin may = absurd (cc)
  machine_is_script val m (machine.Fails spot.Adding) signal.Done may = refl
  machine_is_script val m (machine.Fails spot.Adding) (signal.Value v) may = absurd (cc)
  machine_is_script val m (machine.Fails spot.Adding) (signal.Thrown t) may = absurd (cc)
  machine_is_script val m (machine.Fails spot.Adding) (signal.Raised n) may = absurd (cc)
  machine_is_script val m (machine.Fails spot.Adding) (signal.Number n) may = absurd (cc)
  machine_is_script val m (machine.Fails spot.Adding) (signal.Made e) may = absurd (cc)
  machine_is_script val m (machine.Fails spot.Subtracting) signal.Begin may = absurd (cc)
  machine_is_script val m (machine.Fails spot.Subtracting) signal.Done may = refl
  machine_is_script val m (machine.Fails spot.Subtracting) (signal.Value v) may = absurd (cc)
  machine_is_script val m (machine.Fails spot.Subtracting) (signal.Thrown t) may = absurd (cc)
  machine_is_script val m (machine.Fails spot.Subtracting) (signal.Raised n) may = absurd (cc)
  machine_is_script val m (machine.Fails spot.Subtracting) (signal.Number n) may = absurd (cc)
  machine_is_script val m (machine.Fails spot.Subtracting) (signal.Made e) may = absurd (cc)
  machine_is_script val m (machine.LeavesPart spot.Starting) signal.Begin may = absurd (cc)
  machine_is_script val m (machine.LeavesPart spot.Starting) signal.Done may = refl
  machine_is_script val m (machine.LeavesPart spot.Starting) (signal.Value v) may = absurd (cc)
  machine_is_script val m (machine.LeavesPart spot.Starting) (signal.Thrown t) may = absurd (cc)
  machine_is_script val m (machine.LeavesPart spot.Starting) (signal.Raised n) may = absurd (cc)
  machine_is_script val m (machine.LeavesPart spot.Starting) (signal.Number n) may = absurd (cc)
  machine_is_script val m (machine.LeavesPart spot.Starting) (signal.Made e) may = absurd (cc)
  machine_is_script val m (machine.LeavesPart spot.Drawing) signal.Begin may = absurd (cc)
  machine_is_script val m (machine.LeavesPart spot.Drawing) signal.Done may = refl
  machine_is_script val m (machine.LeavesPart spot.Drawing) (signal.Value v) may = absurd (cc)
  machine_is_script val m (machine.LeavesPart spot.Drawing) (signal.Thrown t) may = absurd (cc)
  machine_is_script val m (machine.LeavesPart spot.Drawing) (signal.Raised n) may = absurd (cc)
  machine_is_script val m (machine.LeavesPart spot.Drawing) (signal.Number n) may = absurd (cc)
  machine_is_script val m (machine.LeavesPart spot.Drawing) (signal.Made e) may = absurd (cc)
  machine_is_script val m (machine.LeavesPart spot.Adding) signal.Begin may = absurd (cc)
  machine_is_script val m (machine.LeavesPart spot.Adding) signal.Done may = refl
  machine_is_script val m (machine.LeavesPart spot.Adding) (signal.Value v) may = absurd (cc)
  machine_is_script val m (machine.LeavesPart spot.Adding) (signal.Thrown t) may = absurd (cc)
  machine_is_script val m (machine.LeavesPart spot.Adding) (signal.Raised n) may = absurd (cc)
  machine_is_script val m (machine.LeavesPart spot.Adding) (signal.Number n) may = absurd (cc)
  machine_is_script val m (machine.LeavesPart spot.Adding) (signal.Made e) may = absurd (cc)
  machine_is_script val m (machine.LeavesPart spot.Subtracting) signal.Begin may = absurd (cc)
  machine_is_script val m (machine.LeavesPart spot.Subtracting) signal.Done may = refl
  machine_is_script val m (machine.LeavesPart spot.Subtracting) (signal.Value v) may = absurd (cc)
  machine_is_script val m (machine.LeavesPart spot.Subtracting) (signal.Thrown t) may = absurd (cc)
  machine_is_script val m (machine.LeavesPart spot.Subtracting) (signal.Raised n) may = absurd (cc)
  machine_is_script val m (machine.LeavesPart spot.Subtracting) (signal.Number n) may = absurd (cc)
  machine_is_script val m (machine.LeavesPart spot.Subtracting) (signal.Made e) may = absurd (cc)
  machine_is_script val m (machine.Struck spot.Starting) signal.Begin may = absurd (cc)
  machine_is_script val m (machine.Struck spot.Starting) signal.Done may = refl
  machine_is_script val m (machine.Struck spot.Starting) (signal.Value v) may = absurd (cc)
  machine_is_script val m (machine.Struck spot.Starting) (signal.Thrown t) may = absurd (cc)
  machine_is_script val m (machine.Struck spot.Starting) (signal.Raised n) may = absurd (cc)
  machine_is_script val m (machine.Struck spot.Starting) (signal.Number n) may = absurd (cc)
  machine_is_script val m (machine.Struck spot.Starting) (signal.Made e) may = absurd (cc)
  machine_is_script val m (machine.Struck spot.Drawing) signal.Begin may = absurd (cc)
  machine_is_script val m (machine.Struck spot.Drawing) signal.Done may = refl
  machine_is_script val m (machine.Struck spot.Drawing) (signal.Value v) may = absurd (cc)
  machine_is_script val m (machine.Struck spot.Drawing) (signal.Thrown t) may = absurd (cc)
  machine_is_script val m (machine.Struck spot.Drawing) (signal.Raised n) may = absurd (cc)
  machine_is_script val m (machine.Struck spot.Drawing) (signal.Number n) may = absurd (cc)
  machine_is_script val m (machine.Struck spot.Drawing) (signal.Made e) may = absurd (cc)
  machine_is_script val m (machine.Struck spot.Adding) signal.Begin may = absurd (cc)
  machine_is_script val m (machine.Struck spot.Adding) signal.Done may = refl
  machine_is_script val m (machine.Struck spot.Adding) (signal.Value v) may = absurd (cc)
  machine_is_script val m (machine.Struck spot.Adding) (signal.Thrown t) may = absurd (cc)
  machine_is_script val m (machine.Struck spot.Adding) (signal.Raised n) may = absurd (cc)
  machine_is_script val m (machine.Struck spot.Adding) (signal.Number n) may = absurd (cc)
  machine_is_script val m (machine.Struck spot.Adding) (signal.Made e) may = absurd (cc)
  machine_is_script val m (machine.Struck spot.Subtracting) signal.Begin may = absurd (cc)
  machine_is_script val m (machine.Struck spot.Subtracting) signal.Done may = refl
  machine_is_script val m (machine.Struck spot.Subtracting) (signal.Value v) may = absurd (cc)
  machine_is_script val m (machine.Struck spot.Subtracting) (signal.Thrown t) may = absurd (cc)
  machine_is_script val m (machine.Struck spot.Subtracting) (signal.Raised n) may = absurd (cc)
  machine_is_script val m (machine.Struck spot.Subtracting) (signal.Number n) may = absurd (cc)
  machine_is_script val m (machine.Struck spot.Subtracting) (signal.Made e) may = absurd (cc)
  machine_is_script val m (machine.Dead at) told may = absurd (cc)
