-- What a process of the machine shop asks for when it is polled, and where it stands then.
use Rattle.std.specs.Prelude.{◌≡◌, ◌∷◌, [], ℕ, zero, suc, ℤ, ◌-ℤ◌, pos, int_lt, true, false, Option, Some, None, if◌then◌else◌}
use Rattle.sim_types.specs.declared.event.ProcId.{ProcId}
use Rattle.sim_types.specs.declared.event.Signal.{Signal}
use Rattle.sim_types.specs.declared.event.Throw.{Throw}
use Rattle.sim_types.specs.declared.op.Op.{Op}
use Rattle.sim_types.specs.declared.op.Op.TheVariants as op
use Rattle.sim_types.specs.declared.script.Arith.TheVariants as arith
use Rattle.sim_procs.specs.QuietPolls.{ByWayOf, told_after}
use Rattle.sim_script_model.specs.Arithmetic.{Answer, Number, Error, compute, is_equal}
use Rattle.sim_shop.specs.Shop.{crews_of}
use Rattle.sim_native.specs.ShopMembers.{BreakerOf, MachineOf, FillerOf, ChiefOf}
use Rattle.sim_native.specs.ShopStages.{machine_error, overflow_thrown}
use Rattle.sim_native.specs.Told.{event_by, number_by, thrown_by}
use Rattle.sim_native.specs.declared.shop.breaker.BreakerAt.{BreakerAt}
use Rattle.sim_native.specs.declared.shop.breaker.BreakerAt.TheVariants as breaker
use Rattle.sim_native.specs.declared.shop.breaker.BreakerSpot.TheVariants as there
use Rattle.sim_native.specs.declared.shop.machine.MachineAt.{MachineAt}
use Rattle.sim_native.specs.declared.shop.machine.MachineAt.TheVariants as machine
use Rattle.sim_native.specs.declared.shop.machine.MachineSpot.TheVariants as spot
use Rattle.sim_native.specs.declared.shop.filler.FillerAt.{FillerAt}
use Rattle.sim_native.specs.declared.shop.filler.FillerAt.TheVariants as filler
use Rattle.sim_native.specs.declared.shop.chief.ChiefAt.{ChiefAt}
use Rattle.sim_native.specs.declared.shop.chief.ChiefAt.TheVariants as chief
use Rattle.sim_native.specs.declared.shop.chief.ChiefSpot.TheVariants as seat
use Rattle.sim_native.specs.declared.shop.Stage.{Stage}
use Rattle.sim_native.specs.declared.shop.Stage.TheVariants as stage

-- what goes on so asks for nothing
abbrev pub quiet : {At Of : Type 0} → At × Of → Op × At × Of
quiet r = (op.Nop, r.0, r.1)

-- ---- a breaker

-- it draws how long it waits, waits, and interrupts its machine, again and again
abbrev pub breaker_next : BreakerAt → BreakerOf → Signal → Op × BreakerAt × BreakerOf
breaker_next breaker.Starts m told = (op.Nop, breaker.Loops, m)
breaker_next breaker.Loops m told = (op.Draw (pos 50) (pos 150), breaker.Draws, m)
breaker_next breaker.Draws m told = (op.Pause (number_by told) (pos 0), breaker.Sleeps, record m { drawn = number_by told })
breaker_next breaker.Sleeps m told = (op.Interrupt m.machine (pos 1), breaker.Interrupts, m)
breaker_next breaker.Interrupts m told = (op.Nop, breaker.Loops, m)
breaker_next (breaker.Struck at what) m told = (op.Die what, breaker.Dead at what, m)
breaker_next (breaker.Dead at what) m told = (op.Die what, breaker.Dead at what, m)

-- a throw takes it out of its loop first, where it is in that
abbrev pub breaker_thrown : BreakerAt → BreakerOf → Throw → Op × BreakerAt × BreakerOf
breaker_thrown breaker.Starts m what = (op.Die what, breaker.Dead there.Starting what, m)
breaker_thrown breaker.Draws m what = (op.Nop, breaker.Struck there.Drawing what, m)
breaker_thrown breaker.Interrupts m what = (op.Nop, breaker.Struck there.Interrupting what, m)
breaker_thrown at m what = (op.Nop, breaker.Struck there.Sleeping what, m)

abbrev pub breaker_after : BreakerAt → BreakerOf → Signal → Option Throw → Op × BreakerAt × BreakerOf
breaker_after at m told None = breaker_next at m told
breaker_after at m told (Some what) = breaker_thrown at m what

abbrev pub breaker_turn : BreakerAt → BreakerOf → Signal → Op × BreakerAt × BreakerOf
breaker_turn at m told = breaker_after at m told (thrown_by told)

-- ---- a machine

-- it goes on with its part while something of it is left
abbrev pub machine_looks : MachineOf → MachineAt × MachineOf
machine_looks m = (if is_equal m.left (pos 0) then machine.NoneLeft else machine.SomeLeft, m)

-- what is left of the part is what was left, and the time that it noted, without the time that it is; where the one or the
-- other has no 64 bits it stays as it was
abbrev pub machine_added : MachineOf → Answer → MachineAt × MachineOf
machine_added m (Number n) = (machine.Added, record m { left = n })
machine_added m (Error n) = (machine.Fails spot.Adding, m)

abbrev pub machine_subtracted : MachineOf → Answer → MachineAt × MachineOf
machine_subtracted m (Number n) = (machine.Subtracted, record m { left = n })
machine_subtracted m (Error n) = (machine.Fails spot.Subtracting, m)

-- what was thrown is caught now
abbrev pub machine_caught : MachineOf → MachineOf
machine_caught m = record m { caught = m.thrown; thrown = m.caught }

-- where it asks for nothing
abbrev pub machine_passes : ℤ → MachineAt → MachineOf → Signal → MachineAt × MachineOf
machine_passes now machine.HasBreaker m told = (machine.NextPart, m)
machine_passes now machine.SaidNumber m told = (machine.NextPart, m)
machine_passes now machine.Draws m told = (machine.Looks, record m { left = number_by told })
machine_passes now machine.Looks m told = machine_looks m
machine_passes now machine.SomeLeft m told = (machine.GoesOn, m)
machine_passes now machine.NoneLeft m told = (machine.LeavesLoop, m)
machine_passes now machine.LeavesLoop m told = (machine.PartMade, m)
machine_passes now machine.GoesOn m told = (machine.NotedTime, record m { since = now })
machine_passes now machine.NotedTime m told = (machine.Ready, m)
machine_passes now machine.Works m told = (machine.Finished, record m { left = pos 0 })
machine_passes now machine.Broken m told = machine_added m (compute arith.Add m.left m.since)
machine_passes now machine.Added m told = machine_subtracted m (compute arith.Sub m.left now)
machine_passes now machine.Subtracted m told = (machine.WantsCrew, m)
machine_passes now machine.ThrownWaiting m told = (machine.Caught, machine_caught m)
machine_passes now machine.ThrownInRepair m told = (machine.Caught, machine_caught m)
machine_passes now machine.CrewLeft m told = (machine.Over, m)
machine_passes now machine.Caught m told = (machine.Over, m)
machine_passes now machine.Finished m told = (machine.PastTry, m)
machine_passes now machine.Over m told = (machine.PastTry, m)
machine_passes now (machine.Fails at) m told = (machine.LeavesPart at, m)
machine_passes now (machine.LeavesPart at) m told = (machine.Struck at, m)
machine_passes now at m told = (machine.Looks, m)

-- where it is broken it asks for a crew, waits for it, and is mended in 5
abbrev pub machine_next_with_crew : ℤ → MachineAt → MachineOf → Signal → Op × MachineAt × MachineOf
machine_next_with_crew now machine.WantsCrew m told = (op.Enter 0 (pos 1) true, machine.AsksForCrew, m)
machine_next_with_crew now machine.AsksForCrew m told = (op.Wait (event_by told), machine.WaitsForCrew, record m { request = event_by told })
machine_next_with_crew now machine.WaitsForCrew m told = (op.Pause (pos 5) (pos 0), machine.InRepair, m)
machine_next_with_crew now machine.InRepair m told = (op.Leave, machine.CrewLeft, m)
machine_next_with_crew now (machine.Struck at) m told = (op.Die (machine_error at), machine.Dead at, record m { thrown = machine_error at })
machine_next_with_crew now (machine.Dead at) m told = (op.Die (machine_error at), machine.Dead at, record m { thrown = machine_error at })
machine_next_with_crew now at m told = quiet (machine_passes now at m told)

-- it has a breaker made, and then makes its parts: it draws how long one takes, works so long, and says its number
abbrev pub machine_next : ProcId → ℤ → MachineAt → MachineOf → Signal → Op × MachineAt × MachineOf
machine_next me now machine.Starts m told = (op.Spawn 0 (pos me.0 ∷ []), machine.HasBreaker, record m { given = me })
machine_next me now machine.NextPart m told = (op.Draw (pos 8) (pos 12), machine.Draws, m)
machine_next me now machine.Ready m told = (op.Pause m.left (pos 0), machine.Works, m)
machine_next me now machine.PartMade m told = (op.Log m.id, machine.SaidNumber, m)
machine_next me now at m told = machine_next_with_crew now at m told

-- it ends by what is thrown where it starts; what is thrown while it waits for a crew or is mended ends that, and the crew is
-- let go before it is caught
abbrev pub machine_leaves : MachineAt → MachineOf → Throw → Op × MachineAt × MachineOf
machine_leaves machine.Starts m what = (op.Die what, machine.Dead spot.Starting, record m { thrown = what })
machine_leaves machine.WaitsForCrew m what = (op.Leave, machine.ThrownWaiting, record m { thrown = what })
machine_leaves at m what = (op.Leave, machine.ThrownInRepair, record m { thrown = what })

-- what is thrown while it works breaks it; a draw that is refused ends it, and a request that is refused is given up
abbrev pub machine_thrown : MachineAt → MachineOf → Throw → Op × MachineAt × MachineOf
machine_thrown machine.Draws m what = (op.Nop, machine.Struck spot.Drawing, m)
machine_thrown machine.Works m what = (op.Nop, machine.Broken, record m { caught = what })
machine_thrown machine.AsksForCrew m what = (op.Nop, machine.Caught, record m { caught = what })
machine_thrown at m what = machine_leaves at m what

abbrev pub machine_after : ProcId → ℤ → MachineAt → MachineOf → Signal → Option Throw → Op × MachineAt × MachineOf
machine_after me now at m told None = machine_next me now at m told
machine_after me now at m told (Some what) = machine_thrown at m what

abbrev pub machine_turn : ProcId → ℤ → MachineAt → MachineOf → Signal → Op × MachineAt × MachineOf
machine_turn me now at m told = machine_after me now at m told (thrown_by told)

-- ---- a filler

abbrev pub filler_caught : FillerOf → FillerOf
filler_caught m = record m { caught = m.thrown; thrown = m.caught }

-- it asks for a crew, waits for it, has it work for 30, and lets it go
abbrev pub filler_asks : FillerAt → FillerOf → Signal → Op × FillerAt × FillerOf
filler_asks filler.WantsCrew m told = (op.Enter 0 (pos 2) false, filler.AsksForCrew, m)
filler_asks filler.AsksForCrew m told = (op.Wait (event_by told), filler.WaitsForCrew, record m { request = event_by told })
filler_asks filler.WaitsForCrew m told = (op.Pause (pos 30) (pos 0), filler.Works, m)
filler_asks filler.Works m told = (op.Leave, filler.CrewLeft, m)
filler_asks at m told = (op.Finish (pos 0), filler.Dead, m)

-- again and again
abbrev pub filler_next : FillerAt → FillerOf → Signal → Op × FillerAt × FillerOf
filler_next filler.Starts m told = (op.Nop, filler.Loops, m)
filler_next filler.Loops m told = (op.Nop, filler.WantsCrew, m)
filler_next filler.ThrownWaiting m told = (op.Nop, filler.Caught, filler_caught m)
filler_next filler.ThrownAtWork m told = (op.Nop, filler.Caught, filler_caught m)
filler_next filler.CrewLeft m told = (op.Nop, filler.PastTry, m)
filler_next filler.Caught m told = (op.Nop, filler.PastTry, m)
filler_next filler.PastTry m told = (op.Nop, filler.Loops, m)
filler_next at m told = filler_asks at m told

abbrev pub filler_thrown : FillerAt → FillerOf → Throw → Op × FillerAt × FillerOf
filler_thrown filler.Starts m what = (op.Die what, filler.Dead, record m { thrown = what })
filler_thrown filler.AsksForCrew m what = (op.Nop, filler.Caught, record m { caught = what })
filler_thrown filler.WaitsForCrew m what = (op.Leave, filler.ThrownWaiting, record m { thrown = what })
filler_thrown at m what = (op.Leave, filler.ThrownAtWork, record m { thrown = what })

abbrev pub filler_after : FillerAt → FillerOf → Signal → Option Throw → Op × FillerAt × FillerOf
filler_after at m told None = filler_next at m told
filler_after at m told (Some what) = filler_thrown at m what

abbrev pub filler_turn : FillerAt → FillerOf → Signal → Op × FillerAt × FillerOf
filler_turn at m told = filler_after at m told (thrown_by told)

-- ---- the chief

-- one more is started: it goes on at one place where there is one more to start, and else at another
abbrev pub chief_counts : ChiefAt → ChiefAt → ChiefOf → ChiefAt × ChiefOf
chief_counts next past m = if int_lt (pos 1) m.count then (next, record m { count = m.count -ℤ pos 1 }) else (past, m)

-- it begins to start so many machines
abbrev pub chief_begins : ℤ → ChiefOf → ChiefAt × ChiefOf
chief_begins machines m = if int_lt machines (pos 1) then (chief.HasMachines, m) else (chief.NextMachine, record m { count = machines })

-- the next machine has the next number; behind the last there is none
abbrev pub chief_counted : ChiefOf → Answer → ChiefAt × ChiefOf
chief_counted m (Number n) = (chief.Counted, record m { next = n })
chief_counted m (Error n) = (chief.Fails, m)

-- where it asks for nothing, in a shop of so many machines
abbrev pub chief_passes : ℕ → ChiefAt → ChiefOf → ChiefAt × ChiefOf
chief_passes n chief.Starts m = (chief.NextFiller, record m { count = pos (crews_of n) })
chief_passes n chief.SentFiller m = chief_counts chief.NextFiller chief.HasFillers m
chief_passes n chief.HasFillers m = (chief.Numbers, record m { next = pos 0 })
chief_passes n chief.Numbers m = chief_begins (pos n) m
chief_passes n chief.SentMachine m = chief_counted m (compute arith.Add m.next (pos 1))
chief_passes n chief.Counted m = chief_counts chief.NextMachine chief.HasMachines m
chief_passes n at m = (chief.Struck, m)

-- it starts the fillers and then the machines, each with its number, and ends
abbrev pub chief_next : ℕ → ChiefAt → ChiefOf → Op × ChiefAt × ChiefOf
chief_next n chief.NextFiller m = (op.Spawn 2 [], chief.SentFiller, m)
chief_next n chief.NextMachine m = (op.Spawn 1 (m.next ∷ []), chief.SentMachine, m)
chief_next n chief.HasMachines m = (op.Finish (pos 0), chief.Gone, m)
chief_next n chief.Gone m = (op.Finish (pos 0), chief.Gone, m)
chief_next n chief.Struck m = (op.Die overflow_thrown, chief.Dead seat.Counting, record m { thrown = overflow_thrown })
chief_next n (chief.Dead at) m = (op.Die overflow_thrown, chief.Dead seat.Counting, record m { thrown = overflow_thrown })
chief_next n at m = quiet (chief_passes n at m)

abbrev pub chief_after : ℕ → ChiefAt → ChiefOf → Option Throw → Op × ChiefAt × ChiefOf
chief_after n at m None = chief_next n at m
chief_after n at m (Some what) = (op.Die what, chief.Dead seat.Starting, record m { thrown = what })

abbrev pub chief_turn : ℕ → ChiefAt → ChiefOf → Signal → Op × ChiefAt × ChiefOf
chief_turn n at m told = chief_after n at m (thrown_by told)

-- ---- a poll

abbrev pub of_breaker : Op × BreakerAt × BreakerOf → Op × Stage
of_breaker r = (r.0, stage.Breaker r.1 r.2)

abbrev pub of_machine : Op × MachineAt × MachineOf → Op × Stage
of_machine r = (r.0, stage.Machine r.1 r.2)

abbrev pub of_filler : Op × FillerAt × FillerOf → Op × Stage
of_filler r = (r.0, stage.Filler r.1 r.2)

abbrev pub of_chief : Op × ChiefAt × ChiefOf → Op × Stage
of_chief r = (r.0, stage.Chief r.1 r.2)

-- in a shop of so many machines, by its number and the time
abbrev pub shop_turn : ℕ → ProcId → ℤ → Stage → Signal → Op × Stage
shop_turn n me now (stage.Breaker at m) told = of_breaker (breaker_turn at m told)
shop_turn n me now (stage.Machine at m) told = of_machine (machine_turn me now at m told)
shop_turn n me now (stage.Filler at m) told = of_filler (filler_turn at m told)
shop_turn n me now (stage.Chief at m) told = of_chief (chief_turn n at m told)

-- ---- several polls at once

-- so many polls at one time, in each of which a process asks for nothing: in the first it is told this, and in all others that
-- this is done
abbrev pub PassesStages : ℕ → ProcId → ℤ → Signal → ℕ → Stage → Stage → Type 0
PassesStages n me now told zero old new = new ≡ old
PassesStages n me now told (suc count) old new =
    ByWayOf (PassesStages n me now told count old) (λ mid. shop_turn n me now mid (told_after count told) ≡ (op.Nop, new))

-- the same whatever its number is, and however many machines there are
abbrev pub Hurries : ℤ → Signal → ℕ → Stage → Stage → Type 0
Hurries now told count old new = (n : ℕ) (me : ProcId) → PassesStages n me now told count old new
