use Rattle.std.proofs.Common.{◌≡◌, take, map}
use Rattle.sim_language.specs.Statements.{event_of}
use Rattle.sim_code.proofs.statement.members.Given as goal

abbrev pub invariant-loop-slot : goal.invariant-loop-slot
invariant-loop-slot l = l.events ≡ take 16 (map (λ slot. event_of l.place slot.word) (take l.slot-index l.slots))
