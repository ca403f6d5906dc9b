use Rattle.std.proofs.Common.{◌≡◌, ◌++◌, length, map}
use Rattle.sim_language.specs.Shapes.{slot_of}
use Rattle.sim_lines.proofs.operands.fill.Given as goal

-- the slots so far, and those of what is left
abbrev pub invariant-loop-word : goal.invariant-loop-word
invariant-loop-word l = l.slots.items ++ map (slot_of l.role) l.words ≡ l.fn.slots.items ++ map (slot_of l.role) l.fn.words

abbrev pub decreases-loop-word : goal.decreases-loop-word
decreases-loop-word l = length l.words
