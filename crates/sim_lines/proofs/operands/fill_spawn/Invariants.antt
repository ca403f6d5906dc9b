use Rattle.std.proofs.Common.{◌≡◌, ◌++◌, map, drop}
use Rattle.sim_language.specs.Shapes.{side_by_side, spawn_argument}
use Rattle.sim_lines.proofs.operands.fill_spawn.Given as goal

-- the slots so far, and those of what is left
abbrev pub invariant-loop-class : goal.invariant-loop-class
invariant-loop-class l =
    l.slots.items ++ side_by_side (map spawn_argument (drop l.class-index l.classes)) l.words
    ≡ l.fn.slots.items ++ side_by_side (map spawn_argument l.classes) l.fn.words
