use Rattle.std.proofs.Common.{◌≡◌, [], drop}
use Rattle.sim_language.specs.Sayings.{context_of}
use Rattle.sim_language.specs.Shapes.{fit}
use Rattle.sim_lines.specs.OneWord.{behind_all}
use Rattle.sim_lines.proofs.operands.fit.Given as goal

-- the slots so far, in front of those of what is left
abbrev pub invariant-loop-item : goal.invariant-loop-item
invariant-loop-item l =
    behind_all l.slots.items (fit (context_of l.setting) l.last (drop l.item-index l.shape) l.words)
    ≡ fit (context_of l.setting) [] l.shape l.fn.words
