use Rattle.std.proofs.Common.{arith, refl}
use Rattle.std.proofs.lemmas.List.{nil_from_length}
use Rattle.sim_faults.proofs.OpenBlocks.{split_last, split_none}
use Rattle.sim_faults.proofs.blocks.Blocks.split.Goals as goal
use Rattle.sim_faults.proofs.blocks.Blocks.split.Goals.{in-Some, in_default}

pub returns : goal.returns
returns c = elim c.match-last_mut.branch [
  | in-Some w ↦ rw (w.self-inside-is, ← c.self.view_is) (split_last c.self.inside.in_process c.self.inside.stack.items _ _ _ w.block.view_is (omega (arith, c.self.inside.stack.ok.0, w.in-Some.ensures.variant.0 refl)) w.in-Some.ensures.value)
  | in_default w ↦ rw (w.self-inside-is, ← c.self.view_is) (split_none c.self.inside.in_process c.self.inside.stack.items (nil_from_length _ (omega (arith, w.in_default.ensures.item.3))))
]
