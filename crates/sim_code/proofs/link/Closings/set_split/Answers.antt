use Rattle.std.proofs.Common.{refl}
use Rattle.sim_code.proofs.Linking.{split_last, split_none}
use Rattle.sim_code.proofs.link.Closings.set_split.Goals as goal
use Rattle.sim_code.proofs.link.Closings.set_split.Goals.{in-Some, in_default}

pub returns : goal.returns
returns c =
    let cs = c.self.inside.blocks in
    elim c.match-last_mut.branch [
      | in-Some w ↦ rw (w.self-inside-is, ← c.self.view_is) (split_last _ cs.len cs.items _ cs.ok.0 (w.in-Some.ensures.variant.0 refl) (rw (← w.block.view_is) at w.in-Some.ensures.value))
      | in_default w ↦ rw (w.self-inside-is, ← c.self.view_is) (split_none _ cs.items w.in_default.ensures.item.3)
    ]
