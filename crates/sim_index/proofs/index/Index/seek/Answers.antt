use Rattle.std.proofs.Common.{sym, ap, ◌∙◌}
use Rattle.sim_index.specs.Entries.{place_of_entry}
use Rattle.sim_index.proofs.Keeping.{looked_up_at}
use Rattle.sim_index.proofs.index.Index.seek.Goals as goal

pub returns-then-is_at-clause-place : goal.returns-then-is_at-clause-place
returns-then-is_at-clause-place c =
    let found = rw c.as_slice.ensures.value at (c.is_at.ensures c.if-is_at.true) in
    rw (← c.self.view_is) (c.known_place.ensures ∙ ap place_of_entry c.index.ensures ∙ sym (looked_up_at _ _ _ _ c.self.invariant c.args.number _ c.index.result.now found))
