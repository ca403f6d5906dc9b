use Rattle.std.proofs.Common.{sym, ap, ◌∙◌}
use Rattle.sim_index.specs.Entries.{place_of_entry}
use Rattle.sim_index.proofs.Keeping.{looked_up_at, looked_up_nowhere}
use Rattle.sim_index.proofs.index.Index.seek_other.Goals as goal

pub returns-in-Some-clause-place : goal.returns-in-Some-clause-place
returns-in-Some-clause-place c =
    let found = rw c.as_slice-entries.ensures.value at c.in-Some.ensures in
    rw (← c.self.view_is) (c.known_place.ensures ∙ ap place_of_entry c.index.ensures ∙ sym (looked_up_at _ _ _ _ c.self.invariant c.args.number c.in-Some.at c.index.result.now found))

pub returns-in-None-clause-place : goal.returns-in-None-clause-place
returns-in-None-clause-place c =
    let none = rw c.as_slice-entries.ensures.value at c.in-None.ensures in
    rw (← c.self.view_is) (sym (looked_up_nowhere _ _ _ _ c.self.invariant c.args.number none))
