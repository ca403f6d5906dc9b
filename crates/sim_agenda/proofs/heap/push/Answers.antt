use Rattle.std.proofs.Common.{◌≡◌, length, refl, ◌∙◌, rules}
use Rattle.sim_agenda.proofs.Writing.{pushed}
use Rattle.sim_agenda.proofs.heap.push.Goals as goal

pub returns-clause-moved : goal.returns-clause-moved
returns-clause-moved c =
    let new = c.put_from.ensures in
    let old = c.args.entries.now.items in
    let at : c.len-place.result ≡ length old = search rules in
    pushed old c.push_reserved.new.self.items c.put_from.new.entries _ _ c.push_reserved.new.self.len
    c.len-place.result c.args.entry c.push_reserved.ensures.items at (rw c.deref_mut.ensures.value at new.moved) (new.len ∙ c.deref_mut.ensures.len) refl
