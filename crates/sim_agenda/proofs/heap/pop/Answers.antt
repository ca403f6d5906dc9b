use Rattle.std.proofs.Common.{◌≡◌, ◌<◌, [], ◌∷◌, ◌++◌, length, refl, ◌∙◌, rules}
use Rattle.sim_agenda.proofs.Writing.{popped}
use Rattle.sim_agenda.proofs.heap.pop.Goals as goal

pub returns-clause-due : goal.returns-clause-due
returns-clause-due c =
    let value = c.deref_mut.ensures.value in
    let new = c.exchange_first.ensures in
    let old = c.args.entries.now.items in
    let is : old ≡ c.pop.new.self.items ++ c.in_ok-last.last ∷ [] = search rules in
    let some : 0 < length c.pop.new.self.items = search rules in
    popped old c.pop.new.self.items c.exchange_first.new.entries _ _ c.pop.new.self.len c.in_ok-last.last
    c.exchange_first.result c.requires.heap is some (rw value at new.moved) (rw value at new.first) (new.len ∙ c.deref_mut.ensures.len) refl
