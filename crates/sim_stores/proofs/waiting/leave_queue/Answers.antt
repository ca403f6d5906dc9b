use Rattle.std.proofs.Common.{rules, ◌≡◌, sym, ◌∙◌, subst, true}
use Rattle.std.specs.List.{remove}
use Rattle.sim_machine.specs.Events.{is_same}
use Rattle.sim_stores.proofs.Leaving.{all_stay, removed_at}
use Rattle.sim_stores.proofs.waiting.leave_queue.Goals as goal

pub returns-in-Some-clause-besides : goal.returns-in-Some-clause-besides
returns-in-Some-clause-besides g c =
    let ws = c.args.queue.now.items in
    let at = c.in-Some.ensures in
    let taken : c.remove.new.self.items ≡ remove ws c.in-Some.place = search rules in
    taken ∙ removed_at g.W.Waits.event_of c.args.event ws c.in-Some.place at.waiter at.within
    (subst (λ w. is_same (g.W.Waits.event_of w) c.args.event ≡ true) at.there at.same) c.requires.apart

pub returns-in-None-clause-besides : goal.returns-in-None-clause-besides
returns-in-None-clause-besides g c =
    sym (all_stay (λ w. is_same (g.W.Waits.event_of w) c.args.event) c.args.queue.now.items c.in-None.ensures)
