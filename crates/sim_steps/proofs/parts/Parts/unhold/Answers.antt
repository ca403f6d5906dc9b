use Rattle.std.proofs.Common.{refl}
use Rattle.sim_steps_law.proofs.Holders.Holding.{returns_holder, returns_owes}
use Rattle.sim_steps.proofs.parts.Parts.unhold.Goals as goal

pub returns-then-event-ne0-clause-owes : goal.returns-then-event-ne0-clause-owes
returns-then-event-ne0-clause-owes g c =
    let owed = rw (← c.self.view_is) at c.requires.owed in
    let events = rw c.happen_mut.ensures.value at c.unhold.ensures.events in
    let rest = rw c.happen_mut.ensures.value at c.unhold.ensures.rest in
    rw (← c.self.view_is) (returns_owes c.args.event _ _ c.unhold.new.self c.if-event-ne0.true (rw rest refl) owed events rest)

pub returns-then-event-ne0-clause-returns : goal.returns-then-event-ne0-clause-returns
returns-then-event-ne0-clause-returns g c =
    let owed = rw (← c.self.view_is) at c.requires.owed in
    let events = rw c.happen_mut.ensures.value at c.unhold.ensures.events in
    let rest = rw c.happen_mut.ensures.value at c.unhold.ensures.rest in
    let room = rw c.happen_mut.ensures.value at c.unhold.ensures.room in
    rw (← c.self.view_is) (returns_holder c.args.event _ c.unhold.new.self c.if-event-ne0.true owed events rest room)
