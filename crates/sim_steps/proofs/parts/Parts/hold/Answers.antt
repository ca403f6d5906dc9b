use Rattle.std.proofs.Common.{refl}
use Rattle.sim_steps_law.proofs.Holders.HeldPlaces.{holds_more}
use Rattle.sim_steps_law.proofs.Holders.Holding.{holds_owes, takes_holder}
use Rattle.sim_steps.proofs.parts.Parts.hold.Goals as goal

pub returns-then-event-ne0-clause-owes : goal.returns-then-event-ne0-clause-owes
returns-then-event-ne0-clause-owes g c =
    let kept = rw (← c.self.view_is) at c.requires.kept in
    let held = rw c.happen_mut.ensures.value at c.hold.ensures.held in
    rw (← c.self.view_is) (holds_owes c.args.event _ _ c.hold.new.self c.if-event-ne0.true (rw held.left refl) kept held)

pub returns-then-event-ne0-clause-takes : goal.returns-then-event-ne0-clause-takes
returns-then-event-ne0-clause-takes g c =
    let held = rw c.happen_mut.ensures.value at c.hold.ensures.held in
    rw (← c.self.view_is) (takes_holder c.self.inside.shared.happen c.hold.new.self c.args.event held (rw c.happen_mut.ensures.value at c.hold.ensures.spare))

pub returns-then-event-ne0-clause-more : goal.returns-then-event-ne0-clause-more
returns-then-event-ne0-clause-more g c =
    let turns = rw c.happen_mut.ensures.value at c.hold.ensures.held in
    rw (← c.self.view_is) (holds_more c.args.event _ c.hold.new.self c.if-event-ne0.true (rw (← c.self.view_is) at c.requires.kept) turns)
