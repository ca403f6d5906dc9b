use Rattle.std.proofs.Common.{refl, sym, ◌∙◌}
use Rattle.std.proofs.lemmas.Bool.{false≢true}
use Rattle.sim_shared_law.proofs.Waiters.CancelledEvents.{anywhere_shown, cancelled_nowhere, nowhere_there, unopen_nowhere}
use Rattle.sim_shared.proofs.shared.Shared.take_out.Goals as goal

-- what is not open waits nowhere
pub returns-then-not-is_open-clause-waited : goal.returns-then-not-is_open-clause-waited
returns-then-not-is_open-clause-waited c =
    sym (unopen_nowhere c.args.self.now c.args.event c.requires.open (λ is. false≢true (c.if-not-is_open.ensures.1 is)))

pub returns-then-not-is_open-clause-shown : goal.returns-then-not-is_open-clause-shown
returns-then-not-is_open-clause-shown c = λ f shown.
    sym (unopen_nowhere c.args.self.now c.args.event c.requires.open (λ is. false≢true (c.if-not-is_open.ensures.1 is))) ∙ anywhere_shown c.args.self.now f c.args.event shown

pub returns-then-not-is_open-clause-cancelled : goal.returns-then-not-is_open-clause-cancelled
returns-then-not-is_open-clause-cancelled c =
    let nowhere = unopen_nowhere c.args.self.now c.args.event c.requires.open (λ is. false≢true (c.if-not-is_open.ensures.1 is)) in
    cancelled_nowhere c.args.self.now c.args.event (nowhere_there c.args.event c.args.self.now.resources nowhere)

pub returns-in-Some-clause-shown : goal.returns-in-Some-clause-shown
returns-in-Some-clause-shown c = λ f shown.
    sym (c.in-Some.ensures.waited refl) ∙ anywhere_shown c.args.self.now f c.args.event shown
