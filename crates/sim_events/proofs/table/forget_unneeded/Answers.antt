use Rattle.std.proofs.Common.{sym, ◌∙◌}
use Rattle.sim_events.proofs.Forgetting.{stays, goes}
use Rattle.sim_events.proofs.table.forget_unneeded.Goals as goal

pub returns-then-is_needed : goal.returns-then-is_needed
returns-then-is_needed c = λ left w.
    stays c.args.index.now c.args.store.now left c.requires.placed w c.args.event c.args.key c.index.result.now c.requires.key c.index.ensures (sym c.is_needed.ensures ∙ c.if-is_needed.true)

pub returns : goal.returns
returns c = λ left w.
    goes c.args.index.now c.args.store.now left c.requires.placed w c.args.event c.args.key c.index.result.now c.requires.key c.index.ensures (sym c.is_needed.ensures ∙ c.if-is_needed.false) c.remove.new.self c.give_back.new.self c.remove.ensures.places c.remove.ensures.spare (c.give_back.ensures left w)
