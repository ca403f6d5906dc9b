use Rattle.sim_events.proofs.Forgetting.{chain_there, gives_back}
use Rattle.sim_events.proofs.store.Store.give_back.Goals as goal

pub free-requires : goal.free-requires
free-requires c =
    let some = c.requires.store in
    chain_there c.args.self.now some.left some.stored c.args.key c.remove-slot.result c.remove-slot.ensures.value

pub free_part-requires : goal.free_part-requires
free_part-requires c = λ holds. (c.requires.store.stored.parts c.args.key c.remove-slot.result c.remove-slot.ensures.value holds).there

pub returns : goal.returns
returns c = λ left w.
    gives_back c.args.self.now left w c.args.key c.remove-slot.result c.remove-slot.ensures.value _ c.free.new.chain c.remove-slot.ensures.updates c.remove-slot.ensures.len c.remove-slot.ensures.capacity c.free.ensures.others c.free.ensures.spare c.free_part.ensures
