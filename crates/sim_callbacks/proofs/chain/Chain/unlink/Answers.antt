use Rattle.std.proofs.Common.{◌≡◌, ◌-◌, suc, refl, arith}
use Rattle.sim_callbacks.proofs.Relinking.{cut_by, unlinked, key_there, before_there}
use Rattle.sim_callbacks.proofs.chain.Chain.unlink.Goals as goal

pub index-requires : goal.index-requires
index-requires c = rw c.requires.found.at (key_there _ _ _ c.requires.chain c.requires.found.within)

pub index_mut-requires : goal.index_mut-requires
index_mut-requires c = rw c.requires.found.before (before_there _ _ _ c.requires.chain c.requires.found.within)

pub returns-clause-callbacks : goal.returns-clause-callbacks
returns-clause-callbacks c =
    let found = c.requires.found in
    let chain = c.requires.chain in
    let many : c.args.self.now.count ≡ suc (c.args.self.now.count - 1) = omega (arith, found.within) in
    let cuts = cut_by _ _ _ _ c.index_mut.result.now c.index.result.now c.index_mut.ensures.value c.index.ensures c.remove-node.ensures.updates in
    (unlinked _ _ chain.owners chain.whose c.args.self.now _ c.args.found.place (c.args.self.now.count - 1) _ _ cuts found.within found.at
    found.before c.last_without-self.ensures.last c.last_without-self.ensures.earlier many refl chain.linked).1

pub returns-clause-others : goal.returns-clause-others
returns-clause-others c = λ w o linked.
    let found = c.requires.found in
    let many : c.args.self.now.count ≡ suc (c.args.self.now.count - 1) = omega (arith, found.within) in
    let cuts = cut_by _ _ _ _ c.index_mut.result.now c.index.result.now c.index_mut.ensures.value c.index.ensures c.remove-node.ensures.updates in
    (unlinked _ _ w o c.args.self.now _ c.args.found.place (c.args.self.now.count - 1) _ _ cuts found.within found.at
    found.before c.last_without-self.ensures.last c.last_without-self.ensures.earlier many refl linked).0
