use Rattle.std.proofs.Common.{◌≡◌, ◌-◌, ◌∷◌, refl, sym, ◌∙◌, ap, arith}
use Rattle.sim_callbacks.specs.Chains.{node_at, first_key, callbacks_in}
use Rattle.sim_callbacks.specs.declared.chain.Chain.{Chain}
use Rattle.sim_callbacks.proofs.Relinking.{named, Cuts, cut_by, cut_callback, first_out, first_callbacks, last_there, count_up}
use Rattle.sim_callbacks.proofs.chain.Chain.take_first.Goals as goal

pub index-requires : goal.index-requires
index-requires c = last_there _ _ c.requires.chain c.if-self-eq0.false

pub returns-clause-callbacks : goal.returns-clause-callbacks
returns-clause-callbacks c =
    let up = count_up _ c.if-self-eq0.false in
    let old = c.args.nodes.now in
    let last = c.args.self.now.last in
    let first : c.index.result.now.next ≡ first_key old c.args.self.now = named old last c.index.result.now c.index.ensures in
    let x = c.index_mut.result.now in
    let y = c.index-2.result.now in
    let cuts = cut_by old _ last c.index.result.now.next x y c.index_mut.ensures.value c.index-2.ensures c.remove-node.ensures.updates in
    let cut : Cuts old c.remove-node.new.self last (first_key old c.args.self.now) = rw first at cuts in
    let rest : Chain = record { last = last; count = c.args.self.now.count - 1 } in
    let split = first_callbacks _ _ c.requires.chain.owners c.requires.chain.whose up.0 c.args.self.now rest cut up.1 refl (omega (arith, up.1))
    c.requires.chain.linked in
    let same = cut_callback old last c.index.result.now.next x y c.remove-node.result c.index_mut.ensures.value c.index-2.ensures
    c.remove-node.ensures.value in
    split ∙ ap (λ callback. callback ∷ callbacks_in c.remove-node.new.self rest) (ap (λ k. (node_at old k).callback) (sym first) ∙ sym same)

pub returns-clause-others : goal.returns-clause-others
returns-clause-others c = λ w o linked.
    let up = count_up _ c.if-self-eq0.false in
    let old = c.args.nodes.now in
    let last = c.args.self.now.last in
    let first : c.index.result.now.next ≡ first_key old c.args.self.now = named old last c.index.result.now c.index.ensures in
    let cuts = cut_by old _ last c.index.result.now.next c.index_mut.result.now c.index-2.result.now c.index_mut.ensures.value c.index-2.ensures
    c.remove-node.ensures.updates in
    let cut : Cuts old c.remove-node.new.self last (first_key old c.args.self.now) = rw first at cuts in
    first_out _ _ w o up.0 c.args.self.now _ cut up.1 refl (omega (arith, up.1)) linked
