use Rattle.std.proofs.Common.{refl, sym, ◌∙◌, arith}
use Rattle.sim_callbacks.proofs.Relinking.{named, append_first, append_last, append_callbacks, appended_by, last_there, chain_fits, count_up}
use Rattle.sim_callbacks.proofs.chain.Chain.append.Goals as goal

pub returns-then-self-eq0-clause-others : goal.returns-then-self-eq0-clause-others
returns-then-self-eq0-clause-others c = λ w o linked.
    let insert = c.insert_reserved-key.ensures in
    let next = c.vacant_key-next.ensures.value ∙ sym insert.key in
    append_first _ _ w o c.insert_reserved-key.result _ _ insert.was_vacant insert.updates next refl refl

pub index-requires : goal.index-requires
index-requires c = last_there _ _ c.requires.chain c.if-self-eq0.false

pub overflow_add-self : goal.overflow_add-self
overflow_add-self c = omega (arith, chain_fits _ _ c.requires.chain)

pub returns-clause-callbacks : goal.returns-clause-callbacks
returns-clause-callbacks c =
    let up = count_up _ c.if-self-eq0.false in
    let chain = c.requires.chain in
    let insert = c.insert_reserved-key-2.ensures in
    let last = last_there _ _ chain c.if-self-eq0.false in
    let next = named c.args.nodes.now c.args.self.now.last c.index.result.now c.index.ensures in
    let appended = appended_by _ _ chain.owners chain.whose _ c.args.self.now c.args.callback c.index_mut.result.now _ last insert.was_vacant
    insert.updates refl next (sym c.index_mut.ensures.value) in
    append_callbacks _ _ chain.owners chain.whose _ up.0 c.args.self.now _ c.args.callback appended up.1 refl (omega (arith, up.1)) chain.linked

pub returns-clause-others : goal.returns-clause-others
returns-clause-others c = λ w o linked.
    let up = count_up _ c.if-self-eq0.false in
    let insert = c.insert_reserved-key-2.ensures in
    let last = last_there _ _ c.requires.chain c.if-self-eq0.false in
    let next = named c.args.nodes.now c.args.self.now.last c.index.result.now c.index.ensures in
    let appended = appended_by _ _ w o _ c.args.self.now c.args.callback c.index_mut.result.now _ last insert.was_vacant insert.updates refl
    next (sym c.index_mut.ensures.value) in
    append_last _ _ w o _ up.0 c.args.self.now _ c.args.callback appended up.1 refl (omega (arith, up.1)) linked
