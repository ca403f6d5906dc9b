use Rattle.std.proofs.Common.{◌≡◌, ◌<◌, ◌∙◌, length, take, None, All, subst, ap, rules, arith, w64, FitsSigned}
use Rattle.std.proofs.lemmas.Int.{to_z-of_z}
use Rattle.sim_machine.specs.Trying.{get_reach}
use Rattle.sim_shared_model.specs.StoreQueues.{looked_at}
use Rattle.sim_stores.specs.Stocks.{kind_of_stock}
use Rattle.sim_shared_model.specs.Shelves.{store_kind}
use Rattle.sim_stores.specs.Finding.{given_from}
use Rattle.sim_stores.proofs.Looking.{looked_front, looked_few, front_more, finds_get, passed_by}
use Rattle.sim_stores.proofs.Trying.{none_of_tried}
use Rattle.sim_stores.proofs.shelf.take_for_one.Goals as goal

pub take-requires-clause-none : goal.take-requires-clause-none
take-requires-clause-none c =
    let w = c.index-get.result.now in
    let i = c.loop-at.invariant in
    let least : FitsSigned w64 w.least = search rules in
    let greatest : FitsSigned w64 w.greatest = search rules in
    rw (to_z-of_z w64 w.least least, to_z-of_z w64 w.greatest greatest, i.kind, i.same)
    (none_of_tried _ _ _ _ c.requires c.loop-at.at c.items_for.result w c.index-get.ensures c.items_for.ensures.tried c.items_for.ensures.untried)

pub returns-in-Some : goal.returns-in-Some
returns-in-Some c =
    let w = c.index-get.result.now in
    let i = c.loop-at.invariant in
    let least : FitsSigned w64 w.least = search rules in
    let greatest : FitsSigned w64 w.greatest = search rules in
    let value : FitsSigned w64 c.in-Some.value = search rules in
    let within : c.loop-at.at < length (looked_at (get_reach (store_kind (kind_of_stock c.args.stock.now))) c.args.gets.now.items) = omega (arith, c.loop-at-test.true, c.most_looked_at-most.ensures) in
    let gives = rw (to_z-of_z w64 w.least least, to_z-of_z w64 w.greatest greatest) at c.in-Some.ensures.given in
    rw (to_z-of_z w64 c.in-Some.value value)
    (finds_get _ _ _ _ _ w _ i.kind i.same within i.passed c.index-get.ensures c.in-Some.ensures.kind gives c.in-Some.ensures.spare)

pub loop-at-preserved : goal.loop-at-preserved
loop-at-preserved c =
    let w = c.index-get.result.now in
    let i = c.loop-at.invariant in
    let reach = get_reach (store_kind (kind_of_stock c.args.stock.now)) in
    let least : FitsSigned w64 w.least = search rules in
    let greatest : FitsSigned w64 w.greatest = search rules in
    let within : c.loop-at.at < length c.args.gets.now.items = omega (arith, c.loop-at-test.true, c.most_looked_at-most.ensures, looked_few reach c.args.gets.now.items) in
    let given = rw (to_z-of_z w64 w.least least, to_z-of_z w64 w.greatest greatest) at c.in_default.ensures.given in
    record {
      kind = c.in_default.ensures.kind ∙ i.kind;
      same = given.1 ∙ i.same;
      passed = front_more (λ v. given_from c.args.stock.now v ≡ None) c.args.gets.now.items c.loop-at.at w within c.index-get.ensures i.passed (passed_by _ _ w i.kind i.same given.0);
    }

pub returns : goal.returns
returns c =
    let i = c.loop-at.invariant in
    let reach = get_reach (store_kind (kind_of_stock c.args.stock.now)) in
    let end : c.loop-at.at ≡ length (looked_at reach c.args.gets.now.items) = omega (arith, c.loop-at-test.false, c.loop-at.auto.at-end, c.most_looked_at-most.ensures) in
    record {
      none = subst (All (λ v. given_from c.args.stock.now v ≡ None)) (ap (λ n. take n c.args.gets.now.items) end ∙ looked_front reach c.args.gets.now.items) i.passed;
      kind = i.kind;
      same = i.same;
    }
