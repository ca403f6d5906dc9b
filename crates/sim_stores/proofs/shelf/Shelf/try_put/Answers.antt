use Rattle.std.proofs.Common.{◌≡◌, ◌∷◌, ◌++◌, [], ◌<◌, ◌∙◌, length, rules, arith, w64, FitsSigned, ap}
use Rattle.std.proofs.lemmas.Int.{to_z-of_z}
use Rattle.sim_stores.specs.Stocks.{items_of_stock}
use Rattle.sim_shared_model.specs.Shelves.{brought_by}
use Rattle.sim_stores.specs.contracts.shelf.Shelf.{the_view}
use Rattle.sim_stores.proofs.Storing.{sound_deposit, deposits}
use Rattle.sim_stores.proofs.Trying.{tried_put}
use Rattle.sim_stores.proofs.shelf.Shelf.try_put.Goals as goal

pub invariant_of-self-2 : goal.invariant_of-self-2
invariant_of-self-2 c =
    let place : length (items_of_stock c.self.inside.stock).items < c.self.inside.capacity = omega arith in (
      sound_deposit _ _ _ _ c.self.invariant.0 c.in_ok-put.put _ _ _ c.in_ok-put.ensures.items c.put.ensures.items place,
      omega (arith, c.self.invariant.1, c.put.ensures.spare, c.in_ok-put.ensures.len),
      rw (c.put.ensures.kind, c.put.ensures.items) (tried_put _ _ _ _ c.self.invariant.2 _),
    )

pub returns : goal.returns
returns c = λ res.
    let place : length (items_of_stock c.self.inside.stock).items < c.self.inside.capacity = omega arith in
    let value : FitsSigned w64 c.in_ok-put.put.value = search rules in
    let priority : FitsSigned w64 c.in_ok-put.put.priority = search rules in
    let item : c.new.result ≡ brought_by c.in_ok-put.put = rw (to_z-of_z w64 c.in_ok-put.put.value value, to_z-of_z w64 c.in_ok-put.put.priority priority) at c.new.ensures in
    let put = c.put.ensures.items ∙ ap (λ x. (items_of_stock c.self.inside.stock).items ++ x ∷ []) item in
    rw (← c.self.view_is)
    (deposits res (the_view c.self.inside) _ c.in_ok-put.put _ _ _ c.put.ensures.kind c.in_ok-put.ensures.items put place
    (omega (arith, c.self.invariant.1, c.put.ensures.spare, c.in_ok-put.ensures.len, c.in_ok-put.ensures.capacity)))
