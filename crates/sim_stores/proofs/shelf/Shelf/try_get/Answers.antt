use Rattle.std.proofs.Common.{◌≡◌, rules, arith, w64, FitsSigned}
use Rattle.std.specs.List.{remove}
use Rattle.std.proofs.lemmas.Int.{to_z-of_z}
use Rattle.sim_stores.proofs.Handing.{handed_sound, handed_tried, hands_out}
use Rattle.sim_stores.proofs.shelf.Shelf.try_get.Goals as goal

pub invariant_of-self-2 : goal.invariant_of-self-2
invariant_of-self-2 c =
    let f = c.in-Some.ensures in
    let removed : c.remove.new.self.items ≡ remove c.self.inside.gets.items c.in-Some.at = search rules in
    let left = rw c.len-items.ensures at c.serve.ensures.untried in (
      handed_sound _ _ _ _ _ _ _ _ _ f c.in_ok-get.ensures.value removed c.self.invariant.0,
      omega (arith, f.room, c.self.invariant.1),
      handed_tried c.self.inside.capacity c.self.inside.puts.items _ _ _ _ _ _ _ f c.in_ok-get.ensures.value removed _ _ c.self.invariant.2 c.serve.ensures.tried left,
    )

pub returns : goal.returns
returns c = λ res.
    let f = c.in-Some.ensures in
    let removed : c.remove.new.self.items ≡ remove c.self.inside.gets.items c.in-Some.at = search rules in
    let value : FitsSigned w64 c.in-Some.value = search rules in
    rw (to_z-of_z w64 c.in-Some.value value, ← c.self.view_is)
    (hands_out _ _ _ _ _ _ _ _ _ f c.in_ok-get.ensures.value removed res _ _ _ _ (omega (arith, f.room)) (omega (arith, c.in_ok-get.ensures.len, c.in_ok-get.ensures.capacity)))
