use Rattle.std.proofs.Common.{◌≡◌, ◌∙◌, ◌-◌, ◌<◌, ap, suc, set, length, arith}
use Rattle.sim_language.specs.Links.{closings_then}
use Rattle.sim_code.proofs.Linking.{linked_more, closings_more}
use Rattle.sim_code.proofs.link.link.Goals as goal

pub loop-place-preserved : goal.loop-place-preserved
loop-place-preserved c =
    let q = c.loop-place.place in
    let code = c.loop-place.code.items in
    let first = c.args.code.now in
    let cs = c.loop-place.closings in
    let x = c.index_mut-statement.result.now in
    let next : q ≡ suc (q - 1) = omega arith in
    let inside : q - 1 < length first.items = omega (arith, first.ok.0, c.len-place.ensures) in
    record {
      code = ap (set code (q - 1)) c.link.ensures ∙ linked_more (q - 1) q code first.items cs x next inside c.loop-place.invariant.code c.loop-place.invariant.closings c.index_mut-statement.ensures.value;
      closings = c.in_ok-pass.ensures ∙ ap (λ s. closings_then (q - 1) s cs) c.link.ensures ∙ closings_more (q - 1) q code first.items cs x next inside c.loop-place.invariant.code c.loop-place.invariant.closings c.index_mut-statement.ensures.value;
    }
