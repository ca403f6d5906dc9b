use Rattle.std.proofs.Common.{rules, ◌++◌, ◌∷◌, [], ap, codes, decimal, FitsSigned, w64}
use Rattle.std.specs.Int.{w128}
use Rattle.std.proofs.lemmas.Int.{to_z-of_z}
use Rattle.sim_trace.specs.WatchTexts.{row_words}
use Rattle.sim_trace.proofs.WordsBehind.{words_behind}
use Rattle.sim_trace.proofs.watching.render_row.Goals as goal

pub returns : goal.returns
returns c =
    let row = c.args.row.now in
    let psum : FitsSigned w128 row.psum = search rules in
    let gsum : FitsSigned w128 row.gsum = search rules in
    let hsum : FitsSigned w128 row.hsum = search rules in
    let hleast : FitsSigned w64 row.hleast = search rules in
    let hmost : FitsSigned w64 row.hmost = search rules in
    rw (
      c.push.ensures.items,
      c.append_signed-2.ensures.items,
      c.append_signed.ensures.items,
      c.append_sum-3.ensures.items,
      c.append_number-3.ensures.items,
      c.append_sum-2.ensures.items,
      c.append_number-2.ensures.items,
      c.append_sum.ensures.items,
      c.append_number.ensures.items,
      c.begin.ensures,
      c.from.ensures,
      to_z-of_z w128 row.psum psum,
      to_z-of_z w128 row.gsum gsum,
      to_z-of_z w128 row.hsum hsum,
      to_z-of_z w64 row.hleast hleast,
      to_z-of_z w64 row.hmost hmost,
    )
    (ap (λ line. line ++ 10 ∷ []) (words_behind (codes "watch") (decimal c.args.res ∷ row_words row)))
