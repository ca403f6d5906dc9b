use Rattle.std.proofs.Common.{arith, ◌-◌, pos, get_or, rules, w64, vec_len}
use Rattle.std.proofs.lemmas.Int.{to_z-of_z}
use mir.Val.{SFits}
use Rattle.sim_script.proofs.Beginnings.{written}
use Rattle.sim_script.proofs.script.begin_variables.Goals as goal

pub loop-at-preserved : goal.loop-at-preserved
loop-at-preserved c =
    let fits : SFits w64 (get_or c.args.args.now c.loop-at.at (pos 0)) = search rules in
    written c.args.args.now (vec_len c.fill.new.self - 1) c.loop-at.at c.loop-at.variables.items _ (omega arith) (omega (arith, c.requires)) c.loop-at.invariant (to_z-of_z w64 _ fits)
