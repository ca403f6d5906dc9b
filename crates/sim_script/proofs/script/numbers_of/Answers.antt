use Rattle.std.proofs.Common.{◌<◌, sym, ◌∙◌, arith}
use Rattle.sim_script.proofs.Marks.{number_marked, other_passed, is_no_number}
use Rattle.sim_script.proofs.script.numbers_of.Goals as goal
use Rattle.sim_script.proofs.script.numbers_of.Goals.{in-Number, in_default}

pub loop-at-preserved : goal.loop-at-preserved
loop-at-preserved c =
    let within : c.loop-at.at < 64 = omega (arith, c.loop-at-test.true, c.requires) in
    let more = number_marked c.loop-at.at c.loop-at.numbers c.args.classes.now within c.loop-at.invariant in
    let past = other_passed c.loop-at.at c.loop-at.numbers c.args.classes.now within c.loop-at.invariant in
    elim c.match-get.branch [
      | in-Number w ↦ rw w.numbers-is (more (sym c.get.ensures ∙ w.in-Number.is))
      | in_default w ↦ rw w.numbers-is (past (is_no_number _ (λ e. w.in_default.not-Number (c.get.ensures ∙ e))))
    ]
