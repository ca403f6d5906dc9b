use Rattle.std.proofs.Common.{◌∙◌}
use Rattle.std.proofs.lemmas.Result.{on_ok_weaker}
use Rattle.sim_language.specs.Shapes.{start_argument}
use Rattle.sim_lines.proofs.SlotsOfWords.{free_behind}
use Rattle.sim_lines.proofs.operands.fill_start.Goals as goal

pub returns : goal.returns
returns c =
    on_ok_weaker c.fill.result
    (λ filled. filled ∙ free_behind start_argument c.args.classes.now c.loop-class.class-index c.loop-class.slots.items c.args.slots.now.items c.loop-class.words c.args.words c.loop-class-test.false c.loop-class.invariant)
    c.fill.ensures
