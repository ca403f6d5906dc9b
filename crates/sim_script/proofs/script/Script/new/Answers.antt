use Rattle.std.proofs.Common.{◌∙◌, arith}
use Rattle.sim_script.proofs.Beginnings.{few_kept}
use Rattle.sim_script.proofs.Marks.{all_marked}
use Rattle.sim_script.proofs.script.Script.new.Goals as goal

pub invariant_of-result : goal.invariant_of-result
invariant_of-result c = (
  omega arith,
  rw c.of.ensures (omega (arith, c.in_ok-from_slice.ensures.len, c.last_variable-variables.ensures)),
  rw (c.in_ok-new.ensures, c.of.ensures) c.most_frames.ensures,
  all_marked _ _
      (few_kept c.args.scenario.now _ (omega (arith, c.in_ok-from_slice.ensures.len, c.last_variable-variables.ensures)))
      (c.of-3.ensures ∙ c.new-2.ensures),
)
