use Rattle.std.proofs.Common.{sym, ap, ◌∙◌, rules, arith, length}
use Rattle.sim_language.specs.Named.{with_all}
use Rattle.sim_language.specs.Variables.{given_by}
use Rattle.sim_faults.proofs.VariablesSoFar.{variables_begin, variables_further, deep_few}
use Rattle.sim_faults.proofs.variables.variables_of.Goals as goal

pub loop-line-init : goal.loop-line-init
loop-line-init c = record {
  variables = variables_begin c.args.params.now c.args.below.now _ _ (c.in_ok-add_given.ensures ∙ ap (λ known. with_all known (given_by c.args.params.now)) c.new-variables.ensures) c.again-left.ensures;
  few = search rules;
}

pub loop-line-preserved-in-Says : goal.loop-line-preserved-in-Says
loop-line-preserved-in-Says c =
    let lines = rw c.if-branch.true at c.in_ok-next.ensures.next in
    let count = ap length lines in
    record {
      variables = variables_further _ _ _ _ _ _ _ _ _ c.in-Says.ensures (sym c.if-ends_process.ensures) c.deep_behind-deep.ensures c.operands.ensures.operands c.in_ok-add_given-2.ensures lines ∙ c.loop-line.invariant.variables;
      few = omega (arith, deep_few c.loop-line.deep _ c.in-Says.form c.deep_behind-deep.ensures, c.loop-line.invariant.few, count);
    }
