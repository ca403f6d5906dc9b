use Rattle.std.proofs.Common.{◌≡◌, ◌∙◌, ap}
use Rattle.sim_language.specs.LimitFaults.{form_is_full}
use Rattle.sim_lines.specs.declared.line.Saying.TheVariants.{Says}
use Rattle.sim_lines.specs.LineOf.{operands_of, without_operands}
use Rattle.sim_code.proofs.CleanLines.{not_full}
use Rattle.sim_code.proofs.draft.Draft.add.Goals as goal

pub add_form-requires-clause-not_full : goal.add_form-requires-clause-not_full
add_form-requires-clause-not_full c =
    let place = c.args.place.now in
    let says : Says c.in-Says.form ≡ without_operands place.line.saying = c.in-Says.ensures ∙ ap (λ l. without_operands l.saying) c.line-line.ensures in
    ap (form_is_full place.above c.in-Says.form) (c.operands-slots.ensures.operands ∙ ap (λ l. operands_of l.saying) c.line-line.ensures) ∙ not_full c.args.heads.now place c.in-Says.form c.requires.clean says
