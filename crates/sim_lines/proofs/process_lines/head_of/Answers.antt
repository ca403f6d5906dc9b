use Rattle.std.proofs.Common.{sym, ap, ◌∙◌}
use Rattle.sim_language.specs.Forms.{after_first}
use Rattle.sim_language.specs.Lines.{same}
use Rattle.sim_lines.proofs.HeadsOfLines.{head_of_process}
use Rattle.sim_lines.proofs.process_lines.head_of.Goals as goal

pub returns-then-is_name : goal.returns-then-is_name
returns-then-is_name c =
    head_of_process c.args.version c.args.line.now c.in_ok-first.first.now c.in_ok-name.name.now (after_first c.args.line.now) c.next.new.self c.in_ok-first.ensures (sym c.behind_first-words.ensures ∙ c.in_ok-name.ensures)
    (sym (ap (same c.in_ok-first.first.now) c.as_slice.ensures) ∙ sym c.eq.ensures ∙ c.if-eq.true) (sym c.is_name.ensures ∙ c.if-is_name.true)
