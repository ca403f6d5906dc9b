use Rattle.std.proofs.Common.{◌++◌, ◌+◌, true, sym, ap, ◌∙◌, take}
use Rattle.sim_outside.proofs.Written.{told_err, as_well, as_failed, both_written, cut_behind}
use Rattle.sim_writing.specs.RunFaults.{is_write}
use Rattle.sim_trace.specs.WatchTexts.{row_text, rows_text}
use Rattle.sim_answer.proofs.Numbering.{lines_next, lines_parted}
use Rattle.sim_desk.proofs.watching.write_rows.Goals as goal

pub returns-in_err-write_all-clause-writes : goal.returns-in_err-write_all-clause-writes
returns-in_err-write_all-clause-writes g c =
    let rows = c.args.rows.now in
    let k = c.loop-res.res in
    let line = c.bytes.ensures ∙ c.render_row.ensures in
    let text = lines_next row_text rows k _ c.loop-res-test.true ∙ ap (λ t. rows_text 0 (take k rows) ++ t) (sym line) in
    told_err is_write _ _ _ c.from_residual.result _ c.from_residual.ensures.1
    (λ why is. as_failed (λ _. true) is_write _ _ _ why _ _ _ (cut_behind is_write (λ _. true) {V = Unit {0}} _ _ _ _ _ _ _ _ c.loop-res.invariant.written c.in_err-write_all.ensures.writes text)
    (lines_parted row_text (k + 1) rows) (sym (ap is_write is)))

pub loop-res-preserved : goal.loop-res-preserved
loop-res-preserved g c =
    let rows = c.args.rows.now in
    let k = c.loop-res.res in
    let line = c.bytes.ensures ∙ c.render_row.ensures in
    let written = as_well (λ _. true) is_write _ _ _ (tt {0}) _ _ c.in_ok-write_all.ensures.writes line in
    record {
      written = both_written is_write is_write _ _ _ _ _ _ _ _ _ c.loop-res.invariant.written written (lines_next row_text rows k _ c.loop-res-test.true);
      unflushed = c.in_ok-write_all.ensures.unflushed ∙ c.loop-res.invariant.unflushed;
    }
