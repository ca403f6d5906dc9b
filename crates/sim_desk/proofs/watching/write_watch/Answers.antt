use Rattle.std.proofs.Common.{sym, ap, append-nil}
use Rattle.sim_outside.proofs.Written.{told_err, as_failed, both_written, cut_behind}
use Rattle.sim_writing.specs.RunFaults.{is_write}
use Rattle.sim_writing.proofs.Wanting.{wanting}
use Rattle.sim_desk.proofs.RowsOfRun.{few_rows, answer_is}
use Rattle.sim_desk.proofs.watching.write_watch.Goals as goal

pub returns-in_err-report-clause-writes : goal.returns-in_err-report-clause-writes
returns-in_err-report-clause-writes g c = wanting _ c.from_residual.result _ c.from_residual.ensures.1

pub write_rows-requires : goal.write_rows-requires
write_rows-requires g c =
    record { few = few_rows c.args.scenario.now _ _ c.args.limit _ _ c.journal-journal.ensures.well_formed c.as_slice.ensures c.in_ok-report.ensures.rows }

pub returns-in_err-write_rows-clause-writes : goal.returns-in_err-write_rows-clause-writes
returns-in_err-write_rows-clause-writes g c =
    let told = c.in_ok-report.ensures in
    let whole = answer_is c.args.scenario.now _ _ c.args.limit _ _ _ _ _ c.seed-seed.ensures c.journal-journal.ensures.journal
    c.as_slice.ensures told.rows told.end told.time told.processed in
    told_err is_write _ _ _ c.from_residual-in_err-write_rows.result _ c.from_residual-in_err-write_rows.ensures.1
    (λ why is. as_failed is_write is_write _ _ _ why _ _ _ c.in_err-write_rows.ensures.writes whole (sym (ap is_write is)))

pub returns-in_err-write_end-clause-writes : goal.returns-in_err-write_end-clause-writes
returns-in_err-write_end-clause-writes g c =
    let told = c.in_ok-report.ensures in
    let whole = answer_is c.args.scenario.now _ _ c.args.limit _ _ _ _ _ c.seed-seed.ensures c.journal-journal.ensures.journal
    c.as_slice.ensures told.rows told.end told.time told.processed in
    told_err is_write _ _ _ c.from_residual-in_err-write_end.result _ c.from_residual-in_err-write_end.ensures.1
    (λ why is. as_failed is_write is_write _ _ _ why _ _ _ (cut_behind is_write is_write {V = Unit {0}} _ _ _ _ _ _ _ _ c.in_ok-write_rows.ensures.writes c.in_err-write_end.ensures.writes whole)
    (sym (append-nil _)) (sym (ap is_write is)))

pub returns-clause-writes : goal.returns-clause-writes
returns-clause-writes g c =
    let told = c.in_ok-report.ensures in
    let whole = answer_is c.args.scenario.now _ _ c.args.limit _ _ _ _ _ c.seed-seed.ensures c.journal-journal.ensures.journal
    c.as_slice.ensures told.rows told.end told.time told.processed in
    both_written is_write is_write _ _ _ _ _ _ _ _ _ c.in_ok-write_rows.ensures.writes c.in_ok-write_end.ensures.writes whole
