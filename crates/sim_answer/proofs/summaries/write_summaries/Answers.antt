use Rattle.std.proofs.Common.{[], refl, sym, ap, append-nil}
use Rattle.sim_outside.proofs.Written.{told_err, as_failed, both_written, cut_behind}
use Rattle.sim_writing.specs.RunFaults.{is_write}
use Rattle.sim_answer.proofs.summaries.write_summaries.Goals as goal

pub returns-in_err-write_sums-clause-writes : goal.returns-in_err-write_sums-clause-writes
returns-in_err-write_sums-clause-writes g c =
    told_err is_write _ _ _ c.from_residual-in_err-write_sums.result _ c.from_residual-in_err-write_sums.ensures.1
    (λ why is. as_failed is_write is_write _ _ _ why _ [] _
    (cut_behind is_write is_write {V = Unit {0}} _ _ _ _ _ _ _ _ c.in_ok-write_each.ensures.writes c.in_err-write_sums.ensures.writes refl)
    (sym (append-nil _)) (sym (ap is_write is)))

pub returns-clause-writes : goal.returns-clause-writes
returns-clause-writes g c =
    both_written is_write is_write _ _ _ _ _ _ _ _ _ c.in_ok-write_each.ensures.writes c.in_ok-write_sums.ensures.writes refl
