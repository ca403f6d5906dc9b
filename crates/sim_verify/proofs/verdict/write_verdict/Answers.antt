use Rattle.std.proofs.Common.{◌≡◌, true, ◌++◌, refl, ◌∙◌}
use Rattle.std.specs.Prelude.{decimal}
use Rattle.sim_outside.proofs.Written.{as_failed, told_err}
use Rattle.sim_verify.proofs.VerdictLines.{and_then_fails, end_of, no_word, parted, parted_first, three_parts}
use Rattle.sim_verify.proofs.verdict.write_verdict.Goals as goal

pub returns-in_err-write_all-in-No-clause-writes : goal.returns-in_err-write_all-in-No-clause-writes
returns-in_err-write_all-in-No-clause-writes g c =
    told_err (λ _. true) _ _ _ c.from_residual.result _ c.from_residual.ensures.1
    (λ why is. as_failed (λ _. true) (λ _. true) _ _ _ why no_word (decimal c.in-No.line ++ end_of c.in-No.why) _ c.in_err-write_all-in-No.ensures.writes
    (parted_first c.args.verdict c.in-No.line c.in-No.why c.in-No.is) refl)

pub returns-in_err-write_all-in-No-2-clause-writes : goal.returns-in_err-write_all-in-No-2-clause-writes
returns-in_err-write_all-in-No-2-clause-writes g c =
    let digits : c.as_bytes.result.now ≡ decimal c.in-No.line = c.as_bytes.ensures.value ∙ c.format.ensures.text in
    told_err (λ _. true) _ _ _ c.from_residual-in_err-write_all-in-No-2.result _ c.from_residual-in_err-write_all-in-No-2.ensures.1
    (λ why is. as_failed (λ _. true) (λ _. true) _ _ _ why (no_word ++ c.as_bytes.result.now) (end_of c.in-No.why) _
    (and_then_fails _ _ _ _ no_word c.as_bytes.result.now c.in_ok-write_all-in-No.ensures.writes c.in_err-write_all-in-No-2.ensures.writes)
    (rw digits (parted c.args.verdict c.in-No.line c.in-No.why c.in-No.is)) refl)

pub returns-in_ok-write_all-in-No-2-clause-writes : goal.returns-in_ok-write_all-in-No-2-clause-writes
returns-in_ok-write_all-in-No-2-clause-writes g c =
    three_parts _ _ _ _ c.args.verdict c.in-No.line c.in-No.why c.write_all-in-No-3.result c.as_bytes.result.now c.end_of_line.result.now
    c.in-No.is (c.as_bytes.ensures.value ∙ c.format.ensures.text) c.end_of_line.ensures
    c.in_ok-write_all-in-No.ensures.writes c.in_ok-write_all-in-No-2.ensures.writes c.write_all-in-No-3.ensures.writes
