use Rattle.std.proofs.Common.{subst}
use Rattle.sim_language.specs.Lines.{lines}
use Rattle.sim_language.specs.Reads.{reads_text}
use Rattle.sim_code.specs.Readings.{IsReading}
use Rattle.sim_code.proofs.ReadingLines.{fewer_lines, no_more, reading_few, reading_small, refused, still_reading}
use Rattle.sim_code.proofs.reading.read_lines.Goals as goal

pub pass-requires : goal.pass-requires
pass-requires c = reading_small _ _ _ c.loop-reading.invariant

pub returns-in_err-pass-clause-gives : goal.returns-in_err-pass-clause-gives
returns-in_err-pass-clause-gives c =
    let answer = reads_text c.args.whole.now (lines c.args.text.now) in
    refused c.heads.result.now answer c.loop-reading.reading c.pass.new.self _ c.from_residual.result (c.in_err-pass.ensures answer (rw c.heads.ensures c.loop-reading.invariant)) c.from_residual.ensures.1

pub loop-reading-preserved : goal.loop-reading-preserved
loop-reading-preserved c =
    let answer = reads_text c.args.whole.now (lines c.args.text.now) in
    subst (λ heads. IsReading heads answer c.pass.new.self) c.heads.ensures (still_reading c.heads.result.now answer c.loop-reading.reading c.pass.new.self _ (c.in_ok-pass.ensures answer (rw c.heads.ensures c.loop-reading.invariant)) c.if-branch.true)

pub loop-reading-smaller : goal.loop-reading-smaller
loop-reading-smaller c =
    let answer = reads_text c.args.whole.now (lines c.args.text.now) in
    fewer_lines c.heads.result.now answer c.loop-reading.reading c.pass.new.self _ (c.in_ok-pass.ensures answer (rw c.heads.ensures c.loop-reading.invariant)) c.if-branch.true

pub returns-clause-gives : goal.returns-clause-gives
returns-clause-gives c =
    let answer = reads_text c.args.whole.now (lines c.args.text.now) in
    let last = no_more c.heads.result.now answer c.loop-reading.reading c.pass.new.self _ (c.in_ok-pass.ensures answer (rw c.heads.ensures c.loop-reading.invariant)) c.if-branch.false in
    c.end.ensures.gives c.heads.result.now answer last.0 last.1

pub returns-clause-few : goal.returns-clause-few
returns-clause-few c =
    let answer = reads_text c.args.whole.now (lines c.args.text.now) in
    let last = no_more c.heads.result.now answer c.loop-reading.reading c.pass.new.self _ (c.in_ok-pass.ensures answer (rw c.heads.ensures c.loop-reading.invariant)) c.if-branch.false in
    reading_few c.heads.result.now answer c.pass.new.self last.0 last.1 c.end.result c.end.ensures.draft
