use Rattle.std.proofs.Common.{◌≡◌, ◌∙◌, Some, None, drop, subst, sym, arith}
use Rattle.std.specs.List.{position}
use Rattle.std.proofs.lemmas.List.{take_rest}
use Rattle.sim_language.specs.Lines.{is_line_feed}
use Rattle.sim_verify.proofs.FedLines.{unended}
use Rattle.sim_verify.proofs.FirstDifference.{found_inside, line_passed}
use Rattle.sim_verify.proofs.checker.last_line.Goals as goal

pub loop-end-preserved : goal.loop-end-preserved
loop-end-preserved c =
    let bytes = c.args.bytes.now in
    let start = c.loop-end.start in
    let h = c.loop-end.invariant in
    let found : position is_line_feed (drop start bytes) ≡ Some c.in-Some.end =
    subst (λ d. position is_line_feed d ≡ Some c.in-Some.end) (take_rest bytes start) (sym c.first_line_feed.ensures ∙ c.in-Some.is) in
    record {
      inside = found_inside bytes start c.in-Some.end h.inside found;
      few = omega (arith, h.few);
      goes_on = λ ports trace given. h.goes_on ports trace given ∙ line_passed ports c.loop-end.line bytes start trace given c.in-Some.end found;
    }

pub returns-clause-unended : goal.returns-clause-unended
returns-clause-unended c =
    let bytes = c.args.bytes.now in
    let start = c.loop-end.start in
    unended (drop start bytes)
    (subst (λ d. position is_line_feed d ≡ None) (take_rest bytes start) (sym c.first_line_feed.ensures ∙ c.in_default.is))
