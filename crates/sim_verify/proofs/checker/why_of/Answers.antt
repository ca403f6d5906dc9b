use Rattle.std.proofs.Common.{◌∙◌, ◌++◌, ◌∷◌, [], sym, take}
use Rattle.sim_verify.proofs.WhyLines.{first_ended, is_shape, is_step, unended_shape}
use Rattle.sim_verify.proofs.checker.why_of.Goals as goal

pub returns-in-Some : goal.returns-in-Some
returns-in-Some c first rest is =
    let same = first_ended c.args.given.now first rest c.in-Some.end (sym c.first_line_feed.ensures ∙ c.in-Some.is) is in
    is_step c.args.ports.now first (take c.in-Some.end c.args.given.now ++ 10 ∷ []) same
    (sym c.parse_line.ensures.decides ∙ (sym c.is_some.ensures ∙ c.if-is_some.true))

pub returns-in_default : goal.returns-in_default
returns-in_default c first rest is =
    let same = first_ended c.args.given.now first rest c.in-Some.end (sym c.first_line_feed.ensures ∙ c.in-Some.is) is in
    is_shape c.args.ports.now first (take c.in-Some.end c.args.given.now ++ 10 ∷ []) same
    (sym c.parse_line.ensures.decides ∙ (sym c.is_some.ensures ∙ c.if-is_some.false))

pub returns-in_default-2 : goal.returns-in_default-2
returns-in_default-2 c first rest is =
    unended_shape c.args.ports.now first c.args.given.now rest (sym c.first_line_feed.ensures ∙ c.in_default.is) is
