use Rattle.std.proofs.Common.{length, sym, ap, ◌∙◌, arith}
use Rattle.std.proofs.lemmas.Bool.{true≢false}
use Rattle.sim_agenda.specs.Series.{IsFirst}
use Rattle.sim_agenda.proofs.Joining.{first_before}
use Rattle.sim_agenda.proofs.Keys.{one_way}
use Rattle.sim_agenda.proofs.agenda.window_is_due.Goals as goal

pub returns-in-Some-first-clause-window : goal.returns-in-Some-first-clause-window
returns-in-Some-first-clause-window c =
    λ h. first_before _ _ c.in-Some.near.now c.in-Some-first.other.now c.in-Some.ensures c.in-Some-first.ensures.first (one_way _ _ (c.less.ensures.less.0 h))

pub returns-in-Some-first-clause-backlog : goal.returns-in-Some-first-clause-backlog
returns-in-Some-first-clause-backlog c =
    λ h. first_before _ _ c.in-Some-first.other.now c.in-Some.near.now c.in-Some-first.ensures.first c.in-Some.ensures
    (λ less. true≢false (sym (c.less.ensures.less.1 less) ∙ h))

pub returns-in-Some-first-clause-alone : goal.returns-in-Some-first-clause-alone
returns-in-Some-first-clause-alone c =
    let first : IsFirst c.in-Some.near.now c.args.window.now = c.in-Some.ensures in
    λ none. absurd (omega (arith, first.some, ap length none))

pub returns-in-None-first-clause-some : goal.returns-in-None-first-clause-some
returns-in-None-first-clause-some c =
    let first : IsFirst c.in-Some.near.now c.args.window.now = c.in-Some.ensures in
    λ _. first.some
