use Rattle.std.proofs.Common.{ap, sym, ◌∙◌}
use Rattle.std.proofs.lemmas.Option.{none-some}
use Rattle.sim_command.specs.Endings.{is_whole}
use Rattle.sim_answer.proofs.Ending.{answered}
use Rattle.sim_host.proofs.HostedAnswers.{if_some, whole_answer, status_whole}
use Rattle.sim_host.proofs.top.host_desk.Goals as goal

pub returns-in-Ok-answer-clause-headline : goal.returns-in-Ok-answer-clause-headline
returns-in-Ok-answer-clause-headline g c =
    let told = c.in-Ok-answer.ensures in
    if_some _ _ _ c.in-Some.ensures (λ _. whole_answer _ _ _ _ _ _ _ c.in-Ok.ensures.bytes c.as_slice.ensures _ told.writes.whole told.status)

pub returns-in-Ok-answer-clause-ends : goal.returns-in-Ok-answer-clause-ends
returns-in-Ok-answer-clause-ends g c =
    let told = c.in-Ok-answer.ensures in
    answered _ _ _ _ _ (λ none. none-some _ (sym (c.in-Some.ensures ∙ none))) _ c.in-Ok.ensures.ok _ told.writes.ok _ (ap is_whole told.status ∙ status_whole _)
    told.flushed
