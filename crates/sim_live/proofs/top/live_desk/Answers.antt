use Rattle.std.proofs.Common.{sym, ◌∙◌}
use Rattle.std.proofs.lemmas.Option.{none-some}
use Rattle.sim_language.specs.Reads.{reads}
use Rattle.sim_answer.proofs.Ending.{answered}
use Rattle.sim_live.proofs.AnsweredTexts.{if_some, none_begun, prefix_answer, told_well, told_whole, whole_answer}
use Rattle.sim_live.proofs.top.live_desk.Goals as goal

pub returns-in-Err-Read-clause-prefix : goal.returns-in-Err-Read-clause-prefix
returns-in-Err-Read-clause-prefix g c = if_some _ _ _ c.in-Some.ensures (none_begun _ _ _)

pub returns-in-Err-Memory-clause-prefix : goal.returns-in-Err-Memory-clause-prefix
returns-in-Err-Memory-clause-prefix g c = if_some _ _ _ c.in-Some.ensures (none_begun _ _ _)

pub returns-in-Ok-answer-clause-headline : goal.returns-in-Ok-answer-clause-headline
returns-in-Ok-answer-clause-headline g c =
    if_some _ _ _ c.in-Some.ensures
    (λ _. whole_answer _ _ _ _ _ _ _ c.in-Ok.ensures.bytes c.as_slice.ensures _ c.in-Ok-answer.ensures.answers)

pub returns-in-Ok-answer-clause-prefix : goal.returns-in-Ok-answer-clause-prefix
returns-in-Ok-answer-clause-prefix g c =
    if_some _ _ _ c.in-Some.ensures (prefix_answer _ _ _ _ _ _ _ c.in-Ok.ensures.bytes c.as_slice.ensures _ c.in-Ok-answer.ensures.answers)

pub returns-in-Err-Write-clause-prefix : goal.returns-in-Err-Write-clause-prefix
returns-in-Err-Write-clause-prefix g c =
    if_some _ _ _ c.in-Some.ensures (prefix_answer _ _ _ _ _ _ _ c.in-Ok.ensures.bytes c.as_slice.ensures _ c.answer.ensures.answers)

pub returns-clause-prefix : goal.returns-clause-prefix
returns-clause-prefix g c =
    if_some _ _ _ c.in-Some.ensures (prefix_answer _ _ _ _ _ _ _ c.in-Ok.ensures.bytes c.as_slice.ensures _ c.answer.ensures.answers)

pub returns-in-Ok-answer-clause-ends : goal.returns-in-Ok-answer-clause-ends
returns-in-Ok-answer-clause-ends g c =
    let told = c.in-Ok-answer.ensures in
    let read = reads c.as_slice.result.now in
    answered _ _ _ _ _ (λ none. none-some _ (sym (c.in-Some.ensures ∙ none))) _ c.in-Ok.ensures.ok _
    (told_well read c.in-Some.limit _ _ _ told.answers) _ (told_whole read c.in-Some.limit _ _ _ told.answers) told.flushed
