use Rattle.std.proofs.Common.{rules, ◌≡◌, ap, sym, ◌∙◌, Fits, w32}
use Rattle.std.proofs.lemmas.Bool.{false≢true}
use Rattle.std.proofs.lemmas.Option.{none-some}
use Rattle.sim_command.specs.declared.commands.Command.TheVariants.{Load, Native}
use Rattle.sim_command.specs.declared.status.Status.TheVariants as status
use Rattle.sim_command.specs.Endings.{is_whole}
use Rattle.sim_answer.proofs.Ending.{answered}
use Rattle.sim_desk.proofs.Telling.{if_some, whole_answer, unread_answer, status_whole, told_whole, load_ended, native_not_refused}
use Rattle.sim_desk.proofs.top.desk.Goals as goal
use Rattle.sim_desk.proofs.top.desk.Goals.{then-is_on_text+in-Ok, else-is_on_text}

pub returns-in-Ok-answer-clause-headline : goal.returns-in-Ok-answer-clause-headline
returns-in-Ok-answer-clause-headline g c =
    let told = c.in-Ok-answer.ensures in
    if_some _ _ _ c.in-Some.ensures
    (λ whole. elim c.if-is_on_text.branch [
      | then-is_on_text+in-Ok w ↦ whole_answer c.in-Some.asked _ _ _ _ _ _ w.in-Ok.ensures.bytes (c.as_slice.ensures ∙ w.text-is) _ told.writes.whole told.status
      | else-is_on_text w ↦ unread_answer c.in-Some.asked _ _ _ _ (sym c.is_on_text.ensures ∙ w.if-is_on_text.false) _ told.writes.whole told.status
    ])

pub returns-in-Ok-answer-clause-ends : goal.returns-in-Ok-answer-clause-ends
returns-in-Ok-answer-clause-ends g c =
    let told = c.in-Ok-answer.ensures in
    answered _ _ _ _ _ (λ none. none-some _ (sym (c.in-Some.ensures ∙ none))) _ (search rules) _ told.writes.ok _
    (ap is_whole told.status ∙ status_whole c.in-Some.asked _) told.flushed

pub returns-in-Ok-answer-clause-unread_well : goal.returns-in-Ok-answer-clause-unread_well
returns-in-Ok-answer-clause-unread_well g c =
    if_some _ _ _ c.in-Some.ensures
    (λ unread is. absurd (false≢true (told_whole c.in-Some.asked _ _ status.ReadFault c.in-Ok-answer.ensures.status is)))

pub returns-in-Ok-answer-clause-load_ends : goal.returns-in-Ok-answer-clause-load_ends
returns-in-Ok-answer-clause-load_ends g c size is whole =
    let same : c.in-Some.asked ≡ Load size = cc in
    let small : Fits w32 size = search rules in
    c.in-Ok-answer.ensures.status ∙ load_ended c.in-Some.asked size _ same small.fits

pub returns-in-Ok-answer-clause-native_accepted : goal.returns-in-Ok-answer-clause-native_accepted
returns-in-Ok-answer-clause-native_accepted g c model limit is refused =
    let same : c.in-Some.asked ≡ Native model limit = cc in
    native_not_refused c.in-Some.asked model limit _ same (sym c.in-Ok-answer.ensures.status ∙ refused)
