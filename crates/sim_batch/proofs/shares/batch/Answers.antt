use Rattle.std.proofs.Common.{◌≡◌, ◌+◌, ◌*◌, ◌/◌, ◌<◌, ◌++◌, Ok, arith, rules, subst, ap, ◌∙◌}
use Rattle.std.specs.Prelude.{slice_index_or, All, IfOk}
use Rattle.sim_batch.specs.Batches.{answers_of, answers_between}
use Rattle.sim_batch.proofs.Growing.{answers_joined, starts_rise, starts_end, kept_further}
use Rattle.sim_batch.proofs.shares.batch.Goals as goal

pub loop-answer-preserved : goal.loop-answer-preserved
loop-answer-preserved g c =
    let answer = g.J.Job.answer c.args.job.now in
    let keeps = g.J.Job.keeps c.args.job.now in
    let k = c.loop-answer.answer-index in
    let shares = c.min-shares.result in
    let within : k < shares = rw (← c.in_ok-answers.ensures.len, ← c.deref-answer-items.ensures.len) c.loop-answer-test.true in
    let share = Ok c.in-Ok.further in
    let is : slice_index_or c.in_ok-answers.answers.items k share ≡ share = search rules in
    let first = k * c.args.count / shares in
    let end = (k + 1) * c.args.count / shares in
    let between : c.in-Ok.further.items ≡ answers_between answer first end = subst (λ q. IfOk q (λ xs. xs.items ≡ answers_between answer first end)) is (c.in_ok-answers.ensures.each k share within) in
    let kept : All keeps c.in-Ok.further.items = subst (λ q. IfOk q (λ xs. All keeps xs.items)) is (c.in_ok-answers.ensures.kept k share within) in
    let appended : c.extend_from_slice.new.self.items ≡ c.loop-answer.summaries.items ++ c.in-Ok.further.items = search rules in
    record {
      answers = appended ∙ rw (c.loop-answer.invariant.answers, between) (answers_joined answer first end (starts_rise k shares c.args.count (omega (arith, within))));
      kept = kept_further keeps _ _ _ c.loop-answer.invariant.kept kept appended;
    }

pub returns-clause-answers : goal.returns-clause-answers
returns-clause-answers g c =
    let count = c.args.count in
    let shares = c.min-shares.result in
    let at : c.loop-answer.answer-index ≡ shares = search rules in
    let all : c.loop-answer.answer-index * count / shares ≡ count =
    ap (λ k. k * count / shares) at ∙ starts_end shares count (λ none. omega (arith, none, c.min-shares.ensures)) in
    c.from_vec.ensures ∙ c.loop-answer.invariant.answers ∙ ap (answers_of (g.J.Job.answer c.args.job.now)) all
