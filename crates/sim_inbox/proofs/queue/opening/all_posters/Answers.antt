use Rattle.std.proofs.Common.{rules, ◌≡◌, ◌+◌, [], ◌∷◌, length, None, sym, refl, ap, ◌∙◌, subst}
use Rattle.std.proofs.lemmas.List.{length-append, replicate_more}
use Rattle.std.specs.Arc.{arc_value}
use Rattle.sim_inbox.specs.Delivery.{IsTaker, number_of, posted_of, split_off}
use Rattle.sim_inbox.specs.QueueEnds.{inbox_of, poster_of}
use Rattle.sim_inbox.specs.declared.rule.View.TheVariants.{Taker}
use Rattle.sim_inbox.proofs.Deliveries.{forks}
use Rattle.sim_inbox.proofs.NewPosters.{next_is, nothing_more, posters_more}
use Rattle.sim_inbox.proofs.queue.opening.all_posters.Goals as goal

pub another-own-requires-clause-rule : goal.another-own-requires-clause-rule
another-own-requires-clause-rule g c =
    forks c.loop-number.pass.id c.loop-number.pass.me.view.client (subst IsTaker (sym c.loop-number.invariant.split) refl)

pub loop-number-preserved : goal.loop-number-preserved
loop-number-preserved g c =
    let i = c.loop-number.invariant in
    let n = c.loop-number.number in
    let v = c.another-own.result.me.view.client in
    let inbox = inbox_of (arc_value c.args.line.now).queue.web in
    let posters = c.loop-number.posters.items in
    let x = poster_of c.another-own.result.web v in
    let web : c.another-own.result.web ≡ (arc_value c.args.line.now).queue.web = search rules in
    let next = next_is v c.loop-number.pass.me.view.client n i.split c.another-own.ensures.rule.1 in
    record {
      queue = search rules;
      split = c.another-own.ensures.rule.0 ∙ ap split_off i.split ∙ ap (Taker []) (replicate_more n None);
      many = ap (λ l. length l) c.in_ok-push.ensures.items ∙ length-append posters (x ∷ []) ∙ ap (λ k. k + 1) i.many;
      own = posters_more inbox posters c.push.new.self.items x i.own c.in_ok-push.ensures.items (ap number_of next ∙ sym i.many) (ap inbox_of web);
      fresh = nothing_more posters c.push.new.self.items x i.fresh c.in_ok-push.ensures.items (ap posted_of next);
    }
