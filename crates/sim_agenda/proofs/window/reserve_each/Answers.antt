use Rattle.std.proofs.Common.{◌≡◌, ◌∙◌, ap, sym}
use Rattle.sim_agenda.proofs.Queues.{same_at}
use Rattle.sim_agenda.proofs.window.reserve_each.Goals as goal

pub returns-in_err-reserve_to : goal.returns-in_err-reserve_to
returns-in_err-reserve_to c =
    let kept : c.reserve_to.new.queue.items ≡ c.queue-item.result.items = c.reserve_to.ensures ∙ ap (λ q. q.items) (sym c.queue-item.is) in
    same_at c.loop-queue.queues c.loop-queue.queue-index c.queue-item.result c.reserve_to.new.queue c.queue-item.is kept ∙ c.loop-queue.invariant

pub loop-queue-preserved : goal.loop-queue-preserved
loop-queue-preserved c =
    let kept : c.reserve_to.new.queue.items ≡ c.queue-item.result.items = c.reserve_to.ensures ∙ ap (λ q. q.items) (sym c.queue-item.is) in
    same_at c.loop-queue.queues c.loop-queue.queue-index c.queue-item.result c.reserve_to.new.queue c.queue-item.is kept ∙ c.loop-queue.invariant
