use Rattle.std.proofs.Common.{◌≡◌, length, ◌∙◌, rules}
use Rattle.sim_stores.proofs.Leaving.{place_of_event}
use Rattle.sim_stores.proofs.waiting.place_of.Goals as goal

pub returns : goal.returns
returns g c =
    let ws = c.args.queue.now.items in
    let len : c.len.result ≡ length ws = c.len.ensures ∙ c.args.queue.now.ok.0 in
    place_of_event g.W.Waits.event_of c.args.event ws c.find_place.result len (λ i b h. search rules) c.find_place.ensures
