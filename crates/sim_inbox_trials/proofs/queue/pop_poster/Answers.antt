use Rattle.sim_inbox.proofs.NewPosters.{posters_front, nothing_front}
use Rattle.sim_inbox_trials.proofs.queue.pop_poster.Goals as goal

pub returns-clause-own : goal.returns-clause-own
returns-clause-own g c =
    posters_front c.args.taker.now.inbox c.args.posters.now.items c.pop.new.self.items c.in-Some.poster c.requires.own c.in-Some.ensures.items

pub returns-clause-fresh : goal.returns-clause-fresh
returns-clause-fresh g c = nothing_front c.args.posters.now.items c.pop.new.self.items c.in-Some.poster c.requires.fresh c.in-Some.ensures.items
