use Rattle.std.proofs.Common.{rules}
use Rattle.sim_posters.proofs.PostersAtWork.{none_set_to_work, next_is_fresh, one_more_set_to_work}
use Rattle.sim_posters.proofs.posters.start_all.Goals as goal

pub loop-poster-init : goal.loop-poster-init
loop-poster-init g c =
    record {
      room = search rules;
      set = none_set_to_work c.args.posters _ _ c.requires.many c.requires.fresh c.into_vec-posters.ensures c.in_ok-workers.ensures.items;
    }

pub start_at-requires-clause-fresh : goal.start_at-requires-clause-fresh
start_at-requires-clause-fresh g c κs within =
    next_is_fresh c.loop-poster.invariant.set c.pop.new.self.items c.in-Some.poster c.len-number.result c.in-Some.ensures.items (search rules)

pub loop-poster-preserved : goal.loop-poster-preserved
loop-poster-preserved g c =
    let started = c.start_at.ensures in
    let pushed = c.push_reserved.ensures.items in
    record {
      room = search rules;
      set = one_more_set_to_work c.loop-poster.invariant.set c.pop.new.self.items c.in-Some.poster c.len-number.result c.in-Some.ensures.items (search rules)
          c.push_reserved.new.self.items c.start_at.result started.posts started.before pushed;
    }
