use Rattle.std.proofs.Common.{rules, ap, ◌∙◌, sym}
use Rattle.std.specs.Prelude.{slice_get}
use Rattle.sim_posters.proofs.PostersAtWork.{one_more_back}
use Rattle.sim_posters.proofs.posters.join_all.Goals as goal

pub loop-worker-preserved : goal.loop-worker-preserved
loop-worker-preserved g c =
    let joined = c.join-poster in
    record {
      room = search rules;
      coming = one_more_back c.loop-worker.invariant.coming c.pop.new.self.items c.in-Some.worker c.in-Some.ensures.items
          c.push_reserved.new.self.items joined.result.poster joined.result.whole joined.ensures c.if-not-whole.false c.push_reserved.ensures.items;
    }

pub returns-clause-back : goal.returns-clause-back
returns-clause-back g c = λ p x at. c.loop-worker.invariant.coming.back p x (ap (λ l. slice_get l p) (sym c.from_vec.ensures) ∙ at)
