-- Waiting requests and users stand in an order by their keys.
use Rattle.std.specs.Cmp.{IsStrictWeakOrder}
use Rattle.sim_shared_model.proofs.Keys.{first_one_way, first_chain}
use Rattle.sim_resource.specs.QueueOrder.{waits_before, ranks_before}

pub waits_ordered : IsStrictWeakOrder waits_before
waits_ordered =
    record {
      one_way = λ v w h. first_one_way v.key w.key h;
      chain = λ u v w h k. first_chain u.key v.key w.key h k;
    }

pub ranks_ordered : IsStrictWeakOrder ranks_before
ranks_ordered =
    record {
      one_way = λ v w h. first_one_way v.key w.key h;
      chain = λ u v w h k. first_chain u.key v.key w.key h k;
    }
