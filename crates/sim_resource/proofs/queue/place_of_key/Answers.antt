use Rattle.std.proofs.Common.{not, rules}
use Rattle.std.proofs.lemmas.List.Sorted.{IsPartitionPoint-from_clause}
use Rattle.sim_machine.specs.Keys.{is_served_first}
use Rattle.sim_resource.specs.QueueOrder.{waits_before}
use Rattle.sim_shared_model.proofs.Keys.{first_onward}
use Rattle.sim_shared_model.proofs.StableSorts.{partitioned, place_of_test}
use Rattle.sim_resource.proofs.queue.place_of_key.Goals as goal

pub returns-clause-place : goal.returns-clause-place
returns-clause-place c =
    let key = c.args.key in
    let ws = c.args.queue.now.items in
    place_of_test (λ w. is_served_first key w.key) ws c.partition_point.result
    (IsPartitionPoint-from_clause (λ w. not (is_served_first key w.key)) ws c.partition_point.result c.partition_point.ensures.partitioned
    (partitioned waits_before (λ w. is_served_first key w.key) ws (λ u v later yes. first_onward key u.key v.key later yes) c.requires)
    (λ a r q k. search rules))
