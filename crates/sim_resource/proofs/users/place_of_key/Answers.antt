use Rattle.std.proofs.Common.{not, rules}
use Rattle.std.proofs.lemmas.List.Sorted.{IsPartitionPoint-from_clause}
use Rattle.sim_machine.specs.Keys.{is_served_first}
use Rattle.sim_resource.specs.GrantOrder.{stands_before}
use Rattle.sim_shared_model.proofs.Keys.{first_onward}
use Rattle.sim_shared_model.proofs.StableSorts.{partitioned, place_of_test}
use Rattle.sim_resource.proofs.users.place_of_key.Goals as goal

pub returns-clause-place : goal.returns-clause-place
returns-clause-place c =
    let key = c.args.key in
    let gs = c.args.users.now.items in
    place_of_test (λ g. is_served_first key g.user.key) gs c.partition_point.result
    (IsPartitionPoint-from_clause (λ g. not (is_served_first key g.user.key)) gs c.partition_point.result c.partition_point.ensures.partitioned
    (partitioned stands_before (λ g. is_served_first key g.user.key) gs (λ g h later yes. first_onward key g.user.key h.user.key later yes) c.requires)
    (λ a r q k. search rules))
