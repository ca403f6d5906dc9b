use Rattle.std.proofs.Common.{◌∙◌}
use Rattle.sim_resource.specs.GrantOrder.{stands_before}
use Rattle.sim_shared_model.proofs.StableSorts.{put_at}
use Rattle.sim_resource.proofs.users.put_by_key.Goals as goal

pub returns-clause-put : goal.returns-clause-put
returns-clause-put c =
    let p = rw c.key.ensures at c.place_of_key-place.ensures in
    c.in-Ok.ensures.items ∙ put_at stands_before c.args.numbered c.args.users.now.items c.place_of_key-place.result p.within p.place
