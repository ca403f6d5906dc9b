use Rattle.std.proofs.Common.{◌∙◌}
use Rattle.sim_resource.specs.QueueOrder.{waits_before}
use Rattle.sim_shared_model.proofs.StableSorts.{put_at}
use Rattle.sim_resource.proofs.queue.put_by_key.Goals as goal

pub returns-clause-put : goal.returns-clause-put
returns-clause-put c =
    c.in-Ok.ensures.items ∙ put_at waits_before c.args.waiting c.args.queue.now.items c.place_of_key-place.result c.place_of_key-place.ensures.within c.place_of_key-place.ensures.place
