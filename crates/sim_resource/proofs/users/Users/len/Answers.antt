use Rattle.std.proofs.Common.{◌∙◌, sym}
use Rattle.sim_resource.proofs.GrantOrders.{length_shown}
use Rattle.sim_resource.proofs.users.Users.len.Goals as goal

pub returns : goal.returns
returns c =
    rw (← c.self.view_is) (c.len.ensures ∙ (c.self.inside.users.ok.0 ∙ sym (length_shown c.self.inside.users.items)))
