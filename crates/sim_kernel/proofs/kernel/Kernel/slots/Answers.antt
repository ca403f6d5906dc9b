use Rattle.std.proofs.Common.{◌∙◌}
use Rattle.sim_accounts.proofs.KeptExactly.{kept_counted}
use Rattle.sim_kernel.proofs.kernel.Kernel.slots.Goals as goal

pub returns : goal.returns
returns g c =
    let parts = c.self.inside.parts in
    rw (← c.self.view_is)
    (record {
      slots = λ s stands accounts.
          c.slots.ensures.count ∙ kept_counted parts.setup.events (g.B.LawfulBody.body.tell parts.code) parts.shared.happen s stands.facilities.calendar accounts;
    })
