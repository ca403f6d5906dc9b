use Rattle.std.proofs.Common.{◌≡◌, ◌∙◌}
use Rattle.sim_kernel.proofs.OpeningHolds.{opens_lawfully}
use Rattle.sim_kernel.proofs.UnitSteps.{balance_accounts}
use Rattle.sim_machine.specs.Runs.{opening}
use Rattle.sim_steps_model.specs.PartsOf.{plan_of}
use Rattle.sim_kernel.proofs.kernel.Kernel.new.Goals as goal

pub returns-in-Ok-clause-lawful : goal.returns-in-Ok-clause-lawful
returns-in-Ok-clause-lawful g c =
    let new = c.open.new.parts in
    let code : new.code ≡ c.args.code.now = c.in-Ok.ensures.opened.code ∙ c.in_ok-parts.ensures.code in
    let setup : new.setup ≡ c.args.setup.now = c.in-Ok.ensures.opened.setup ∙ c.in_ok-parts.ensures.setup in
    opens_lawfully g.B.LawfulBody.body new (g.B.LawfulBody.lawful new.code) (rw (code, setup) c.requires.fits)

pub returns-in-Ok-clause-accounts : goal.returns-in-Ok-clause-accounts
returns-in-Ok-clause-accounts g c =
    let body = g.B.LawfulBody.body in
    let new = c.open.new.parts in
    balance_accounts body new (opening (plan_of body new)) c.slots-known.ensures.needed c.in-Ok.ensures.balances
