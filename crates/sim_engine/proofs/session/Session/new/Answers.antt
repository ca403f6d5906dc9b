use Rattle.std.proofs.Common.{refl, sym, subst, false, pos}
use Rattle.sim_machine.specs.Setups.{FitsCode}
use Rattle.sim_script_law.specs.ScriptMembers.{script_facts}
use Rattle.sim_script_law.proofs.Laws.SetupFits.{fits_code}
use Rattle.sim_engine.specs.Sessions.{SessionOf}
use Rattle.sim_engine.proofs.SessionLaws.{opens_at, opens_idle, idle_settles}
use Rattle.sim_engine.proofs.session.Session.new.Goals as goal

pub new-requires : goal.new-requires
new-requires c =
    let s = c.args.scenario.now in
    record { fits = subst (FitsCode (script_facts s)) (sym c.setup.ensures.setup) (fits_code s c.setup.ensures.well_formed) }

pub returns-clause-opening : goal.returns-clause-opening
returns-clause-opening c = opens_at _ c.in_ok-kernel.ensures.stands c.in_ok-kernel.ensures.lawful refl refl

pub returns-clause-settled : goal.returns-clause-settled
returns-clause-settled c =
    let parts = c.in_ok-kernel.kernel.parts in
    let x : SessionOf = record { parts = parts; units = 0; limit = c.args.limit; refused = false; logs = 0; total = pos 0 } in
    idle_settles x (opens_idle parts c.in_ok-kernel.ensures.stands)
