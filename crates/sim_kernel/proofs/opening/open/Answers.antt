use Rattle.std.proofs.Common.{◌≡◌, ap, sym, subst, ◌∙◌}
use Rattle.std.proofs.lemmas.Result.{on_ok_weaker}
use Rattle.sim_types.specs.declared.setup.Setup.{Setup}
use Rattle.sim_machine.specs.Setups.{FitsCode}
use Rattle.sim_lawful.proofs.Opening.OpeningLaws.{starts_open}
use Rattle.sim_steps_model.specs.PartsOf.{plan_of}
use Rattle.sim_steps_model.specs.Opening.{CanStop}
use Rattle.sim_kernel.proofs.StartingAll.{all_few}
use Rattle.sim_kernel.proofs.Stopping.{started_can_stop, opened_so}
use Rattle.sim_kernel.proofs.OpeningHolds.{opening_holds}
use Rattle.sim_kernel.proofs.opening.open.Goals as goal

pub set_stop-requires-clause-at_start : goal.set_stop-requires-clause-at_start
set_stop-requires-clause-at_start g c = c.in_ok-start_all.ensures.started.stands.stands.facilities.calendar.time ∙ (starts_open (plan_of g.B.LawfulBody.body c.args.parts.now)).time

pub set_stop-requires-clause-number : goal.set_stop-requires-clause-number
set_stop-requires-clause-number g c =
    all_few g.B.LawfulBody.body c.args.parts.now c.start_all.new.parts _ (rw c.requires.setup at c.requires.fits) c.in_ok-start_all.ensures.started.stands.stands

pub set_stop-requires-clause-possible : goal.set_stop-requires-clause-possible
set_stop-requires-clause-possible g c =
    subst (λ (x : Setup). CanStop x.until c.start_all.new.parts.shared.happen) (sym c.requires.setup)
    (started_can_stop g.B.LawfulBody.body c.args.parts.now c.start_all.new.parts _ (rw c.requires.setup at c.requires.fits) c.start_all.ensures.kept c.in_ok-start_all.ensures.started)

pub returns-clause-stands : goal.returns-clause-stands
returns-clause-stands g c =
    on_ok_weaker c.set_stop.result
    (λ sets. (opened_so g.B.LawfulBody.body c.args.parts.now c.start_all.new.parts c.set_stop.new.self c.args.setup.now.until (ap (λ x. x.until) c.requires.setup) c.start_all.ensures.kept (record { kept = c.set_stop.ensures.kept; sets = sets }) c.in_ok-start_all.ensures.started).stands)
    c.set_stop.ensures.sets

pub returns-clause-balances : goal.returns-clause-balances
returns-clause-balances g c =
    on_ok_weaker c.set_stop.result
    (λ sets. (opened_so g.B.LawfulBody.body c.args.parts.now c.start_all.new.parts c.set_stop.new.self c.args.setup.now.until (ap (λ x. x.until) c.requires.setup) c.start_all.ensures.kept (record { kept = c.set_stop.ensures.kept; sets = sets }) c.in_ok-start_all.ensures.started).balances)
    c.set_stop.ensures.sets

pub returns-clause-holds : goal.returns-clause-holds
returns-clause-holds g c =
    let body = g.B.LawfulBody.body in
    let new = c.set_stop.new.self in
    let code : c.args.code.now ≡ new.code = rw (c.set_stop.ensures.kept, c.start_all.ensures.kept) c.requires.code in
    let setup : c.args.setup.now ≡ new.setup = rw (c.set_stop.ensures.kept, c.start_all.ensures.kept) c.requires.setup in
    let fits : FitsCode (body.facts new.code) new.setup = rw (← code, ← setup) c.requires.fits in
    let resources : new.shared.setup ≡ new.setup.resources = rw c.set_stop.ensures.kept c.slots-known.ensures.resources in
    on_ok_weaker c.set_stop.result
    (λ sets. opening_holds body new (g.B.LawfulBody.lawful new.code) fits resources
    (opened_so body c.args.parts.now c.start_all.new.parts new c.args.setup.now.until (ap (λ x. x.until) c.requires.setup) c.start_all.ensures.kept (record { kept = c.set_stop.ensures.kept; sets = sets }) c.in_ok-start_all.ensures.started))
    c.set_stop.ensures.sets
