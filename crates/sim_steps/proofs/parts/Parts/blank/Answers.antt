use Rattle.std.proofs.Common.{◌+◌, refl, sym, ap, subst, ◌∙◌, map}
use Rattle.sim_machine.specs.Runs.{first_calendar}
use Rattle.sim_happen_model.specs.HappenOf.{held}
use Rattle.sim_happen_model.specs.Shows.{Shows}
use Rattle.sim_shared_model.specs.Resources.{without_room}
use Rattle.sim_steps_law.proofs.Kernels.Made.{named_all}
use Rattle.sim_steps_law.proofs.Holders.NamedHolders.{blank_balances, once_few}
use Rattle.sim_steps_law.proofs.Kernels.Rooms.{roomier_all, roomier_shows}
use Rattle.sim_steps_law.proofs.Starts.Starting.{blank_stands}
use Rattle.sim_steps.proofs.parts.Parts.blank.Goals as goal

pub returns-clause-stands : goal.returns-clause-stands
returns-clause-stands g c =
    let rest = c.reserve_starts.ensures.rest in
    let named = named_all c.args.setup.now.events _ _ refl c.in_ok-shared.ensures.shows c.in_ok-make_named.ensures.shows in
    let roomier = roomier_all _ c.reserve_starts.new.self _
    (record {
      happen = ap (λ x. x.happen) rest;
      resources = ap (λ x. map without_room x.resources) rest;
      setup = ap (λ x. x.setup) rest;
    })
    named in
    blank_stands g.B.LawfulBody.body _ (rw c.of-2.ensures roomier) refl (rw c.of-3.ensures c.seed_from_u64-generator.ensures) c.in_ok-processes.ensures.live refl

pub returns-clause-balances : goal.returns-clause-balances
returns-clause-balances g c =
    let happen = ap (λ x. x.happen) c.reserve_starts.ensures.rest in
    let shows = subst (λ h. Shows h (first_calendar c.args.setup.now.events)) (sym happen) (roomier_shows c.make_named.new.happen _ _ c.in_ok-make_named.ensures.shows) in
    let held_so = ap held happen ∙ c.in_ok-make_named.ensures.held in
    blank_balances _ (rw c.of-2.ensures shows) (rw c.of-2.ensures held_so)

pub returns-clause-few : goal.returns-clause-few
returns-clause-few g c =
    once_few (c.args.setup.now.events + 1) c.reserve_starts.new.self.happen
    (ap held (ap (λ x. x.happen) c.reserve_starts.ensures.rest) ∙ c.in_ok-make_named.ensures.held)
