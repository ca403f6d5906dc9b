use Rattle.std.proofs.Common.{[], ◌∷◌, true, false, refl, subst, ◌∙◌}
use Rattle.sim_machine.specs.Trying as trying
use Rattle.sim_shared_model.specs.ShowsAll.{FollowsAll}
use Rattle.sim_shared_model.specs.Serving.{DoesPart}
use Rattle.sim_shared_law.proofs.Shown.ShownMeasures.{nothing_changes, changes_then}
use Rattle.sim_shared_law.proofs.Stocks.ServingTries.{no_part, part_then}
use Rattle.sim_shared.proofs.shared.Shared.try_get.Goals as goal

pub gets-init : goal.gets-init
gets-init c = record {
  part = no_part (trying.try_get c.args.self.now.setup c.args.res) c.args.self.now;
  are_open = record { each = λ x there. c.requires.open.each c.args.res x there };
  setup = refl;
  spare = refl;
  used = refl;
  touched = nothing_changes (c.args.res ∷ []) c.args.self.now c.args.self.now refl;
}

pub gets-preserved : goal.gets-preserved
gets-preserved c =
    let i = c.gets.invariant in
    let one = c.try_one_get.ensures in
    record {
      part = part_then (trying.try_get c.args.self.now.setup c.args.res) c.args.self.now c.gets.self c.try_one_get.new.self true i.part
          (subst (λ rs. DoesPart (trying.try_get rs c.args.res) c.gets.self c.try_one_get.new.self) i.setup c.gets-test.ensures.tried);
      are_open = one.«open» c.gets-test.true;
      setup = one.setup ∙ i.setup;
      spare = one.spare ∙ i.spare;
      used = one.used ∙ i.used;
      touched = changes_then (c.args.res ∷ []) c.args.self.now c.gets.self c.try_one_get.new.self i.touched one.touched;
    }

pub returns-clause-tried : goal.returns-clause-tried
returns-clause-tried c =
    let i = c.gets.invariant in
    part_then (trying.try_get c.args.self.now.setup c.args.res) c.args.self.now c.gets.self c.try_one_get.new.self false i.part
    (subst (λ rs. FollowsAll (trying.try_get rs c.args.res) c.gets.self c.try_one_get.new.self) i.setup c.gets-test.ensures.tried)

pub returns-clause-touched : goal.returns-clause-touched
returns-clause-touched c = changes_then (c.args.res ∷ []) c.args.self.now c.gets.self c.try_one_get.new.self c.gets.invariant.touched c.try_one_get.ensures.touched
