use Rattle.std.proofs.Common.{[], ◌∷◌, true, false, refl, subst, ◌∙◌}
use Rattle.sim_machine.specs.Trying as trying
use Rattle.sim_shared_model.specs.ShowsAll.{FollowsAll}
use Rattle.sim_shared_model.specs.Serving.{DoesPart}
use Rattle.sim_shared_law.proofs.Shown.ShownMeasures.{nothing_changes, changes_then}
use Rattle.sim_shared_law.proofs.Stocks.ServingTries.{no_part, part_then}
use Rattle.sim_shared.proofs.shared.Shared.try_puts.Goals as goal

pub puts-init : goal.puts-init
puts-init c = record {
  part = no_part (trying.try_put c.args.self.now.setup c.args.res) c.args.self.now;
  are_open = record { each = λ x there. c.requires.open.each c.args.res x there };
  setup = refl;
  spare = refl;
  used = refl;
  touched = nothing_changes (c.args.res ∷ []) c.args.self.now c.args.self.now refl;
}

pub puts-preserved : goal.puts-preserved
puts-preserved c =
    let i = c.puts.invariant in
    let one = c.try_one_put.ensures in
    record {
      part = part_then (trying.try_put c.args.self.now.setup c.args.res) c.args.self.now c.puts.self c.try_one_put.new.self true i.part
          (subst (λ rs. DoesPart (trying.try_put rs c.args.res) c.puts.self c.try_one_put.new.self) i.setup c.puts-test.ensures.tried);
      are_open = one.«open» c.puts-test.true;
      setup = one.setup ∙ i.setup;
      spare = one.spare ∙ i.spare;
      used = one.used ∙ i.used;
      touched = changes_then (c.args.res ∷ []) c.args.self.now c.puts.self c.try_one_put.new.self i.touched one.touched;
    }

pub returns-clause-tried : goal.returns-clause-tried
returns-clause-tried c =
    let i = c.puts.invariant in
    part_then (trying.try_put c.args.self.now.setup c.args.res) c.args.self.now c.puts.self c.try_one_put.new.self false i.part
    (subst (λ rs. FollowsAll (trying.try_put rs c.args.res) c.puts.self c.try_one_put.new.self) i.setup c.puts-test.ensures.tried)

pub returns-clause-touched : goal.returns-clause-touched
returns-clause-touched c = changes_then (c.args.res ∷ []) c.args.self.now c.puts.self c.try_one_put.new.self c.puts.invariant.touched c.try_one_put.ensures.touched
