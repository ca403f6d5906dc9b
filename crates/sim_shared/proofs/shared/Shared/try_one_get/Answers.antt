use Rattle.std.proofs.Common.{rules, w64, FitsSigned, [], ◌∷◌}
use Rattle.std.proofs.lemmas.Int.{to_z-of_z}
use Rattle.sim_shared_law.proofs.Stocks.ServingTries.{get_may, get_served, get_open, get_fewer, no_get}
use Rattle.sim_shared_model.specs.Serving.{TriesGet}
use Rattle.sim_shared_law.proofs.Shown.ShownMeasures.{tried_changes, happens_then}
use Rattle.sim_shared.proofs.shared.Shared.try_one_get.Goals as goal

pub succeed-requires : goal.succeed-requires
succeed-requires c = record { «open» = get_may c.args.self.now c.serve_get.new.self c.args.res c.in-Some.get c.in-Some.ensures c.requires.open }

pub returns-in-None-clause-tried : goal.returns-in-None-clause-tried
returns-in-None-clause-tried c = no_get c.args.self.now c.serve_get.new.self c.args.res c.in-None.ensures

pub returns-in-Some-clause-tried : goal.returns-in-Some-clause-tried
returns-in-Some-clause-tried c =
    let fits : FitsSigned w64 c.in-Some.get.value = search rules in
    get_served c.args.self.now c.serve_get.new.self c.args.res c.in-Some.get c.succeed.new.self c.more_gets.result
    _ (to_z-of_z w64 c.in-Some.get.value fits) c.succeed.ensures.follows c.succeed.ensures.happen c.succeed.ensures.rest c.in-Some.ensures c.more_gets.ensures

pub returns-in-Some-clause-open : goal.returns-in-Some-clause-open
returns-in-Some-clause-open c goes =
    let fits : FitsSigned w64 c.in-Some.get.value = search rules in
    get_open c.args.self.now c.serve_get.new.self c.args.res c.in-Some.get c.succeed.new.self c.more_gets.result
    _ (to_z-of_z w64 c.in-Some.get.value fits) c.succeed.ensures.follows c.succeed.ensures.happen c.succeed.ensures.rest c.in-Some.ensures c.requires.open

pub returns-in-Some-clause-fewer : goal.returns-in-Some-clause-fewer
returns-in-Some-clause-fewer c goes =
    let fits : FitsSigned w64 c.in-Some.get.value = search rules in
    get_fewer c.args.self.now c.serve_get.new.self c.args.res c.in-Some.get c.succeed.new.self c.more_gets.result
    _ (to_z-of_z w64 c.in-Some.get.value fits) c.succeed.ensures.follows c.succeed.ensures.happen c.succeed.ensures.rest c.in-Some.ensures

pub returns-in-Some-clause-touched : goal.returns-in-Some-clause-touched
returns-in-Some-clause-touched c =
    let served = tried_changes TriesGet c.args.res _ c.args.self.now c.serve_get.new.self c.in-Some.ensures in
    happens_then (c.args.res ∷ []) c.args.self.now c.serve_get.new.self c.succeed.new.self served c.succeed.ensures.rest
