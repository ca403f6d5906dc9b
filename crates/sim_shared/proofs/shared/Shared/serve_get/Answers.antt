use Rattle.std.proofs.Common.{◌<◌, length, refl}
use Rattle.sim_shared_law.proofs.Shown.ResourcePlaces.{got_asked}
use Rattle.sim_shared_law.proofs.Stocks.ServingTries.{get_sound}
use Rattle.sim_shared.proofs.shared.Shared.serve_get.Goals as goal

pub invariant_of-self : goal.invariant_of-self
invariant_of-self c =
    let x = c.index_mut.result.now in
    let one = c.serve_one_get in
    let i = c.self.inside in
    let asked : c.args.res < length i.setup.value = rw (← c.self.view_is) at c.requires.res in
    get_sound i.used i.resources.items i.setup.value c.args.res one.result x one.new.resource
    (got_asked i.resources.items i.setup.value c.args.res x c.self.invariant.opened asked c.index_mut.ensures.value) c.self.invariant (one.ensures.tried c.args.res)

pub returns : goal.returns
returns c =
    let x = c.index_mut.result.now in
    let i = c.self.inside in
    let asked : c.args.res < length i.setup.value = rw (← c.self.view_is) at c.requires.res in
    rw (← c.self.view_is) (record {
      before = x;
      after = c.serve_one_get.new.resource;
      there = got_asked i.resources.items i.setup.value c.args.res x c.self.invariant.opened asked c.index_mut.ensures.value;
      tried = c.serve_one_get.ensures.tried c.args.res;
      differ = c.serve_one_get.ensures.differ;
      rest = refl;
    })
