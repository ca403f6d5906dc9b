use Rattle.std.proofs.Common.{◌≡◌, ◌<◌, sym, ap, ◌∙◌, length}
use Rattle.std.specs.Prelude.{slice_get, Some}
use Rattle.std.proofs.lemmas.Option.{same_Some}
use Rattle.sim_shared_model.specs.Measuring.{measure_of}
use Rattle.sim_shared_law.proofs.Shown.ShownCounts.{capacity_fits}
use Rattle.sim_shared_law.proofs.Shown.ShownMeasures.{measure_shown}
use Rattle.sim_shared_law.proofs.Shown.ResourcePlaces.{got_asked}
use Rattle.sim_shared.proofs.shared.Shared.measure.Goals as goal

-- what stands at the place
got : (c : goal.After-index) → slice_get c.self.inside.resources.items c.args.res ≡ Some c.index.result.now
got c =
    let i = c.self.inside in
    let asked : c.args.res < length i.setup.value = rw (← c.self.view_is) at c.requires.res in
    got_asked i.resources.items i.setup.value c.args.res c.index.result.now c.self.invariant.opened asked c.index.ensures

pub measure-requires : goal.measure-requires
measure-requires c =
    let i = c.self.inside in
    capacity_fits i.resources.items i.setup.value c.args.res c.index.result.now c.self.invariant.opened c.self.invariant.fit (got c)

pub returns-clause-value : goal.returns-clause-value
returns-clause-value c x found =
    let there : slice_get c.self.inside.resources.items c.args.res ≡ Some x = rw (← c.self.view_is) at found in
    c.measure.ensures ∙ ap measure_of (same_Some c.index.result.now x (sym (got c.before) ∙ there))

pub returns-clause-shown : goal.returns-clause-shown
returns-clause-shown c f shown =
    let there : slice_get c.args.self.now.resources c.args.res ≡ Some c.index.result.now = rw (← c.self.view_is) (got c.before) in
    c.measure.ensures ∙ measure_shown c.args.self.now f c.args.res c.index.result.now there shown
