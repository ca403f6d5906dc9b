use Rattle.std.proofs.Common.{rules, ◌≡◌, ◌<◌, sym, ap, ◌∙◌, length, w64, FitsSigned}
use Rattle.std.specs.Prelude.{slice_get, Some}
use Rattle.std.proofs.lemmas.Int.{to_z-of_z}
use Rattle.std.proofs.lemmas.Option.{same_Some}
use Rattle.sim_shared_model.specs.Resources.{count_at}
use Rattle.sim_shared_law.proofs.Shown.ShownCounts.{count_shown, capacity_fits}
use Rattle.sim_shared_law.proofs.Shown.ResourcePlaces.{got_is, same_length}
use Rattle.sim_shared.proofs.shared.Shared.count.Goals as goal

-- what stands at the place
got : (c : goal.After-index) → slice_get c.self.inside.resources.items c.args.res ≡ Some c.index.result.now
got c =
    let asked : c.args.res < length c.self.inside.setup.value = rw (← c.self.view_is) at c.requires.res in
    got_is c.self.inside.resources.items c.args.res c.index.result.now
    (rw (same_length c.self.inside.resources.items c.self.inside.setup.value c.self.invariant.opened) asked) c.index.ensures

pub count-requires : goal.count-requires
count-requires c =
    capacity_fits c.self.inside.resources.items c.self.inside.setup.value c.args.res c.index.result.now c.self.invariant.opened c.self.invariant.fit (got c)

pub returns-clause-value : goal.returns-clause-value
returns-clause-value c x found =
    let fits : FitsSigned w64 c.count.result = search rules in
    let there : slice_get c.self.inside.resources.items c.args.res ≡ Some x = rw (← c.self.view_is) at found in
    to_z-of_z w64 c.count.result fits ∙ (c.count.ensures ∙ ap count_at (same_Some c.index.result.now x (sym (got c.before) ∙ there)))

pub returns-clause-shown : goal.returns-clause-shown
returns-clause-shown c f shown =
    let fits : FitsSigned w64 c.count.result = search rules in
    let there : slice_get c.args.self.now.resources c.args.res ≡ Some c.index.result.now = rw (← c.self.view_is) (got c.before) in
    to_z-of_z w64 c.count.result fits ∙ (c.count.ensures ∙ count_shown c.args.self.now f c.args.res c.index.result.now there shown)
