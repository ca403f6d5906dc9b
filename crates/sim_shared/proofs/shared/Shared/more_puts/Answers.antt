use Rattle.std.proofs.Common.{◌≡◌, ◌<◌, length, sym, ap, ◌∙◌}
use Rattle.std.specs.Prelude.{slice_get, Some}
use Rattle.std.proofs.lemmas.Option.{same_Some}
use Rattle.sim_shared_model.specs.Serving.{puts_go_on}
use Rattle.sim_shared_law.proofs.Shown.ResourcePlaces.{got_asked}
use Rattle.sim_shared.proofs.shared.Shared.more_puts.Goals as goal

pub returns : goal.returns
returns c x found =
    let asked : c.args.res < length c.self.inside.setup.value = rw (← c.self.view_is) at c.requires.res in
    let there : slice_get c.self.inside.resources.items c.args.res ≡ Some x = rw (← c.self.view_is) at found in
    let here = got_asked c.self.inside.resources.items c.self.inside.setup.value c.args.res c.index.result.now c.self.invariant.opened asked c.index.ensures in
    c.puts_go_on.ensures ∙ ap puts_go_on (same_Some c.index.result.now x (sym here ∙ there))
