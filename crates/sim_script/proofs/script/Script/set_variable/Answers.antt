use Rattle.std.proofs.Common.{◌<◌, length, refl, rules, w64, to_z, of_z}
use Rattle.std.proofs.lemmas.Int.{to_z-of_z}
use Rattle.sim_script_model.specs.Needs.{last_variable}
use Rattle.sim_script.proofs.Beginnings.{set_kept}
use Rattle.sim_script.proofs.script.Script.set_variable.Goals as goal

pub returns : goal.returns
returns c =
    let inside : c.from.result < length c.self.inside.variables.items = search rules in
    set_kept c.args.self.now _ (last_variable c.self.inside.scenario.value) c.self.inside.variables.items c.from.result c.args.at
    (to_z w64 (of_z w64 c.args.value)) c.args.value (rw (← c.self.view_is) refl) (rw (← c.self.view_is) refl) inside c.from.ensures
    (to_z-of_z w64 c.args.value c.ranges.value)
