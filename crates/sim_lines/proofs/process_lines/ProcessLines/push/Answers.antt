use Rattle.std.proofs.Common.{◌≡◌, length, map, arith}
use Rattle.std.proofs.lemmas.Result.{on_ok_weaker}
use Rattle.sim_language.specs.Parameters.{parameter_class}
use Rattle.sim_lines.proofs.HeadsOfLines.{heads_with_one}
use Rattle.sim_lines.proofs.process_lines.ProcessLines.push.Goals as goal

pub returns : goal.returns
returns c =
    let from : c.len-from.result ≡ length c.self.inside.classes.items = omega (arith, c.len-from.ensures) in
    let to : c.len-to.result ≡ length c.push_classes.new.classes.items = omega (arith, c.len-to.ensures) in
    rw (← c.self.view_is)
    (on_ok_weaker c.add.result
    (heads_with_one c.args.name.now c.self.inside.spans c.add.new.self c.self.inside.classes.items (map parameter_class c.args.parameters) c.push_classes.new.classes.items c.len-from.result c.len-to.result
    c.self.invariant.1 (rw c.self.view_is c.requires.other) c.in_ok-push_classes.ensures.classes from to)
    c.add.ensures.ok)
