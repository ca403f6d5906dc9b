use Rattle.std.proofs.Common.{◌≡◌, take, map}
use Rattle.sim_script_model.specs.Scripts.{value_of_arg}
use Rattle.sim_script.proofs.script.Script.arguments.Given as goal

abbrev pub invariant-loop-argument : goal.invariant-loop-argument
invariant-loop-argument l = l.args ≡ map (value_of_arg l.time l.self) (take l.argument-index l.given)
