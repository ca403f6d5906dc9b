use Rattle.std.proofs.Common.{◌≡◌, take, map}
use Rattle.sim_script_model.specs.Scripts.{event_of_ref}
use Rattle.sim_script.proofs.script.Script.members.Given as goal

abbrev pub invariant-loop-named : goal.invariant-loop-named
invariant-loop-named l = l.members ≡ map (event_of_ref l.self) (take l.named-index l.of)
