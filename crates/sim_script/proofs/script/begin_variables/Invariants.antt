-- The arguments so far are written, and 0 stands in all other variables.
use Rattle.std.proofs.Common.{◌≡◌, ◌-◌, pos, ◌∷◌, ◌++◌, take, replicate, vec_len}
use Rattle.sim_script.proofs.script.begin_variables.Given as goal

abbrev pub invariant-loop-at : goal.invariant-loop-at
invariant-loop-at l = l.variables.items ≡ pos 0 ∷ take l.at l.args ++ replicate (vec_len l.initial.variables - 1 - l.at) (pos 0)
