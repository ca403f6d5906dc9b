use Rattle.std.proofs.Common.{◌≡◌, length, arith, rules, vec_len}
use Rattle.sim_script_model.specs.Needs.{last_variable}
use Rattle.sim_script.proofs.Places.{none_past}
use Rattle.sim_script.proofs.script.Script.kept_variables.Goals as goal

pub returns-clause-rest : goal.returns-clause-rest
returns-clause-rest c = λ at past.
    let s = c.self.inside in
    let long : length s.variables.items ≡ vec_len s.variables = search rules in
    rw (← c.self.view_is) (none_past (last_variable s.scenario.value) s.classes.value s.variables.items at (omega (arith, long, past)))
