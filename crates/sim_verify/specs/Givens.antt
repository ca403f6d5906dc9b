-- What is read from a text that has a trace after its scenario.
use Rattle.std.specs.Prelude.{◌≡◌, Result, Ok, Err}
use Rattle.sim_types.specs.Scenarios.{ScenarioOf}
use Rattle.sim_types.specs.declared.fault.Fault.{Fault}
use Rattle.sim_code.specs.declared.reading.ReadError.{ReadError}
use Rattle.sim_code.specs.declared.reading.ReadError.TheVariants as error
use Rattle.sim_verify.specs.declared.reading.Given.{Given}

-- the scenario, or exactly the fault; where memory ran out, nothing is said
abbrev pub GivesScenario : Result Given ReadError → Result ScenarioOf Fault → Type 0
GivesScenario (Ok given) read = read ≡ Ok given.scenario
GivesScenario (Err (error.Fault f)) read = read ≡ Err f
GivesScenario (Err error.Memory) read = Unit {0}
