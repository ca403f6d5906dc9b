-- Which faults of a run are faults of the sink.
use Rattle.std.specs.Prelude.{Bool, true, false}
use Rattle.sim_writing.specs.declared.fault.RunFault.{RunFault}
use Rattle.sim_writing.specs.declared.fault.RunFault.TheVariants as fault

abbrev pub is_write : RunFault → Bool
is_write fault.Write = true
is_write fault.Memory = false
