-- The events that an operation names.
use Rattle.std.specs.Prelude.{ℤ, pos, List, [], ◌∷◌, slice_index_or}
use Rattle.sim_types.specs.declared.event.EventId.{EventId}
use Rattle.sim_types.specs.declared.setup.Class.{Class}
use Rattle.sim_types.specs.declared.setup.Class.TheVariants as class
use Rattle.sim_types.specs.declared.op.Op.{Op}
use Rattle.sim_types.specs.declared.op.Op.TheVariants as op
use Rattle.sim_machine.specs.Processes.{event_of}
use Rattle.sim_machine.specs.Tellings.{CodeFacts}

-- what the arguments of a process name: those that are numbers name nothing
abbrev pub arguments_name : List Class → List ℤ → List EventId
arguments_name (class.Number ∷ cs) (v ∷ vs) = arguments_name cs vs
arguments_name (c ∷ cs) (pos n ∷ vs) = record { 0 = n } ∷ arguments_name cs vs
arguments_name (c ∷ cs) (v ∷ vs) = arguments_name cs vs
arguments_name _ _ = []

-- what an operation names; a process is named by its event
abbrev pub events_named : CodeFacts → Op → List EventId
events_named f (op.Wait e) = e ∷ []
events_named f (op.Succeed e value) = e ∷ []
events_named f (op.Fail e code) = e ∷ []
events_named f (op.Spawn k args) = arguments_name (slice_index_or f.params k []) args
events_named f (op.Interrupt q cause) = event_of q ∷ []
events_named f (op.Drop q value) = event_of q ∷ []
events_named f (op.AllOf members) = members
events_named f (op.AnyOf members) = members
events_named f (op.Has cond e) = cond ∷ e ∷ []
events_named f (op.Release request) = request ∷ []
events_named f (op.Cancel e) = e ∷ []
events_named f (op.Chain e y) = e ∷ y ∷ []
events_named f _ = []
