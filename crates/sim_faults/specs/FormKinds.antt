-- The kinds of faults that a line's form and operands may have.
use Rattle.std.specs.Prelude.{List, [], ◌∷◌}
use Rattle.sim_types.specs.declared.fault.FaultKind.{FaultKind}
use Rattle.sim_types.specs.declared.fault.FaultKind.TheVariants as fault

-- in the order in which they are tried, behind those of the line by itself
abbrev pub form_kinds : List FaultKind
form_kinds = fault.Duplicate ∷ fault.UnknownName ∷ fault.WrongKind ∷ fault.Misplaced ∷ fault.TooMany ∷ fault.ClassClash ∷ fault.Unset ∷ fault.BadOrder ∷ []
