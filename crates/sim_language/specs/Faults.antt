-- The faults of a text, one definition for each kind.
--     applies kind heads place      the fault of this kind applies to the line at the place
--     first_fault heads places end    the fault of the first faulty line
use Rattle.std.specs.Prelude.{ℕ, ◌+◌, Bool, true, false, if◌then◌else◌, nat_lt, List, [], ◌∷◌, length, reverse, find, Option, Some, None}
use Rattle.std.specs.Option.{option_or}
use Rattle.sim_types.specs.declared.fault.FaultKind.{FaultKind}
use Rattle.sim_types.specs.declared.fault.FaultKind.TheVariants as fault
use Rattle.sim_types.specs.declared.fault.Fault.{Fault}
use Rattle.sim_language.specs.declared.form.Form.{Form}
use Rattle.sim_language.specs.Shapes.{Operand}
use Rattle.sim_language.specs.AnywhereInText.{ProcessLines}
use Rattle.sim_language.specs.Sayings.{TextLine, Saying, Blank, Wrong, Says}
use Rattle.sim_language.specs.Places.{Above, above_of, LineInText, in_process}
use Rattle.sim_language.specs.NameFaults.{duplicate, unknown_name, wrong_kind}
use Rattle.sim_language.specs.OrderFaults.{bad_header, misplaced, bad_order}
use Rattle.sim_language.specs.LimitFaults.{too_many}
use Rattle.sim_language.specs.VariableFaults.{class_clash, unset}

-- ---- a line

-- what is wrong with the line by itself
abbrev pub is_wrong : FaultKind → Saying → Bool
is_wrong fault.NotText (Wrong fault.NotText) = true
is_wrong fault.LineTooLong (Wrong fault.LineTooLong) = true
is_wrong fault.UnknownWord (Wrong fault.UnknownWord) = true
is_wrong fault.BadShape (Wrong fault.BadShape) = true
is_wrong fault.BadNumber (Wrong fault.BadNumber) = true
is_wrong fault.BadName (Wrong fault.BadName) = true
is_wrong kind saying = false

-- a fault of a line's form and operands
abbrev pub of_form : (Form → List Operand → Bool) → Saying → Bool
of_form test (Says f slots) = test f slots
of_form test other = false

abbrev pub applies : FaultKind → ProcessLines → LineInText → Bool
applies fault.BadHeader heads place = bad_header place.above place.line
applies fault.Duplicate heads place = of_form (duplicate place.above) place.line.saying
applies fault.UnknownName heads place = of_form (λ f slots. unknown_name heads place.above slots) place.line.saying
applies fault.WrongKind heads place = of_form (wrong_kind heads place.above) place.line.saying
applies fault.Misplaced heads place = of_form (misplaced place.above) place.line.saying
applies fault.TooMany heads place = of_form (too_many place) place.line.saying
applies fault.ClassClash heads place = of_form (λ f slots. class_clash place slots) place.line.saying
applies fault.Unset heads place = of_form (λ f slots. unset place slots) place.line.saying
applies fault.BadOrder heads place = of_form (bad_order place.above) place.line.saying
applies kind heads place = is_wrong kind place.line.saying

-- the kinds of a line in the order in which they are tried
abbrev pub kinds_in_order : List FaultKind
kinds_in_order = fault.NotText ∷ fault.LineTooLong ∷ fault.BadHeader ∷ fault.UnknownWord ∷ fault.BadShape ∷ fault.BadNumber ∷ fault.BadName ∷ fault.Duplicate ∷ fault.UnknownName ∷ fault.WrongKind ∷ fault.Misplaced ∷ fault.TooMany ∷ fault.ClassClash ∷ fault.Unset ∷ fault.BadOrder ∷ []

-- a line without words is never faulty
abbrev pub fault_by : Saying → ProcessLines → LineInText → Option FaultKind
fault_by Blank heads place = None
fault_by other heads place = find (λ kind. applies kind heads place) kinds_in_order

abbrev pub fault_at : ProcessLines → LineInText → Option FaultKind
fault_at heads place = fault_by place.line.saying heads place

-- ---- a text

-- where the text ends inside a process, or before its two header lines
abbrev pub fault_past : Above → Option FaultKind
fault_past above = if nat_lt above.worded 2 then Some fault.BadHeader else (if in_process above then Some fault.Unclosed else None)

abbrev pub at_line : ℕ → Option FaultKind → Option Fault
at_line n None = None
at_line n (Some kind) = Some (record { line = n; kind = kind })

-- the fault of the first line that is faulty, or else that of the end of the text
abbrev pub first_fault : ProcessLines → List LineInText → Option Fault → Option Fault
first_fault heads [] end = end
first_fault heads (place ∷ rest) end = option_or (at_line place.number (fault_at heads place)) (first_fault heads rest end)

-- one line past the last
abbrev pub end_fault : List TextLine → Option Fault
end_fault ls = at_line (length ls + 1) (fault_past (above_of (reverse ls)))
