use Rattle.std.proofs.Common.{nat_le, [], ◌∷◌, ◌∙◌, rules, tests}
use Rattle.std.proofs.lemmas.Iterator.{YieldsList-from_slice}
use Rattle.std.proofs.lemmas.Iterator.Search.{any_from_yields_List}
use Rattle.sim_language.specs.LimitFaults.{gives_too_many}
use Rattle.sim_language.specs.Variables.{given_by_slot, variable_number}
use Rattle.sim_faults.proofs.OperandTests.{any_by_item}
use Rattle.sim_faults.proofs.limit_faults.gives_too_many.Goals as goal

pub returns : goal.returns
returns c =
    any_from_yields_List (λ slot. gives_too_many c.args.variables.now (slot ∷ [])) _ _ _ c.any.ensures.ran (YieldsList-from_slice c.args.slots.now cc) (λ x b q k. search (rules, tests))
    ∙ any_by_item (λ v. nat_le 64 (variable_number c.args.variables.now v.name)) given_by_slot c.args.slots.now
