use Rattle.std.proofs.Common.{◌&&◌, sym, ap, ◌∙◌, rules, tests}
use Rattle.std.specs.List.{list_any}
use Rattle.std.proofs.lemmas.Iterator.Search.{any_from_yields_List}
use Rattle.std.proofs.lemmas.Iterator.Adapters.{YieldsList-from_rev_slice}
use Rattle.sim_language.specs.Lines.{same}
use Rattle.sim_language.specs.Places.{is_with}
use Rattle.sim_faults.proofs.OpenBlocks.{blocks_of_stack}
use Rattle.sim_faults.proofs.blocks.Blocks.has_with.Goals as goal

pub returns : goal.returns
returns c =
    rw (← c.self.view_is)
    (any_from_yields_List (λ b. is_with b && same c.args.variable.now b.variable) _ _ _ c.any.ensures.ran (YieldsList-from_rev_slice c.self.inside.stack.items cc) (λ x b q k. search (rules, tests))
    ∙ ap (list_any (λ b. is_with b && same c.args.variable.now b.variable)) (sym (blocks_of_stack c.self.inside.in_process c.self.inside.stack.items c.self.invariant)))
