use Rattle.std.proofs.Common.{rules}
use Rattle.std.proofs.lemmas.Fn.{filter_same}
use Rattle.sim_index.specs.Entries.{is_live}
use Rattle.sim_index.proofs.entries.compact.Goals as goal

pub returns-clause-items : goal.returns-clause-items
returns-clause-items c = filter_same _ is_live _ (λ x b f t. search rules) _ _ c.retain.ensures.filtered
