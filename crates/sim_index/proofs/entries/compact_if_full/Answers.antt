use Rattle.std.proofs.Common.{arith, ap, length}
use Rattle.std.proofs.lemmas.List.Sums.{length-filter}
use Rattle.sim_index.specs.Entries.{is_live}
use Rattle.sim_index.proofs.entries.compact_if_full.Goals as goal

pub returns-then-len-min-clause-room : goal.returns-then-len-min-clause-room
returns-then-len-min-clause-room c = λ h. omega (arith, ap length c.compact.ensures.items, length-filter is_live c.args.entries.now.items)
