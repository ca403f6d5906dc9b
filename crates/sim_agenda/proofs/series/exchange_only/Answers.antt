use Rattle.std.proofs.Common.{◌≡◌, length, rules}
use Rattle.std.specs.Prelude.{slice_index_or}
use Rattle.sim_agenda.proofs.Joining.{exchanged_only}
use Rattle.sim_agenda.proofs.series.exchange_only.Goals as goal

pub returns-clause-moved : goal.returns-clause-moved
returns-clause-moved c =
    let xs = c.args.series.now.items in
    let one : length xs ≡ 1 = search rules in
    let at : c.replace.result ≡ slice_index_or xs 0 c.replace.result = search rules in
    exchanged_only xs c.args.entry c.replace.result c.replace.new.dest one at (search rules)
