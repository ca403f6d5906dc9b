use Rattle.sim_words.proofs.ByLetter.{row_at}
use Rattle.sim_words.proofs.letter.row_of.Goals as goal

pub returns : goal.returns
returns g c = row_at c.args.table.now c.args.place c.index-table-place.result c.requires c.index-table-place.is
