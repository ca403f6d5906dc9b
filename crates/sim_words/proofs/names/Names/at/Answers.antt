use Rattle.std.proofs.Common.{◌∙◌, ap, slice_get}
use Rattle.sim_words.proofs.Entries.{value_at_entries}
use Rattle.sim_words.proofs.names.Names.at.Goals as goal

pub returns : goal.returns
returns g c = rw (← c.self.view_is) (ap (λ vs. slice_get vs c.args.index) (value_at_entries (λ k. k.now) c.self.inside.index.entries) ∙ c.index.ensures)
