use Rattle.std.proofs.Common.{◌∙◌, ap, is_some}
use Rattle.sim_words.proofs.Places.{is_named_at_place}
use Rattle.sim_words.proofs.names.Names.contains.Goals as goal

pub returns : goal.returns
returns g c = c.is_some.ensures ∙ ap is_some c.index_of.ensures.index ∙ is_named_at_place c.args.name.now c.args.self.now
