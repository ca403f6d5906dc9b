use Rattle.std.proofs.Common.{◌∙◌, sym, ap, map, slice_get}
use Rattle.std.specs.Option.{option_and_then}
use Rattle.sim_words.proofs.Places.{value_at_place}
use Rattle.sim_words.proofs.names.Names.get.Goals as goal

pub returns : goal.returns
returns g c =
    sym c.at.ensures ∙ ap (option_and_then (slice_get (map (λ n. n.value) c.args.self.now))) c.in_ok-index_of.ensures.index
    ∙ value_at_place c.args.name.now c.args.self.now

pub returns-in_err-index_of : goal.returns-in_err-index_of
returns-in_err-index_of g c =
    c.from_residual.ensures ∙ ap (option_and_then (slice_get (map (λ n. n.value) c.args.self.now))) c.in_err-index_of.ensures.index
    ∙ value_at_place c.args.name.now c.args.self.now
