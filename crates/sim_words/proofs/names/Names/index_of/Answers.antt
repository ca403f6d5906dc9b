use Rattle.std.proofs.Common.{◌∙◌, ap, position}
use Rattle.sim_words.proofs.Entries.{by_word, place_of_entries}
use Rattle.sim_words.proofs.Places.{place_of_below}
use Rattle.sim_words.proofs.names.Names.index_of.Goals as goal

pub returns-then-len-le-FEW-clause-index : goal.returns-then-len-le-FEW-clause-index
returns-then-len-le-FEW-clause-index g c =
    rw (← c.self.view_is)
    (c.place_among.ensures ∙ ap (position (by_word (λ k. k.now) c.args.name)) (c.as_slice.ensures ∙ c.keys.ensures.rest)
    ∙ place_of_entries (λ k. k.now) c.args.name c.self.inside.index.entries)

pub returns-else-len-le-FEW-clause-index : goal.returns-else-len-le-FEW-clause-index
returns-else-len-le-FEW-clause-index g c = rw (← c.self.view_is) (c.get_index_of.ensures.index ∙ place_of_entries (λ k. k.now) c.args.name c.self.inside.index.entries)

pub returns-then-len-le-FEW-clause-below : goal.returns-then-len-le-FEW-clause-below
returns-then-len-le-FEW-clause-below g c =
    rw (
      c.place_among.ensures ∙ ap (position (by_word (λ k. k.now) c.args.name)) (c.as_slice.ensures ∙ c.keys.ensures.rest)
          ∙ place_of_entries (λ k. k.now) c.args.name c.self.inside.index.entries,
      c.self.view_is,
    ) (place_of_below c.args.name.now _)

pub returns-else-len-le-FEW-clause-below : goal.returns-else-len-le-FEW-clause-below
returns-else-len-le-FEW-clause-below g c = rw (c.get_index_of.ensures.index ∙ place_of_entries (λ k. k.now) c.args.name c.self.inside.index.entries, c.self.view_is) (place_of_below c.args.name.now _)
