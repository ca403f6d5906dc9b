use Rattle.std.proofs.Common.{sym, ◌∙◌, ap, map}
use Rattle.indexmap.proofs.CallerLemmas.{insert_entry-new}
use Rattle.sim_words.proofs.Entries.{by_word, named_by, none_of, with_one_new, with_one_known}
use Rattle.sim_words.proofs.names.Names.add.Goals as goal

pub returns-in_ok-insert-clause-ok : goal.returns-in_ok-insert-clause-ok
returns-in_ok-insert-clause-ok g c = rw (← c.self.view_is)
    (ap (map (named_by (λ k. k.now))) (c.in_ok-insert.ensures.entries ∙ insert_entry-new (by_word (λ k. k.now)) c.self.inside.index c.args.name c.args.value (none_of _ (sym c.contains_key.ensures ∙ c.if-not-contains_key.true)))
    ∙ with_one_new (λ k. k.now) c.args.name c.args.value c.self.inside.index.entries (none_of _ (sym c.contains_key.ensures ∙ c.if-not-contains_key.true)))

pub returns-else-not-contains_key-clause-ok : goal.returns-else-not-contains_key-clause-ok
returns-else-not-contains_key-clause-ok g c = rw (← c.self.view_is)
    (with_one_known (λ k. k.now) c.args.name c.args.value c.self.inside.index.entries (sym c.contains_key.ensures ∙ c.if-not-contains_key.false))
