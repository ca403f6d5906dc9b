use Rattle.std.proofs.Common.{sym, ap, ◌∙◌, []}
use Rattle.std.specs.Prelude.{slice_get, slice_index_or}
use Rattle.sim_live.proofs.Sections.{port_to_post}
use Rattle.sim_live.proofs.play.is_to_post.Goals as goal

pub returns-clause-port : goal.returns-clause-port
returns-clause-port c yes_same =
    let t = c.args.taken.now in
    port_to_post c.args.scenario.now t.poster t.serial t.item c.posters.ensures.well_formed
    (ap (λ l. slice_get (slice_index_or l t.poster []) t.serial) (sym c.posters.ensures.posters) ∙ c.has_post.ensures.0 yes_same)
