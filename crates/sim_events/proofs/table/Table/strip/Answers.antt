use Rattle.std.proofs.Common.{refl, sym, ◌∙◌}
use Rattle.sim_machine.specs.Callbacks.{is_same_callback}
use Rattle.sim_callbacks.proofs.Links.{without_none}
use Rattle.sim_events.specs.Stores.{table_of}
use Rattle.sim_events.proofs.Absent.{same_table}
use Rattle.sim_events.proofs.Extending.{events_called, sound_called}
use Rattle.sim_events.proofs.table.Table.strip.Goals as goal

pub invariant_of-self : goal.invariant_of-self
invariant_of-self c =
    let t = c.self.invariant in
    let r = c.take_out.ensures.others t.stored.owners 0 t.stored.left in
    sound_called _ c.self.inside.store c.take_out.new.self _ c.take_out.new.chain t r

pub returns-clause-events : goal.returns-clause-events
returns-clause-events c =
    let t = c.self.invariant in
    let r = c.take_out.ensures.others t.stored.owners 0 t.stored.left in
    rw (← c.self.view_is) (events_called _ c.self.inside.store c.take_out.new.self _ c.take_out.new.chain t r)

pub returns-clause-absent : goal.returns-clause-absent
returns-clause-absent c = λ absent.
    let t = c.self.invariant in
    let r = c.take_out.ensures.others t.stored.owners 0 t.stored.left in
    let old = table_of c.self.inside.index c.self.inside.store c.self.inside.left in
    let new = table_of c.self.inside.index (record c.self.inside.store { nodes = c.take_out.new.self }) c.take_out.new.chain in
    let left = c.take_out.ensures.callbacks ∙ without_none (is_same_callback c.args.callback) old.left (sym c.take_out.ensures.found ∙ absent) in
    rw (← c.self.view_is) (same_table new old c.take_out.result absent (events_called _ c.self.inside.store c.take_out.new.self _ c.take_out.new.chain t r) left refl c.take_out.ensures.spare refl)
