use Rattle.sim_types.specs.declared.event.EventKind.TheVariants as kind
use Rattle.sim_happen_law.proofs.Changes.NewEvents.{is_new}
use Rattle.std.proofs.Common.{refl, ◌∙◌}
use Rattle.sim_happen_law.proofs.Changes.Following.{time_then}
use Rattle.sim_steps_law.proofs.Kernels.Made.{new_is_open, same_time, not_beyond, at_now, turns_process}
use Rattle.sim_steps.proofs.making.make_process.Goals as goal

pub register-requires-clause-unprocessed : goal.register-requires-clause-unprocessed
register-requires-clause-unprocessed c = (is_new kind.Init _ _ c.make-init.result c.make-init.ensures.made c.make-init.ensures.id).unprocessed

pub schedule-requires-clause-is_open : goal.schedule-requires-clause-is_open
schedule-requires-clause-is_open c = new_is_open _ _ _ _ kind.Init c.make-init.result c.make-init.ensures.made c.make-init.ensures.id c.register.ensures.follows

pub unreachable-requires : goal.unreachable-requires
unreachable-requires c =
    let same = same_time _ _ _ _ kind.Init c.make-init.result c.make-init.ensures.made c.register.ensures.follows ∙ time_then _ _ _ _ c.make-event.ensures.made in
    not_beyond _ _ _ same (at_now _ c.requires.time) (c.in-Err.ensures.late.0 refl)

pub returns-clause-made : goal.returns-clause-made
returns-clause-made c =
    turns_process _ _ _ _ _ c.make-event.result c.make-init.result c.make-event.ensures.made c.make-event.ensures.id c.make-init.ensures.made c.make-init.ensures.id c.register.ensures.follows c.in-Ok.ensures.ok
