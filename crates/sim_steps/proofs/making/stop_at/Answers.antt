use Rattle.std.proofs.Common.{rules, refl, w64, FitsSigned}
use Rattle.std.proofs.lemmas.Int.{to_z-of_z}
use Rattle.sim_types.specs.declared.event.EventKind.TheVariants as kind
use Rattle.sim_happen_law.proofs.Changes.NewEvents.{is_new}
use Rattle.sim_steps_law.proofs.Kernels.Made.{new_is_open, same_time, not_beyond, from_start, sets_stop}
use Rattle.sim_steps.proofs.making.stop_at.Goals as goal

pub register-requires-clause-unprocessed : goal.register-requires-clause-unprocessed
register-requires-clause-unprocessed c = (is_new kind.Stop _ _ c.make-stop.result c.make-stop.ensures.made c.make-stop.ensures.id).unprocessed

pub schedule-requires-clause-is_open : goal.schedule-requires-clause-is_open
schedule-requires-clause-is_open c = new_is_open _ _ _ _ kind.Stop c.make-stop.result c.make-stop.ensures.made c.make-stop.ensures.id c.register.ensures.follows

pub unreachable-requires : goal.unreachable-requires
unreachable-requires c =
    let time : FitsSigned w64 c.args.time = search rules in
    let late = rw (to_z-of_z w64 c.args.time time) at c.in-Err.ensures.late in
    not_beyond _ _ _ (same_time _ _ _ _ kind.Stop c.make-stop.result c.make-stop.ensures.made c.register.ensures.follows) (from_start _ _ c.requires.at_start c.requires.high) (late.0 refl)

pub returns : goal.returns
returns c =
    let time : FitsSigned w64 c.args.time = search rules in
    sets_stop c.args.time _ _ _ _ c.make-stop.result c.make-stop.ensures.made c.make-stop.ensures.id c.register.ensures.follows (rw (to_z-of_z w64 c.args.time time) at c.in-Ok.ensures.ok)
