use Rattle.std.proofs.Common.{refl}
use Rattle.sim_steps_model.specs.PartsOf.{plan_of}
use Rattle.sim_steps_law.proofs.Starts.Starting.{next_not_alive, start_can_begin, start_kept}
use Rattle.sim_steps_law.proofs.Starts.Beginning.{begun_starts, begun_opening}
use Rattle.sim_steps_law.proofs.Kernels.Rooms.{roomier_opening}
use Rattle.sim_steps.proofs.parts.Parts.start.Goals as goal

pub begin-requires-clause-can : goal.begin-requires-clause-can
begin-requires-clause-can g c = rw c.as_slice.ensures (start_can_begin (g.B.LawfulBody.body.facts c.args.code.now) _ c.args.start.now c.requires.setup c.requires.fits)

pub begin-requires-clause-not_alive : goal.begin-requires-clause-not_alive
begin-requires-clause-not_alive g c =
    rw (c.reserve_process.ensures.rest, c.reserve.ensures.rest, c.happen_mut.ensures.value) (next_not_alive _ (rw (← c.self.view_is) at c.requires.opening))

pub begin-requires-clause-kept : goal.begin-requires-clause-kept
begin-requires-clause-kept g c =
    let opening = rw (← c.self.view_is) at c.requires.opening in
    let fits = rw (← c.self.view_is) at c.requires.setup in
    rw (c.as_slice.ensures, c.reserve_process.ensures.rest, c.reserve.ensures.rest, c.happen_mut.ensures.value)
    (start_kept (g.B.LawfulBody.body.facts c.args.code.now) _ c.args.start.now fits c.requires.fits opening.owing)

pub returns-clause-starts : goal.returns-clause-starts
returns-clause-starts g c =
    let begins = rw c.as_slice.ensures at c.begin.ensures.becomes in
    rw (← c.self.view_is)
    (begun_starts _ c.reserve_process.new.self c.begin.new.self c.args.start.now
    (rw (c.reserve_process.ensures.rest, c.reserve.ensures.rest, c.happen_mut.ensures.value) (record { shared = record { happen = refl; resources = refl; setup = refl }; others = refl }))
    begins)

pub returns-clause-opening : goal.returns-clause-opening
returns-clause-opening g c =
    let begins = rw c.as_slice.ensures at c.begin.ensures.becomes in
    begun_opening (plan_of g.B.LawfulBody.body c.reserve_process.new.self) c.args.start.now.kind c.args.start.now.args c.reserve_process.new.self c.begin.new.self begins
    (roomier_opening _ c.reserve_process.new.self
    (rw (c.reserve_process.ensures.rest, c.reserve.ensures.rest, c.happen_mut.ensures.value) (record { shared = record { happen = refl; resources = refl; setup = refl }; others = refl }))
    (rw (← c.self.view_is) at c.requires.opening))
