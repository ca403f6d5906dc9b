use Rattle.std.proofs.Common.{rules, FitsSigned, w64, Ok, sym, subst, ◌∙◌}
use Rattle.std.proofs.lemmas.Int.{to_z-of_z}
use Rattle.sim_steps_model.specs.PartsOf.{plan_of}
use Rattle.sim_writing.specs.WrittenRuns.{WritesRun}
use Rattle.sim_writing.proofs.WrittenEnds.{ended_ill, ended_well}
use Rattle.sim_writing.proofs.runs.write_run.Goals as goal

pub returns-in_err-write_end-in-Ok-clause-writes : goal.returns-in_err-write_end-in-Ok-clause-writes
returns-in_err-write_end-in-Ok-clause-writes g c =
    let body = g.B.LawfulBody.body in
    let w = c.args.walk in
    let made = c.in-Ok.ensures in
    let done = c.finish-end.ensures in
    let m = made.writes.last in
    let fits : FitsSigned w64 c.finish-end.result.1 = search rules in
    subst (λ code. WritesRun (plan_of body w.kernel.parts) (body.turn code) w.left w.limit c.args.ports.now
    (g.K.Sink.tells c.args.out.now) (g.K.Sink.tells c.write_end.new.out) c.from_residual.result) (sym c.requires.code)
    (ended_ill body c.args.ports.now _ _ w c.write_units.new.walk made.writes made.over made.limit made.opened
    c.finish-end.result.0 _ c.finish-end.result.2 (done.end m made.writes.stands) (to_z-of_z w64 c.finish-end.result.1 fits ∙ done.time m made.writes.stands) (done.processed m made.writes.stands)
    _ _ c.from_residual.result c.in_err-write_end-in-Ok.ensures.writes c.from_residual.ensures.1)

pub returns-in_ok-write_end-in-Ok-clause-writes : goal.returns-in_ok-write_end-in-Ok-clause-writes
returns-in_ok-write_end-in-Ok-clause-writes g c =
    let body = g.B.LawfulBody.body in
    let w = c.args.walk in
    let made = c.in-Ok.ensures in
    let done = c.finish-end.ensures in
    let m = made.writes.last in
    let fits : FitsSigned w64 c.finish-end.result.1 = search rules in
    subst (λ code. WritesRun (plan_of body w.kernel.parts) (body.turn code) w.left w.limit c.args.ports.now
    (g.K.Sink.tells c.args.out.now) (g.K.Sink.tells c.write_end.new.out) (Ok c.finish-end.result.0)) (sym c.requires.code)
    (ended_well body c.args.ports.now _ _ w c.write_units.new.walk made.writes made.over made.limit made.opened
    c.finish-end.result.0 _ c.finish-end.result.2 (done.end m made.writes.stands) (to_z-of_z w64 c.finish-end.result.1 fits ∙ done.time m made.writes.stands) (done.processed m made.writes.stands)
    _ c.in_ok-write_end-in-Ok.ensures.writes)
