use Rattle.std.proofs.Common.{◌≡◌, ◌≤◌, ◌+◌, Ok, refl, ◌∙◌, arith}
use Rattle.sim_kernel.specs.Walks.{Walks}
use Rattle.sim_writing.proofs.HasWrittenOn.{failed_as, more_written, none_yet}
use Rattle.sim_writing.proofs.runs.write_units.Goals as goal

pub loop-units-init : goal.loop-units-init
loop-units-init g c =
    record {
      written = none_yet g.B.LawfulBody.body c.args.ports.now (g.K.Sink.tells c.args.out.now) c.args.walk.now c.requires.opening;
      opened = record { code = refl; setup = refl; seed = refl };
      limit = refl;
      unflushed = refl;
    }

pub loop-units-preserved : goal.loop-units-preserved
loop-units-preserved g c =
    let old = c.loop-units.walk in
    let new = c.units.new.self in
    let h = c.loop-units.invariant in
    let opened = c.in_ok-units.ensures.opened in
    let walks : Walks g.B.LawfulBody.body c.in-Some.units old new = rw c.in-Some.is at c.in_ok-units.ensures.walks in
    let count : new.kernel.units ≡ old.kernel.units + c.in-Some.units.made = rw c.in-Some.is at c.in_ok-units.ensures.units in
    let within : new.kernel.units ≤ c.args.walk.now.limit = omega (arith, c.in_ok-units.ensures.within, c.in_ok-units.ensures.limit, h.limit) in
    record {
      written =
          more_written g.B.LawfulBody.body c.args.ports.now (g.K.Sink.tells c.args.out.now) c.args.walk.now _ _ old new c.in-Some.units h.written walks h.opened count within
          (Ok (tt {0})) c.in_ok-write_last.ensures.writes;
      opened = record { code = opened.code ∙ h.opened.code; setup = opened.setup ∙ h.opened.setup; seed = opened.seed ∙ h.opened.seed };
      limit = c.in_ok-units.ensures.limit ∙ h.limit;
      unflushed = c.in_ok-write_last.ensures.unflushed ∙ h.unflushed;
    }

pub returns-in_err-write_last-clause-writes : goal.returns-in_err-write_last-clause-writes
returns-in_err-write_last-clause-writes g c =
    let old = c.loop-units.walk in
    let new = c.units.new.self in
    let h = c.loop-units.invariant in
    let walks : Walks g.B.LawfulBody.body c.in-Some.units old new = rw c.in-Some.is at c.in_ok-units.ensures.walks in
    let count : new.kernel.units ≡ old.kernel.units + c.in-Some.units.made = rw c.in-Some.is at c.in_ok-units.ensures.units in
    let within : new.kernel.units ≤ c.args.walk.now.limit = omega (arith, c.in_ok-units.ensures.within, c.in_ok-units.ensures.limit, h.limit) in
    more_written g.B.LawfulBody.body c.args.ports.now (g.K.Sink.tells c.args.out.now) c.args.walk.now _ _ old new c.in-Some.units h.written walks h.opened count within
    c.from_residual-in_err-write_last.result
    (failed_as _ _ _ _ _ c.in_err-write_last.ensures.writes c.from_residual-in_err-write_last.ensures.1)
