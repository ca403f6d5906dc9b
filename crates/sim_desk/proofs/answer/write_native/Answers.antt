use Rattle.std.proofs.Common.{◌≡◌, subst}
use Rattle.std.specs.Prelude.{IfOk}
use Rattle.sim_outside.specs.Writes.{Writes}
use Rattle.sim_writing.specs.RunFaults.{is_write}
use Rattle.sim_models.specs.Models.{scenario_of}
use Rattle.sim_desk.proofs.Models.{no_arrivals, own_end, own_text}
use Rattle.sim_desk.proofs.answer.write_native.Goals as goal

pub native_run-requires : goal.native_run-requires
native_run-requires g c = record { ports = no_arrivals (scenario_of c.args.model).setup }

pub returns-clause-end : goal.returns-clause-end
returns-clause-end g c =
    subst (λ told. IfOk c.native_run.result (λ end. end ≡ told)) (own_end c.args.model c.args.limit _ c.seed.ensures) c.native_run.ensures.end

pub returns-clause-writes : goal.returns-clause-writes
returns-clause-writes g c =
    subst (λ bytes. Writes is_write (g.K.Sink.tells c.args.out.now) (g.K.Sink.tells c.native_run.new.out) c.native_run.result bytes)
    (own_text c.args.model c.args.limit _ c.seed.ensures) c.native_run.ensures.writes
