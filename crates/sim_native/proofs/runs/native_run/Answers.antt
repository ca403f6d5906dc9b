use Rattle.std.proofs.Common.{◌≡◌, sym, subst}
use Rattle.std.specs.Prelude.{IfOk}
use Rattle.sim_models.specs.Models.{scenario_of}
use Rattle.sim_outside.specs.Writes.{Writes}
use Rattle.sim_script_model.specs.Scenarios.{summary, trace}
use Rattle.sim_trace.specs.Texts.{trace_text}
use Rattle.sim_types.specs.Setups.{HavePorts}
use Rattle.sim_writing.specs.RunFaults.{is_write}
use Rattle.sim_native.proofs.runs.native_run.Goals as goal

pub run_bank-requires : goal.run_bank-requires
run_bank-requires g c = record { ports = subst (λ m. HavePorts (scenario_of m).setup c.args.journal.now) c.in-Bank.is c.requires.ports }

pub returns-in-Bank-clause-end : goal.returns-in-Bank-clause-end
returns-in-Bank-clause-end g c =
    subst (λ m. IfOk c.run_bank.result (λ end. end ≡ (summary (scenario_of m) c.args.seed c.args.journal.now c.args.limit).end)) (sym c.in-Bank.is)
    c.run_bank.ensures.end

pub returns-in-Bank-clause-writes : goal.returns-in-Bank-clause-writes
returns-in-Bank-clause-writes g c =
    subst (λ m. Writes is_write (g.K.Sink.tells c.args.out.now) (g.K.Sink.tells c.run_bank.new.out) c.run_bank.result
    (trace_text (scenario_of m).port_names (trace (scenario_of m) c.args.seed c.args.journal.now c.args.limit))) (sym c.in-Bank.is) c.run_bank.ensures.writes

pub run_shop-requires : goal.run_shop-requires
run_shop-requires g c = record { ports = subst (λ m. HavePorts (scenario_of m).setup c.args.journal.now) c.in-Shop.is c.requires.ports }

pub returns-in-Shop-clause-end : goal.returns-in-Shop-clause-end
returns-in-Shop-clause-end g c =
    subst (λ m. IfOk c.run_shop.result (λ end. end ≡ (summary (scenario_of m) c.args.seed c.args.journal.now c.args.limit).end)) (sym c.in-Shop.is)
    c.run_shop.ensures.end

pub returns-in-Shop-clause-writes : goal.returns-in-Shop-clause-writes
returns-in-Shop-clause-writes g c =
    subst (λ m. Writes is_write (g.K.Sink.tells c.args.out.now) (g.K.Sink.tells c.run_shop.new.out) c.run_shop.result
    (trace_text (scenario_of m).port_names (trace (scenario_of m) c.args.seed c.args.journal.now c.args.limit))) (sym c.in-Shop.is) c.run_shop.ensures.writes

pub run_wash-requires : goal.run_wash-requires
run_wash-requires g c = record { ports = subst (λ m. HavePorts (scenario_of m).setup c.args.journal.now) c.in-Wash.is c.requires.ports }

pub returns-in-Wash-clause-end : goal.returns-in-Wash-clause-end
returns-in-Wash-clause-end g c =
    subst (λ m. IfOk c.run_wash.result (λ end. end ≡ (summary (scenario_of m) c.args.seed c.args.journal.now c.args.limit).end)) (sym c.in-Wash.is)
    c.run_wash.ensures.end

pub returns-in-Wash-clause-writes : goal.returns-in-Wash-clause-writes
returns-in-Wash-clause-writes g c =
    subst (λ m. Writes is_write (g.K.Sink.tells c.args.out.now) (g.K.Sink.tells c.run_wash.new.out) c.run_wash.result
    (trace_text (scenario_of m).port_names (trace (scenario_of m) c.args.seed c.args.journal.now c.args.limit))) (sym c.in-Wash.is) c.run_wash.ensures.writes
