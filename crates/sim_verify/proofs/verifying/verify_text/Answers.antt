use Rattle.std.proofs.Common.{[], subst}
use Rattle.sim_language_law.proofs.Scenarios.PostsOfScenarios.{posts_of_scenario}
use Rattle.sim_outside.specs.Writes.{RoseIf}
use Rattle.sim_writing.specs.declared.fault.RunFault.{RunFault}
use Rattle.sim_writing.specs.RunFaults.{is_write}
use Rattle.sim_engine.specs.RunOfScenario.{printed_run}
use Rattle.sim_verify.specs.Checkers.{taken_then}
use Rattle.sim_verify.proofs.Taken.{all_taken, prefix_taken, says}
use Rattle.sim_verify.proofs.verifying.verify_text.Goals as goal

pub verdict-requires : goal.verdict-requires
verdict-requires g c =
    record { names = rw c.port_names.ensures.names (posts_of_scenario c.args.scenario.now c.port_names.ensures.well_formed).names }

pub verdict-requires-in-Err-Write : goal.verdict-requires-in-Err-Write
verdict-requires-in-Err-Write g c =
    record { names = rw c.port_names-in-Err-Write.ensures.names (posts_of_scenario c.args.scenario.now c.port_names-in-Err-Write.ensures.well_formed).names }

pub returns-in-Ok : goal.returns-in-Ok
returns-in-Ok g c =
    let s = c.args.scenario.now in
    let printed = printed_run s c.args.seed c.args.journal.now c.args.limit in
    let taken = all_taken c.new-checker.result c.run.new.out c.args.text.now c.new-checker.ensures printed c.in-Ok.ensures.writes.whole in
    says s c.args.seed c.args.journal.now c.args.limit c.port_names.result.now (taken_then c.run.new.out []) c.args.text.now g.T.Text.bytes c.verdict.result
    c.port_names.ensures.names taken c.requires.text (c.verdict.ensures.said [])

pub returns-in-Err-Write : goal.returns-in-Err-Write
returns-in-Err-Write g c =
    let s = c.args.scenario.now in
    let printed = printed_run s c.args.seed c.args.journal.now c.args.limit in
    let h = c.in-Err-Write.ensures.writes in
    let rose =
    subst (λ (f : RunFault). RoseIf (is_write f) c.new-checker.result.faults c.run.new.out.faults) c.in-Err-Write.field-0-is h.cause in
    let rest = prefix_taken c.new-checker.result c.run.new.out c.args.text.now c.new-checker.ensures printed h.prefix rose
    c.verdict-in-Err-Write.ensures.no_fault in
    says s c.args.seed c.args.journal.now c.args.limit c.port_names-in-Err-Write.result.now (taken_then c.run.new.out rest.rest) c.args.text.now g.T.Text.bytes
    c.verdict-in-Err-Write.result
    c.port_names-in-Err-Write.ensures.names rest.taken c.requires.text (c.verdict-in-Err-Write.ensures.said rest.rest)
