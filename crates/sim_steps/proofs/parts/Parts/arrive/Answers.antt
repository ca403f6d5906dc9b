use Rattle.std.proofs.Common.{◌≡◌, ◌∙◌, ap, slice_index_or, FitsSigned, w64, rules}
use Rattle.std.proofs.lemmas.Int.{to_z-of_z}
use Rattle.std.proofs.lemmas.List.{get_or_default}
use Rattle.sim_steps_model.specs.PartsOf.{PartsOf}
use Rattle.sim_steps_law.proofs.Starts.Arrivals.{arrived_becomes, port_kept, zero_kept}
use Rattle.sim_steps_law.proofs.Starts.SpawnedProcesses.{next_is_none}
use Rattle.sim_steps.proofs.parts.Parts.arrive.Goals as goal

pub begin-process-requires-clause-not_alive : goal.begin-process-requires-clause-not_alive
begin-process-requires-clause-not_alive g c = next_is_none g.B.LawfulBody.body c.args.self.now c.requires.stands

pub begin-process-requires-clause-kept : goal.begin-process-requires-clause-kept
begin-process-requires-clause-kept g c =
    let body = g.B.LawfulBody.body in
    let old = c.args.self.now in
    let port = c.args.port in
    let ports = c.self.invariant.ports ∙ ap (λ (k : PartsOf _ _). k.setup.ports) c.self.view_is in
    let kind : c.index-kind.result.now ≡ slice_index_or old.setup.ports port 0 =
    c.index-kind.ensures ∙ (ap (λ xs. slice_index_or xs port c.index-kind.result.now) ports ∙ get_or_default old.setup.ports port _ 0 c.requires.port) in
    let fits : FitsSigned w64 c.args.value = search rules in
    rw (kind, to_z-of_z w64 c.args.value fits) (port_kept (body.facts c.args.code.now) old port c.args.value c.requires.fits c.requires.port (zero_kept body old c.requires.stands))

pub returns-clause-becomes : goal.returns-clause-becomes
returns-clause-becomes g c =
    let body = g.B.LawfulBody.body in
    let old = c.args.self.now in
    let port = c.args.port in
    let ports = c.self.invariant.ports ∙ ap (λ (k : PartsOf _ _). k.setup.ports) c.self.view_is in
    let kind : c.index-kind.result.now ≡ slice_index_or old.setup.ports port 0 =
    c.index-kind.ensures ∙ (ap (λ xs. slice_index_or xs port c.index-kind.result.now) ports ∙ get_or_default old.setup.ports port _ 0 c.requires.port) in
    let fits : FitsSigned w64 c.args.value = search rules in
    arrived_becomes body old c.begin-process.new.self port c.args.value (rw (kind, to_z-of_z w64 c.args.value fits) at c.begin-process.ensures.becomes)
