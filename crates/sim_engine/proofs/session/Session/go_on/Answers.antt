-- Units are made in a row, and the line of the last is written if it has one.
use Rattle.std.proofs.Common.{◌+◌, [], refl, sym, ap, ◌∙◌, append-nil, true}
use Rattle.sim_outside.proofs.Written.{told_err, none_to_write, as_well, as_failed}
use Rattle.sim_trace.specs.Texts.{line_text}
use Rattle.sim_writing.specs.RunFaults.{is_write}
use Rattle.sim_engine.proofs.QuietSteps.{busy_until, quiet_at, quiet_text, line_busy, line_at, line_text_at}
use Rattle.sim_engine.proofs.StepUnits.{still_after}
use Rattle.sim_engine.proofs.session.Session.go_on.Goals as goal

pub returns-in_err-units-clause-steps : goal.returns-in_err-units-clause-steps
returns-in_err-units-clause-steps g c t at =
    still_after _ c.args.self.now c.self.view_is _ c.in_err-units.ensures.err.parts refl refl refl t at

pub returns-in-Quiet-clause-busy : goal.returns-in-Quiet-clause-busy
returns-in-Quiet-clause-busy g c =
    busy_until _ c.args.self.now c.self.view_is c.in_ok-units.units.made c.in_ok-units.units.last _ c.units.new.self.parts c.in_ok-units.ensures.steps
    (c.self.inside.units + c.in_ok-units.units.made) refl

pub returns-in-Quiet-clause-steps : goal.returns-in-Quiet-clause-steps
returns-in-Quiet-clause-steps g c =
    quiet_at _ c.args.self.now c.self.view_is c.in_ok-units.units.made c.in_ok-units.units.last _ c.units.new.self.parts c.in_ok-units.ensures.steps
    c.in-Quiet.is

pub returns-in-Quiet-clause-writes : goal.returns-in-Quiet-clause-writes
returns-in-Quiet-clause-writes g c t at =
    none_to_write is_write _ _ _
    (quiet_text _ c.args.self.now c.self.view_is c.in_ok-units.units.made c.in_ok-units.units.last _ c.units.new.self.parts c.in_ok-units.ensures.steps
    c.in-Quiet.is c.args.scenario.now.port_names t at)

pub returns-in_ok-tell-in-Line-clause-busy : goal.returns-in_ok-tell-in-Line-clause-busy
returns-in_ok-tell-in-Line-clause-busy g c =
    line_busy _ c.args.self.now c.self.view_is c.in_ok-units.units.made c.in_ok-units.units.last _ c.units.new.self.parts c.in_ok-units.ensures.steps
    c.in-Line.line c.in-Line.is c.tell.new.self c.tell.ensures.logs

pub returns-in_ok-tell-in-Line-clause-steps : goal.returns-in_ok-tell-in-Line-clause-steps
returns-in_ok-tell-in-Line-clause-steps g c =
    line_at _ c.args.self.now c.self.view_is c.in_ok-units.units.made c.in_ok-units.units.last _ c.units.new.self.parts c.in_ok-units.ensures.steps
    c.in-Line.line c.in-Line.is c.tell.new.self c.tell.ensures.logs

pub returns-in_ok-tell-in-Line-clause-writes : goal.returns-in_ok-tell-in-Line-clause-writes
returns-in_ok-tell-in-Line-clause-writes g c t at =
    let text =
    line_text_at _ c.args.self.now c.self.view_is c.in_ok-units.units.made c.in_ok-units.units.last _ c.units.new.self.parts c.in_ok-units.ensures.steps
    c.in-Line.line c.in-Line.is c.tell.new.self c.tell.ensures.logs c.args.scenario.now.port_names t at in
    as_well (λ _. true) is_write _ _ _ _ _ _ c.in_ok-tell-in-Line.ensures.writes (sym text)

pub returns-in_err-tell-in-Line-clause-busy : goal.returns-in_err-tell-in-Line-clause-busy
returns-in_err-tell-in-Line-clause-busy g c =
    line_busy _ c.args.self.now c.self.view_is c.in_ok-units.units.made c.in_ok-units.units.last _ c.units.new.self.parts c.in_ok-units.ensures.steps
    c.in-Line.line c.in-Line.is c.tell.new.self c.tell.ensures.logs

pub returns-in_err-tell-in-Line-clause-steps : goal.returns-in_err-tell-in-Line-clause-steps
returns-in_err-tell-in-Line-clause-steps g c =
    line_at _ c.args.self.now c.self.view_is c.in_ok-units.units.made c.in_ok-units.units.last _ c.units.new.self.parts c.in_ok-units.ensures.steps
    c.in-Line.line c.in-Line.is c.tell.new.self c.tell.ensures.logs

pub returns-in_err-tell-in-Line-clause-writes : goal.returns-in_err-tell-in-Line-clause-writes
returns-in_err-tell-in-Line-clause-writes g c t at =
    let text =
    line_text_at _ c.args.self.now c.self.view_is c.in_ok-units.units.made c.in_ok-units.units.last _ c.units.new.self.parts c.in_ok-units.ensures.steps
    c.in-Line.line c.in-Line.is c.tell.new.self c.tell.ensures.logs c.args.scenario.now.port_names t at in
    told_err is_write _ _ _ c.from_residual-in_err-tell-in-Line.result _ c.from_residual-in_err-tell-in-Line.ensures.1
    (λ why is. as_failed (λ _. true) is_write _ _ _ why _ [] _ c.in_err-tell-in-Line.ensures.writes
    (text ∙ sym (append-nil (line_text c.args.scenario.now.port_names c.in-Line.line))) (sym (ap is_write is)))
