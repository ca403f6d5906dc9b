use Rattle.std.proofs.Common.{rules, sym, ◌∙◌, w64, FitsSigned, eq-eqb}
use Rattle.std.proofs.lemmas.Int.{to_z-of_z}
use Rattle.sim_machine_law.proofs.KeptParts.KeptProcessesParts.{is_process-no}
use Rattle.sim_steps_law.proofs.Polls.Interruptions.{another_ended, another_itself}
use Rattle.sim_steps_law.proofs.Ends.DroppedProcesses.{another_done}
use Rattle.sim_steps.proofs.parts.Parts.drop_process.Goals as goal

pub returns-then-not-is_alive-clause-becomes : goal.returns-then-not-is_alive-clause-becomes
returns-then-not-is_alive-clause-becomes g c =
    let ended = sym c.is_alive.ensures ∙ c.if-not-is_alive.true in
    another_ended c.args.process c.args.other _ _ c.tell.new.self (rw (← c.self.view_is) ended) c.tell.ensures

pub returns-then-other-process-clause-becomes : goal.returns-then-other-process-clause-becomes
returns-then-other-process-clause-becomes g c =
    let lives = sym c.is_alive.ensures ∙ c.if-not-is_alive.false in
    another_itself c.args.process c.args.other _ _ c.tell-then-other-process.new.self (rw (← c.self.view_is) lives) (eq-eqb c.args.other.0 c.args.process.0 c.if-other-process.true) c.tell-then-other-process.ensures

pub returns-else-other-process-clause-becomes : goal.returns-else-other-process-clause-becomes
returns-else-other-process-clause-becomes g c =
    let lives = sym c.is_alive.ensures ∙ c.if-not-is_alive.false in
    let value : FitsSigned w64 c.args.value = search rules in
    another_done c.args.process c.args.other _ _ c.drop_other.new.self (rw (← c.self.view_is) lives) (is_process-no c.args.other c.args.process c.if-other-process.false) (rw (to_z-of_z w64 c.args.value value) at c.drop_other.ensures.becomes)
