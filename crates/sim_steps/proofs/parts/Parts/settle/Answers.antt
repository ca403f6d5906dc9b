use Rattle.std.proofs.Common.{◌≡◌, [], true, false, sym, refl, ap, ◌∙◌}
use Rattle.sim_machine.specs.State.{Calling, Over}
use Rattle.sim_machine.specs.Standing.{left_of}
use Rattle.sim_types.specs.declared.line.End.TheVariants as end
use Rattle.sim_steps_law.proofs.Callbacks.Calls.{settled_held, settled_becomes}
use Rattle.sim_steps.proofs.parts.Parts.settle.Goals as goal

pub unhold_settled-requires-clause-held : goal.unhold_settled-requires-clause-held
unhold_settled-requires-clause-held g c =
    settled_held c.args.self.now c.args.event _ c.requires.kept c.requires.done refl c.requires.owing

pub returns-then-unhold_settled-clause-becomes : goal.returns-then-unhold_settled-clause-becomes
returns-then-unhold_settled-clause-becomes g c =
    let settled = c.unhold_settled.ensures in
    let still : c.unhold_settled.new.self.control ≡ Calling c.args.event [] = rw settled.rest c.requires.done in
    settled_becomes c.args.self.now c.args.event true c.requires.kept c.requires.done (sym c.if-unhold_settled.true ∙ settled.unhandled) c.requires.owing
    c.unhold_settled.new.self c.end_run.new.self settled.zero settled.events settled.rest
    (c.end_run.ensures ∙ ap (λ k. record c.unhold_settled.new.self { control = Over end.Crash c.args.event (left_of k) }) still)

pub returns-else-unhold_settled-clause-becomes : goal.returns-else-unhold_settled-clause-becomes
returns-else-unhold_settled-clause-becomes g c =
    let settled = c.unhold_settled.ensures in
    settled_becomes c.args.self.now c.args.event false c.requires.kept c.requires.done (sym c.if-unhold_settled.false ∙ settled.unhandled) c.requires.owing
    c.unhold_settled.new.self c.go_idle.new.self settled.zero settled.events settled.rest c.go_idle.ensures
