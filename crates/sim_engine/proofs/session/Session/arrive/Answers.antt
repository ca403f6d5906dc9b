use Rattle.std.proofs.Common.{◌≡◌, ◌+◌, [], ◌∷◌, length, refl, ◌+ℤ◌, nat_lt, if◌then◌else◌, sym, subst, ap, ◌∙◌, append-nil, true, w64, arith}
use Rattle.std.proofs.lemmas.Bool.Decides.{nat_tests}
use Rattle.std.proofs.lemmas.Int.{to_z-of_z}
use Rattle.sim_types.specs.declared.line.Line.TheVariants as line
use Rattle.sim_machine.specs.Runs.{logged, total}
use Rattle.sim_outside.proofs.Written.{told_err, as_well, as_failed}
use Rattle.sim_kernel.specs.Arriving.{MakesArrival}
use Rattle.sim_script_law.specs.ScriptMembers.{script_body}
use Rattle.sim_trace.specs.Texts.{line_text}
use Rattle.sim_writing.specs.RunFaults.{is_write}
use Rattle.sim_engine.proofs.RoundCases.{takes_where}
use Rattle.sim_engine.proofs.SessionLaws.{arrived_idle, arrived_text, idle_settles}
use Rattle.sim_engine.specs.Sessions.{IsAt}
use Rattle.sim_engine.proofs.StepUnits.{still_at, arrives_at}
use Rattle.sim_engine.proofs.session.Session.arrive.Goals as goal

pub returns-in_err-line-clause-stays : goal.returns-in_err-line-clause-stays
returns-in_err-line-clause-stays g c t at same =
    still_at _ _ t c.in_err-line.ensures.err.parts refl refl (subst (λ x. IsAt x t) (sym c.self.view_is) at)

pub returns-clause-arrives : goal.returns-clause-arrives
returns-clause-arrives g c t at left =
    let before = c.self.inside.kernel.parts in
    let x = c.in_ok-line.line in
    let told = c.tell.ensures.logs in
    let made = ap (λ y. y.parts) told in
    let value_is = to_z-of_z w64 c.args.value c.ranges.value in
    let known = subst (λ v. MakesArrival script_body c.args.port v before x c.arrive.new.self.parts) value_is c.in_ok-line.ensures.arrives in
    let makes = subst (MakesArrival script_body c.args.port c.args.value before x) (sym made) known in
    let logs = ap (λ y. y.logs) told ∙ ap (λ y. y.logs + length (logged (x ∷ []))) c.self.view_is in
    let sum = ap (λ y. y.total) told ∙ ap (λ y. y.total +ℤ total (logged (x ∷ []))) c.self.view_is in
    arrives_at c.args.self.now c.tell.new.self before (ap (λ y. y.parts) c.self.view_is) c.args.port c.args.value x makes logs sum t at

pub returns-in_err-tell-clause-arrives : goal.returns-in_err-tell-clause-arrives
returns-in_err-tell-clause-arrives g c t at left =
    let before = c.self.inside.kernel.parts in
    let x = c.in_ok-line.line in
    let told = c.tell.ensures.logs in
    let made = ap (λ y. y.parts) told in
    let value_is = to_z-of_z w64 c.args.value c.ranges.value in
    let known = subst (λ v. MakesArrival script_body c.args.port v before x c.arrive.new.self.parts) value_is c.in_ok-line.ensures.arrives in
    let makes = subst (MakesArrival script_body c.args.port c.args.value before x) (sym made) known in
    let logs = ap (λ y. y.logs) told ∙ ap (λ y. y.logs + length (logged (x ∷ []))) c.self.view_is in
    let sum = ap (λ y. y.total) told ∙ ap (λ y. y.total +ℤ total (logged (x ∷ []))) c.self.view_is in
    arrives_at c.args.self.now c.tell.new.self before (ap (λ y. y.parts) c.self.view_is) c.args.port c.args.value x makes logs sum t at

pub returns-clause-settled : goal.returns-clause-settled
returns-clause-settled g c t at =
    let old = c.args.self.now in
    let x = c.in_ok-line.line in
    let made = ap (λ y. y.parts) c.tell.ensures.logs in
    let same = ap (λ y. y.parts) c.self.view_is in
    let value_is = to_z-of_z w64 c.args.value c.ranges.value in
    let known = subst (λ v. MakesArrival script_body c.args.port v c.self.inside.kernel.parts x c.arrive.new.self.parts) value_is c.in_ok-line.ensures.arrives in
    let makes = subst (λ p. MakesArrival script_body c.args.port c.args.value p x c.arrive.new.self.parts) same known in
    let can = (takes_where old c.requires.takes).1 in
    let idle = arrived_idle old.parts c.arrive.new.self.parts c.args.port c.args.value x t at.stands at.lawful makes can in
    idle_settles c.tell.new.self (ap (λ p. p.control) made ∙ idle)

pub returns-in_err-tell-clause-settled : goal.returns-in_err-tell-clause-settled
returns-in_err-tell-clause-settled g c t at =
    let old = c.args.self.now in
    let x = c.in_ok-line.line in
    let made = ap (λ y. y.parts) c.tell.ensures.logs in
    let same = ap (λ y. y.parts) c.self.view_is in
    let value_is = to_z-of_z w64 c.args.value c.ranges.value in
    let known = subst (λ v. MakesArrival script_body c.args.port v c.self.inside.kernel.parts x c.arrive.new.self.parts) value_is c.in_ok-line.ensures.arrives in
    let makes = subst (λ p. MakesArrival script_body c.args.port c.args.value p x c.arrive.new.self.parts) same known in
    let can = (takes_where old c.requires.takes).1 in
    let idle = arrived_idle old.parts c.arrive.new.self.parts c.args.port c.args.value x t at.stands at.lawful makes can in
    idle_settles c.tell.new.self (ap (λ p. p.control) made ∙ idle)

pub returns-clause-writes : goal.returns-clause-writes
returns-clause-writes g c t at =
    let old = c.args.self.now in
    let x = c.in_ok-line.line in
    let ports = c.args.scenario.now.port_names in
    let arrival = line_text ports (line.Arrive old.parts.processed c.args.value c.args.port) in
    let same = ap (λ y. y.parts) c.self.view_is in
    let value_is = to_z-of_z w64 c.args.value c.ranges.value in
    let known = subst (λ v. MakesArrival script_body c.args.port v c.self.inside.kernel.parts x c.arrive.new.self.parts) value_is c.in_ok-line.ensures.arrives in
    let makes = subst (λ p. MakesArrival script_body c.args.port c.args.value p x c.arrive.new.self.parts) same known in
    let text = arrived_text old.parts c.arrive.new.self.parts c.args.port c.args.value x t at.stands at.lawful makes ports in
    let units : c.tell.new.self.units ≡ c.self.inside.units + 1 = ap (λ y. y.units) c.tell.ensures.logs in
    let more : nat_lt old.units c.tell.new.self.units ≡ true = grind (arith, nat_tests, units, ap (λ y. y.units) c.self.view_is) in
    as_well (λ _. true) is_write _ _ _ _ _ _ c.in_ok-tell.ensures.writes (text ∙ sym (ap (λ b. if b then arrival else []) more))

pub returns-in_err-tell-clause-writes : goal.returns-in_err-tell-clause-writes
returns-in_err-tell-clause-writes g c t at =
    let old = c.args.self.now in
    let x = c.in_ok-line.line in
    let ports = c.args.scenario.now.port_names in
    let arrival = line_text ports (line.Arrive old.parts.processed c.args.value c.args.port) in
    let same = ap (λ y. y.parts) c.self.view_is in
    let value_is = to_z-of_z w64 c.args.value c.ranges.value in
    let known = subst (λ v. MakesArrival script_body c.args.port v c.self.inside.kernel.parts x c.arrive.new.self.parts) value_is c.in_ok-line.ensures.arrives in
    let makes = subst (λ p. MakesArrival script_body c.args.port c.args.value p x c.arrive.new.self.parts) same known in
    let text = arrived_text old.parts c.arrive.new.self.parts c.args.port c.args.value x t at.stands at.lawful makes ports in
    let units : c.tell.new.self.units ≡ c.self.inside.units + 1 = ap (λ y. y.units) c.tell.ensures.logs in
    let more : nat_lt old.units c.tell.new.self.units ≡ true = grind (arith, nat_tests, units, ap (λ y. y.units) c.self.view_is) in
    let whole = ap (λ b. if b then arrival else []) more ∙ sym text ∙ sym (append-nil (line_text ports x)) in
    told_err is_write _ _ _ c.from_residual-in_err-tell.result _ c.from_residual-in_err-tell.ensures.1
    (λ why is. as_failed (λ _. true) is_write _ _ _ why _ [] _ c.in_err-tell.ensures.writes whole (sym (ap is_write is)))
