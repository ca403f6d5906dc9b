use Rattle.std.proofs.Common.{rules, true, ◌≡◌, ◌-◌, [], refl, sym, ap, subst, ◌∙◌, arith, append-nil}
use Rattle.std.specs.Prelude.{nat_lt}
use Rattle.std.proofs.lemmas.Bool.{and_parts}
use Rattle.std.proofs.lemmas.Bool.Decides.{nat_tests}
use Rattle.sim_outside.proofs.Written.{told_err, none_to_write, as_failed, both_written, cut_behind}
use Rattle.sim_steps_model.specs.Resting.{rest_in}
use Rattle.sim_writing.specs.RunFaults.{is_write}
use Rattle.sim_engine.specs.Sessions.{IsAt, is_busy, steps_in, text_of_steps}
use Rattle.sim_engine.proofs.StepTexts.{text_none}
use Rattle.sim_engine.proofs.TurnSteps.{goes_on_both, steps_more, busy_more, text_more, left_where, can_where}
use Rattle.sim_engine.proofs.session.Session.turn.Goals as goal

pub loop-self-init : goal.loop-self-init
loop-self-init g c =
    let old = c.args.self.now in
    let none : old.units - old.units ≡ 0 = omega arith in
    record {
      code = c.requires.code;
      goes_on = record { opened = record { code = refl; setup = refl; seed = refl }; limit = refl };
      none_refused = search rules;
      can = can_where old c.requires.idle;
      left = left_where old c.requires.idle;
      never_fewer = omega arith;
      under_way = λ more. absurd (omega (arith, more));
      busy = λ t at i above below. absurd (omega (arith, below, none));
      steps = λ t at. subst (λ n. IsAt old (steps_in old.parts n t)) (sym none) at;
      written = λ t at.
          none_to_write is_write _ _ _ (ap (λ n. text_of_steps c.args.scenario.now.port_names old.parts n t) none ∙ text_none c.args.scenario.now.port_names t);
      unflushed = refl;
    }

pub loop-self-smaller : goal.loop-self-smaller
loop-self-smaller g c = search rules

pub loop-self-preserved : goal.loop-self-preserved
loop-self-preserved g c =
    let before = c.loop-self.invariant in
    let made = c.in_ok-go_on.ensures in
    let old = c.args.self.now in
    let now = c.loop-self.self in
    let later = c.go_on.new.self in
    let goes_on : c.is_under_way.result ≡ true = search rules in
    let on = and_parts (nat_lt later.units later.limit) (is_busy (rest_in later.parts)) (sym c.is_under_way.ensures ∙ goes_on) in
    let from = before.never_fewer in
    record {
      code = before.code ∙ sym made.goes_on.opened.code;
      goes_on = goes_on_both old now later before.goes_on made.goes_on;
      none_refused = made.refused ∙ before.none_refused;
      can = search rules;
      left = grind (arith, nat_tests, on.0);
      never_fewer = omega (arith, from, made.never_fewer);
      under_way = λ more. on.1;
      busy = busy_more old now later before.goes_on from made.never_fewer before.steps before.under_way before.busy made.busy;
      steps = steps_more old now later before.goes_on from made.never_fewer before.steps made.steps;
      written = λ t at. both_written is_write is_write _ _ _ _ _ _ _ _ _ (before.written t at) (made.writes _ (before.steps t at)) (text_more old now later before.goes_on from made.never_fewer before.steps _ t);
      unflushed = made.unflushed ∙ before.unflushed;
    }

pub returns-in_err-go_on-clause-busy : goal.returns-in_err-go_on-clause-busy
returns-in_err-go_on-clause-busy g c =
    let before = c.loop-self.invariant in
    let made = c.go_on.ensures in
    busy_more c.args.self.now c.loop-self.self c.go_on.new.self before.goes_on before.never_fewer made.never_fewer before.steps before.under_way before.busy made.busy

pub returns-in_err-go_on-clause-steps : goal.returns-in_err-go_on-clause-steps
returns-in_err-go_on-clause-steps g c =
    let before = c.loop-self.invariant in
    let made = c.go_on.ensures in
    steps_more c.args.self.now c.loop-self.self c.go_on.new.self before.goes_on before.never_fewer made.never_fewer before.steps made.steps

pub returns-in_err-go_on-clause-writes : goal.returns-in_err-go_on-clause-writes
returns-in_err-go_on-clause-writes g c t at =
    let before = c.loop-self.invariant in
    let made = c.in_err-go_on.ensures in
    let text = text_more c.args.self.now c.loop-self.self c.go_on.new.self before.goes_on before.never_fewer made.never_fewer before.steps c.args.scenario.now.port_names t in
    told_err is_write _ _ _ c.from_residual.result _ c.from_residual.ensures.1
    (λ why is. as_failed is_write is_write _ _ _ why _ [] _ (cut_behind is_write is_write {V = Unit {0}} _ _ _ _ _ _ _ _ (before.written t at) (made.writes _ (before.steps t at)) text) (sym (append-nil _)) (sym (ap is_write is)))

pub returns-then-not-is_under_way-clause-busy : goal.returns-then-not-is_under_way-clause-busy
returns-then-not-is_under_way-clause-busy g c =
    let before = c.loop-self.invariant in
    let made = c.in_ok-go_on.ensures in
    busy_more c.args.self.now c.loop-self.self c.go_on.new.self before.goes_on before.never_fewer made.never_fewer before.steps before.under_way before.busy made.busy

pub returns-then-not-is_under_way-clause-steps : goal.returns-then-not-is_under_way-clause-steps
returns-then-not-is_under_way-clause-steps g c =
    let before = c.loop-self.invariant in
    let made = c.in_ok-go_on.ensures in
    steps_more c.args.self.now c.loop-self.self c.go_on.new.self before.goes_on before.never_fewer made.never_fewer before.steps made.steps

pub returns-then-not-is_under_way-clause-writes : goal.returns-then-not-is_under_way-clause-writes
returns-then-not-is_under_way-clause-writes g c t at =
    let before = c.loop-self.invariant in
    let made = c.in_ok-go_on.ensures in
    both_written is_write is_write _ _ _ _ _ _ _ _ _ (before.written t at) (made.writes _ (before.steps t at))
    (text_more c.args.self.now c.loop-self.self c.go_on.new.self before.goes_on before.never_fewer made.never_fewer before.steps _ t)
