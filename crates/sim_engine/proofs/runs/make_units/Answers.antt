use Rattle.std.proofs.Common.{rules, to_z, of_z, w64, ◌≡◌, ◌≤◌, ◌<◌, ◌+◌, ◌-◌, length, drop, refl, sym, subst, ap, ◌∙◌, arith}
use Rattle.std.specs.Prelude.{All}
use Rattle.std.proofs.lemmas.Bool.Decides.{nat_tests}
use Rattle.std.proofs.lemmas.List.Elements.{All-head, All-tail}
use Rattle.sim_types.specs.declared.setup.Arrival.{Arrival}
use Rattle.sim_outside.proofs.Written.{told_err, none_to_write, as_well, as_failed, both_written, cut_behind}
use Rattle.sim_machine_law.specs.Courses.{course_after}
use Rattle.sim_writing.specs.RunFaults.{is_write}
use Rattle.sim_trace.specs.Texts.{trace_text}
use Rattle.sim_script_model.specs.Scenarios.{summary}
use Rattle.sim_script_law.specs.ScenarioRuns.{run_of}
use Rattle.sim_engine.specs.RunOfScenario.{units_of}
use Rattle.sim_types.specs.Setups.{HavePorts}
use Rattle.sim_engine.specs.Rounds.{StandsInRun, text_by}
use Rattle.sim_engine.specs.Sessions.{IsAt, report_of}
use Rattle.sim_machine.specs.Units.{arrive}
use Rattle.sim_steps_model.specs.PartsOf.{plan_of}
use Rattle.sim_script_law.specs.ScriptMembers.{script_body}
use Rattle.sim_kernel.proofs.NextUnits.{rest_is}
use Rattle.sim_engine.proofs.Rounds.{turn_is_next, arrival_is_next, after_turn, after_arrival, after_refusal}
use Rattle.sim_engine.proofs.RunEnds.{stays_whole, summary_is, units_are}
use Rattle.sim_engine.proofs.RunTexts.{text_before, text_front, turn_text, arrived_text}
use Rattle.sim_engine.proofs.runs.make_units.Goals as goal

pub loop-session-init : goal.loop-session-init
loop-session-init g c =
    let s = c.args.scenario.now in
    let old = c.args.session.now in
    record {
      stands = c.requires.stands;
      ports = c.requires.ports;
      limit = refl;
      within = omega (arith, c.requires.units);
      settled = c.requires.settled;
      written = none_to_write is_write _ _ _ (ap (text_by s old.parts.seed c.args.journal.now) c.requires.units ∙ text_before s old.parts.seed c.args.journal.now);
      unflushed = refl;
    }

pub turn-requires-clause-code : goal.turn-requires-clause-code
turn-requires-clause-code g c = sym c.loop-session.invariant.stands.code

pub returns-in_err-_state-in-Turn-clause-writes : goal.returns-in_err-_state-in-Turn-clause-writes
returns-in_err-_state-in-Turn-clause-writes g c =
    let s = c.args.scenario.now in
    let seed = c.args.session.now.parts.seed in
    let journal = c.args.journal.now in
    let left = c.loop-session.left.now in
    let old = c.loop-session.session in
    let new = c.turn.new.self in
    let h = c.loop-session.invariant in
    let made = c.turn.ensures in
    let comes = sym c.next_of.ensures ∙ c.in-Turn.is in
    let m = course_after (run_of s seed journal) old.units in
    let text = turn_text s seed journal left old new h.stands made.goes_on (new.units - old.units) (omega (arith, made.never_fewer)) comes (made.busy m.state h.stands.at) in
    let within : new.units ≤ c.args.session.now.limit = omega (arith, made.within, h.limit) in
    told_err is_write _ _ _ c.from_residual.result _ c.from_residual.ensures.1
    (λ why is. as_failed is_write is_write _ _ _ why _ _ _ (cut_behind is_write is_write {V = Unit {0}} _ _ _ _ _ _ _ _ h.written (c.in_err-_state-in-Turn.ensures.writes m.state h.stands.at) text)
    (text_front s seed journal new.units c.args.session.now.limit within) (sym (ap is_write is)))

pub returns-in_err-_state-in-Turn-clause-limit : goal.returns-in_err-_state-in-Turn-clause-limit
returns-in_err-_state-in-Turn-clause-limit g c = c.turn.ensures.goes_on.limit ∙ c.loop-session.invariant.limit

pub returns-in_err-_state-in-Turn-clause-unflushed : goal.returns-in_err-_state-in-Turn-clause-unflushed
returns-in_err-_state-in-Turn-clause-unflushed g c = c.turn.ensures.unflushed ∙ c.loop-session.invariant.unflushed

pub loop-session-smaller-in-Turn : goal.loop-session-smaller-in-Turn
loop-session-smaller-in-Turn g c =
    let comes = sym c.next_of.ensures ∙ c.in-Turn.is in
    let was = turn_is_next c.loop-session.session c.loop-session.left.now comes in
    rw (was, c.turn.ensures.none_refused) (omega (arith, c.in_ok-_state-in-Turn.ensures.more, c.turn.ensures.within, c.turn.ensures.goes_on.limit))

pub loop-session-preserved-in-Turn : goal.loop-session-preserved-in-Turn
loop-session-preserved-in-Turn g c =
    let s = c.args.scenario.now in
    let seed = c.args.session.now.parts.seed in
    let journal = c.args.journal.now in
    let left = c.loop-session.left.now in
    let old = c.loop-session.session in
    let new = c.turn.new.self in
    let h = c.loop-session.invariant in
    let made = c.in_ok-_state-in-Turn.ensures in
    let comes = sym c.next_of.ensures ∙ c.in-Turn.is in
    let m = course_after (run_of s seed journal) old.units in
    let k = new.units - old.units in
    let units : new.units ≡ old.units + k = omega (arith, made.never_fewer) in
    let busy = made.busy m.state h.stands.at in
    let text = turn_text s seed journal left old new h.stands made.goes_on k units comes busy in
    record {
      stands = after_turn s seed journal left old new h.stands made.goes_on k units comes made.none_refused busy (made.steps m.state h.stands.at);
      ports = h.ports;
      limit = made.goes_on.limit ∙ h.limit;
      within = omega (arith, made.within, made.goes_on.limit);
      settled = made.settled;
      written = both_written is_write is_write _ _ _ _ _ _ _ _ _ h.written (made.writes m.state h.stands.at) text;
      unflushed = made.unflushed ∙ h.unflushed;
    }

pub arrive-requires-clause-code : goal.arrive-requires-clause-code
arrive-requires-clause-code g c = sym c.loop-session.invariant.stands.code

pub arrive-requires-clause-port : goal.arrive-requires-clause-port
arrive-requires-clause-port g c =
    let s = c.args.scenario.now in
    let left = c.loop-session.left.now in
    let h = c.loop-session.invariant in
    let comes = sym c.next_of.ensures ∙ c.in-Arrival.is in
    let first = (arrival_is_next c.loop-session.session left c.in-Arrival.arrival comes).1 in
    let below : Arrival → Type 0 = λ a. a.port < length s.setup.ports in
    subst (λ x. c.in-Arrival.arrival.port < length x.ports) (sym h.stands.setup)
    (All-head below c.in-Arrival.arrival (drop 1 left) (subst (All below) first h.ports))

pub returns-in_err-arrive-in-Arrival-clause-writes : goal.returns-in_err-arrive-in-Arrival-clause-writes
returns-in_err-arrive-in-Arrival-clause-writes g c =
    let s = c.args.scenario.now in
    let seed = c.args.session.now.parts.seed in
    let journal = c.args.journal.now in
    let left = c.loop-session.left.now in
    let old = c.loop-session.session in
    let new = c.arrive.new.self in
    let h = c.loop-session.invariant in
    let made = c.arrive.ensures in
    let comes = sym c.next_of.ensures ∙ c.in-Arrival.is in
    let a = c.in-Arrival.arrival in
    let same : to_z w64 (of_z w64 a.value) ≡ a.value = search rules in
    let text = arrived_text s seed journal left old new h.stands made.goes_on a _ same made.never_fewer made.at_most_one comes in
    let within : new.units ≤ c.args.session.now.limit = omega (arith, made.within, h.limit) in
    told_err is_write _ _ _ c.from_residual-in_err-arrive-in-Arrival.result _ c.from_residual-in_err-arrive-in-Arrival.ensures.1
    (λ why is. as_failed is_write is_write _ _ _ why _ _ _ (cut_behind is_write is_write {V = Unit {0}} _ _ _ _ _ _ _ _ h.written (c.in_err-arrive-in-Arrival.ensures.writes (course_after (run_of s seed journal) old.units).state h.stands.at) text)
    (text_front s seed journal new.units c.args.session.now.limit within) (sym (ap is_write is)))

pub returns-in_err-arrive-in-Arrival-clause-limit : goal.returns-in_err-arrive-in-Arrival-clause-limit
returns-in_err-arrive-in-Arrival-clause-limit g c = c.arrive.ensures.goes_on.limit ∙ c.loop-session.invariant.limit

pub returns-in_err-arrive-in-Arrival-clause-unflushed : goal.returns-in_err-arrive-in-Arrival-clause-unflushed
returns-in_err-arrive-in-Arrival-clause-unflushed g c = c.arrive.ensures.unflushed ∙ c.loop-session.invariant.unflushed

pub loop-session-smaller-then-branch : goal.loop-session-smaller-then-branch
loop-session-smaller-then-branch g c =
    let old = c.loop-session.session in
    let made = c.in_ok-arrive-in-Arrival.ensures in
    let comes = sym c.next_of.ensures ∙ c.in-Arrival.is in
    let was = (arrival_is_next old c.loop-session.left.now c.in-Arrival.arrival comes).0 in
    let below : old.units < old.limit = grind (arith, nat_tests, made.answer, c.if-branch.true) in
    rw (was, made.none_refused below) (omega (arith, made.units below, made.goes_on.limit, below))

pub loop-session-preserved-then-branch : goal.loop-session-preserved-then-branch
loop-session-preserved-then-branch g c =
    let s = c.args.scenario.now in
    let seed = c.args.session.now.parts.seed in
    let journal = c.args.journal.now in
    let left = c.loop-session.left.now in
    let a = c.in-Arrival.arrival in
    let old = c.loop-session.session in
    let new = c.arrive.new.self in
    let h = c.loop-session.invariant in
    let made = c.in_ok-arrive-in-Arrival.ensures in
    let comes = sym c.next_of.ensures ∙ c.in-Arrival.is in
    let first = (arrival_is_next old left a comes).1 in
    let m = course_after (run_of s seed journal) old.units in
    let below : old.units < old.limit = grind (arith, nat_tests, made.answer, c.if-branch.true) in
    let more : old.units < new.units = omega (arith, made.units below) in
    let has : Arrival → Type 0 = λ x. x.port < length s.setup.ports in
    let same : to_z w64 (of_z w64 a.value) ≡ a.value = search rules in
    let text = arrived_text s seed journal left old new h.stands made.goes_on a _ same made.never_fewer made.at_most_one comes in
    record {
      stands =
          subst (λ ls. StandsInRun s seed journal ls new) (sym (rest_is left))
          (after_arrival s seed journal left old new h.stands made.goes_on a comes (made.units below) (made.none_refused below)
          (subst (λ v. IsAt new (arrive (plan_of script_body old.parts) a.port v m.state)) same (made.arrives m.state h.stands.at more)));
      ports = subst (HavePorts s.setup) (sym (rest_is left)) (All-tail has a (drop 1 left) (subst (All has) first h.ports));
      limit = made.goes_on.limit ∙ h.limit;
      within = omega (arith, made.within, made.goes_on.limit);
      settled = made.settled m.state h.stands.at;
      written = both_written is_write is_write _ _ _ _ _ _ _ _ _ h.written (made.writes m.state h.stands.at) text;
      unflushed = made.unflushed ∙ h.unflushed;
    }

pub loop-session-smaller : goal.loop-session-smaller
loop-session-smaller g c =
    let old = c.loop-session.session in
    let made = c.in_ok-arrive-in-Arrival.ensures in
    let comes = sym c.next_of.ensures ∙ c.in-Arrival.is in
    let was = (arrival_is_next old c.loop-session.left.now c.in-Arrival.arrival comes).0 in
    let spent : old.units ≡ old.limit = grind (arith, nat_tests, made.answer, c.if-branch.false, c.loop-session.invariant.within) in
    rw (was, made.refused spent) (omega arith)

pub loop-session-preserved : goal.loop-session-preserved
loop-session-preserved g c =
    let s = c.args.scenario.now in
    let seed = c.args.session.now.parts.seed in
    let journal = c.args.journal.now in
    let left = c.loop-session.left.now in
    let a = c.in-Arrival.arrival in
    let old = c.loop-session.session in
    let new = c.arrive.new.self in
    let h = c.loop-session.invariant in
    let made = c.in_ok-arrive-in-Arrival.ensures in
    let comes = sym c.next_of.ensures ∙ c.in-Arrival.is in
    let m = course_after (run_of s seed journal) old.units in
    let spent : old.units ≡ old.limit = grind (arith, nat_tests, made.answer, c.if-branch.false, h.within) in
    let same : to_z w64 (of_z w64 a.value) ≡ a.value = search rules in
    let text = arrived_text s seed journal left old new h.stands made.goes_on a _ same made.never_fewer made.at_most_one comes in
    record {
      stands = after_refusal s seed journal left old new h.stands made.goes_on a comes spent (made.refused spent);
      ports = h.ports;
      limit = made.goes_on.limit ∙ h.limit;
      within = omega (arith, made.within, made.goes_on.limit);
      settled = made.settled m.state h.stands.at;
      written = both_written is_write is_write _ _ _ _ _ _ _ _ _ h.written (made.writes m.state h.stands.at) text;
      unflushed = made.unflushed ∙ h.unflushed;
    }

pub returns-in-End-clause-summary : goal.returns-in-End-clause-summary
returns-in-End-clause-summary g c =
    let h = c.loop-session.invariant in
    let none = sym c.next_of.ensures ∙ c.in-End.is in
    subst (λ n. (report_of c.loop-session.session).summary ≡ summary c.args.scenario.now c.args.session.now.parts.seed c.args.journal.now n) h.limit
    (summary_is c.args.scenario.now c.args.session.now.parts.seed c.args.journal.now c.loop-session.left.now c.loop-session.session h.stands h.within h.settled none)

pub returns-in-End-clause-units : goal.returns-in-End-clause-units
returns-in-End-clause-units g c =
    let h = c.loop-session.invariant in
    let none = sym c.next_of.ensures ∙ c.in-End.is in
    subst (λ n. c.loop-session.session.units ≡ units_of c.args.scenario.now c.args.session.now.parts.seed c.args.journal.now n) h.limit
    (units_are c.args.scenario.now c.args.session.now.parts.seed c.args.journal.now c.loop-session.left.now c.loop-session.session h.stands h.within h.settled none)

pub returns-in-End-clause-writes : goal.returns-in-End-clause-writes
returns-in-End-clause-writes g c =
    let h = c.loop-session.invariant in
    let none = sym c.next_of.ensures ∙ c.in-End.is in
    let whole = stays_whole c.args.scenario.now c.args.session.now.parts.seed c.args.journal.now c.loop-session.left.now c.loop-session.session h.stands h.within h.settled none in
    let text = ap (λ m. trace_text c.args.scenario.now.port_names m.state.lines) (sym whole) ∙ ap (text_by c.args.scenario.now c.args.session.now.parts.seed c.args.journal.now) h.limit in
    as_well is_write is_write _ _ _ _ _ _ h.written text

pub returns-in-End-clause-limit : goal.returns-in-End-clause-limit
returns-in-End-clause-limit g c = c.loop-session.invariant.limit

pub returns-in-End-clause-unflushed : goal.returns-in-End-clause-unflushed
returns-in-End-clause-unflushed g c = c.loop-session.invariant.unflushed

pub slice_bounds-left-count : goal.slice_bounds-left-count
slice_bounds-left-count g c =
    let first = (arrival_is_next c.loop-session.session c.loop-session.left.now c.in-Arrival.arrival (sym c.next_of.ensures ∙ c.in-Arrival.is)).1 in
    let some : 0 < length c.loop-session.left.now = rw first (omega arith) in
    omega (arith, some)

pub slice_bounds-left-start : goal.slice_bounds-left-start
slice_bounds-left-start g c =
    let first = (arrival_is_next c.loop-session.session c.loop-session.left.now c.in-Arrival.arrival (sym c.next_of.ensures ∙ c.in-Arrival.is)).1 in
    let some : 0 < length c.loop-session.left.now = rw first (omega arith) in
    omega (arith, some)
