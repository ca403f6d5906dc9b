use Rattle.std.proofs.Common.{◌≡◌, ◌≢◌, length, sym, ◌∙◌, rules, vec_len}
use Rattle.std.specs.Int.{bit_at}
use Rattle.std.proofs.lemmas.Nat.Bits.{shr_and_one}
use Rattle.sim_script_model.specs.Needs.{last_variable}
use Rattle.sim_script.proofs.Places.{marked_holds_none, unmarked_holds}
use Rattle.sim_script.proofs.script.Script.held.Goals as goal

pub returns-then-self-at-eq1 : goal.returns-then-self-at-eq1
returns-then-self-at-eq1 c =
    let s = c.self.inside in
    let long : length s.variables.items ≡ vec_len s.variables = search rules in
    let set = sym (shr_and_one s.numbers c.args.at) ∙ c.if-self-at-eq1.true in
    let last = last_variable s.scenario.value in
    rw (← c.self.view_is) (marked_holds_none last s.classes.value s.variables.items _ s.numbers c.args.at long c.self.invariant.3 set)

pub returns-else-self-at-eq1 : goal.returns-else-self-at-eq1
returns-else-self-at-eq1 c =
    let s = c.self.inside in
    let long : length s.variables.items ≡ vec_len s.variables = search rules in
    let other : bit_at s.numbers c.args.at ≢ 1 = λ one. c.if-self-at-eq1.false (shr_and_one s.numbers c.args.at ∙ one) in
    let last = last_variable s.scenario.value in
    rw (c.event_in.ensures, ← c.self.view_is) (unmarked_holds last s.classes.value s.variables.items _ s.numbers c.args.at long c.self.invariant.3 other)
