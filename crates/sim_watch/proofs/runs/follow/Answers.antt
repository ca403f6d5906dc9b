use Rattle.std.proofs.Common.{◌≡◌, ◌+◌, sym, subst, ◌∙◌, arith}
use Rattle.sim_steps_model.specs.Touching.{touched_places}
use Rattle.sim_kernel.specs.Walks.{IsOver, Walks}
use Rattle.sim_script_law.specs.ScriptMembers.{script_body}
use Rattle.sim_watch.specs.Following.{AreUpTo, CanBeMeasured, HasMoved, run_from}
use Rattle.sim_watch.proofs.Steps.{can_be_measured, follows_then, some_made, up_to_then}
use Rattle.sim_watch.proofs.runs.follow.Goals as goal

pub change_touched-requires-clause-can : goal.change_touched-requires-clause-can
change_touched-requires-clause-can c =
    let s = c.args.scenario.now in
    let r = run_from s c.args.walk.now in
    let walks : Walks script_body c.in-Some.units c.loop-units.walk c.units.new.self = rw c.in-Some.is at c.in_ok-units.ensures.walks in
    subst CanBeMeasured (sym c.kernel.ensures)
    (can_be_measured s r c.requires.opening.run c.loop-units.walk c.units.new.self c.loop-units.watched c.loop-units.invariant.follows c.in-Some.units walks c.in_ok-units.ensures.opened)

pub change_touched-requires-clause-up_to : goal.change_touched-requires-clause-up_to
change_touched-requires-clause-up_to c =
    let s = c.args.scenario.now in
    let r = run_from s c.args.walk.now in
    let walks : Walks script_body c.in-Some.units c.loop-units.walk c.units.new.self = rw c.in-Some.is at c.in_ok-units.ensures.walks in
    subst (λ k. AreUpTo k.parts.shared.happen.time c.loop-units.watched) (sym c.kernel.ensures)
    (up_to_then s r c.requires.opening.run c.loop-units.walk c.units.new.self c.loop-units.watched c.loop-units.invariant.follows c.in-Some.units walks c.in_ok-units.ensures.opened)

pub loop-units-preserved : goal.loop-units-preserved
loop-units-preserved c =
    let s = c.args.scenario.now in
    let r = run_from s c.args.walk.now in
    let old = c.loop-units.walk in
    let new = c.units.new.self in
    let rows = c.loop-units.watched in
    let then = c.change_touched.new.watched in
    let h = c.loop-units.invariant in
    let opened = c.in_ok-units.ensures.opened in
    let walks : Walks script_body c.in-Some.units old new = rw c.in-Some.is at c.in_ok-units.ensures.walks in
    let count : new.kernel.units ≡ old.kernel.units + c.in-Some.units.made = rw c.in-Some.is at c.in_ok-units.ensures.units in
    record {
      follows =
          follows_then s r c.requires.opening.run old new rows h.follows c.in-Some.units walks opened count then
          (λ q j m moved. c.change_touched.ensures.watched q j m (subst (λ k. HasMoved q j m (touched_places c.in-Some.units.touched k.listed) k) (sym c.kernel.ensures) moved))
          (subst (λ k. AreUpTo k.parts.shared.happen.time then) c.kernel.ensures c.change_touched.ensures.up_to);
      opened = record { code = opened.code ∙ h.opened.code; setup = opened.setup ∙ h.opened.setup; seed = opened.seed ∙ h.opened.seed };
      limit = c.in_ok-units.ensures.limit ∙ h.limit;
      within = c.in_ok-units.ensures.within;
    }

pub loop-units-smaller : goal.loop-units-smaller
loop-units-smaller c =
    let s = c.args.scenario.now in
    let r = run_from s c.args.walk.now in
    let old = c.loop-units.walk in
    let new = c.units.new.self in
    let walks : Walks script_body c.in-Some.units old new = rw c.in-Some.is at c.in_ok-units.ensures.walks in
    let count : new.kernel.units ≡ old.kernel.units + c.in-Some.units.made = rw c.in-Some.is at c.in_ok-units.ensures.units in
    let some = some_made s r c.requires.opening.run old new c.loop-units.watched c.loop-units.invariant.follows c.in-Some.units walks c.in_ok-units.ensures.opened in
    omega (arith, some, count, c.in_ok-units.ensures.within, c.in_ok-units.ensures.limit)

pub returns-clause-over : goal.returns-clause-over
returns-clause-over c =
    let same : c.units.new.self ≡ c.loop-units.walk = rw c.in_default.is at c.in_ok-units.ensures.same in
    let over : IsOver script_body c.loop-units.walk = rw c.in_default.is at c.in_ok-units.ensures.none in
    subst (IsOver script_body) (sym same) over
