use Rattle.std.proofs.Common.{◌≡◌, ap, arith, w64}
use Rattle.std.proofs.lemmas.Int.{to_z-of_z}
use Rattle.sim_native.specs.ShopStages.{script_of}
use Rattle.sim_native.proofs.ShopHurries.{stages_are_polls, val_after_some}
use Rattle.sim_native.proofs.shop.ShopBody.hurry.Goals as goal

pub returns-then-passed-gt0-clause-polls : goal.returns-then-passed-gt0-clause-polls
returns-then-passed-gt0-clause-polls c = λ x can.
    let s = c.self.inside in
    let told = rw (← c.self.view_is) at can in
    let count = c.hurry-passed.result in
    let passes = rw (to_z-of_z w64 c.args.now c.ranges.now) at c.hurry-passed.ensures.passes s.machines.value s.me in
    let hurried = stages_are_polls x s.machines.value s.me s.val.value c.args.now c.args.told count s.stage c.hurry-passed.new.stage passes told in
    let kept = val_after_some count c.args.told s.val.value c.if-passed-gt0.true in
    rw (← c.self.view_is, c.keep_value.ensures, ← kept) hurried.polls

pub returns-else-passed-gt0-clause-polls : goal.returns-else-passed-gt0-clause-polls
returns-else-passed-gt0-clause-polls c = λ x can.
    let s = c.self.inside in
    let none : c.hurry-passed.result ≡ 0 = omega (arith, c.if-passed-gt0.false) in
    let passes = rw none at c.hurry-passed.ensures.passes s.machines.value s.me in
    rw (← c.self.view_is, none) (ap (λ stage. script_of s.machines.value s.me s.val.value stage) passes)
