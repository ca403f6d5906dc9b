use Rattle.std.proofs.Common.{◌≡◌, ℤ, refl, sym, ap, ◌∙◌, arith, add-one, w64, to_z, of_z}
use Rattle.std.proofs.lemmas.Int.{to_z-of_z}
use Rattle.sim_types.specs.declared.op.Op.TheVariants as op
use Rattle.sim_procs.specs.QuietPolls.{told_after}
use Rattle.sim_models.specs.Shop.{shop_of}
use Rattle.sim_script.proofs.Polling.{turn_of_code, done_can_be_told}
use Rattle.sim_native.proofs.ShopPolls.{polls_on}
use Rattle.sim_native.proofs.ShopHurries.{can_be_told_on, told_after_none, told_after_some}
use Rattle.sim_native.proofs.shop.ShopBodyBody.poll.Goals as goal
use Rattle.sim_native.proofs.shop.ShopBodyBody.poll.Goals.{then-quiet-gt0, else-quiet-gt0}

pub loop-quiet-init : goal.loop-quiet-init
loop-quiet-init c =
    let t : ℤ = to_z w64 (of_z w64 c.args.now) in
    let quiet = c.hurry-quiet.result in
    let polls = c.hurry-quiet.ensures.polls c.args.code.now c.requires.can in
    let told : c.if-quiet-gt0.told ≡ told_after quiet c.args.signal = elim c.if-quiet-gt0.branch [
      | then-quiet-gt0 w ↦ w.told-is ∙ sym (told_after_some quiet c.args.signal w.if-quiet-gt0.true)
      | else-quiet-gt0 w ↦ w.told-is ∙ sym (told_after_none quiet c.args.signal w.if-quiet-gt0.false)
    ] in
    let can = can_be_told_on c.args.code.now t c.args.signal quiet c.args.self.now c.hurry-quiet.new.self polls c.requires.can in
    record { most = c.hurry-quiet.ensures.few; polls = polls; told = told; can = rw told can }

pub turn-requires : goal.turn-requires
turn-requires c = c.loop-quiet.invariant.can.told

pub returns-then-quiet-most-clause-polls : goal.returns-then-quiet-most-clause-polls
returns-then-quiet-most-clause-polls c =
    let h = c.loop-quiet.invariant in
    let t : ℤ = to_z w64 (of_z w64 c.args.now) in
    let same = to_z-of_z w64 c.args.now c.ranges.now in
    rw c.ask_for_nothing.ensures (polls_on c.args.code.now c.machines-machines.result c.machines-machines.ensures t c.args.now same
    c.args.signal c.loop-quiet.quiet c.loop-quiet.told h.told c.args.self.now c.loop-quiet.self op.Nop c.turn.new.self h.polls
    (rw c.loop-quiet-test.true at c.turn.ensures))

pub loop-quiet-preserved : goal.loop-quiet-preserved
loop-quiet-preserved c =
    let h = c.loop-quiet.invariant in
    let t : ℤ = to_z w64 (of_z w64 c.args.now) in
    let turns = rw c.loop-quiet-test.true at c.turn.ensures in
    let polls = polls_on c.args.code.now c.machines-machines.result c.machines-machines.ensures t t refl
    c.args.signal c.loop-quiet.quiet c.loop-quiet.told h.told c.args.self.now c.loop-quiet.self op.Nop c.turn.new.self h.polls turns in
    let code = ap (λ s. s.code) (sym c.machines-machines.ensures) in
    let by_code = turn_of_code c.args.code.now c.loop-quiet.self c.loop-quiet.told (shop_of c.machines-machines.result).code code in
    let turned = by_code t op.Nop c.turn.new.self turns in
    rw add-one (record {
      most = omega (arith, h.most, c.if-quiet-most.false);
      polls = rw add-one at polls;
      told = refl;
      can = done_can_be_told c.args.code.now c.loop-quiet.self t c.loop-quiet.told c.turn.new.self h.can turned;
    })

pub returns-clause-polls : goal.returns-clause-polls
returns-clause-polls c =
    let h = c.loop-quiet.invariant in
    let t : ℤ = to_z w64 (of_z w64 c.args.now) in
    polls_on c.args.code.now c.machines-machines.result c.machines-machines.ensures t c.args.now (to_z-of_z w64 c.args.now c.ranges.now)
    c.args.signal c.loop-quiet.quiet c.loop-quiet.told h.told c.args.self.now c.loop-quiet.self c.turn.new.asked c.turn.new.self h.polls
    (rw c.loop-quiet-test.false at c.turn.ensures)
