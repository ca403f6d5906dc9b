use Rattle.std.proofs.Common.{◌<◌, ◌+◌, ◌*◌, ◌^◌, arith}
use Rattle.sim_words.proofs.Digits.{room_for_ten}
use Rattle.sim_words.proofs.number.number.Goals as goal

pub overflow_mul-value : goal.overflow_mul-value
overflow_mul-value c =
    let room : c.loop-byte.value * 10 + 9 < 2 ^ 64 = room_for_ten c.loop-byte.value c.loop-byte.byte-index _ _ c.loop-byte.invariant.small c.loop-byte-test.true c.if-word-most.false c.requires in
    grind (arith, room)

pub overflow_add-value : goal.overflow_add-value
overflow_add-value c =
    let room : c.loop-byte.value * 10 + 9 < 2 ^ 64 = room_for_ten c.loop-byte.value c.loop-byte.byte-index _ _ c.loop-byte.invariant.small c.loop-byte-test.true c.if-word-most.false c.requires in
    grind (arith, room)
