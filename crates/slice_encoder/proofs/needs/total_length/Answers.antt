use Rattle.std.proofs.Common.{rules, ◌≤◌, ◌*◌, ◌^◌, arith}
use Rattle.bounded_blocks.proofs.CodeLengths.{room_left}
use Rattle.slice_encoder.proofs.needs.total_length.Goals as goal

pub overflow_add-bits : goal.overflow_add-bits
overflow_add-bits c =
    let l = c.loop-value in
    let room : l.bits ≤ 75 * 2 ^ 32 = room_left c.args.values.now l.value-index l.bits c.requires.small (omega (arith, c.loop-value-test.true, c.requires.few)) l.invariant.bits in
    search (rules, room)

pub returns-clause-few : goal.returns-clause-few
returns-clause-few c =
    let l = c.loop-value in
    omega (arith, room_left c.args.values.now l.value-index l.bits c.requires.small (omega (arith, c.loop-value.auto.value-index-end, c.requires.few)) l.invariant.bits)
