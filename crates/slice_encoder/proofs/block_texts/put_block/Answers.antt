use Rattle.std.proofs.Common.{◌≡◌, ◌∙◌, ℕ, ℤ, Bool, List, ◌+◌, ◌-◌, ◌++◌, length, take, get_or, sym, ap, subst, arith, pos}
use Rattle.std.proofs.lemmas.List.Elements.{All-get_or}
use Rattle.bit_codes.specs.Codes.{signed_code_of}
use Rattle.bounded_blocks.specs.Writing.{codes_of, need, filled}
use Rattle.slice_encoder.specs.BitQueues.{IsSent}
use Rattle.slice_encoder.specs.BlockValues.{IsIn32}
use Rattle.slice_encoder.proofs.BlockTexts.{widened, room_for, room_behind, sent_join}
use Rattle.slice_encoder.proofs.CodeTables.{places_front}
use Rattle.slice_encoder.proofs.Filled.{filled_lowest, last_of_high}
use Rattle.slice_encoder.proofs.block_texts.put_block.Goals as goal

pub returns-then-count-eq0 : goal.returns-then-count-eq0
returns-then-count-eq0 c =
    let a = c.args in
    let lowest = a.values.lowest.now in
    let high = a.values.high.now in
    let none = ap (λ (k : ℕ). need (lowest ++ take k high)) c.if-count-eq0.true in
    subst (λ (t : List Bool). IsSent a.room.now a.queue c.put_lowest_block.new.room c.put_lowest_block.result t) (filled_lowest lowest high a.bits (sym none ∙ c.high_to_last-count.ensures.need lowest)).1 c.put_lowest_block.ensures

pub put_lowest-queue-requires-clause-room : goal.put_lowest-queue-requires-clause-room
put_lowest-queue-requires-clause-room c =
    let a = c.args in
    let lowest = a.values.lowest.now in
    let high = a.values.high.now in
    let found = c.high_to_last-count in
    let parts = last_of_high lowest high found.result a.bits c.if-count-eq0.false found.ensures.most found.ensures.last c.requires.values.high (found.ensures.need lowest) c.requires.need in
    room_for (length a.room.now) a.queue a.bits _ c.requires.room (omega (arith, parts.most))

pub put_high-queue-requires-clause-places : goal.put_high-queue-requires-clause-places
put_high-queue-requires-clause-places c = places_front c.args.values.high.now c.args.values.places.now (c.high_to_last-count.result - 1) c.requires.values.places

pub put_high-queue-requires-clause-room : goal.put_high-queue-requires-clause-room
put_high-queue-requires-clause-room c =
    let a = c.args in
    let lowest = a.values.lowest.now in
    let high = a.values.high.now in
    let found = c.high_to_last-count in
    let one = c.put_lowest-queue in
    let parts = last_of_high lowest high found.result a.bits c.if-count-eq0.false found.ensures.most found.ensures.last c.requires.values.high (found.ensures.need lowest) c.requires.need in
    room_behind a.room.now a.queue one.new.room one.result (codes_of lowest) a.bits _ c.requires.room one.ensures parts.most

pub bits_put-requires-2-clause-whole : goal.bits_put-requires-2-clause-whole
bits_put-requires-2-clause-whole c =
    let a = c.args in
    let lowest = a.values.lowest.now in
    let high = a.values.high.now in
    let found = c.high_to_last-count in
    let parts = last_of_high lowest high found.result a.bits c.if-count-eq0.false found.ensures.most found.ensures.last c.requires.values.high (found.ensures.need lowest) c.requires.need in
    omega (arith, parts.most, c.put_lowest-queue.ensures.place, c.put_high-queue.ensures.place, c.requires.most, c.requires.room.waits)

pub overflow_sub-end : goal.overflow_sub-end
overflow_sub-end c =
    let a = c.args in
    let lowest = a.values.lowest.now in
    let high = a.values.high.now in
    let found = c.high_to_last-count in
    let parts = last_of_high lowest high found.result a.bits c.if-count-eq0.false found.ensures.most found.ensures.last c.requires.values.high (found.ensures.need lowest) c.requires.need in
    omega (arith, parts.most, c.put_lowest-queue.ensures.place, c.put_high-queue.ensures.place, c.bits_put.ensures, c.bits_put-2.ensures)

pub put_last-requires-clause-room : goal.put_last-requires-clause-room
put_last-requires-clause-room c =
    let a = c.args in
    let lowest = a.values.lowest.now in
    let high = a.values.high.now in
    let found = c.high_to_last-count in
    let n : ℕ = found.result - 1 in
    let one = c.put_lowest-queue in
    let two = c.put_high-queue in
    let parts = last_of_high lowest high found.result a.bits c.if-count-eq0.false found.ensures.most found.ensures.last c.requires.values.high (found.ensures.need lowest) c.requires.need in
    let between = room_behind a.room.now a.queue one.new.room one.result (codes_of lowest) a.bits (a.bits - length (codes_of lowest)) c.requires.room one.ensures (omega (arith, parts.most)) in
    room_behind one.new.room one.result two.new.room two.result (codes_of (take n high)) (a.bits - length (codes_of lowest)) _ between two.ensures
    (omega (arith, parts.most, one.ensures.place, two.ensures.place, c.bits_put.ensures, c.bits_put-2.ensures))

pub returns : goal.returns
returns c =
    let a = c.args in
    let lowest = a.values.lowest.now in
    let high = a.values.high.now in
    let found = c.high_to_last-count in
    let n : ℕ = found.result - 1 in
    let one = c.put_lowest-queue in
    let two = c.put_high-queue in
    let three = c.put_last in
    let v = get_or high n (pos 0) in
    let narrow = All-get_or IsIn32 high n (pos 0) (omega (arith, found.ensures.most, c.if-count-eq0.false)) c.requires.values.high in
    let parts = last_of_high lowest high found.result a.bits c.if-count-eq0.false found.ensures.most found.ensures.last c.requires.values.high (found.ensures.need lowest) c.requires.need in
    let x = codes_of lowest in
    let y = codes_of (take n high) in
    let left : ℕ = c.bits_put.result + a.bits - c.bits_put-2.result in
    let left_is : left ≡ a.bits - (length x + length y) = omega (arith, parts.most, one.ensures.place, two.ensures.place, c.bits_put.ensures, c.bits_put-2.ensures) in
    subst (λ (t : List Bool). IsSent a.room.now a.queue three.new.room three.result t)
    (ap (λ (z : ℤ). x ++ (y ++ filled left (signed_code_of z))) (widened v c.from-last.result narrow c.from-last.ensures) ∙ ap (λ (k : ℕ). x ++ (y ++ filled k (signed_code_of v))) left_is ∙ parts.text)
    (sent_join a.room.now a.queue one.new.room one.result three.new.room three.result x _ one.ensures (sent_join one.new.room one.result two.new.room two.result three.new.room three.result y _ two.ensures three.ensures))
