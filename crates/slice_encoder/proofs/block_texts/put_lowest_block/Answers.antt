use Rattle.std.proofs.Common.{◌≡◌, ◌∙◌, ℕ, ℤ, Bool, List, [], ◌+◌, ◌-◌, ◌++◌, length, take, get_or, ap, subst, arith, pos}
use Rattle.std.proofs.lemmas.List.Elements.{All-get_or}
use Rattle.bit_codes.specs.Codes.{signed_code_of}
use Rattle.bounded_blocks.specs.Parts.{IsSmall}
use Rattle.bounded_blocks.specs.Writing.{codes_of, filled}
use Rattle.slice_encoder.specs.BitQueues.{IsSent}
use Rattle.slice_encoder.proofs.BlockTexts.{told, room_for, room_behind, sent_join}
use Rattle.slice_encoder.proofs.Filled.{filled_ones, last_of_lowest}
use Rattle.slice_encoder.proofs.block_texts.put_lowest_block.Goals as goal

pub returns-then-count-eq0 : goal.returns-then-count-eq0
returns-then-count-eq0 c =
    let a = c.args in
    let vs = a.values.now in
    let count = c.count_to_last-count.result in
    subst (λ (t : List Bool). IsSent a.room.now a.queue c.put_ones.new.room c.put_ones.result t) (filled_ones vs count a.bits c.if-count-eq0.true c.count_to_last-count.ensures.need) c.put_ones.ensures

pub put_lowest-queue-requires-clause-room : goal.put_lowest-queue-requires-clause-room
put_lowest-queue-requires-clause-room c =
    let a = c.args in
    let vs = a.values.now in
    let found = c.count_to_last-count in
    let n : ℕ = found.result - 1 in
    let parts = last_of_lowest vs found.result a.bits c.if-count-eq0.false found.ensures.most found.ensures.last c.requires.small found.ensures.need c.requires.need in
    room_for (length a.room.now) a.queue a.bits _ c.requires.room (omega (arith, parts.most))

pub bits_put-requires-2-clause-whole : goal.bits_put-requires-2-clause-whole
bits_put-requires-2-clause-whole c =
    let a = c.args in
    let vs = a.values.now in
    let found = c.count_to_last-count in
    let n : ℕ = found.result - 1 in
    let parts = last_of_lowest vs found.result a.bits c.if-count-eq0.false found.ensures.most found.ensures.last c.requires.small found.ensures.need c.requires.need in
    omega (arith, parts.most, c.put_lowest-queue.ensures.place, c.requires.most, c.requires.room.waits)

pub overflow_sub-end : goal.overflow_sub-end
overflow_sub-end c =
    let a = c.args in
    let vs = a.values.now in
    let found = c.count_to_last-count in
    let n : ℕ = found.result - 1 in
    let parts = last_of_lowest vs found.result a.bits c.if-count-eq0.false found.ensures.most found.ensures.last c.requires.small found.ensures.need c.requires.need in
    omega (arith, parts.most, c.put_lowest-queue.ensures.place, c.bits_put.ensures, c.bits_put-2.ensures)

pub put_last-requires-clause-room : goal.put_last-requires-clause-room
put_last-requires-clause-room c =
    let a = c.args in
    let vs = a.values.now in
    let found = c.count_to_last-count in
    let n : ℕ = found.result - 1 in
    let one = c.put_lowest-queue in
    let parts = last_of_lowest vs found.result a.bits c.if-count-eq0.false found.ensures.most found.ensures.last c.requires.small found.ensures.need c.requires.need in
    room_behind a.room.now a.queue one.new.room one.result (codes_of (take n vs)) a.bits _ c.requires.room one.ensures (omega (arith, parts.most, one.ensures.place, c.bits_put.ensures, c.bits_put-2.ensures))

pub returns : goal.returns
returns c =
    let a = c.args in
    let vs = a.values.now in
    let found = c.count_to_last-count in
    let n : ℕ = found.result - 1 in
    let one = c.put_lowest-queue in
    let two = c.put_last in
    let v = get_or vs n (pos 0) in
    let small = All-get_or IsSmall vs n (pos 0) (omega (arith, found.ensures.most, c.if-count-eq0.false)) c.requires.small in
    let parts = last_of_lowest vs found.result a.bits c.if-count-eq0.false found.ensures.most found.ensures.last c.requires.small found.ensures.need c.requires.need in
    let front = codes_of (take n vs) in
    let none : List Bool = [] in
    let left : ℕ = c.bits_put.result + a.bits - c.bits_put-2.result in
    let left_is : left ≡ a.bits - (length none + length front) = omega (arith, parts.most, one.ensures.place, c.bits_put.ensures, c.bits_put-2.ensures) in
    subst (λ (t : List Bool). IsSent a.room.now a.queue two.new.room two.result t)
    (ap (λ (z : ℤ). front ++ filled left (signed_code_of z)) (told v small) ∙ ap (λ (k : ℕ). front ++ filled k (signed_code_of v)) left_is ∙ parts.text)
    (sent_join a.room.now a.queue one.new.room one.result two.new.room two.result front _ one.ensures two.ensures)
