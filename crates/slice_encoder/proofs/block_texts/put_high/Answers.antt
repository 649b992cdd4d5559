use Rattle.std.proofs.Common.{◌≡◌, ℕ, ◌+◌, ◌-◌, ◌*◌, ◌/◌, List, Bool, length, take, ap, subst, arith}
use Rattle.std.proofs.lemmas.List.{take_all}
use Rattle.bounded_blocks.specs.Writing.{codes_of}
use Rattle.slice_encoder.specs.BitQueues.{IsSent}
use Rattle.slice_encoder.proofs.BlockTexts.{room_next, sent_next}
use Rattle.slice_encoder.proofs.block_texts.put_high.Goals as goal

pub put_apart-requires-clause-room : goal.put_apart-requires-clause-room
put_apart-requires-clause-room c =
    let a = c.args in
    let vs = a.values.now in
    let k : ℕ = length vs / 4 * 4 in
    let one = c.put_fours-queue in
    room_next vs k a.room.now a.queue one.new.room one.result one.ensures (length vs - k) c.requires.room

pub returns : goal.returns
returns c =
    let a = c.args in
    let vs = a.values.now in
    let k : ℕ = length vs / 4 * 4 in
    let one = c.put_fours-queue in
    let two = c.put_apart in
    let all : take (k + (length vs - k)) vs ≡ vs = take_all (k + (length vs - k)) vs (omega arith) in
    subst (λ (t : List Bool). IsSent a.room.now a.queue two.new.room two.result t) (ap codes_of all)
    (sent_next vs k a.room.now a.queue one.new.room one.result one.ensures (length vs - k) two.new.room two.result two.ensures)
