use Rattle.std.proofs.Common.{◌∙◌, ℤ, Bool, List, length, ap, subst, arith}
use Rattle.bit_codes.specs.Codes.{signed_code_of}
use Rattle.bit_codes.proofs.CodeOf.{length-digits_below}
use Rattle.slice_encoder.specs.BitQueues.{IsSent}
use Rattle.slice_encoder.specs.CodeTexts.{text_bits}
use Rattle.slice_encoder.proofs.BlockTexts.{room_for, room_behind, sent_join, told}
use Rattle.slice_encoder.proofs.CodeTables.{split_length}
use Rattle.slice_encoder.proofs.block_texts.put_long.Goals as goal

pub put_bits-queue-requires-clause-room : goal.put_bits-queue-requires-clause-room
put_bits-queue-requires-clause-room c = room_for _ c.args.queue _ c.split_text-text.result.front.length c.requires.room (omega (arith, split_length c.split_text-text.result _ c.split_text-text.ensures.code, ap (λ (z : ℤ). length (signed_code_of z)) (told c.args.v c.requires.small)))

pub put_bits-requires-clause-room : goal.put_bits-requires-clause-room
put_bits-requires-clause-room c =
    let t = c.split_text-text.result in
    let one = c.put_bits-queue in
    room_behind c.args.room.now c.args.queue one.new.room one.result (text_bits t.front) _ t.back.length c.requires.room one.ensures
    (omega (arith, split_length t _ c.split_text-text.ensures.code, ap (λ (z : ℤ). length (signed_code_of z)) (told c.args.v c.requires.small), length-digits_below t.front.length t.front.number))

pub returns : goal.returns
returns c =
    let a = c.args in
    let t = c.split_text-text.result in
    let one = c.put_bits-queue in
    let two = c.put_bits in
    subst (λ (x : List Bool). IsSent a.room.now a.queue two.new.room two.result x) (c.split_text-text.ensures.code.text ∙ ap signed_code_of (told a.v c.requires.small))
    (sent_join a.room.now a.queue one.new.room one.result two.new.room two.result (text_bits t.front) (text_bits t.back) one.ensures two.ensures)
