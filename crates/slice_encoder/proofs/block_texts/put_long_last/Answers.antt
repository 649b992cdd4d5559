use Rattle.std.proofs.Common.{◌≡◌, ◌∙◌, ℕ, ℤ, Bool, true, List, ◌-◌, ◌++◌, length, take, replicate, ap, subst, arith}
use Rattle.std.proofs.lemmas.List.{length-take}
use Rattle.bit_codes.specs.Codes.{signed_code_of}
use Rattle.bit_codes.proofs.CodeOf.{length-digits_below}
use Rattle.bounded_blocks.specs.Writing.{filled}
use Rattle.slice_encoder.specs.BitQueues.{IsSent}
use Rattle.slice_encoder.specs.CodeTexts.{text_bits}
use Rattle.slice_encoder.proofs.BlockTexts.{told, room_behind, sent_join}
use Rattle.slice_encoder.proofs.Filled.{filled_two}
use Rattle.slice_encoder.proofs.block_texts.put_long_last.Goals as goal

pub put_front-queue-requires-2-clause-room : goal.put_front-queue-requires-2-clause-room
put_front-queue-requires-2-clause-room c =
    let a = c.args in
    let t = c.split_text-text.result in
    let one = c.put_front-queue in
    room_behind a.room.now a.queue one.new.room one.result (take a.left (text_bits t.front)) a.left c.saturating_sub-left.result c.requires.room one.ensures
    (omega (arith, length-take a.left (text_bits t.front), length-digits_below t.front.length t.front.number, c.saturating_sub-left.ensures, c.from.ensures))

pub put_ones-requires : goal.put_ones-requires
put_ones-requires c =
    let a = c.args in
    let t = c.split_text-text.result in
    let left = c.saturating_sub-left.result in
    let one = c.put_front-queue in
    let two = c.put_front-queue-2 in
    let between =
    room_behind a.room.now a.queue one.new.room one.result (take a.left (text_bits t.front)) a.left left c.requires.room one.ensures
    (omega (arith, length-take a.left (text_bits t.front), length-digits_below t.front.length t.front.number, c.saturating_sub-left.ensures, c.from.ensures))
    in
    room_behind one.new.room one.result two.new.room two.result (take left (text_bits t.back)) left c.saturating_sub.result between two.ensures
    (omega (arith, length-take left (text_bits t.back), length-digits_below t.back.length t.back.number, c.saturating_sub.ensures, c.from-2.ensures))

pub returns : goal.returns
returns c =
    let a = c.args in
    let t = c.split_text-text.result in
    let n = a.left in
    let left = c.saturating_sub-left.result in
    let x = text_bits t.front in
    let y = text_bits t.back in
    let one = c.put_front-queue in
    let two = c.put_front-queue-2 in
    let three = c.put_ones in
    let left_is : left ≡ n - length x = omega (arith, c.saturating_sub-left.ensures, c.from.ensures, length-digits_below t.front.length t.front.number) in
    let rest_is : c.saturating_sub.result ≡ n - length x - length y = omega (arith, left_is, c.saturating_sub.ensures, c.from-2.ensures, length-digits_below t.back.length t.back.number) in
    subst (λ (s : List Bool). IsSent a.room.now a.queue three.new.room three.result s)
    (ap (λ (k : ℕ). (take n x ++ take k y) ++ replicate c.saturating_sub.result true) left_is
    ∙ ap (λ (k : ℕ). (take n x ++ take (n - length x) y) ++ replicate k true) rest_is
    ∙ filled_two n x y _ c.split_text-text.ensures.code.text
    ∙ ap (λ (z : ℤ). filled n (signed_code_of z)) (told a.v c.requires.small))
    (sent_join a.room.now a.queue two.new.room two.result three.new.room three.result (take n x ++ take left y) (replicate c.saturating_sub.result true)
    (sent_join a.room.now a.queue one.new.room one.result two.new.room two.result (take n x) (take left y) one.ensures two.ensures) three.ensures)
